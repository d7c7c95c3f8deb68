-- The call "examining": a schedule is compiled, run by the rules and run by its table, and the two runs are compared.
pub mod Examining
