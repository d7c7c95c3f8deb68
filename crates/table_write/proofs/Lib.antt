-- the action section
pub mod ActionLoop
-- all sections
pub mod TableBytes
