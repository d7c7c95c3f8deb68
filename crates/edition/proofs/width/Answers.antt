use Rattle.std.proofs.Common.{rules}
use Rattle.semantics.specs.Bytes.{width_of}
use Rattle.edition.proofs.width.Goals as goal

pub returns-in-First : goal.returns-in-First
unfolding width_of
returns-in-First c = search rules

pub returns-in-Second : goal.returns-in-Second
unfolding width_of
returns-in-Second c = search rules
