-- The first i locations were read up to p and fit, and their places are noted (`Located`).
use Rattle.edition.specs.Editions.{edition_of}
use Rattle.table_read.proofs.LocationLoop.{Located}
use Rattle.table_read.proofs.LikeKinds.{actions_like}
use Rattle.table_read.proofs.locations.read.Given as goal

abbrev pub invariant-loop-i : goal.invariant-loop-i
invariant-loop-i l = Located (edition_of l.ed) (actions_like l.kinds) l.n l.s l.i l.p l.places
