-- The acting nodes, and the kinds of what they do.
use Rattle.std.specs.Prelude.{◌≡◌, true, List, ℕ, ◌<◌, get_or}
use Rattle.std.proofs.Math.Option.{some}
use Rattle.semantics.specs.Editions.{Edition}
use Rattle.semantics.specs.Run.{Action}
use Rattle.semantics.specs.TableFile.{action_kind, action_of_kind}
use Rattle.nodeset.specs.Sets.{mem, Words}
use Rattle.program.specs.Lent.{Cut}

-- a set of nodes below the edition's limit
pub record Few (ed : Edition) (ws : List ℕ) : Type 0 where
  pub words : Words ws
  pub below : (n : ℕ) → mem ws n ≡ true → n < ed.nodes

-- each of them has its operand
pub record CutEach (s starts ends ws : List ℕ) : Type 0 where
  pub cut : (n : ℕ) → mem ws n ≡ true → Cut s starts ends n

-- each acting node has an action of the kind that the array has for it
pub record KindsOf (action : ℕ → Action) (kinds acting : List ℕ) : Type 0 where
  pub each : (n : ℕ) → mem acting n ≡ true → (t : List ℕ) × (action_of_kind (action_kind (get_or kinds n 0)) t ≡ some (action n))
