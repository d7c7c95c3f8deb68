-- The selectors of a plant, by their mode counts.
use Rattle.std.specs.Prelude.{◌≡◌, List, ℕ, length, get_or}
use Rattle.std.proofs.Math.Option.{some}
use Rattle.std.proofs.Math.ListN.{get_elem?}
use Rattle.semantics.specs.Sections.{Selector}

-- counts has the number of modes of each of these n selectors
pub record ModesAt (counts : List ℕ) (n : ℕ) (cs : List Selector) : Type 0 where
  pub counted : length cs ≡ n
  pub entries : (j : ℕ) {c : Selector} → get_elem? cs j ≡ some c → get_or counts j 0 ≡ length c.modes
