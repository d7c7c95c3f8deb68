-- 8 as the code tests it, against an array of marks.
use mathlib.Core.Path.{◌≡◌}
use mathlib.Core.Bool.{Bool, true, false, not, ◌||◌, ◌&&◌}
use mathlib.Core.List.{List, [], flat_map}
use Prim.Native.Nat.{ℕ, ◌<◌}
use lib.ListN.{length, get_or}
use Rattle.semantics.specs.Bytes.{every}
use Rattle.semantics.specs.Sections.{Rate, Mode}
use Rattle.semantics.specs.Plant.{among, once_after, rates_drive, mode_drives, mode_once}

-- none of them is marked
unfoldable pub unmarked : List Bool → List ℕ → Bool
unmarked a l = every (λ v. not (get_or a v false)) l

-- b, of 32 entries, is a with these marked
pub record Marked (a : List Bool) (l : List ℕ) (b : List Bool) : Type 0 where
  pub sized : length b ≡ 32
  pub at : (v : ℕ) → v < 32 → get_or b v false ≡ (get_or a v false || among v l)

-- the answer is the test; where it is true, the variables are marked
pub record Answered (test : Bool) (a : List Bool) (l : List ℕ) (r : Bool) (b : List Bool) : Type 0 where
  pub is : r ≡ test
  pub marks : r ≡ true → Marked a l b

abbrev pub rates_test : List Bool → List Rate → Bool
rates_test before rs = once_after [] (rates_drive rs) && unmarked before (rates_drive rs)

abbrev pub modes_test : List Bool → List Mode → Bool
modes_test before ms = every mode_once ms && unmarked before (flat_map mode_drives ms)
