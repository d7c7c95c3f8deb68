-- A run that is admitted may run.
use mathlib.Core.Path.{◌≡◌}
use mathlib.Core.Bool.{true}
use mathlib.Core.List.{List, [], ◌∷◌}
use Prim.Native.Nat.{ℕ, zero, suc, ◌≤◌}
use native.Mathlib.Omega.{arith}
use lib.ListN.{length, take}
use Rattle.semantics.specs.Editions.{Edition}
use Rattle.semantics.specs.Plant.{Plant, selectors, all_declared}
use Rattle.semantics.specs.Starts.{Start, is_ok, modes_fit, fits_start}
use Rattle.semantics.specs.Calls.{room_for_records}
use Rattle.semantics.proofs.Facts.{and_right}
use Rattle.execution.specs.Ready.{Fits}
use Rattle.execution.specs.Runs.{MayRun}

-- a start that 20 lets pass, with a value for each variable and a mode for each selector
pub fits-start : (p : Plant) (st : Start) → length st.values ≡ length p.variables → length st.modes ≡ length (selectors p) → fits_start p st ≡ true → Fits p st.values st.modes
unfolding fits_start
fits-start p st e f h = record { values = e; modes = f; exist = and_right (is_ok (all_declared p.variables st.values)) (modes_fit (selectors p) st.modes) h }

-- and with room for the records
pub may-run : (ed : Edition) (p : Plant) (st : Start) (events d : List ℕ) → length st.values ≡ length p.variables → length st.modes ≡ length (selectors p) → fits_start p st ≡ true → room_for_records ed p events d ≡ true
    → MayRun ed p st.values st.modes events d
may-run ed p st events d e f h r = record { fits = fits-start p st e f h; room = r }

-- a front as long as it is said to be
pub take-full : {A : Type 0} (n : ℕ) (l : List A) → length (take n l) ≡ n → n ≤ length l
take-full zero l h = omega arith
take-full (suc n) [] h = absurd (omega arith)
take-full (suc n) (x ∷ l) h = let i : length (take n l) ≡ n = omega arith in let k = take-full n l i in omega arith
