-- The equation section: conditions 6 and 7, and what a run looks up in it.
use Rattle.std.specs.Prelude.{◌≡◌, Option as Answer, Some, None, Bool, true, ◌&&◌, List, [], ◌∷◌, ◌++◌, map, ℕ, zero, suc, ◌+◌, ◌*◌, ◌<◌, ℤ, length, drop}
use Rattle.std.proofs.Math.Option.{Option, none, some}
use Rattle.semantics.specs.Bytes.{Read, Reader, broken, read}
use Rattle.semantics.specs.Refusals.{refusal_of}
use Rattle.semantics.specs.Sections.{Rate, Mode, Selector, Equation, steady, choice, variable_limit, equation_limit, mode_limit, read_mode, equations_in}
use Rattle.semantics.specs.Plant.{selectors_of, no_such_mode, rates_of, rate_among, judge_named}
use Rattle.semantics.specs.Writing.{write_mode, write_equation}
use Rattle.codec.specs.Reading.{Reads}
use Rattle.codec.specs.Padding.{pad}
use Rattle.plant.specs.PaperNumbers.{paper_step, paper_seen}
use Rattle.plant.specs.declared.equations.Equations.{Equations}
use Rattle.plant.specs.declared.equations.Step.{Step}

-- ---- places
-- of values written one after the other, the first at p
unfoldable pub starts_from : {A : Type 0} → (A → List ℕ) → ℕ → List A → List ℕ
starts_from write p [] = []
starts_from write p (x ∷ l) = p ∷ starts_from write (p + length (write x)) l

-- of the modes of each CASE, eight entries for a CASE; the first equation stands at p, and modes stand after length (2 bytes), kind, initial mode, mode count
unfoldable pub places_of_mode : ℕ → List Equation → List ℕ
places_of_mode p [] = []
places_of_mode p (steady r ∷ es) = places_of_mode (p + length (write_equation (steady r))) es
places_of_mode p (choice c ∷ es) = pad mode_limit 0 (starts_from write_mode (p + 5) c.modes) ++ places_of_mode (p + length (write_equation (choice c))) es

-- how many modes a CASE has
unfoldable pub mode_count_of : Selector → ℕ
mode_count_of c = length c.modes

-- ---- arrays by variable
-- f of each of the n variables from v on
unfoldable pub each : {A : Type 0} → (ℕ → A) → ℕ → ℕ → List A
each f v zero = []
each f v (suc n) = f v ∷ each f (suc v) n

-- their rates
abbrev pub rates_from : List Rate → ℕ → ℕ → List ℤ
rates_from rs v n = each (rate_among rs) v n

-- those of kind 1, in an array of 32: in force where no CASE has a mode
abbrev pub rates_steady : List Equation → List ℤ
rates_steady es = rates_from (rates_of es []) 0 variable_limit

-- ---- the answer
unfoldable pub accepted_equations : List Equation → Equations
accepted_equations es = record {
  selectors = length (selectors_of es);
  modes = pad equation_limit 0 (map mode_count_of (selectors_of es));
  mode_offsets = pad (equation_limit * mode_limit) 0 (places_of_mode 1 es);
  steady = rates_steady es;
}

-- ---- places that are known
-- what r reads stands at place p of s
pub record Stands {A : Type 0} (r : Reader A) (s : List ℕ) (p : ℕ) : Type 0 where
  pub value : A
  pub rest : List ℕ
  pub got : r (drop p s) ≡ read value rest

-- ---- what a run looks up
-- the mode that stands at place q
unfoldable pub mode_at : List ℕ → ℕ → Mode
mode_at s q = elim (read_mode (drop q s)) [ broken ↦ no_such_mode | read m rest ↦ m ]

-- ---- what the code's own functions say
-- a section whose layout is right
pub record SectionStands (s : List ℕ) : Type 0 where
  pub equations : List Equation
  pub read : equations_in s ≡ some equations

-- ---- the answers of the code's own readers
-- a reader's answer as Reading has it
abbrev pub view : Answer Step → Option (ℕ × Bool)
view (Some w) = some (w.end, w.named)
view None = none

-- the answer of a test
abbrev pub Says : {A : Type 0} → (A → Bool) → A → Bool → Type 0
Says P a x = x ≡ P a

-- the same of a whole slice
unfoldable pub seen : {A : Type 0} → (A → Bool) → Option A → Answer Bool
seen P none = None
seen P (some a) = Some (P a)

-- what was read, whatever follows it
unfoldable pub read_value : {A : Type 0} → Read A → Option A
read_value broken = none
read_value (read a s) = some a

-- ---- their contracts: document 01's number is 6 where the layout is broken, 7 where a name is missing, 0 else
pub record StepSays {A : Type 0} (r : Reader A) (P : A → Bool) (s : List ℕ) (p : ℕ) (w : Answer Step) : Type 0 where
  pub reads : Reads r (Says P) s p (view w)
  pub number : paper_step w ≡ refusal_of (judge_named P (read_value (r (drop p s))))

pub record SeenSays {A : Type 0} (P : A → Bool) (o : Option A) (w : Answer Bool) : Type 0 where
  pub is : w ≡ seen P o
  pub number : paper_seen w ≡ refusal_of (judge_named P o)

-- ---- parts one after the other, each as `one` answers at its place
-- the first i of them, from place `at` on
pub data SoFar (one : ℕ → Answer Step → Type 0) (at : ℕ) : ℕ → Step → Type 0 where
  at_first : SoFar one at 0 (record { end = at; named = true })
  and_next : {i : ℕ} {w v : Step} → SoFar one at i w → one w.end (Some v) → SoFar one at (i + 1) (record { end = v.end; named = w.named && v.named })

-- n of them: all, or one is broken
pub data Several (one : ℕ → Answer Step → Type 0) (at n : ℕ) : Answer Step → Type 0 where
  all_read : {w : Step} → SoFar one at n w → Several one at n (Some w)
  one_broken : {i : ℕ} {w : Step} → SoFar one at i w → i < n → one w.end None → Several one at n None
