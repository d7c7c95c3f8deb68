-- The start that a file itself gives: "minimum, maximum, initial" of each variable, "initial mode" of each CASE.
use Rattle.std.specs.Prelude.{List, [], map, ℕ, ℤ}
use Rattle.semantics.specs.Editions.{Edition}
use Rattle.semantics.specs.Refusals.{Judged, refused, accepted}
use Rattle.semantics.specs.Sections.{Variable, Selector, Equation}
use Rattle.semantics.specs.Plant.{Plant, selectors_of, judge_plant}
use Rattle.semantics.specs.Starts.{Start}
use Rattle.semantics.specs.Writing.{start_bytes}
use Rattle.semantics.specs.Tables.{Table, judge_table}
use Rattle.schedules.specs.Files.{Schedule, judge_file}

unfoldable pub initial_values : List Variable → List ℤ
initial_values xs = map (λ (v : Variable). v.initial) xs

unfoldable pub initial_modes : List Equation → List ℕ
initial_modes es = map (λ (c : Selector). c.initial) (selectors_of es)

unfoldable pub initial_start_of : Plant → Start
initial_start_of p = record { values = initial_values p.variables; modes = initial_modes p.equations }

-- the bytes of the start of a plant that was judged; none where it is refused
unfoldable pub start_of : {A : Type 0} → (A → Plant) → Judged A → List ℕ
start_of plant (refused n) = []
start_of plant (accepted a) = start_bytes (initial_start_of (plant a))

-- of the two sections of a plant
unfoldable pub sections_start : Edition → List ℕ → List ℕ → List ℕ
sections_start ed vs es = start_of (λ p. p) (judge_plant ed vs es)

-- of a schedule file
unfoldable pub schedule_start : Edition → List ℕ → List ℕ
schedule_start ed f = start_of (λ (s : Schedule). s.plant) (judge_file ed f)

-- of a table
unfoldable pub table_start : Edition → List ℕ → List ℕ
table_start ed t = start_of (λ (t : Table). t.plant) (judge_table ed t)
