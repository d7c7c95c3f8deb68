-- The start of a plant's two sections, of a schedule file and of a table, from what was read of them.
use mathlib.Core.Path.{◌≡◌, refl, sym, ap, ap₂, subst, ◌∙◌}
use Rattle.std.specs.Prelude.{Ok}
use mathlib.Core.List.{List, [], ◌++◌, flat_map}
use Prim.Native.Nat.{ℕ, ◌+◌, ◌*◌, ◌≤◌}
use native.Mathlib.Omega.{arith}
use lib.ListN.{length, take, replicate, length-append}
use lib.Seq.{length-take-le}
use Rattle.semantics.specs.Bytes.{overwrite}
use Rattle.semantics.specs.Editions.{Edition}
use Rattle.semantics.specs.Refusals.{refused, accepted}
use Rattle.semantics.specs.Sections.{Variable}
use Rattle.semantics.specs.Plant.{Plant, judge_variables, judge_plant}
use Rattle.semantics.specs.Run.{value_bytes}
use Rattle.semantics.specs.Writing.{start_bytes}
use Rattle.semantics.specs.Tables.{Table, judge_table}
use Rattle.schedules.specs.Files.{Schedule, judge_file}
use Rattle.codec.specs.Writing.{Wrote}
use Rattle.codec.proofs.Writing.{put-more, wrote-front}
use Rattle.codec.specs.Part.{part_of}
use Rattle.paper.specs.Refusals.{answered}
use Rattle.paper.proofs.Answered.{Accepted, was-accepted}
use Rattle.semantics.proofs.Facts.{some_is}
use Rattle.semantics.proofs.PlantPassed.{variables-passed}
use Rattle.plant.specs.Variables.{column, accepted_variables}
use Rattle.plant.specs.Equations.{SectionStands}
use Rattle.plant.specs.PlantRead.{accepted_plant}
use Rattle.plant.specs.declared.sections.PlantRead.{PlantRead}
use Rattle.plant.specs.declared.variables.Variables.{Variables}
use Rattle.plant.proofs.VariableLaws.{count_of, initials-of, column-long, column-front}
use Rattle.plant.proofs.PlantLaws.{passed-all, variables-high}
use Rattle.schedule_read.specs.ScheduleFile.{ScheduleIndexed}
use Rattle.schedule_read.specs.Promised.{Promised}
use Rattle.schedule_read.specs.declared.call.ScheduleIndex.{ScheduleIndex}
use Rattle.schedule_read.proofs.Promises.{index-schedule, promised}
use Rattle.table_read.specs.TableIndex.{table_index}
use Rattle.table_read.specs.TableParts.{sections_of}
use Rattle.table_read.specs.declared.call.TableIndex.{TableIndex}
use Rattle.table_read.proofs.PartsStand.{AllStand}
use Rattle.table_read.proofs.Promises.{opened, parts-read}
use Rattle.initial_start.specs.Initial.{initial_values, initial_modes, initial_start_of, start_of, sections_start, schedule_start, table_start}
use Rattle.initial_start.specs.Held.{held}
use Rattle.initial_start.specs.declared.Start.{Start}
use Rattle.records.proofs.Records.{values_length}

-- ---- the code's answer
pub held-as : (s : List ℕ) {r : ℕ} {d : List ℕ} → r ≡ length s → d ≡ overwrite s (replicate 144 0) → ◌≡◌ {A = Start} (record { length = r; bytes = d }) (held s)
unfolding held
held-as s h k = cc

pub none-held : ◌≡◌ {A = Start} (record { length = 0; bytes = replicate 144 0 }) (held [])
unfolding held overwrite
none-held = refl

-- ---- the two sections
module _ (ed : Edition) (vs es : List ℕ) where
  pub nothing-given : {n : ℕ} → judge_plant ed vs es ≡ refused n → sections_start ed vs es ≡ []
  unfolding sections_start start_of
  nothing-given h = rw h refl

  module _ {v : Variables} (f : accepted v ≡ answered accepted_variables (judge_variables ed vs)) {q : PlantRead} (e : accepted q ≡ answered accepted_plant (judge_plant ed vs es)) where
    xs : Accepted accepted_variables (judge_variables ed vs) v
    xs = was-accepted accepted_variables (judge_variables ed vs) f

    passing : Accepted accepted_plant (judge_plant ed vs es) q
    passing = was-accepted accepted_plant (judge_plant ed vs es) e

    abbrev plant : Plant
    plant = passing.value

    pub stands : SectionStands es
    stands = record { equations = plant.equations; read = (passed-all ed vs es passing.judged).equations }

    same-variables : xs.value ≡ plant.variables
    same-variables = some_is (sym (variables-passed ed vs xs.judged).is ∙ (passed-all ed vs es passing.judged).variables)

    initials-are : v.initials ≡ column (λ (x : Variable). x.initial) plant.variables
    initials-are = initials-of xs.value xs.is ∙ ap (column (λ (x : Variable). x.initial)) same-variables

    counted : v.count ≡ length plant.variables
    counted = count_of xs.value xs.is ∙ ap length same-variables

    pub few : v.count ≤ 32
    few = omega (arith, counted, variables-high ed vs es passing.judged)

    pub long : v.count ≤ length v.initials
    long = omega (arith, few, ap length initials-are, column-long (λ (x : Variable). x.initial) plant.variables)

    pub cut-length : length (take v.count v.initials) ≡ v.count
    cut-length = length-take-le v.count v.initials long

    values-are : take v.count v.initials ≡ initial_values plant.variables
    unfolding initial_values
    values-are = ap₂ take counted initials-are ∙ column-front (λ (x : Variable). x.initial) plant.variables

    is-start : flat_map value_bytes (take v.count v.initials) ++ initial_modes stands.equations ≡ sections_start ed vs es
    unfolding sections_start start_of start_bytes initial_start_of stands
    is-start = ap (λ l. flat_map value_bytes l ++ initial_modes plant.equations) values-are ∙ ap (start_of (λ p. p)) (sym passing.judged)

    pub given : {d g h : List ℕ} {at r : ℕ}
        → (at ≡ 0 + 4 * length (take v.count v.initials)) × Wrote d 0 (flat_map value_bytes (take v.count v.initials)) g
        → ((t : SectionStands es) → (r ≡ at + length (initial_modes t.equations)) × Wrote g at (initial_modes t.equations) h)
        → d ≡ replicate 144 0
        → ◌≡◌ {A = Start} (record { length = r; bytes = h }) (held (sections_start ed vs es))
    given {at = at} {r = r} a b e =
        let xs = flat_map value_bytes (take v.count v.initials) in
        let n = values_length (take v.count v.initials) in
        let k : at ≡ 0 + length xs = omega (arith, a.0) in
        let w = b stands in
        held-as (xs ++ initial_modes stands.equations) (length-of xs (initial_modes stands.equations) k w.0) (wrote-front (put-more a.1 w.1 (omega arith) k) ∙ ap (overwrite (xs ++ initial_modes stands.equations)) e) ∙ ap held is-start
      where
        length-of : (xs ms : List ℕ) → at ≡ 0 + length xs → r ≡ at + length ms → r ≡ length (xs ++ ms)
        length-of xs ms i j = omega (arith, length-append xs ms)

-- ---- a file
module _ (ed : Edition) (f : List ℕ) where
  pub schedule-none : {n : ℕ} → judge_file ed f ≡ refused n → schedule_start ed f ≡ []
  unfolding schedule_start start_of
  schedule-none h = rw h refl

  module _ {ix : ScheduleIndex} (h : ScheduleIndexed ed f (Ok ix)) where
    pub file : (s : Schedule) × (judge_file ed f ≡ accepted s)
    file = index-schedule ed f h

    pub schedule-promised : Promised ed f ix file.0
    schedule-promised = promised ed f h file.1

    pub schedule-gives : sections_start ed (part_of ix.parts.variables f) (part_of ix.parts.equations f) ≡ schedule_start ed f
    unfolding sections_start start_of schedule_start
    schedule-gives =
        let p = schedule-promised in
        ap₂ (sections_start ed) p.variables.is p.equations.is ∙ ap (start_of (λ p. p)) p.plant_judged ∙ sym (ap (start_of (λ (s : Schedule). s.plant)) file.1)

  pub table-none : {n : ℕ} → judge_table ed f ≡ refused n → table_start ed f ≡ []
  unfolding table_start start_of
  table-none h = rw h refl

  module _ {ix : TableIndex} (h : accepted ix ≡ answered (table_index ed f) (judge_table ed f)) where
    table : Accepted (table_index ed f) (judge_table ed f) ix
    table = was-accepted (table_index ed f) (judge_table ed f) h

    pub table-stands : AllStand f ix.parts (sections_of f)
    table-stands = subst (λ p. AllStand f p (sections_of f)) (sym (parts-read ed f table.value table.is)) (opened ed f table.judged).stand

    pub table-gives : sections_start ed (part_of ix.parts.variables f) (part_of ix.parts.equations f) ≡ table_start ed f
    unfolding sections_start start_of table_start
    table-gives =
        let s = table-stands in
        ap₂ (sections_start ed) s.variables.is s.equations.is ∙ ap (start_of (λ p. p)) (opened ed f table.judged).plant ∙ sym (ap (start_of (λ (t : Table). t.plant)) table.judged)
