-- The length of a run's records, from the counts that reading a schedule gives.
use mathlib.Core.Path.{◌≡◌, sym, ap, ap₂, ◌∙◌}
use mathlib.Core.List.{List}
use Prim.Native.Nat.{ℕ, ◌*◌, ◌≤◌}
use native.Mathlib.Omega.{arith}
use Rattle.std.proofs.Common.{Ok, Err}
use lib.ListN.{length, take, length-take}
use Rattle.semantics.specs.Editions.{Edition}
use Rattle.semantics.specs.Refusals.{accepted}
use Rattle.semantics.specs.Plant.{selectors}
use Rattle.semantics.specs.Calls.{record_length_of, record_size}
use Rattle.schedules.specs.Files.{Schedule, judge_file}
use Rattle.schedules.specs.Calls.{ScheduleRead, read_schedule}
use Rattle.schedules.proofs.FirstNumber.{passed}
use Rattle.schedules.proofs.CallsHold.{read-schedule-result}
use Rattle.plant.proofs.PlantLaws.{passed-all, variables-high}
use Rattle.plant.proofs.EquationLaws.{few_selectors}
use Rattle.paper.specs.declared.refusals.Refusal.{Refusal}
use Rattle.schedule_read.specs.ScheduleFile.{told}
use Rattle.schedule_read.specs.declared.call.FileRead.{FileRead}
use Rattle.exam.proofs.Numbers.{listed}

-- the counts of a schedule
pub record Counts (r : FileRead) (s : Schedule) : Type 0 where
  pub variables : r.variables ≡ length s.plant.variables
  pub selectors_are : r.selectors ≡ length (selectors s.plant)
  pub few : r.variables ≤ 32
  pub few_selectors : r.selectors ≤ 16

pub counts : (ed : Edition) (f : List ℕ) {r : FileRead} {s : Schedule} → told (Ok r) ≡ read_schedule ed f → judge_file ed f ≡ accepted s → Counts r s
unfolding selectors
counts ed f {r} {s} h e =
    let p = passed ed f s e in
    let k = h ∙ read-schedule-result ed f e in
    let v : r.variables ≡ length s.plant.variables = ap (λ (r : ScheduleRead). r.variables) k in
    let c : r.selectors ≡ length (selectors s.plant) = ap (λ (r : ScheduleRead). r.selectors) k in
    let a = variables-high ed s.sections.variables s.sections.equations p.plant in
    let q = passed-all ed s.sections.variables s.sections.equations p.plant in
    let b = few_selectors s.sections.equations q.equations in
    record { variables = v; selectors_are = c; few = omega arith; few_selectors = omega arith }

-- a schedule that was read is not refused
pub not-refused : (ed : Edition) (f : List ℕ) (why : Refusal) {s : Schedule} → told (Err why) ≡ read_schedule ed f → judge_file ed f ≡ accepted s → ⊥
not-refused ed f why h e = listed why (ap (λ (r : ScheduleRead). r.refusal) (h ∙ read-schedule-result ed f e))

pub length-of : (ed : Edition) (f : List ℕ) {r : FileRead} {s : Schedule} (n : ℕ) {size : ℕ} → told (Ok r) ≡ read_schedule ed f → judge_file ed f ≡ accepted s →
    size ≡ record_length_of ed r.variables r.selectors → n * size ≡ n * record_size ed s.plant
unfolding record_size
length-of ed f n h e q = let k = counts ed f h e in ap (λ x. n * x) (q ∙ ap₂ (record_length_of ed) k.variables k.selectors_are)

-- the front of a list
pub front_length : (n : ℕ) (l : List ℕ) → n ≤ length l → n ≡ length (take n l)
front_length n l h = sym (simp length-take (omega arith))
