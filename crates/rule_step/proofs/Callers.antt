-- For callers: what the first step asks comes from what the reader promises, and what the next one asks from what the step before gave.
use mathlib.Core.Path.{◌≡◌}
use mathlib.Core.List.{List}
use mathlib.Core.Option.{some}
use Prim.Native.Nat.{ℕ}
use lib.IntN.{ℤ}
use Rattle.semantics.specs.Editions.{Edition}
use Rattle.schedules.specs.Residuals.{fresh, acting}
use Rattle.schedules.specs.Files.{Schedule, rule_control}
use Rattle.schedules.proofs.ResidualsKept.{of-fresh}
use Rattle.nodeset.specs.Sets.{members, Words}
use Rattle.moves.specs.MoveContracts.{Charted}
use Rattle.moves.specs.declared.Moves.{Moves}
use Rattle.program.specs.Lent.{Lent}
use Rattle.schedule_read.specs.Lent.{ScheduleLent}
use Rattle.event.specs.declared.Event.{Event}
use Rattle.execution.specs.Ready.{Fits}
use Rattle.execution.specs.Runs.{at_place}
use Rattle.rule_step.specs.Situations.{StandsFor, Promised, StepsOn}

-- ---- the fresh root
module _ (s : Schedule) {ws : List ℕ} (w : Words ws) (b : members ws ≡ acting (fresh s.root)) where
  pub first-stands : StandsFor s ws (some (rule_control s).start)
  unfolding rule_control
  first-stands = at_place (of-fresh s.root) b w

  pub first-promised : (ed : Edition) {l : Lent} {m : Moves} {ms : List ℕ} {vs : List ℤ} → ScheduleLent ed s l → Charted m s.root → Fits s.plant vs ms → Promised ed l m ws vs ms
  first-promised ed d i f = record { schedule = s; lent = d; charted = i; place = some (rule_control s).start; stands = first-stands; fits = f }

-- ---- a step made
pub next-promised : (ed : Edition) {l : Lent} {m : Moves} {ws ms ws' ms' : List ℕ} {vs vs' : List ℤ} {e : Event} {a : ℕ} → Promised ed l m ws vs ms → StepsOn ed l m ws vs ms e a ws' vs' ms' → Promised ed l m ws' vs' ms'
next-promised ed p k =
    let s = k p.schedule p.place p.lent p.charted p.stands p.fits in
    record { schedule = p.schedule; lent = p.lent; charted = p.charted; place = s.0.place; stands = s.0.stands; fits = s.1 }
