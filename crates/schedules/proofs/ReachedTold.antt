-- What is reached event by event, from starts that 20 lets pass, is just what is reached by the rules.
use mathlib.Core.Path.{◌≡◌, refl, subst, ◌∙◌}
use mathlib.Core.Bool.{true}
use mathlib.Core.List.{List, [], ◌∷◌, ◌++◌}
use mathlib.Core.Logic.{◌↔◌}
use mathlib.Core.Option.{some}
use Prim.Native.Nat.{ℕ, ◌<◌}
use Rattle.semantics.specs.Editions.{Edition}
use Rattle.semantics.specs.Refusals.{accepted}
use Rattle.semantics.specs.Plant.{Plant, selectors, all_declared}
use Rattle.semantics.specs.Starts.{Start, start_in, is_ok, modes_fit, fits_start}
use Rattle.semantics.specs.Run.{Situation, step}
use Rattle.semantics.specs.Rules.{Rule, Standing, Sound}
use Rattle.semantics.specs.Writing.{start_bytes, StartLimits}
use Rattle.semantics.proofs.Facts.{and_left, and_right, All}
use Rattle.semantics.proofs.StartForms.{values-passed, modes-passed}
use Rattle.semantics.proofs.StepRules.{rule-of, step_of, rule-standing}
use Rattle.semantics.proofs.CallsHold.{start-values}
use Rattle.schedules.specs.Residuals.{Residual}
use Rattle.schedules.specs.Files.{Schedule, judge_file, rule_control}
use Rattle.schedules.specs.Independent.{left_by, begun, Reachable}
use Rattle.schedules.specs.IndependenceRules.{ReachedByRules, from_start, by-event}
use Rattle.schedules.proofs.ScheduleSound.{root_stands}
use Rattle.schedules.proofs.CallsHold.{sound-rules}
use Rattle.schedules.proofs.FilesProper.{starts-admitted}

-- ---- a start that 20 lets pass, whatever its bytes
start-limits : (p : Plant) (start : List ℕ) (st : Start) → start_in p start ≡ some st → fits_start p st ≡ true → StartLimits p st
unfolding fits_start
start-limits p start st r h =
    let l = start-values p start r in
    let a = is_ok (all_declared p.variables st.values) in
    let b = modes_fit (selectors p) st.modes in
    record { values = values-passed p.variables st.values l.0 (and_left a b h); modes = modes-passed (selectors p) st.modes l.1 (and_right a b h) }

-- ---- reached
module _ (ed : Edition) (s : Schedule) where
  reached-standing : {x : Situation Residual} → ReachedByRules ed s x → Standing (rule_control s) x
  reached-standing (from_start {st = st} l) = root_stands s st.values st.modes
  reached-standing (by-event h r) = rule-standing ed s.plant (rule_control s) (reached-standing h) r

  left-more : (x : Situation Residual) (es : List (List ℕ)) (e : List ℕ) → left_by ed s x (es ++ (e ∷ [])) ≡ (step ed s.plant (rule_control s) (left_by ed s x es) e).left
  unfolding left_by
  left-more x [] e = refl
  left-more x (d ∷ es) e = left-more (step ed s.plant (rule_control s) x d).left es e

  module _ (sound : Sound s.plant (rule_control s)) where
    reached-on : (x : Situation Residual) (es : List (List ℕ)) → ReachedByRules ed s x → ReachedByRules ed s (left_by ed s x es)
    unfolding left_by
    reached-on x [] h = h
    reached-on x (e ∷ es) h = reached-on (step ed s.plant (rule_control s) x e).left es (by-event h (rule-of ed s.plant (rule_control s) sound x (reached-standing h) e))

    reachable-on : {x y : Situation Residual} {e : List ℕ} {a : ℕ} → Standing (rule_control s) x → Reachable ed s x → Rule ed s.plant (rule_control s) x e a y → Reachable ed s y
    reachable-on {e = e} stand h r =
        let q = step_of ed s.plant (rule_control s) sound stand r in
        record {
          start = h.start;
          st = h.st;
          start_read = h.start_read;
          start_fits = h.start_fits;
          events = h.events ++ (e ∷ []);
          reached = left-more (begun ed s h.st) h.events e ∙ rw (h.reached, q) refl;
        }

module _ (ed : Edition) (file : List ℕ) (s : Schedule) (z : All (λ b. b < 256) file) (h : judge_file ed file ≡ accepted s) where
  reached-here : {x : Situation Residual} → ReachedByRules ed s x → Reachable ed s x
  unfolding left_by
  reached-here (from_start {st = st} l) =
      let k = (starts-admitted ed file s z h (start_bytes st) st).1 (refl, l) in
      record { start = start_bytes st; st = st; start_read = k.1; start_fits = k.2; events = []; reached = refl }
  reached-here (by-event k r) = reachable-on ed s (sound-rules ed file s h) (reached-standing ed s k) (reached-here k) r

  reached-there : (x : Situation Residual) → Reachable ed s x → ReachedByRules ed s x
  reached-there x k =
      let l = start-limits s.plant k.start k.st k.start_read k.start_fits in
      subst (ReachedByRules ed s) k.reached (reached-on ed s (sound-rules ed file s h) (begun ed s k.st) k.events (from_start l))

  pub reached-is : (x : Situation Residual) → Reachable ed s x ↔ ReachedByRules ed s x
  reached-is x = (reached-there x, reached-here)
