-- An event, step by step, on the data that is lent.
use mathlib.Core.Path.{◌≡◌, refl, sym, ap, ap₂, subst, ◌∙◌}
use mathlib.Core.Bool.{Bool, true, false}
use mathlib.Core.List.{List, map}
use Prim.Native.Nat.{ℕ}
use lib.IntN.{ℤ}
use lib.ListN.{length, get_or, set}
use Rattle.std.specs.Prelude.{Ok}
use Rattle.semantics.specs.Bytes.{every}
use Rattle.semantics.specs.Editions.{Edition}
use Rattle.semantics.specs.Expressions.{Value, ok, fault, above, below, then_value, value_of_number}
use Rattle.semantics.specs.Plant.{Plant, selectors, stored, rate_of, advance}
use Rattle.semantics.specs.Events as Events
use Rattle.semantics.specs.Run as Run
use Rattle.semantics.specs.Run.{Action, test, wait, assign, switch, stop, away, faulty, pass, ◌>>=◌, ◌>>◌, allow, valued, nobody, mover, Done, is_wait, wait_truth, check_waits, check_modes, assigned, act, judge_switch, check_of_switch, judge_tick, judge_pick, judge}
use Rattle.semantics.proofs.Facts.{true-not-false}
use Rattle.nodeset.specs.Sets.{mem, members}
use Rattle.nodeset.proofs.Members.{among-set}
use Rattle.event.specs.Decoded.{event_of}
use Rattle.event.specs.declared.Event as Decoded
use Rattle.effects.specs.Verdicts.{done_verdict, step_verdict, is_going_on, Left, or_else, Gives}
use Rattle.effects.specs.Ranges.{rate_in}
use Rattle.effects.specs.ActionForms.{Performs, Does}
use Rattle.effects.specs.PaperNumbers.{Verdict, Away, Stay, Move}
use Rattle.effects.specs.Told.{told_pick}
use Rattle.effects.proofs.PaperNumbers.{left-away, left-above, left_below, left-stay}
use Rattle.effects.proofs.Steps.{then-on}
use Rattle.modes.specs.Modes.{modes_from, InForce, Switched}
use Rattle.program.specs.Lent.{Lent, PlantLent, operand_at}
use Rattle.execution.specs.Operands.{Few, CutEach, KindsOf}
use Rattle.execution.specs.Ready.{Ready}
use Rattle.execution.proofs.Formed.{wait-operand, variable-known, selector-known, map-member}
use Rattle.execution.proofs.Lending.{modes-current, variables_of, declared_same, advance-is}

-- a picked node moves on its outcome
pub moved-as : (n : ℕ) (b : Bool) → Move n b ≡ told_pick n (Ok b)
moved-as n true = refl
moved-as n false = refl

-- ---- what is left
module _ (vs : List ℤ) (ms : List ℕ) where
  left_out : {A : Type 0} (u : Run.Verdict A) (w : Run.Verdict Done) {r : Verdict} → r ≡ step_verdict u → is_going_on r ≡ false → Left (u >> w) vs ms r vs ms
  unfolding ◌>>◌ done_verdict is_going_on
  left_out (away n) w e h = left-away e refl
  left_out (faulty above) w e h = left-above e refl
  left_out (faulty below) w e h = left_below e refl
  left_out (pass a) w e h = true-not-false (sym (ap is_going_on e) ∙ h)

  -- another result that tells the same
  pub left-told : {j : Run.Verdict Done} {r s : Verdict} {ys : List ℤ} {ns : List ℕ} → r ≡ s → Left j vs ms s ys ns → Left j vs ms r ys ns
  left-told {j} {ys = ys} {ns} e x = subst (λ r. Left j vs ms r ys ns) (sym e) x

  pub left-eq : {j k : Run.Verdict Done} {r : Verdict} {ys : List ℤ} {ns : List ℕ} → j ≡ k → Left k vs ms r ys ns → Left j vs ms r ys ns
  left-eq e x = rw e x

  -- the last step of a tick
  abbrev ticked : Value (List ℤ) → Run.Verdict Done
  ticked u = valued u >>= (λ ys. pass (record { moved = nobody; values = ys; modes = ms }))

  left-ticked : (u : Value (List ℤ)) {r : Verdict} {ys : List ℤ} → Gives Stay vs u r ys → Left (ticked u) vs ms r ys ms
  unfolding valued ◌>>=◌ done_verdict or_else
  left-ticked (ok a) g = left-stay g.answer (ap (λ l. pass (record { moved = nobody; values = l; modes = ms })) (sym g.left))
  left-ticked (fault above) g = rw g.left (left-above g.answer refl)
  left-ticked (fault below) g = rw g.left (left_below g.answer refl)

-- ---- what a picked node does on the ranges that are lent
module _ (ed : Edition) (p : Plant) (l : Lent) (q : PlantLent p l) (vs : List ℤ) (many : length vs ≡ length p.variables) where
  assigned-same : (v : ℕ) (e : List ℕ) → assigned ed p.variables vs v e ≡ assigned ed (variables_of l (length vs)) vs v e
  unfolding assigned stored then_value
  assigned-same v e = go (value_of_number ed vs e)
    where
      go : (u : Value ℤ) → then_value u (stored p.variables vs v) ≡ then_value u (stored (variables_of l (length vs)) vs v)
      go (ok z) = ap (λ u. then_value u (λ y. ok (set vs v y))) (sym (declared_same p l q (length vs) many v z))
      go (fault s) = refl

  act-same : (ms : List ℕ) (n : ℕ) (a : Action) → act ed p.variables vs ms n a ≡ act ed (variables_of l (length vs)) vs ms n a
  unfolding act
  act-same ms n (test t) = refl
  act-same ms n (wait t) = refl
  act-same ms n (assign v e) = ap (λ u. valued u >>= (λ ys. pass (record { moved = mover n true; values = ys; modes = ms }))) (assigned-same v e)
  act-same ms n (switch s m) = refl
  act-same ms n stop = refl

module _ (ed : Edition) (p : Plant) (f : ℕ → Action) (l : Lent) (ws : List ℕ) (vs : List ℤ) (ms : List ℕ) (q : Ready ed p f l ws vs ms) where
  -- the switch check of the code
  abbrev check : Run.Verdict (Unit {0})
  check = check_modes ed (modes_from l.bytes l.places 0 ms) vs

  check-is : check_of_switch ed p vs ms ≡ check
  unfolding check_of_switch
  check-is = ap (λ x. check_modes ed x vs) (sym (modes-current p l q.plant vs ms q.fits))

  -- ---- a tick
  pub few-acting : Few ed ws
  few-acting = record { words = q.words; below = λ n e. (q.nodes n e).below }

  pub cut-acting : CutEach l.bytes l.starts l.ends ws
  cut-acting = record { cut = λ n e. (q.nodes n e).cut }

  pub kinds-of : KindsOf f l.kinds ws
  kinds-of = record { each = λ n e. (operand_at l n, (q.nodes n e).is) }

  abbrev waiting : Bool
  waiting = every (λ n. is_wait (f n)) (members ws)

  abbrev walked : Run.Verdict (Unit {0})
  walked = check_waits ed vs (map (operand_at l) (members ws))

  truths-are : waiting ≡ true → map (λ n. wait_truth (f n)) (members ws) ≡ map (operand_at l) (members ws)
  truths-are h = map-member ws (λ n. is_wait (f n)) (λ n. wait_truth (f n)) (operand_at l) (λ n e k. wait-operand (get_or l.kinds n 0) (operand_at l n) (q.nodes n e).is k) h

  abbrev tick : Run.Verdict Done
  tick = judge ed p f (members ws) vs ms Events.tick

  pub tick-27 : waiting ≡ false → Left tick vs ms (Away 27) vs ms
  unfolding judge judge_tick allow ◌>>◌
  tick-27 e = left-away refl (rw e refl)

  tick_is : waiting ≡ true → tick ≡ (check >> (walked >> ticked vs ms (advance p.variables (rate_of p ms) vs)))
  unfolding judge judge_tick allow ◌>>◌
  tick_is e = rw e (ap₂ (λ a b. a >> (check_waits ed vs b >> ticked vs ms (advance p.variables (rate_of p ms) vs))) check-is (truths-are e))

  module _ (h : waiting ≡ true) (r : Verdict) (e : r ≡ step_verdict check) where
    pub tick-28 : is_going_on r ≡ false → Left tick vs ms r vs ms
    tick-28 g = left-eq vs ms (tick_is h) (left_out vs ms check (walked >> ticked vs ms (advance p.variables (rate_of p ms) vs)) e g)

    module _ (g : is_going_on r ≡ true) (w : Verdict) (d : w ≡ step_verdict walked) where
      on : tick ≡ (walked >> ticked vs ms (advance p.variables (rate_of p ms) vs))
      on = tick_is h ∙ then-on check (walked >> ticked vs ms (advance p.variables (rate_of p ms) vs)) r e g

      pub tick-31 : is_going_on w ≡ false → Left tick vs ms w vs ms
      tick-31 k = left-eq vs ms on (left_out vs ms walked (ticked vs ms (advance p.variables (rate_of p ms) vs)) d k)

      pub tick-end : is_going_on w ≡ true → (rs : List ℤ) → InForce l.bytes l.places ms l.steady rs → {x : Verdict} {ys : List ℤ} → Gives Stay vs (advance (variables_of l (length vs)) (rate_in rs) vs) x ys → Left tick vs ms x ys ms
      tick-end k rs i g =
          left-eq vs ms (on ∙ then-on walked (ticked vs ms (advance p.variables (rate_of p ms) vs)) w d k) (left-ticked vs ms (advance p.variables (rate_of p ms) vs) (rw (← advance-is p l q.plant vs ms q.fits rs i) g))

  -- ---- a pick
  module _ (n : ℕ) where
    -- its operand and the number of its kind
    pub record Looked (k : ℕ) (t : List ℕ) : Type 0 where
      pub kind : k ≡ get_or l.kinds n 0
      pub operand : t ≡ operand_at l n

    abbrev pick : Run.Verdict Done
    pick = judge ed p f (members ws) vs ms (Events.pick n)

    pub pick-25 : mem ws n ≡ false → Left pick vs ms (Away 25) vs ms
    unfolding judge judge_pick allow ◌>>◌
    pick-25 e = left-away refl (rw (among-set q.words n, e) refl)

    pick_is : mem ws n ≡ true → pick ≡ (check >> act ed p.variables vs ms n (f n))
    unfolding judge judge_pick allow ◌>>◌
    pick_is e = rw (among-set q.words n, e) (ap (λ a. a >> act ed p.variables vs ms n (f n)) check-is)

    module _ (h : mem ws n ≡ true) (r : Verdict) (e : r ≡ step_verdict check) where
      pub pick-28 : is_going_on r ≡ false → Left pick vs ms r vs ms
      pick-28 g = left-eq vs ms (pick_is h) (left_out vs ms check (act ed p.variables vs ms n (f n)) e g)

      pub pick_end : is_going_on r ≡ true → {k : ℕ} {t : List ℕ} → Looked k t → {x : Verdict} {ys : List ℤ} {ns : List ℕ} → Does k t (variables_of l (length vs)) n vs ms x ys ns → Left pick vs ms x ys ns
      pick_end g o {x} {ys} {ns} y =
          let w : Does (get_or l.kinds n 0) (operand_at l n) (variables_of l (length vs)) n vs ms x ys ns = rw (← o.kind, ← o.operand) y in
          left-eq vs ms (pick_is h ∙ then-on check (act ed p.variables vs ms n (f n)) r e g ∙ act-same ed p l q.plant vs q.fits.values ms n (f n)) (w.leaves ed (f n) (q.nodes n h).is)

    pub pick-performs : mem ws n ≡ true → {k : ℕ} {t : List ℕ} → Looked k t → Performs k t (length vs) (length ms)
    pick-performs e o =
        let x = q.nodes n e in
        rw (o.kind, o.operand, q.fits.values, q.fits.modes) (record {
          action = f n;
          is = x.is;
          assigns = variable-known ed (length p.variables) (selectors p) x.fits;
          switches = selector-known ed (length p.variables) (selectors p) x.fits;
        })

  -- ---- a switch event
  pub switch-left : (s k : ℕ) {r : Verdict} {ns : List ℕ} → Switched l.bytes l.places s k vs ms r ns → Left (judge ed p f (members ws) vs ms (Events.take_switch s k)) vs ms r vs ns
  unfolding judge
  switch-left s k x = left-eq vs ms (ap (λ z. judge_switch ed z vs ms s k) (sym (modes-current p l q.plant vs ms q.fits))) (x.leaves ed)

  -- ---- bytes that are no event
  pub senseless-left : {r : Verdict} → r ≡ Away 24 → Left (judge ed p f (members ws) vs ms Events.senseless) vs ms r vs ms
  unfolding judge
  senseless-left e = left-away e refl

  -- the event that the code has
  pub event-left : {e d : Decoded.Event} {r : Verdict} {ys : List ℤ} {ns : List ℕ} → e ≡ d → Left (judge ed p f (members ws) vs ms (event_of d)) vs ms r ys ns → Left (judge ed p f (members ws) vs ms (event_of e)) vs ms r ys ns
  event-left h x = left-eq vs ms (ap (λ (d : Decoded.Event). judge ed p f (members ws) vs ms (event_of d)) h) x
