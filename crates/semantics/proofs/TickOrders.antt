-- When the order in which a tick asks CONTINUEs cannot matter: exactly where their truths stop alike; and so at every tick that none of them stopped.
use mathlib.Core.Path.{◌≡◌, refl, sym, ◌∙◌}
use mathlib.Core.List.Memᴰ.{head as first}
use mathlib.Core.List.Memᴰ.{tail as later}
use mathlib.Core.List.Permᴰ
use mathlib.Core.List.Permᴰ.{cons as perm-cons}
use mathlib.Core.List.Permᴰ.{swap as perm-swap}
use mathlib.Core.List.Permᴰ.{trans as perm-trans}
use mathlib.Core.List.{List, [], ◌∷◌, Memᴰ as Mem, Permᴰ as Permuted}
use mathlib.Core.Logic.{◌↔◌}
use mathlib.Core.Option.{some}
use Prim.Native.Nat.{ℕ}
use lib.IntN.{ℤ}
use Rattle.semantics.specs.Editions.{Edition}
use Rattle.semantics.specs.Expressions.{Side, above, below}
use Rattle.semantics.specs.Plant.{Plant}
use Rattle.semantics.specs.Events.{tick, event_in}
use Rattle.semantics.specs.Run.{Control, Situation, Answered, ◌>>◌, allow, fault_answer, check_modes, check_of_switch, judge_tick, judge, turned_away_by, settle, step, answers}
use Rattle.semantics.specs.Rules.{CurrentSwitch, Found, nothing, found_true, found_fault, Walks, stops-at-truth, stops-at-fault, Stops, by-truth, by-fault, Checks, Waits}
use Rattle.semantics.specs.Renumbering.{StopAlike, EitherFirst, EitherFirstAtTicks, no-event, one-event, NotStopped}
use Rattle.semantics.specs.Writing.{Each, each_nil, each_cons}
use Rattle.semantics.proofs.StepParts.{found_as, walk-found, found-walk, waits-every, waits-truths}
use Rattle.semantics.proofs.Currents.{check-walk}
use Rattle.semantics.proofs.WalksInAnyOrder.{came, same-found, none-stops}

-- ---- a truth brought to the front
record ToFront (t : List ℕ) (ts : List (List ℕ)) : Type 0 where
  rest : List (List ℕ)
  permuted : Permuted ts (t ∷ rest)

to_front : {t : List ℕ} {ts : List (List ℕ)} → Mem t ts → ToFront t ts
to_front {t = t} {ts = []} m = elim m [ ]
to_front {ts = u ∷ us} (first h) = record { rest = us; permuted = perm-cons (sym h) (Permᴰ.refl us) }
to_front {ts = u ∷ us} (later m) = let r = to_front m in record { rest = u ∷ r.rest; permuted = perm-trans (perm-cons refl r.permuted) (perm-swap refl refl) }

stop-first : {ed : Edition} {vs : List ℤ} {t : List ℕ} {ts : List (List ℕ)} {f : Found} → Stops ed vs t f → Walks ed vs (t ∷ ts) f
stop-first (by-truth h) = stops-at-truth h
stop-first (by-fault h) = stops-at-fault h

-- the walk comes to the same in every order
pub stop-alike-is : (ed : Edition) (vs : List ℤ) (ts : List (List ℕ)) →
    StopAlike ed vs ts ↔ ((us : List (List ℕ)) (f g : Found) → Permuted ts us → Walks ed vs ts f → Walks ed vs us g → f ≡ g)
stop-alike-is ed vs ts = (
  λ a us f g d v w. same-found d a (came v) (came w),
  λ h. record {
    alike = λ t u f g m n s r.
        let k = found-walk ed vs ts in
        let a = to_front m in
        let b = to_front n in
        sym (h _ _ _ a.permuted k.1 (stop-first s)) ∙ h _ _ _ b.permuted k.1 (stop-first r);
  },
)

-- ---- told by the answers
module _ {S : Type 0} (ed : Edition) (p : Plant) (c : Control S) where
  -- a tick that comes to ask the CONTINUEs, and is stopped by one
  stopped-true : (s : Situation S) (e : List ℕ) {x : S} {ts : List (List ℕ)} → s.place ≡ some x → event_in ed e ≡ tick → Waits c.action (c.acting x) ts →
      Checks ed s.values (CurrentSwitch p s.modes) nothing → Walks ed s.values ts found_true → (step ed p c s e).answer ≡ 31
  unfolding step judge judge_tick check_of_switch check_modes found_as ◌>>◌ allow settle turned_away_by
  stopped-true s e i t w k g = rw (i, t, waits-every w, walk-found (check-walk k) 28, waits-truths w, walk-found g 31) refl

  stopped-fault : (s : Situation S) (e : List ℕ) {x : S} {ts : List (List ℕ)} {side : Side} → s.place ≡ some x → event_in ed e ≡ tick → Waits c.action (c.acting x) ts →
      Checks ed s.values (CurrentSwitch p s.modes) nothing → Walks ed s.values ts (found_fault side) → (step ed p c s e).answer ≡ fault_answer side
  unfolding step judge judge_tick check_of_switch check_modes found_as ◌>>◌ allow settle
  stopped-fault s e i t w k g = rw (i, t, waits-every w, walk-found (check-walk k) 28, waits-truths w, walk-found g 31) refl

  no_fault : {C : Type 0} {a : ℕ} (side : Side) → NotStopped a → a ≡ fault_answer side → C
  unfolding fault_answer
  no_fault above n h = absurd (n.no_203 h)
  no_fault below n h = absurd (n.no_204 h)

  pub either_first : (s : Situation S) (e : List ℕ) → event_in ed e ≡ tick → NotStopped (step ed p c s e).answer → EitherFirst ed p c s
  either_first s e t n = record { asked = λ x ts i w k. go ts i w k (found-walk ed s.values ts) }
    where
      go : {x : S} (ts : List (List ℕ)) → s.place ≡ some x → Waits c.action (c.acting x) ts → Checks ed s.values (CurrentSwitch p s.modes) nothing →
          (f : Found) × Walks ed s.values ts f → StopAlike ed s.values ts
      go ts i w k (nothing, g) = none-stops (came g)
      go ts i w k (found_true, g) = absurd (n.no_31 (stopped-true s e i t w k g))
      go ts i w k (found_fault side, g) = no_fault side n (stopped-fault s e i t w k g)

  -- a run none of whose ticks a CONTINUE stopped
  pub either-first-told : (s : Situation S) (es : List (List ℕ)) → Each (λ e (o : Answered S). event_in ed e ≡ tick → NotStopped o.answer) es (answers ed p c s es) → EitherFirstAtTicks ed p c s es
  unfolding answers
  either-first-told s [] each_nil = no-event
  either-first-told s (e ∷ es) (each_cons h r) = one-event (λ t. either_first s e t (h t)) (either-first-told (step ed p c s e).left es r)
