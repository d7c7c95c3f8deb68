-- Document 02, item 2: which fault comes first in an expression, and what an event that faults is answered.
use mathlib.Core.Path.{◌≡◌, refl, sym, ap, ◌∙◌}
use mathlib.Core.Bool.{Bool, true}
use mathlib.Core.List.{List, [], ◌∷◌}
use mathlib.Core.Logic.{◌↔◌}
use mathlib.Core.Option.{none}
use Prim.Native.Nat.{ℕ, ◌≤◌, ◌<◌}
use native.Mathlib.Omega.{arith}
use lib.Dec.{lit<}
use lib.IntN.{ℤ}
use Rattle.semantics.specs.Bytes.{within}
use Rattle.semantics.specs.Editions.{Edition}
use Rattle.semantics.specs.Expressions.{Operation, Number, operate, negation, Comparison, Connective, Truth, compare, connect, opposite, Side, above, below, Value, ok, fault, then_value, operands, applied, compared, connected, value_of, holds, result}
use Rattle.semantics.specs.Plant.{Plant}
use Rattle.semantics.specs.Run.{Next, Control, Situation, Answered, at, over, fault_answer, turned_away_by, step, answers, answers_in, is_faulted, how_many}
use Rattle.semantics.specs.Rules.{Goes, goes_on, finishes, Faults, Rule, when-senseless, pick-idle, pick-switch-true, pick-test, pick-wait, pick-wait-false, pick-assign, pick-switch, pick-stop, switch-missing, switch-taken, switch-false, tick-busy, tick-switch-true, tick-wait-true, tick-taken, fault-above, fault-below, Standing, Sound}
use Rattle.semantics.proofs.Facts.{by_cases}
use Rattle.semantics.proofs.StepRules.{fault-step, rule-of}
use Rattle.semantics.proofs.RunCounts.{counted, uncounted, step-stepped}

-- ---- two operands: the left one's side where it faults, else the right one's
left-first : {A B C : Type 0} (f : A → B → C) {a : Value A} {s : Side} → a ≡ fault s → (b : Value B) → operands f a b ≡ fault s
unfolding operands
left-first f h (ok b) = rw h refl
left-first f h (fault t) = rw h refl

right-else : {A B C : Type 0} (f : A → B → C) {a : Value A} {x : A} {b : Value B} {s : Side} → a ≡ ok x → b ≡ fault s → operands f a b ≡ fault s
unfolding operands
right-else f h k = rw (h, k) refl

module _ (vs : List ℤ) where
  module _ (o : Operation) (a b : Number) {s : Side} where
    pub left-number : value_of vs a ≡ fault s → value_of vs (operate o a b) ≡ fault s
    unfolding value_of then_value
    left-number h = ap (λ v. then_value v result) (left-first (applied o) h (value_of vs b))

    pub right-number : {x : ℤ} → value_of vs a ≡ ok x → value_of vs b ≡ fault s → value_of vs (operate o a b) ≡ fault s
    unfolding value_of then_value
    right-number h k = ap (λ v. then_value v result) (right-else (applied o) h k)

  module _ (c : Comparison) (a b : Number) {s : Side} where
    pub left-compared : value_of vs a ≡ fault s → holds vs (compare c a b) ≡ fault s
    unfolding holds
    left-compared h = left-first (compared c) h (value_of vs b)

    pub right-compared : {x : ℤ} → value_of vs a ≡ ok x → value_of vs b ≡ fault s → holds vs (compare c a b) ≡ fault s
    unfolding holds
    right-compared h k = right-else (compared c) h k

  module _ (c : Connective) (a b : Truth) {s : Side} where
    pub left-connected : holds vs a ≡ fault s → holds vs (connect c a b) ≡ fault s
    unfolding holds
    left-connected h = left-first (connected c) h (holds vs b)

    pub right-connected : {x : Bool} → holds vs a ≡ ok x → holds vs b ≡ fault s → holds vs (connect c a b) ≡ fault s
    unfolding holds
    right-connected h k = right-else (connected c) h k

  -- ---- one operand: its side
  pub negated : (a : Number) {s : Side} → value_of vs a ≡ fault s → value_of vs (negation a) ≡ fault s
  unfolding value_of then_value
  negated a h = rw h refl

  pub opposed : (a : Truth) {s : Side} → holds vs a ≡ fault s → holds vs (opposite a) ≡ fault s
  unfolding holds then_value
  opposed a h = rw h refl

-- ---- 203 and 204 are the answers to faults, each to those on its side
module _ {S : Type 0} (ed : Edition) (p : Plant) (c : Control S) (x : S) (vs : List ℤ) (ms e : List ℕ) where
  data Answering (a : ℕ) : Type 0 where
    no_fault : a < 203 → Answering a
    faults-above : a ≡ 203 → Faults ed p c x vs ms e above → Answering a
    faults-below : a ≡ 204 → Faults ed p c x vs ms e below → Answering a

  goes-low : {ys : List ℤ} {ks : List ℕ} {y : Next S} {a : ℕ} {t : Situation S} → Goes ys ks y a t → Answering a
  goes-low goes_on = no_fault (lit< tt)
  goes-low finishes = no_fault (lit< tt)

  answering : {a : ℕ} {t : Situation S} → Rule ed p c (at x vs ms) e a t → Answering a
  answering (when-senseless f g h) = no_fault (lit< tt)
  answering (pick-idle w f) = no_fault (lit< tt)
  answering (pick-switch-true w m k) = no_fault (lit< tt)
  answering (pick-test w m k q h g) = goes-low g
  answering (pick-wait w m k q h g) = goes-low g
  answering (pick-wait-false w m k q h) = no_fault (lit< tt)
  answering (pick-assign w m k q h d i g) = goes-low g
  answering (pick-switch w m k q g) = goes-low g
  answering (pick-stop w m k q) = no_fault (lit< tt)
  answering (switch-missing w f) = no_fault (lit< tt)
  answering (switch-taken w h g) = no_fault (lit< tt)
  answering (switch-false w h g) = no_fault (lit< tt)
  answering (tick-busy w m f) = no_fault (lit< tt)
  answering (tick-switch-true w q k) = no_fault (lit< tt)
  answering (tick-wait-true w q k l) = no_fault (lit< tt)
  answering (tick-taken w q k l h i) = no_fault (lit< tt)
  answering (fault-above f) = faults-above refl f
  answering (fault-below f) = faults-below refl f

  -- a fault ends the run, and leaves values and modes as they were
  pub fault_ends : {side : Side} → Faults ed p c x vs ms e side → (step ed p c (at x vs ms) e).left ≡ over vs ms
  fault_ends f = ap (λ (o : Answered S). o.left) (fault-step ed p c f)

  fault-answered : {side : Side} → Faults ed p c x vs ms e side → (step ed p c (at x vs ms) e).answer ≡ fault_answer side
  fault-answered f = ap (λ (o : Answered S). o.answer) (fault-step ed p c f)

  -- one side only
  pub one_side : Faults ed p c x vs ms e above → Faults ed p c x vs ms e below → ⊥
  unfolding fault_answer
  one_side f g = let h : ◌≡◌ {A = ℕ} 203 204 = sym (fault-answered f) ∙ fault-answered g in omega (arith, h)

  module _ (sound : Sound p c) (stand : Standing c (at x vs ms)) where
    told : Answering (step ed p c (at x vs ms) e).answer
    told = answering (rule-of ed p c sound (at x vs ms) stand e)

    pub above-203 : ((step ed p c (at x vs ms) e).answer ≡ 203) ↔ Faults ed p c x vs ms e above
    unfolding fault_answer
    above-203 = (go told, fault-answered)
      where
        go : {a : ℕ} → Answering a → a ≡ 203 → Faults ed p c x vs ms e above
        go (no_fault l) h = absurd (omega arith)
        go (faults-above i f) h = f
        go (faults-below i f) h = absurd (omega arith)

    pub below-204 : ((step ed p c (at x vs ms) e).answer ≡ 204) ↔ Faults ed p c x vs ms e below
    unfolding fault_answer
    below-204 = (go told, fault-answered)
      where
        go : {a : ℕ} → Answering a → a ≡ 204 → Faults ed p c x vs ms e below
        go (no_fault l) h = absurd (omega arith)
        go (faults-above i f) h = absurd (omega arith)
        go (faults-below i f) h = f

-- ---- a run faults once at most: after the end every event is turned away
module _ {S : Type 0} (ed : Edition) (p : Plant) (c : Control S) where
  over-step : (s : Situation S) → s.place ≡ none → (e : List ℕ) → step ed p c s e ≡ turned_away_by 23 s
  unfolding step
  over-step s h e = rw h refl

  none_after : (s : Situation S) → s.place ≡ none → (es : List (List ℕ)) → how_many is_faulted (answers_in (answers ed p c s es)) ≡ 0
  unfolding answers how_many is_faulted within turned_away_by
  none_after s h [] = refl
  none_after s h (e ∷ es) = ap (λ (o : Answered S). how_many is_faulted (o.answer ∷ answers_in (answers ed p c o.left es))) (over-step s h e) ∙ none_after s h es

  -- the answer a of an event, and the answers after it
  one_more : (a : ℕ) (l : List ℕ) → (is_faulted a ≡ true → how_many is_faulted l ≡ 0) → how_many is_faulted l ≤ 1 → how_many is_faulted (a ∷ l) ≤ 1
  one_more a l f h =
      by_cases (is_faulted a) (λ e. let k = f e in let j = counted is_faulted a l e in omega arith) (λ e. let j = uncounted is_faulted a l e in omega arith)

  pub faults-once : (s : Situation S) (es : List (List ℕ)) → how_many is_faulted (answers_in (answers ed p c s es)) ≤ 1
  unfolding answers how_many
  faults-once s [] = omega arith
  faults-once s (e ∷ es) =
      let o = step ed p c s e in
      one_more o.answer (answers_in (answers ed p c o.left es)) (λ h. none_after o.left ((step-stepped ed p c s e).fault_ends h) es) (faults-once o.left es)
