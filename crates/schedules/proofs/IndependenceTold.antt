-- What the tests of Independent tell is just what the relations of Independence say: no CASE, a variable in a statement, two events taken.
use mathlib.Core.Path.{◌≡◌, refl, sym, ap, subst, ◌∙◌}
use mathlib.Core.Bool.{true, false, ◌||◌}
use mathlib.Core.List.Memᴰ
use mathlib.Core.List.Memᴰ.{head as first}
use mathlib.Core.List.Memᴰ.{tail as later}
use mathlib.Core.List.{List, [], ◌∷◌, ◌++◌, append_assoc, Memᴰ as Mem}
use mathlib.Core.Logic.{◌↔◌, inl, inr, ⊎_elim}
use mathlib.Core.Option.{Option, none, some}
use Prim.Native.Nat.{ℕ, ◌<◌}
use native.Mathlib.Omega.{arith}
use borrow.Author.Tests.{eqb-true, eq-eqb}
use lib.Dec.{eqb}
use lib.IntN.{ℤ}
use Rattle.semantics.specs.Bytes.{is_some, within, out4}
use Rattle.semantics.specs.Editions.{Edition}
use Rattle.semantics.specs.Expressions.{Operation, sum, difference, product, Number, constant, variable, operate, negation, operation_code, number_bytes, number_in}
use Rattle.semantics.specs.Sections.{Selector, Equation, steady, choice}
use Rattle.semantics.specs.Plant.{selectors, selectors_of}
use Rattle.semantics.specs.Run.{Situation, step, is_taken}
use Rattle.semantics.specs.Rules.{Standing, Sound}
use Rattle.semantics.specs.Writing.{AllBytes}
use Rattle.semantics.proofs.Facts.{true-not-false, and_left, and_right, and_both, within_low, within-high, within_both, some_of, All}
use Rattle.semantics.proofs.ProperForms.{number-written}
use Rattle.semantics.proofs.StepRules.{step-rules, rule-of, step_of, rule-standing}
use Rattle.schedules.specs.Residuals.{Residual}
use Rattle.schedules.specs.Files.{Schedule, rule_control}
use Rattle.schedules.specs.Independent.{WithoutCase, occurs, occurs_in, in_statement, second, both_taken}
use Rattle.schedules.specs.IndependenceRules.{NoCase, Occurs, is_variable, in_left, in_right, in_negation, InStatement, Taken, BothTaken}
use Rattle.schedules.proofs.Reachable.{or_left, or_right}
use Rattle.schedules.proofs.ActingApart.{or_cases}

-- ---- no CASE
none-listed : (es : List Equation) → selectors_of es ≡ [] → (c : Selector) → Mem (choice c) es → ⊥
unfolding selectors_of
none-listed [] e c m = Memᴰ.not-nil m
none-listed (steady r ∷ es) e c m = ⊎_elim (λ q. (let z : ◌≡◌ {A = ℕ} 0 1 = cc in omega arith)) (λ k. none-listed es e c k) (Memᴰ.cases_cons m)
none-listed (choice d ∷ es) e c m = let z : ◌≡◌ {A = ℕ} 0 1 = cc in omega arith

none-there : (es : List Equation) → ((c : Selector) → Mem (choice c) es → ⊥) → selectors_of es ≡ []
unfolding selectors_of
none-there [] f = refl
none-there (steady r ∷ es) f = none-there es (λ c m. f c (later m))
none-there (choice d ∷ es) f = absurd (f d (first refl))

pub no-case-is : (s : Schedule) → WithoutCase s ↔ NoCase s
unfolding selectors
no-case-is s = (none-listed s.plant.equations, none-there s.plant.equations)

-- ---- a variable in a number
module _ (v : ℕ) where
  occurs-there : (e : Number) → occurs v e ≡ true → Occurs v e
  unfolding occurs
  occurs-there (constant z) h = true-not-false (sym h)
  occurs-there (variable w) h = subst (λ u. Occurs u (variable w)) (eqb-true w v h) is_variable
  occurs-there (operate o a b) h = ⊎_elim (λ k. in_left (occurs-there a k)) (λ k. in_right (occurs-there b k)) (or_cases (occurs v a) (occurs v b) h)
  occurs-there (negation a) h = in_negation (occurs-there a h)

  occurs-here : {e : Number} → Occurs v e → occurs v e ≡ true
  unfolding occurs
  occurs-here is_variable = eq-eqb v v refl
  occurs-here (in_left {b = b} h) = or_left (occurs v b) (occurs-here h)
  occurs-here (in_right {a = a} h) = or_right (occurs v a) (occurs-here h)
  occurs-here (in_negation h) = occurs-here h

pub occurs-is : (v : ℕ) (e : Number) → (occurs v e ≡ true) ↔ Occurs v e
occurs-is v e = (occurs-there v e, occurs-here v)

-- ---- in the bytes of a number
-- Bytes tell a number but for constants of more than 32 bits, and in a constant no variable occurs.
heads : {m n : ℕ} {l k : List ℕ} → m ∷ l ≡ n ∷ k → m ≡ n
heads e = cc

operation-code : (o : Operation) → within 16 18 (operation_code o) ≡ true
unfolding operation_code within
operation-code sum = refl
operation-code difference = refl
operation-code product = refl

no-operation : {C : Type 0} (o : Operation) {n : ℕ} {l k : List ℕ} → operation_code o ∷ l ≡ n ∷ k → within 16 18 n ≡ false → C
no-operation o e h = true-not-false (sym (operation-code o) ∙ ap (within 16 18) (heads e) ∙ h)

other-form : {C : Type 0} {m n : ℕ} {l k : List ℕ} → m ∷ l ≡ n ∷ k → eqb m n ≡ false → C
other-form {m = m} {n = n} e h = true-not-false (sym (eq-eqb m n (heads e)) ∙ h)

module _ (ed : Edition) (v : ℕ) where
  record Alike (x y : Number) (s t : List ℕ) : Type 0 where
    occurs-too : Occurs v x → Occurs v y
    rest : s ≡ t

  alike-constants : {a b : ℤ} {s t : List ℕ} → s ≡ t → Alike (constant a) (constant b) s t
  alike-constants {a} {b} e = record { occurs-too = go; rest = e }
    where
      go : Occurs v (constant a) → Occurs v (constant b)
      go h = absurd (elim h [ ])

  alike-negations : {a b : Number} {s t : List ℕ} → Alike a b s t → Alike (negation a) (negation b) s t
  alike-negations {a} {b} h = record { occurs-too = go; rest = h.rest }
    where
      go : Occurs v (negation a) → Occurs v (negation b)
      go (in_negation k) = in_negation (h.occurs-too k)

  alike-operations : {o p : Operation} {a b c d : Number} {s t i j : List ℕ} → Alike a b i j → Alike c d s t → Alike (operate o a c) (operate p b d) s t
  alike-operations {o} {p} {a} {b} {c} {d} h k = record { occurs-too = go; rest = k.rest }
    where
      go : Occurs v (operate o a c) → Occurs v (operate p b d)
      go (in_left i) = in_left (h.occurs-too i)
      go (in_right i) = in_right (k.occurs-too i)

  alike : (x y : Number) (s t : List ℕ) → number_bytes ed x ++ s ≡ number_bytes ed y ++ t → Alike x y s t
  unfolding number_bytes out4 within
  alike (constant a) (constant b) s t e = alike-constants (cc)
  alike (constant a) (variable w) s t e = other-form e refl
  alike (constant a) (operate o b c) s t e = no-operation o (sym e) refl
  alike (constant a) (negation b) s t e = other-form e refl
  alike (variable u) (constant b) s t e = other-form e refl
  alike (variable u) (variable w) s t e = let q : u ≡ w = cc in record { occurs-too = λ h. rw (← q) h; rest = cc }
  alike (variable u) (operate o b c) s t e = no-operation o (sym e) refl
  alike (variable u) (negation b) s t e = other-form e refl
  alike (operate o a c) (constant b) s t e = no-operation o e refl
  alike (operate o a c) (variable w) s t e = no-operation o e refl
  alike (operate o a c) (operate p b d) s t e =
      let n = number_bytes ed in
      let f : (n a ++ n c) ++ s ≡ (n b ++ n d) ++ t = cc in
      let h = alike a b (n c ++ s) (n d ++ t) (sym (append_assoc (n a) (n c) s) ∙ f ∙ append_assoc (n b) (n d) t) in
      alike-operations h (alike c d s t h.rest)
  alike (operate o a c) (negation b) s t e = no-operation o e refl
  alike (negation a) (constant b) s t e = other-form e refl
  alike (negation a) (variable w) s t e = other-form e refl
  alike (negation a) (operate o b c) s t e = no-operation o (sym e) refl
  alike (negation a) (negation b) s t e = let f : number_bytes ed a ++ s ≡ number_bytes ed b ++ t = cc in alike-negations (alike a b s t f)

module _ (ed : Edition) (variables v w : ℕ) (e : List ℕ) where
  number-there : (o : Option Number) → number_in ed variables e ≡ o → elim o [ none ↦ false | some x ↦ occurs v x ] ≡ true → AllBytes e → (x : Number) × (number_bytes ed x ≡ e) × Occurs v x
  number-there none q h z = true-not-false (sym h)
  number-there (some x) q h z = (x, ((number-written ed variables e x z).0 q).0, (occurs-is v x).0 h)

  pub statement-is : All (λ b. b < 256) e → is_some (number_in ed variables e) ≡ true → (in_statement ed variables v w e ≡ true) ↔ InStatement ed v w e
  unfolding in_statement occurs_in
  statement-is z r = (there, here)
    where
      there : (eqb w v || occurs_in ed variables v e) ≡ true → InStatement ed v w e
      there h = ⊎_elim (λ k. inl (eqb-true w v k)) (λ k. inr (number-there (number_in ed variables e) refl k z)) (or_cases (eqb w v) (occurs_in ed variables v e) h)

      here : InStatement ed v w e → (eqb w v || occurs_in ed variables v e) ≡ true
      here (inl q) = or_left (occurs_in ed variables v e) (eq-eqb w v q)
      here (inr k) =
          let y = some_of (number_in ed variables e) r in
          let b = ((number-written ed variables e y.0 z).0 y.1).0 in
          let a = alike ed v k.0 y.0 [] [] (ap (λ l. l ++ []) (k.1 ∙ sym b)) in
          or_right (eqb w v) (rw (y.1, occurs_in) ((occurs-is v y.0).1 (a.occurs-too k.2)))

-- ---- taken
taken_is : (n : ℕ) → (is_taken n ≡ true) ↔ Taken n
unfolding is_taken
taken_is n = (λ h. record { from_200 = within_low 200 202 n h; to_202 = within-high 200 202 n h }, λ h. within_both 200 202 n h.from_200 h.to_202)

module _ (ed : Edition) (s : Schedule) (sound : Sound s.plant (rule_control s)) where
  both-there : {x end : Situation Residual} {e f : List ℕ} {answer : ℕ} → Standing (rule_control s) x → BothTaken ed s x e f answer end →
      (both_taken ed s x e f ≡ true) × (second ed s x e f ≡ record { answer = answer; left = end })
  unfolding second both_taken
  both-there {answer = answer} stand h =
      let a = step_of ed s.plant (rule_control s) sound stand h.first in
      let b = step_of ed s.plant (rule_control s) sound (rule-standing ed s.plant (rule_control s) stand h.first) h.second in
      (rw (a, b) (and_both ((taken_is h.first-answer).1 h.first_taken) ((taken_is answer).1 h.second-taken)), rw (a, b) refl)

  both-here : (x : Situation Residual) → Standing (rule_control s) x → (e f : List ℕ) (answer : ℕ) (end : Situation Residual) →
      both_taken ed s x e f ≡ true → second ed s x e f ≡ record { answer = answer; left = end } → BothTaken ed s x e f answer end
  unfolding second both_taken
  both-here x stand e f answer end h k =
      let one = step ed s.plant (rule_control s) x e in
      let two = second ed s x e f in
      let r = rule-of ed s.plant (rule_control s) sound x stand e in
      let t = and_right (is_taken one.answer) (is_taken two.answer) h in
      record {
        between = one.left;
        first-answer = one.answer;
        first = r;
        first_taken = (taken_is one.answer).0 (and_left (is_taken one.answer) (is_taken two.answer) h);
        second = (step-rules ed s.plant (rule_control s) sound one.left (rule-standing ed s.plant (rule_control s) stand r) f answer end).0 k;
        second-taken = (taken_is answer).0 (rw k at t);
      }

pub both_is : (ed : Edition) (s : Schedule) → Sound s.plant (rule_control s) → (x : Situation Residual) → Standing (rule_control s) x → (e f : List ℕ) (answer : ℕ) (end : Situation Residual) →
    BothTaken ed s x e f answer end ↔ ((both_taken ed s x e f ≡ true) × (second ed s x e f ≡ record { answer = answer; left = end }))
both_is ed s sound x stand e f answer end = (both-there ed s sound stand, λ h. both-here ed s sound x stand e f answer end h.0 h.1)
