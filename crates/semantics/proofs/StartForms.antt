-- 20 lets a start pass just where its bytes are those of a value in range for each variable and an existing mode for each CASE.
use mathlib.Core.Path.{◌≡◌, refl, sym, ap, subst, ◌∙◌}
use mathlib.Core.Bool.{true, false, not}
use mathlib.Core.List.{List, [], ◌∷◌, ◌++◌, flat_map}
use mathlib.Core.Logic.{◌↔◌}
use mathlib.Core.Option.{Option, none, some}
use Prim.Native.Nat.{ℕ, suc, ◌<◌}
use native.Mathlib.Omega.{arith}
use borrow.Author.Tests.{ltb-true, lt-ltb, leb-true, le-leb}
use lib.Dec.{ltb}
use lib.IntN.{ℤ, pos, negsuc}
use lib.Signed.{le_z}
use lib.ListN.{length}
use Rattle.semantics.specs.Bytes.{byte, int4, times}
use Rattle.semantics.specs.Editions.{Edition}
use Rattle.semantics.specs.Expressions.{Value, ok, fault, then_value, fits32}
use Rattle.semantics.specs.Sections.{Variable, Selector, Equation, steady, choice}
use Rattle.semantics.specs.Plant.{Plant, selectors, selectors_of, declared, all_declared}
use Rattle.semantics.specs.Run.{value_bytes}
use Rattle.semantics.specs.Starts.{Start, read_start, start_in, is_ok, modes_fit, fits_start}
use Rattle.semantics.specs.Conditions.{given, is20}
use Rattle.semantics.specs.Rules.{InRange}
use Rattle.semantics.specs.Writing.{AllBytes, VariableLimits, SelectorLimits, PayloadLimits, choice_within, EquationLimits, PlantLimits, start_bytes, Each, each_nil, each_cons, HasMode, StartLimits}
use Rattle.semantics.proofs.Facts.{true-not-false, and_left, and_right, and_both, by_cases, All, all_nil, all_cons, all_append, all_map, all-flat}
use Rattle.semantics.proofs.Readers.{Reads, reads_then, reads-last, reads_byte, reads_times}
use Rattle.semantics.proofs.StepParts.{inside-declared, outside-declared, Lies, lies_inside, lies_outside, lies}
use Rattle.semantics.proofs.TakenBytes.{Is, Takes, takes-then, takes-last, takes-byte, takes-int4, takes-times, Exact, exact}
use Rattle.semantics.proofs.SectionForms.{reads-value, value_written}

-- ---- one for each
pub each-length : {A B : Type 0} {R : A → B → Type 0} {l : List A} {k : List B} → Each R l k → length k ≡ length l
each-length each_nil = refl
each-length (each_cons h e) = ap suc (each-length e)

-- a property of the first ones, and what it makes of the second ones
each_all : {A B : Type 0} {R : A → B → Type 0} {P : A → Type 0} {Q : B → Type 0} {l : List A} {k : List B} → ((a : A) (b : B) → P a → R a b → Q b) → All P l → Each R l k → All Q k
each_all f all_nil each_nil = all_nil
each_all f (all_cons {x = a} p q) (each_cons {b = b} h e) = all_cons (f a b p h) (each_all f q e)

-- ---- values in range
range-passed : (x : Variable) (z : ℤ) → is_ok (declared x z) ≡ true → InRange x z
unfolding is_ok
range-passed x z h = go (lies x z)
  where
    go : Lies x z → InRange x z
    go (lies_inside i) = i
    go (lies_outside o) = true-not-false (sym h ∙ ap is_ok (outside-declared o))

then-passed : {A B : Type 0} (v : Value A) (w : Value B) {C : Type 0} (f : A → B → C) → is_ok (then_value v (λ a. then_value w (λ b. ok (f a b)))) ≡ true → (is_ok v ≡ true) × (is_ok w ≡ true)
unfolding is_ok then_value
then-passed (ok a) (ok b) f h = (refl, refl)
then-passed (ok a) (fault s) f h = true-not-false (sym h)
then-passed (fault s) w f h = true-not-false (sym h)

pub values-passed : (xs : List Variable) (zs : List ℤ) → length zs ≡ length xs → is_ok (all_declared xs zs) ≡ true → Each InRange xs zs
unfolding all_declared
values-passed [] [] e h = each_nil
values-passed [] (z ∷ zs) e h = absurd (omega arith)
values-passed (x ∷ xs) [] e h = absurd (omega arith)
values-passed (x ∷ xs) (z ∷ zs) e h =
    let k = then-passed (declared x z) (all_declared xs zs) _ h in
    each_cons (range-passed x z k.0) (values-passed xs zs (omega arith) k.1)

values-pass : {xs : List Variable} {zs : List ℤ} → Each InRange xs zs → all_declared xs zs ≡ ok zs
unfolding all_declared then_value
values-pass each_nil = refl
values-pass (each_cons {a = x} {b = z} h e) = rw (inside-declared h, values-pass e) refl

le_trans : (a b c : ℤ) → le_z a b ≡ true → le_z b c ≡ true → le_z a c ≡ true
le_trans (pos a) (pos b) (pos c) h k = let i = leb-true a b h in let j = leb-true b c k in le-leb a c (omega arith)
le_trans (pos a) (pos b) (negsuc c) h k = k
le_trans (pos a) (negsuc b) c h k = true-not-false (sym h)
le_trans (negsuc a) (pos b) (pos c) h k = refl
le_trans (negsuc a) (pos b) (negsuc c) h k = true-not-false (sym k)
le_trans (negsuc a) (negsuc b) (pos c) h k = refl
le_trans (negsuc a) (negsuc b) (negsuc c) h k = let i = leb-true b a h in let j = leb-true c b k in le-leb c a (omega arith)

-- a value between 32-bit values is one
range-fits : (x : Variable) (z : ℤ) → VariableLimits x → InRange x z → fits32 z ≡ true
unfolding fits32
range-fits x z h r = and_both
    (le_trans (negsuc 2147483647) x.minimum z (and_left (le_z (negsuc 2147483647) x.minimum) (le_z x.minimum (pos 2147483647)) h.minimum) r.not_below)
    (le_trans z x.maximum (pos 2147483647) r.not_above (and_right (le_z (negsuc 2147483647) x.maximum) (le_z x.maximum (pos 2147483647)) h.maximum))

-- ---- modes that exist
pub modes-passed : (cs : List Selector) (ms : List ℕ) → length ms ≡ length cs → modes_fit cs ms ≡ true → Each HasMode cs ms
unfolding modes_fit
modes-passed [] [] e h = each_nil
modes-passed [] (m ∷ ms) e h = absurd (omega arith)
modes-passed (c ∷ cs) [] e h = absurd (omega arith)
modes-passed (c ∷ cs) (m ∷ ms) e h =
    let t = ltb m (length c.modes) in
    each_cons (record { exists = ltb-true m (length c.modes) (and_left t (modes_fit cs ms) h) }) (modes-passed cs ms (omega arith) (and_right t (modes_fit cs ms) h))

modes-pass : {cs : List Selector} {ms : List ℕ} → Each HasMode cs ms → modes_fit cs ms ≡ true
unfolding modes_fit
modes-pass each_nil = refl
modes-pass (each_cons {a = c} {b = m} h e) = and_both (lt-ltb m (length c.modes) h.exists) (modes-pass e)

mode-byte : (c : Selector) (m : ℕ) → SelectorLimits c → HasMode c m → m < 256
mode-byte c m h k = let a = h.at_most in let b = k.exists in omega arith

selectors-within : {es : List Equation} → All EquationLimits es → All SelectorLimits (selectors_of es)
unfolding selectors_of
selectors-within all_nil = all_nil
selectors-within (all_cons {x = steady r} h q) = selectors-within q
selectors-within (all_cons {x = choice c} h q) = all_cons (of h.payload) (selectors-within q)
  where
    of : PayloadLimits (choice c) → SelectorLimits c
    of (choice_within k) = k

-- ---- the layout of a start
record Shaped (p : Plant) (st : Start) : Type 0 where
  value_count : length st.values ≡ length p.variables
  values : All (λ z. fits32 z ≡ true) st.values
  mode_count : length st.modes ≡ length (selectors p)
  modes : AllBytes st.modes

one_each : (l : List ℕ) → flat_map (λ n. n ∷ []) l ≡ l
unfolding flat_map
one_each [] = refl
one_each (n ∷ l) = ap (λ l. n ∷ l) (one_each l)

module _ (p : Plant) where
  start-taken : Takes (read_start p) (Is start_bytes (Shaped p))
  unfolding read_start start_bytes
  start-taken =
      takes-then (times (length p.variables) int4) _ (takes-times (length p.variables) int4 takes-int4) (λ vs h.
      takes-last (times (length (selectors p)) byte) _ (takes-times (length (selectors p)) byte takes-byte) (λ ms k. record {
        written = ap (λ w. flat_map value_bytes vs ++ w) (one_each ms);
        fits = record { value_count = h.count; values = h.each; mode_count = k.count; modes = k.each };
      }))

  modes-back : (ms : List ℕ) → AllBytes ms → Reads (times (length ms) byte) ms ms
  modes-back ms h = subst (λ w. Reads (times (length ms) byte) w ms) (one_each ms) (reads_times byte (λ n. n ∷ []) (λ n k. reads_byte n) h)

  start_back : (st : Start) → Shaped p st → Reads (read_start p) (start_bytes st) st
  unfolding read_start start_bytes
  start_back st h = rw (← h.value_count, ← h.mode_count)
      (reads_then (times (length st.values) int4) _ (reads_times int4 value_bytes reads-value h.values) (reads-last (times (length st.modes) byte) _ (modes-back st.modes h.modes)))

  start-written : (st : Start) → Shaped p st → AllBytes (start_bytes st)
  unfolding start_bytes
  start-written st h = all_append (all-flat value_bytes (all_map value_written h.values)) h.modes

  start-form : Exact (read_start p) start_bytes (Shaped p)
  start-form = record { taken = start-taken; back = start_back; in_bytes = start-written }

  -- ---- 20
  module _ (limits : PlantLimits p) where
    pub starts-admitted : (start : List ℕ) (st : Start) → (AllBytes start × (start_in p start ≡ some st) × (fits_start p st ≡ true)) ↔ ((start ≡ start_bytes st) × StartLimits p st)
    unfolding start_in fits_start selectors is_ok
    starts-admitted start st = (there, here)
      where
        there : AllBytes start × (start_in p start ≡ some st) × (fits_start p st ≡ true) → (start ≡ start_bytes st) × StartLimits p st
        there h =
            let a = is_ok (all_declared p.variables st.values) in
            let b = modes_fit (selectors p) st.modes in
            let k = (exact start-form start st).0 (h.0, h.1) in (
              k.0,
              record {
                values = values-passed p.variables st.values k.1.value_count (and_left a b h.2);
                modes = modes-passed (selectors p) st.modes k.1.mode_count (and_right a b h.2);
              },
            )

        shaped : StartLimits p st → Shaped p st
        shaped l = record {
          value_count = each-length l.values;
          values = each_all range-fits limits.variables.each l.values;
          mode_count = each-length l.modes;
          modes = each_all mode-byte (selectors-within limits.equations.each) l.modes;
        }

        here : (start ≡ start_bytes st) × StartLimits p st → AllBytes start × (start_in p start ≡ some st) × (fits_start p st ≡ true)
        here h =
            let k = (exact start-form start st).1 (h.0, shaped h.1) in
            (k.0, k.1, and_both (ap is_ok (values-pass h.1.values)) (modes-pass h.1.modes))

    -- and the sentence itself
    pub start-let-pass : (ed : Edition) (start events buffer : List ℕ) → (AllBytes start × (is20 ed (some p) start events buffer ≡ false)) ↔ ((st : Start) × (start ≡ start_bytes st) × StartLimits p st)
    unfolding is20 given
    start-let-pass ed start events buffer = (there, here)
      where
        there : AllBytes start × (not (given (start_in p start) (fits_start p)) ≡ false) → (st : Start) × (start ≡ start_bytes st) × StartLimits p st
        there h = go (start_in p start) refl h.1
          where
            go : (o : Option Start) → start_in p start ≡ o → not (given o (fits_start p)) ≡ false → (st : Start) × (start ≡ start_bytes st) × StartLimits p st
            go none e k = true-not-false k
            go (some st) e k = let i = (starts-admitted start st).0 (h.0, e, by_cases (fits_start p st) (λ f. f) (λ f. true-not-false (ap not (sym f) ∙ k))) in (st, i.0, i.1)

        here : ((st : Start) × (start ≡ start_bytes st) × StartLimits p st) → AllBytes start × (not (given (start_in p start) (fits_start p)) ≡ false)
        here h = let k = (starts-admitted start h.0).1 (h.1, h.2) in (k.0, rw (k.1, given, k.2) refl)
