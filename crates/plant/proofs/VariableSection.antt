-- The variable section: its size, the values at a place, and what the answer says of each variable.
use mathlib.Core.Path.{◌≡◌, refl, sym, ap, ◌∙◌}
use mathlib.Core.Bool.{Bool, true, false, cond, ◌&&◌}
use Rattle.std.specs.Ordering.{is_le, int_cmp}
use Rattle.std.specs.declared.cmp.Ordering.TheVariants.{Less, Equal, Greater}
use mathlib.Core.List.{List, [], ◌∷◌, ◌++◌, append_assoc, append-nil}
use mathlib.Core.Option.{Option, none, some}
use Prim.Native.Nat.{ℕ, zero, suc, ◌+◌, ◌-◌, ◌*◌, ◌≤◌, ◌<◌}
use native.Mathlib.Nat.{add-zero, sub-zero}
use native.Mathlib.Omega.{arith}
use borrow.Author.Tests.{ltb-true, ltb-false, le-leb, lt-leb}
use lib.IntN.{ℤ, pos, negsuc}
use lib.Signed.{le_z, lt_z, mag}
use mir.Syntax.{w32}
use mir.Val.{to_z, of_z}
use mir.ValLaws.{to_z-of_z}
use lib.ListN.{length, get_or, set, drop, length-append}
use Rattle.semantics.specs.Bytes.{every, within, signed, read, and_then, ◌>>=◌, give, guard, byte, times, just, whole}
use Rattle.semantics.specs.Editions.{Edition}
use Rattle.semantics.specs.Refusals.{refused, accepted}
use Rattle.semantics.specs.Sections.{Variable, read_variable, read_variables, variables_in}
use Rattle.semantics.specs.Plant.{ordered, judge_variables}
use Rattle.semantics.proofs.Facts.{some_is, true-not-false, within_low, within-high, within_both}
use Rattle.semantics.proofs.Readers.{read-rest, read-value, split, given, guarded, byte-read, whole-read}
use Rattle.semantics.proofs.PlantPassed.{variables-accepted}
use Rattle.paper.specs.Refusals.{answered}
use Rattle.paper.proofs.Answered.{refuses-with, accepts-with}
use Rattle.codec.proofs.Padding.{pad-map-snoc}
use Rattle.codec.proofs.Reading.{nat4_at, int4-at, drop_past, drop-some}
use Rattle.codec.proofs.Known.{cons, times-length}
use Rattle.plant.specs.declared.variables.Variables.{Variables}
use Rattle.plant.proofs.VariableAnswer.{refused-5}
use Rattle.plant.specs.Variables.{column, accepted_variables, VariablesStand}
use Rattle.plant.proofs.Turns.{every-next, every-not}
use Rattle.plant.proofs.Costs.{Costs, costs-give, costs-then, costs-int4, costs-times}

-- ---- size
costs-variable : (ed : Edition) → Costs (read_variable ed) 12
unfolding read_variable
costs-variable ed = costs-then costs-int4 (λ low. costs-then costs-int4 (λ high. costs-then costs-int4 (λ first. costs-give (record { minimum = low; maximum = high; initial = first }))))

pub sized_of : (ed : Edition) (s : List ℕ) {vs : List Variable} → variables_in ed s ≡ some vs → VariablesStand s (get_or s 0 0)
unfolding variables_in read_variables
sized_of ed s h =
    let k = split byte _ (whole-read (read_variables ed) s h) in
    let g = guarded (within 1 32 k.value) _ k.then in
    let b = byte-read s k.first in
    let z = (costs-times k.value (costs-variable ed)).spent k.rest g.1 in
    let n : get_or s 0 0 ≡ k.value = ap (λ l. get_or l 0 0) b in
    record {
      first = refl;
      low = omega (arith, within_low 1 32 k.value g.0);
      high = omega (arith, within-high 1 32 k.value g.0);
      size = omega (arith, ap length b);
    }

none-if : {A : Type 0} (o : Option A) → ((a : A) → o ≡ some a → ⊥) → o ≡ none
none-if none f = refl
none-if (some a) f = absurd (f a refl)

-- ---- the variable at a place
abbrev pub variable_at : List ℕ → ℕ → Variable
variable_at s p = record { minimum = signed (nat4_at s p); maximum = signed (nat4_at s (p + 4)); initial = signed (nat4_at s (p + 8)) }

pub variable-at : (ed : Edition) (s : List ℕ) (p : ℕ) → p + 12 ≤ length s → read_variable ed (drop p s) ≡ read (variable_at s p) (drop (p + 4 + 4 + 4) s)
unfolding read_variable ◌>>=◌ and_then give
variable-at ed s p h = let e : p + 8 ≡ p + 4 + 4 = omega arith in rw (int4-at s p (omega arith), int4-at s (p + 4) (omega arith), int4-at s (p + 4 + 4) (omega arith), e) refl

-- n variables from a place on are there where their bytes are
many : (ed : Edition) (s : List ℕ) (n p : ℕ) → p + 12 * n ≤ length s → (vs : List Variable) × (times n (read_variable ed) (drop p s) ≡ read vs (drop (p + 12 * n) s))
unfolding times ◌>>=◌ and_then give
many ed s zero p h = ([], rw add-zero refl)
many ed s (suc n) p h =
    let m = many ed s n (p + 4 + 4 + 4) (omega arith) in
    let e : p + 4 + 4 + 4 + 12 * n ≡ p + 12 * suc n = omega arith in
    (variable_at s p ∷ m.0, rw (variable-at ed s p (omega arith), m.1, e) refl)

-- all variables of a section that has the right size
pub record Section (ed : Edition) (s : List ℕ) (n : ℕ) (vs : List Variable) : Type 0 where
  pub got : times n (read_variable ed) (drop 1 s) ≡ read vs []
  pub is : variables_in ed s ≡ some vs

section-is : (ed : Edition) (n : ℕ) (l : List ℕ) {vs : List Variable} → within 1 32 n ≡ true → times n (read_variable ed) l ≡ read vs [] → variables_in ed (n ∷ l) ≡ some vs
unfolding variables_in read_variables whole just ◌>>=◌ and_then byte guard
section-is ed n l w g = rw (w, g) refl

pub section-of : (ed : Edition) (s : List ℕ) (n : ℕ) → VariablesStand s n → (vs : List Variable) × Section ed s n vs
section-of ed s n z =
    let i = z.size in
    let m = many ed s n 1 (omega arith) in
    let g = m.1 ∙ ap (read m.0) (drop_past (1 + 12 * n) s (omega arith)) in
    let e : s ≡ n ∷ drop 1 s = drop-some 0 s (omega arith) ∙ ap (λ b. b ∷ drop 1 s) z.first in
    (m.0, record { got = g; is = ap (variables_in ed) e ∙ section-is ed n (drop 1 s) (within_both 1 32 n z.low z.high) g })

-- the first byte counts the variables
pub length-is : (ed : Edition) (s : List ℕ) {vs : List Variable} → variables_in ed s ≡ some vs → length vs ≡ get_or s 0 0
length-is ed s h =
    let k = section-of ed s (get_or s 0 0) (sized_of ed s h) in
    ap length (some_is (sym h ∙ k.1.is)) ∙ times-length (read_variable ed) (get_or s 0 0) (drop 1 s) k.1.got

-- ---- the count
pub not-counted : (s : List ℕ) → (VariablesStand s (get_or s 0 0) → ⊥) → (ed : Edition) → variables_in ed s ≡ none
not-counted s f ed = none-if (variables_in ed s) (λ vs h. f (sized_of ed s h))

-- ---- arrays
column-more : (f : Variable → ℤ) (vs : List Variable) (v : Variable) (i : ℕ) (z : ℤ) → z ≡ f v → length vs ≡ i → i < 32 → set (column f vs) i z ≡ column f (vs ++ (v ∷ []))
unfolding column
column-more f vs v i z e k h = rw e (pad-map-snoc 32 (pos 0) f vs i v k h)

-- ---- order
not-less : (a b : ℤ) → lt_z a b ≡ true → le_z b a ≡ false
not-less (pos a) (pos b) h = lt-leb b a (ltb-true a b h)
not-less (pos a) (negsuc b) h = true-not-false (sym h)
not-less (negsuc a) (pos b) h = refl
not-less (negsuc a) (negsuc b) h = lt-leb a b (ltb-true b a h)

not_more : (a b : ℤ) → lt_z a b ≡ false → le_z b a ≡ true
not_more (pos a) (pos b) h = le-leb b a (ltb-false a b h)
not_more (pos a) (negsuc b) h = refl
not_more (negsuc a) (pos b) h = true-not-false h
not_more (negsuc a) (negsuc b) h = le-leb a b (ltb-false b a h)

-- a number that is read back from its bits
pub value : {z x : ℤ} → mag z < 2147483648 → z ≡ x → to_z w32 (of_z w32 z) ≡ x
value {z} h e = to_z-of_z w32 z (record { sfits = h }) ∙ e

pub not-both : (a b : ℤ) → lt_z a b ≡ true → lt_z b a ≡ true → ⊥
not-both (pos a) (pos b) h k = let x = ltb-true a b h in let y = ltb-true b a k in omega arith
not-both (pos a) (negsuc b) h k = true-not-false (sym h)
not-both (negsuc a) (pos b) h k = true-not-false (sym k)
not-both (negsuc a) (negsuc b) h k = let x = ltb-true b a h in let y = ltb-true a b k in omega arith

-- what `<=` answers of signed numbers
le_as : (a b : ℤ) → is_le (int_cmp a b) ≡ le_z a b
le_as a b = go (lt_z a b) (lt_z b a) refl refl
  where
    go : (s t : Bool) → lt_z a b ≡ s → lt_z b a ≡ t → is_le (cond (lt_z a b) Less (cond (lt_z b a) Greater Equal)) ≡ le_z a b
    go true true e f = absurd (not-both a b e f)
    go true false e f = rw (e, not_more b a f) refl
    go false true e f = rw (e, f, not-less b a f) refl
    go false false e f = rw (e, f, not_more b a f) refl

-- a range's test of the initial value
pub tested : (v : Variable) {low high first : ℤ} {b : Bool} → low ≡ v.minimum → high ≡ v.maximum → first ≡ v.initial → b ≡ (is_le (int_cmp low first) && is_le (int_cmp first high)) → ordered v ≡ b
unfolding ordered
tested v e f g h = sym (rw (e, f, g, le_as v.minimum v.initial, le_as v.initial v.maximum) at h)

-- ---- the answer
answer-is : (vs : List Variable) (n : ℕ) (lows highs initials : List ℤ) → n ≡ length vs → lows ≡ column (λ (v : Variable). v.minimum) vs → highs ≡ column (λ (v : Variable). v.maximum) vs → initials ≡ column (λ (v : Variable). v.initial) vs → ◌≡◌ {A = Variables} (record { count = n; lows = lows; highs = highs; initials = initials }) (accepted_variables vs)
unfolding accepted_variables
answer-is vs n lows highs initials a b c d = λ i. record { count = a i; lows = b i; highs = c i; initials = d i }

-- ---- the loop: i variables are noted, and the others stand behind them
pub record Going (ed : Edition) (s : List ℕ) (n i : ℕ) (lows highs initials : List ℤ) : Type 0 where
  pub all : List Variable
  pub is : variables_in ed s ≡ some all
  pub done : List Variable
  pub rest : List Variable
  pub got : times (n - i) (read_variable ed) (drop (1 + 12 * i) s) ≡ read rest []
  pub join : done ++ rest ≡ all
  pub so_far : every ordered all ≡ every ordered rest
  pub many : length done ≡ i
  pub lows_are : lows ≡ column (λ (v : Variable). v.minimum) done
  pub highs_are : highs ≡ column (λ (v : Variable). v.maximum) done
  pub initials_are : initials ≡ column (λ (v : Variable). v.initial) done

pub going_start : (ed : Edition) (s : List ℕ) (n : ℕ) → VariablesStand s n → Going ed s n 0 (column (λ (v : Variable). v.minimum) []) (column (λ (v : Variable). v.maximum) []) (column (λ (v : Variable). v.initial) [])
going_start ed s n z =
    let k = section-of ed s n z in
    record {
      all = k.0;
      is = k.1.is;
      done = [];
      rest = k.0;
      got = rw sub-zero k.1.got;
      join = refl;
      so_far = refl;
      many = refl;
      lows_are = refl;
      highs_are = refl;
      initials_are = refl;
    }

module _ (ed : Edition) {s : List ℕ} {n i : ℕ} {lows highs initials : List ℤ} (g : Going ed s n i lows highs initials) (h : i < n) (k : 1 + 12 * i + 12 ≤ length s) where
  p : ℕ
  p = 1 + 12 * i

  -- the variable at p is the next one
  record Next : Type 0 where
    tail : List Variable
    rest-is : g.rest ≡ variable_at s (1 + 12 * i) ∷ tail
    tail-got : times (n - (i + 1)) (read_variable ed) (drop (1 + 12 * (i + 1)) s) ≡ read tail []

  next : Next
  unfolding p
  next =
      let e : n - i ≡ suc (n - (i + 1)) = omega arith in
      let c = cons (read_variable ed) (n - (i + 1)) (ap (λ m. times m (read_variable ed) (drop p s)) (sym e) ∙ g.got) in
      let v = sym c.first ∙ variable-at ed s p k in
      let q : 1 + 12 * (i + 1) ≡ p + 4 + 4 + 4 = omega arith in
      record {
        tail = c.tail;
        rest-is = sym c.is ∙ ap (λ x. x ∷ c.tail) (read-value v);
        tail-got = ap (times (n - (i + 1)) (read_variable ed)) (ap (λ z. drop z s) q ∙ sym (read-rest v)) ∙ c.rest;
      }

  pub stopped : ordered (variable_at s (1 + 12 * i)) ≡ false → refused 5 ≡ answered accepted_variables (judge_variables ed s)
  unfolding p
  stopped o = refuses-with accepted_variables (refused-5 ed s g.is (g.so_far ∙ ap (every ordered) next.rest-is ∙ every-not ordered (variable_at s p) next.tail o))

  pub going_next : ordered (variable_at s (1 + 12 * i)) ≡ true → (low high first : ℤ) → low ≡ (variable_at s (1 + 12 * i)).minimum → high ≡ (variable_at s (1 + 12 * i)).maximum → first ≡ (variable_at s (1 + 12 * i)).initial → i < 32
      → Going ed s n (i + 1) (set lows i low) (set highs i high) (set initials i first)
  unfolding p
  going_next o low high first a b d j = record {
    all = g.all;
    is = g.is;
    done = g.done ++ (variable_at s p ∷ []);
    rest = next.tail;
    got = next.tail-got;
    join = append_assoc g.done (variable_at s p ∷ []) next.tail ∙ ap (λ l. g.done ++ l) (sym next.rest-is) ∙ g.join;
    so_far = g.so_far ∙ ap (every ordered) next.rest-is ∙ every-next ordered (variable_at s p) next.tail o;
    many = length-append g.done (variable_at s p ∷ []) ∙ ap (λ m. m + 1) g.many;
    lows_are = ap (λ l. set l i low) g.lows_are ∙ column-more (λ (v : Variable). v.minimum) g.done (variable_at s p) i low a g.many j;
    highs_are = ap (λ l. set l i high) g.highs_are ∙ column-more (λ (v : Variable). v.maximum) g.done (variable_at s p) i high b g.many j;
    initials_are = ap (λ l. set l i first) g.initials_are ∙ column-more (λ (v : Variable). v.initial) g.done (variable_at s p) i first d g.many j;
  }

pub ended : (ed : Edition) {s : List ℕ} {n i : ℕ} {lows highs initials : List ℤ} → Going ed s n i lows highs initials → i ≡ n
    → accepted (record { count = n; lows = lows; highs = highs; initials = initials }) ≡ answered accepted_variables (judge_variables ed s)
unfolding every times
ended ed {s} {n} {i} {lows} {highs} {initials} g e =
    let p = 1 + 12 * i in
    let z : n - i ≡ 0 = omega arith in
    let r : g.rest ≡ [] = sym (given [] (drop p s) (ap (λ m. times m (read_variable ed) (drop p s)) (sym z) ∙ g.got)) in
    let o : every ordered g.all ≡ true = g.so_far ∙ ap (every ordered) r in
    let d : g.done ≡ g.all = sym (append-nil g.done) ∙ ap (λ l. g.done ++ l) (sym r) ∙ g.join in
    accepts-with accepted_variables (variables-accepted ed s (record { is = g.is; in_order = o }))
    (answer-is g.done n lows highs initials (sym e ∙ sym g.many) g.lows_are g.highs_are g.initials_are ∙ ap accepted_variables d)
