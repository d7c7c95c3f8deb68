-- The values with their rates added, one by one.
use mathlib.Core.Path.{◌≡◌, refl, sym, ap, ap₂, ◌∙◌}
use mathlib.Core.Bool.{Bool, true, false, cond}
use mathlib.Core.List.{List, [], ◌∷◌, ◌++◌, append_assoc, append-nil}
use Prim.Native.Nat.{ℕ, zero, suc, ◌+◌, ◌*◌, ◌≤◌, ◌<◌}
use native.Mathlib.Numerals.{add-one}
use native.Mathlib.Omega.{arith}
use native.Mathlib.Decide.{dec_lt}
use borrow.Author.Tests.{ltb-false}
use lib.IntN.{ℤ, pos, negsuc, ◌+ℤ◌}
use lib.Signed.{lt_z}
use lib.ListN.{length, get_or, set, take, drop, length-drop, drop_of_length-le}
use lib.Seq.{drop-cons, take-suc, length-take-le, get_or_at, get_or-take, set_at, take-length}
use mir.Syntax.{w32, w64}
use mir.Val.{SFits, to_z, of_z}
use mir.ValLaws.{to_z-of_z}
use Rattle.semantics.specs.Expressions.{Value, ok, fault, above, below, ranged, then_value}
use Rattle.semantics.specs.Sections.{Variable, variable_limit}
use Rattle.semantics.specs.Plant.{declared, declared_at, all_declared, added, advance}
use Rattle.semantics.specs.Run.{valued}
use Rattle.semantics.proofs.Facts.{true-not-false}
use Rattle.expression.proofs.Widths.{widened}
use Rattle.program.specs.Rows.{high_row}
use Rattle.effects.specs.Verdicts.{done_verdict, step_verdict, is_going_on, or_else, Gives}
use Rattle.effects.specs.Ranges.{ranges_of, variables_in, rate_in, first_sums, told_sum, stays_in, FirstStay}
use Rattle.effects.specs.PaperNumbers.{Verdict, Stay}

-- ---- a list that is filled from the front with another
module _ {A : Type 0} (t v : List A) (i : ℕ) (d : A) (e : length t ≡ length v) (h : i < length v) where
  pub fill_here : get_or (take i t ++ drop i v) i d ≡ get_or v i d
  fill_here = rw (drop-cons v i d h) (get_or_at (take i t) (get_or v i d) (drop (suc i) v) d i (length-take-le i t (omega arith)))

  pub fill_more : set (take i t ++ drop i v) i (get_or t i d) ≡ take (i + 1) t ++ drop (i + 1) v
  fill_more =
      rw (drop-cons v i d h, add-one i, take-suc t i d (omega arith))
      (set_at (take i t) (get_or v i d) (drop (suc i) v) (get_or t i d) i (length-take-le i t (omega arith)) ∙ sym (append_assoc (take i t) (get_or t i d ∷ []) (drop (suc i) v)))

fill-all : {A : Type 0} (t v : List A) (i : ℕ) → length t ≡ length v → length v ≡ i → take i t ++ drop i v ≡ t
fill-all t v i e h = ap₂ ◌++◌ (ap (λ (n : ℕ). take n t) (sym h ∙ sym e) ∙ take-length t) (drop_of_length-le v {i = i} (omega arith)) ∙ append-nil t

-- ---- sums
length-added : (f : ℕ → ℤ) (k : ℕ) (vs : List ℤ) → length (added f k vs) ≡ length vs
unfolding added
length-added f k [] = refl
length-added f k (v ∷ vs) = ap suc (length-added f (suc k) vs)

pub length-sums : (rs vs : List ℤ) → length (added (rate_in rs) 0 vs) ≡ length vs
length-sums rs vs = length-added (rate_in rs) 0 vs

added-at : (f : ℕ → ℤ) (k : ℕ) (vs : List ℤ) (i : ℕ) → i < length vs → get_or (added f k vs) i (pos 0) ≡ get_or vs i (pos 0) +ℤ f (k + i)
unfolding added
added-at f k [] i h = absurd (omega arith)
added-at f k (v ∷ vs) zero h = let e : k ≡ k + 0 = omega arith in ap (λ (n : ℕ). v +ℤ f n) e
added-at f k (v ∷ vs) (suc i) h =
    let e : suc k + i ≡ k + suc i = omega arith in
    added-at f (suc k) vs i (omega arith) ∙ ap (λ (n : ℕ). get_or vs i (pos 0) +ℤ f n) e

pub sums_at : (rs vs : List ℤ) (i : ℕ) → i < length vs → get_or (added (rate_in rs) 0 vs) i (pos 0) ≡ get_or vs i (pos 0) +ℤ get_or rs i (pos 0)
sums_at rs vs i h = let e : 0 + i ≡ i = omega arith in added-at (rate_in rs) 0 vs i h ∙ ap (λ (n : ℕ). get_or vs i (pos 0) +ℤ rate_in rs n) e

-- ---- a variable by its range
length-ranges : (ls hs : List ℤ) → length ls ≡ length hs → length (ranges_of ls hs) ≡ length ls
unfolding ranges_of
length-ranges [] hs e = refl
length-ranges (l ∷ ls) [] e = absurd (omega arith)
length-ranges (l ∷ ls) (h ∷ hs) e = ap suc (length-ranges ls hs (omega arith))

declared-at : (ls hs : List ℤ) (v : ℕ) (z : ℤ) → length ls ≡ length hs → v < length ls → declared_at (ranges_of ls hs) v z ≡ ranged (get_or ls v (pos 0)) (get_or hs v (pos 0)) z
unfolding declared_at ranges_of declared
declared-at [] hs v z e h = absurd (omega arith)
declared-at (l ∷ ls) [] v z e h = absurd (omega arith)
declared-at (l ∷ ls) (k ∷ hs) zero z e h = refl
declared-at (l ∷ ls) (k ∷ hs) (suc v) z e h = declared-at ls hs v z (omega arith) (omega arith)

-- the rows of a program, for n variables
module _ (rs : List ℤ) (n : ℕ) (few : n ≤ variable_limit) (all : length rs ≡ 3 * variable_limit) where
  lows-long : length (take n rs) ≡ n
  lows-long = length-take-le n rs (omega arith)

  highs-long : length (take n (high_row rs)) ≡ n
  highs-long = length-take-le n (high_row rs) (omega (arith, length-drop 32 rs))

  pub declared-in : (v : ℕ) (z : ℤ) → v < n → declared_at (variables_in rs n) v z ≡ ranged (get_or rs v (pos 0)) (get_or (high_row rs) v (pos 0)) z
  declared-in v z h =
      declared-at (take n rs) (take n (high_row rs)) v z (lows-long ∙ sym highs-long) (omega (arith, lows-long))
      ∙ ap₂ (λ (x y : ℤ). ranged x y z) (get_or-take n rs v (pos 0) h) (get_or-take n (high_row rs) v (pos 0) h)

  pub variables-long : length (variables_in rs n) ≡ n
  variables-long = length-ranges (take n rs) (take n (high_row rs)) (lows-long ∙ sym highs-long) ∙ lows-long

-- variable v with its rate added, by its numbers
pub sum_told : (rs rates vs : List ℤ) (v : ℕ) → length vs ≤ variable_limit → length rs ≡ 3 * variable_limit → v < length vs
    → told_sum (variables_in rs (length vs)) rates vs v ≡ step_verdict (valued (ranged (get_or rs v (pos 0)) (get_or (high_row rs) v (pos 0)) (get_or vs v (pos 0) +ℤ get_or rates v (pos 0))))
sum_told rs rates vs v few all h =
    let z = get_or vs v (pos 0) +ℤ get_or rates v (pos 0) in
    ap (λ x. step_verdict (valued x)) (ap (declared_at (variables_in rs (length vs)) v) (sums_at rates vs v h) ∙ declared-in rs (length vs) few all v z h)

-- ---- what passes is what it was
abbrev pub Passes : {A : Type 0} → Value A → Type 0
Passes v = is_going_on (step_verdict (valued v)) ≡ true

module _ (l h z : ℤ) where
  pub record Inside : Type 0 where
    pub low : lt_z z l ≡ false
    pub high : lt_z h z ≡ false
    pub same : ranged l h z ≡ ok z

  pub inside : Passes (ranged l h z) → Inside
  unfolding ranged is_going_on done_verdict valued
  inside e = go (lt_z z l) (lt_z h z) refl refl e
    where
      go : (a b : Bool) → lt_z z l ≡ a → lt_z h z ≡ b → Passes (cond a (fault below) (cond b (fault above) (ok z))) → Inside
      go true b p q e = true-not-false (sym e)
      go false true p q e = true-not-false (sym e)
      go false false p q e = record { low = p; high = q; same = rw (p, q) refl }

fits-between : (l h z : ℤ) → SFits w32 l → SFits w32 h → lt_z z l ≡ false → lt_z h z ≡ false → SFits w32 z
fits-between l (pos b) (pos n) fl fh p q = record { sfits = omega (arith, fh.sfits, ltb-false b n q) }
fits-between l (negsuc b) (pos n) fl fh p q = true-not-false q
fits-between (pos a) h (negsuc n) fl fh p q = true-not-false p
fits-between (negsuc a) h (negsuc n) fl fh p q = record { sfits = omega (arith, fl.sfits, ltb-false a n p) }

-- a number in the range of two numbers of 32 bits has 32 bits
pub ranged-fits : (l h z : ℤ) → SFits w32 l → SFits w32 h → Passes (ranged l h z) → SFits w32 z
ranged-fits l h z fl fh e = let k = inside l h z e in fits-between l h z fl fh k.low k.high

-- ---- the values from the i-th on
abbrev from : List Variable → List ℤ → List ℤ → ℕ → Value (List ℤ)
from xs rs vs i = all_declared (drop i xs) (added (rate_in rs) i (drop i vs))

first-in : (x : Variable) (xs : List Variable) (z : ℤ) (zs : List ℤ) → Passes (declared x z) → step_verdict (valued (all_declared (x ∷ xs) (z ∷ zs))) ≡ step_verdict (valued (all_declared xs zs))
unfolding all_declared then_value valued done_verdict is_going_on
first-in x xs z zs e = go (declared x z) (all_declared xs zs) e
  where
    go : (v : Value ℤ) (w : Value (List ℤ)) → Passes v → step_verdict (valued (then_value v (λ y. then_value w (λ ys. ok (y ∷ ys))))) ≡ step_verdict (valued w)
    go (ok y) (ok ys) e = refl
    go (ok y) (fault above) e = refl
    go (ok y) (fault below) e = refl
    go (fault above) w e = true-not-false (sym e)
    go (fault below) w e = true-not-false (sym e)

first_out : (x : Variable) (xs : List Variable) (z : ℤ) (zs : List ℤ) → is_going_on (step_verdict (valued (declared x z))) ≡ false → step_verdict (valued (all_declared (x ∷ xs) (z ∷ zs))) ≡ step_verdict (valued (declared x z))
unfolding all_declared then_value valued done_verdict is_going_on
first_out x xs z zs e = go (declared x z) (all_declared xs zs) e
  where
    go : (v : Value ℤ) (w : Value (List ℤ)) → is_going_on (step_verdict (valued v)) ≡ false → step_verdict (valued (then_value v (λ y. then_value w (λ ys. ok (y ∷ ys))))) ≡ step_verdict (valued v)
    go (ok y) w e = true-not-false e
    go (fault above) w e = refl
    go (fault below) w e = refl

declared-here : (xs : List Variable) (v : ℕ) (z : ℤ) (d : Variable) → v < length xs → declared_at xs v z ≡ declared (get_or xs v d) z
unfolding declared_at
declared-here [] v z d h = absurd (omega arith)
declared-here (x ∷ xs) zero z d h = refl
declared-here (x ∷ xs) (suc v) z d h = declared-here xs v z d (omega arith)

module _ (xs : List Variable) (rs vs : List ℤ) (i : ℕ) (z : length xs ≡ length vs) where
  abbrev x : Variable
  x = get_or xs i (record { minimum = pos 0; maximum = pos 0; initial = pos 0 })

  abbrev s : ℤ
  s = get_or vs i (pos 0) +ℤ get_or rs i (pos 0)

  -- the first of them, and the others
  step : i < length vs → from xs rs vs i ≡ all_declared (x ∷ drop (i + 1) xs) (s ∷ added (rate_in rs) (i + 1) (drop (i + 1) vs))
  unfolding added
  step h = rw (drop-cons xs i (record { minimum = pos 0; maximum = pos 0; initial = pos 0 }) (omega arith), drop-cons vs i (pos 0) h, add-one i) refl

  told : i < length vs → told_sum xs rs vs i ≡ step_verdict (valued (declared x s))
  told h = ap (λ v. step_verdict (valued v)) (ap (declared_at xs i) (sums_at rs vs i h) ∙ declared-here xs i s _ (omega arith))

  out : i < length vs → (r : Verdict) → r ≡ told_sum xs rs vs i → is_going_on r ≡ false → r ≡ step_verdict (valued (from xs rs vs i))
  out h r e f = e ∙ told h ∙ sym (ap (λ v. step_verdict (valued v)) (step h) ∙ first_out x (drop (i + 1) xs) s (added (rate_in rs) (i + 1) (drop (i + 1) vs)) (ap is_going_on (sym (e ∙ told h)) ∙ f))

  on : i < length vs → (r : Verdict) → r ≡ told_sum xs rs vs i → is_going_on r ≡ true → step_verdict (valued (from xs rs vs i)) ≡ step_verdict (valued (from xs rs vs (i + 1)))
  on h r e f = ap (λ v. step_verdict (valued v)) (step h) ∙ first-in x (drop (i + 1) xs) s (added (rate_in rs) (i + 1) (drop (i + 1) vs)) (ap is_going_on (sym (e ∙ told h)) ∙ f)

  end : length vs ≤ i → Stay ≡ step_verdict (valued (from xs rs vs i))
  unfolding all_declared valued done_verdict
  end h = rw (drop_of_length-le xs {i = i} (omega arith)) refl

-- ---- all of them
all_same : (xs : List Variable) (zs : List ℤ) → Passes (all_declared xs zs) → all_declared xs zs ≡ ok zs
unfolding all_declared declared then_value
all_same [] zs e = refl
all_same (x ∷ xs) [] e = refl
all_same (x ∷ xs) (z ∷ zs) e = go (is_going_on (step_verdict (valued (declared x z)))) refl (all_same xs zs)
  where
    go : (b : Bool) → is_going_on (step_verdict (valued (declared x z))) ≡ b → (Passes (all_declared xs zs) → all_declared xs zs ≡ ok zs) → all_declared (x ∷ xs) (z ∷ zs) ≡ ok (z ∷ zs)
    go true k ih = rw ((inside x.minimum x.maximum z k).same, ih (ap is_going_on (sym (first-in x xs z zs k)) ∙ e)) refl
    go false k ih = true-not-false (sym e ∙ ap is_going_on (first_out x xs z zs k) ∙ k)

advanced-out : {A : Type 0} (a : A) (v : Value A) → is_going_on (step_verdict (valued v)) ≡ false → a ≡ or_else a v
unfolding or_else is_going_on done_verdict valued
advanced-out a (ok b) e = true-not-false e
advanced-out a (fault s) e = refl

-- ---- the first k of them
module _ (xs : List Variable) (rs vs : List ℤ) where
  pub none_yet : FirstStay xs rs vs 0
  none_yet = record { count = omega arith; each = λ v h. absurd (omega arith) }

  fewer : (k : ℕ) → FirstStay xs rs vs (suc k) → FirstStay xs rs vs k
  fewer k f = let c = f.count in record { count = omega arith; each = λ v h. f.each v (omega arith) }

  pub one_more : (k : ℕ) → k < length vs → FirstStay xs rs vs k → stays_in xs rs vs k ≡ true → FirstStay xs rs vs (k + 1)
  one_more k h f e = record { count = omega arith; each = λ v p. go v p (dec_lt v k) }
    where
      go : (v : ℕ) → v < k + 1 → Dec (v < k) → stays_in xs rs vs v ≡ true
      go v p (yes q) = f.each v q
      go v p (no q) = let same : v ≡ k = omega arith in ap (stays_in xs rs vs) same ∙ e

-- the first k are all
pub first-all : {xs : List Variable} {rs vs : List ℤ} {k : ℕ} → length vs ≤ k → FirstStay xs rs vs k → FirstStay xs rs vs (length vs)
first-all {k = k} h f = let c = f.count in record { count = omega arith; each = λ v i. f.each v (omega arith) }

module _ (xs : List Variable) (rs vs : List ℤ) (z : length xs ≡ length vs) where
  abbrev ticked : Value (List ℤ)
  ticked = advance xs (rate_in rs) vs

  told-from : (k : ℕ) → FirstStay xs rs vs k → step_verdict (valued ticked) ≡ step_verdict (valued (from xs rs vs k))
  unfolding advance
  told-from zero f = refl
  told-from (suc k) f =
      let c = f.count in
      let e : k + 1 ≡ suc k = add-one k in
      told-from k (fewer xs rs vs k f) ∙ on xs rs vs k z (omega arith) _ refl (f.each k (omega arith)) ∙ ap (λ (n : ℕ). step_verdict (valued (from xs rs vs n))) e

  -- variable k leaves its range: its side is told of all
  pub one-leaves : (k : ℕ) → FirstStay xs rs vs k → k < length vs → {r : Verdict} → r ≡ told_sum xs rs vs k → is_going_on r ≡ false → r ≡ step_verdict (valued ticked)
  one-leaves k f h {r} e g = out xs rs vs k z h r e g ∙ sym (told-from k f)

  pub none-leaves : (k : ℕ) → FirstStay xs rs vs k → length vs ≤ k → Stay ≡ step_verdict (valued ticked)
  none-leaves k f h = end xs rs vs k z h ∙ sym (told-from k f)

  -- nothing is added then
  pub none-added : {r : Verdict} → r ≡ step_verdict (valued ticked) → is_going_on r ≡ false → Gives Stay vs ticked r vs
  none-added e g = record { answer = e; left = advanced-out vs ticked (sym (ap is_going_on e) ∙ g) }

  -- all stay in their ranges: all add
  pub all_stay : (k : ℕ) → FirstStay xs rs vs k → length vs ≤ k → {ys : List ℤ} → ys ≡ first_sums rs vs k → Gives Stay vs ticked Stay ys
  unfolding is_going_on advance or_else
  all_stay k f h e =
      let c = f.count in
      let told = none-leaves k f h in
      let same = all_same xs (added (rate_in rs) 0 vs) (sym (ap is_going_on told)) in
      record { answer = told; left = e ∙ fill-all (added (rate_in rs) 0 vs) vs k (length-sums rs vs) (omega arith) ∙ sym (ap (or_else vs) same) }

-- ---- numbers as they are read back from their bits
abbrev pub Held : ℤ → ℤ
Held z = to_z w32 (of_z w32 z)

pub held : (z : ℤ) → lib.Signed.mag z < 2147483648 → Held z ≡ z
held z h = to_z-of_z w32 z (record { sfits = h })

pub held-sum : (v r : ℤ) → lib.Signed.mag v < 2147483648 → lib.Signed.mag r < 2147483648 → Held v +ℤ Held r ≡ v +ℤ r
held-sum v r c d = ap₂ (λ (x y : ℤ). x +ℤ y) (held v c) (held r d)

-- a number of 32 bits, made one of 64
pub wide : {y z : ℤ} → SFits w32 z → y ≡ Held z → to_z w64 (of_z w64 y) ≡ z
wide {z = z} f e = ap (λ (y : ℤ). to_z w64 (of_z w64 y)) e ∙ widened z f

-- by numbers that are known to be others
pub held-bounds : {a b : ℤ} (l h z : ℤ) → a ≡ l → b ≡ h → SFits w32 a → SFits w32 b → ranged (Held a) (Held b) z ≡ ranged l h z
held-bounds {a} {b} l h z e f i j = ap₂ (λ (x y : ℤ). ranged x y z) (to_z-of_z w32 a i ∙ e) (to_z-of_z w32 b j ∙ f)

pub held-ranged : {a b : ℤ} (l h v r : ℤ) → a ≡ l → b ≡ h → SFits w32 a → SFits w32 b → lib.Signed.mag v < 2147483648 → lib.Signed.mag r < 2147483648
    → ranged (Held a) (Held b) (Held v +ℤ Held r) ≡ ranged l h (v +ℤ r)
held-ranged l h v r e f i j c d = held-bounds l h (Held v +ℤ Held r) e f i j ∙ ap (ranged l h) (held-sum v r c d)
