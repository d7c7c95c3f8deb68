-- Signed numbers: what is read back from their bits, and which results of two numbers of 32 bits fit 64.
use mathlib.Core.Path.{◌≡◌, refl, sym, ap, ap₂, ◌∙◌, subst, subst₂}
use mathlib.Core.Bool.{Bool, true, false}
use Prim.Native.Nat.{ℕ, zero, suc, ◌+◌, ◌*◌, ◌-◌, ◌≤◌, ◌<◌}
use native.Mathlib.Nat.{zero-add, le_trans, le_refl, mul-le-mul, lt_of_le_of_lt, lt_of_lt_of_le}
use native.Mathlib.Omega.{arith}
use lib.Dec.{ltb, eqb, lit<, lit≤}
use lib.IntN.{ℤ, pos, negsuc, neg_ℤ, sub_ℕ, ◌+ℤ◌, ◌-ℤ◌, ◌*ℤ◌}
use lib.Signed.{mag, lt_z}
use borrow.Author.Tests.{ltb-false, le-ltb, eq-eqb, ne_eqb, eqb-true, eqb-false}
use mir.Syntax.{w32, w64}
use mir.Val.{SFits, to_z, of_z}
use mir.ValLaws.{to_z-of_z}
use Rattle.semantics.specs.Expressions.{ok, fault, above, below, ranged, result, eq_z, Operation, sum, difference, product, applied}

-- ---- a number of 32 bits at 64
wide : {z : ℤ} → SFits w32 z → SFits w64 z
wide {z} f = record { sfits = lt_of_lt_of_le f.sfits (lit≤ tt) }

pub widens : (z : ℤ) → SFits w32 z → SFits w64 (to_z w32 (of_z w32 z))
widens z f = subst (SFits w64) (sym (to_z-of_z w32 z f)) (wide f)

pub widened : (z : ℤ) → SFits w32 z → to_z w64 (of_z w64 (to_z w32 (of_z w32 z))) ≡ z
widened z f = ap (λ (y : ℤ). to_z w64 (of_z w64 y)) (to_z-of_z w32 z f) ∙ to_z-of_z w64 z (wide f)

-- ---- how large results are
mag-subℕ : (a b : ℕ) → mag (sub_ℕ a b) ≤ a + b
mag-subℕ a b = go (ltb a b) refl
  where
    go : (t : Bool) → ltb a b ≡ t → mag (sub_ℕ a b) ≤ a + b
    go true e = rw e (omega arith)
    go false e = rw e (omega arith)

mag-neg : (x : ℤ) → mag (neg_ℤ x) ≤ mag x + 1
mag-neg (pos zero) = omega arith
mag-neg (pos (suc n)) = omega arith
mag-neg (negsuc n) = omega arith

mag-add : (x y : ℤ) → mag (x +ℤ y) ≤ mag x + mag y + 1
mag-add (pos a) (pos b) = omega arith
mag-add (pos a) (negsuc b) = omega (arith, mag-subℕ a (suc b))
mag-add (negsuc a) (pos b) = omega (arith, mag-subℕ b (suc a))
mag-add (negsuc a) (negsuc b) = omega arith

mag-negpos : (n : ℕ) → mag (neg_ℤ (pos n)) ≤ n
mag-negpos zero = omega arith
mag-negpos (suc n) = omega arith

mag-mul : (x y : ℤ) → mag (x *ℤ y) ≤ suc (mag x) * suc (mag y)
mag-mul (pos a) (pos b) = mul-le-mul (omega arith) (omega arith)
mag-mul (pos a) (negsuc b) = le_trans (mag-negpos (a * suc b)) (mul-le-mul (omega arith) (le_refl (suc b)))
mag-mul (negsuc a) (pos b) = le_trans (mag-negpos (suc a * b)) (mul-le-mul (le_refl (suc a)) (omega arith))
mag-mul (negsuc a) (negsuc b) = le_refl (suc a * suc b)

pub difference-fits : (x y : ℤ) → SFits w32 x → SFits w32 y → SFits w64 (x -ℤ y)
difference-fits x y fx fy = record { sfits = omega (arith, mag-add x (neg_ℤ y), mag-neg y, fx.sfits, fy.sfits) }

applied-fits : (o : Operation) (x y : ℤ) → SFits w32 x → SFits w32 y → SFits w64 (applied o x y)
unfolding applied
applied-fits sum x y fx fy = record { sfits = omega (arith, mag-add x y, fx.sfits, fy.sfits) }
applied-fits difference x y fx fy = difference-fits x y fx fy
applied-fits product x y fx fy = record { sfits = lt_of_le_of_lt (le_trans (mag-mul x y) (mul-le-mul fx.sfits fy.sfits)) (lit< tt) }

-- ---- one law for the three operations
abbrev pub Wide : ℤ → ℤ
Wide x = to_z w64 (of_z w64 (to_z w32 (of_z w32 x)))

module _ (o : Operation) (x y : ℤ) (fx : SFits w32 x) (fy : SFits w32 y) where
  pub wide_fits : SFits w64 (applied o (Wide x) (Wide y))
  wide_fits = subst₂ (λ (a b : ℤ). SFits w64 (applied o a b)) (sym (widened x fx)) (sym (widened y fy)) (applied-fits o x y fx fy)

  pub wide_is : to_z w64 (of_z w64 (applied o (Wide x) (Wide y))) ≡ applied o x y
  wide_is = to_z-of_z w64 _ wide_fits ∙ ap₂ (applied o) (widened x fx) (widened y fy)

-- ---- the range of results
pub between-fits : (z : ℤ) → lt_z z (negsuc 2147483647) ≡ false → lt_z (pos 2147483647) z ≡ false → SFits w32 z
between-fits (pos n) l h = record { sfits = omega (arith, ltb-false 2147483647 n h) }
between-fits (negsuc n) l h = record { sfits = omega (arith, ltb-false 2147483647 n l) }

pub result_low : (z : ℤ) → lt_z z (negsuc 2147483647) ≡ true → result z ≡ fault below
unfolding result ranged
result_low z e = rw e refl

pub result-high : (z : ℤ) → lt_z z (negsuc 2147483647) ≡ false → lt_z (pos 2147483647) z ≡ true → result z ≡ fault above
unfolding result ranged
result-high z l h = rw (l, h) refl

pub result-in : (z : ℤ) → lt_z z (negsuc 2147483647) ≡ false → lt_z (pos 2147483647) z ≡ false → result z ≡ ok z
unfolding result ranged
result-in z l h = rw (l, h) refl

-- a number of 32 bits is its own result
pub result_fits : (z : ℤ) → SFits w32 z → result z ≡ ok z
result_fits (pos n) f = result-in (pos n) refl (le-ltb 2147483647 n (omega (arith, f.sfits)))
result_fits (negsuc n) f = result-in (negsuc n) (le-ltb 2147483647 n (omega (arith, f.sfits))) refl

-- ---- a test of a number that was read back from its bits
pub left-plain : (x k : ℤ) (b : Bool) → SFits w64 x → lt_z (to_z w64 (of_z w64 x)) k ≡ b → lt_z x k ≡ b
left-plain x k b f e = sym (ap (λ (v : ℤ). lt_z v k) (to_z-of_z w64 x f)) ∙ e

pub right-plain : (x k : ℤ) (b : Bool) → SFits w64 x → lt_z k (to_z w64 (of_z w64 x)) ≡ b → lt_z k x ≡ b
right-plain x k b f e = sym (ap (λ (v : ℤ). lt_z k v) (to_z-of_z w64 x f)) ∙ e

-- ---- equality goes by the bits
same-high : (a b : ℕ) → a < 2147483648 → b < 2147483648 → eqb (4294967296 - suc a) (4294967296 - suc b) ≡ eqb a b
same-high a b ha hb = go (eqb a b) refl
  where
    go : (t : Bool) → eqb a b ≡ t → eqb (4294967296 - suc a) (4294967296 - suc b) ≡ eqb a b
    go true e = eq-eqb _ _ (ap (λ (k : ℕ). 4294967296 - suc k) (eqb-true a b e)) ∙ sym e
    go false e = ne_eqb (4294967296 - suc a) (4294967296 - suc b) (λ q. eqb-false a b e (omega arith)) ∙ sym e

pub eq-bits : (a b : ℤ) → SFits w32 a → SFits w32 b → eqb (of_z w32 a) (of_z w32 b) ≡ eq_z a b
unfolding eq_z
eq-bits (pos a) (pos b) fa fb = refl
eq-bits (pos a) (negsuc b) fa fb = ne_eqb a (4294967296 - suc b) (λ q. omega (arith, fa.sfits, fb.sfits))
eq-bits (negsuc a) (pos b) fa fb = ne_eqb (4294967296 - suc a) b (λ q. omega (arith, fa.sfits, fb.sfits))
eq-bits (negsuc a) (negsuc b) fa fb = same-high a b fa.sfits fb.sfits

-- ---- two's complement
pub minus-one-less : (n : ℕ) → negsuc 0 -ℤ pos n ≡ negsuc n
minus-one-less zero = refl
minus-one-less (suc n) = ap (λ (k : ℕ). negsuc (suc k)) (zero-add n)
