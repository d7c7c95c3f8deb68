-- What is found at the front of the bytes says whether all of them are one number or truth, and its value.
use mathlib.Core.Path.{◌≡◌, refl, sym, ap, ◌∙◌}
use mathlib.Core.List.{List}
use Prim.Native.Nat.{ℕ}
use native.Mathlib.Omega.{arith}
use lib.ListN.{length, drop}
use Rattle.std.specs.Prelude.{Option, Some, None, Result}
use Rattle.semantics.specs.Bytes.{broken, read, Reader, just, whole}
use Rattle.semantics.specs.Expressions.{Value}
use Rattle.codec.proofs.Reading.{drop_past, drop-some}
use Rattle.expression.specs.Answers.{answer}
use Rattle.expression.specs.Evaluation.{At, Finds, finds_at, finds_none}
use Rattle.expression.specs.declared.Side.{Side}

pub some-is : {A : Type 0} {a b : A} → Some a ≡ Some b → a ≡ b
some-is e = cc

-- ---- what an answer tells
module _ {E A : Type 0} {f : E → Value A} {r : Reader E} {s : List ℕ} {p : ℕ} where
  pub found : {o : Option (Result A Side × ℕ)} {x : Result A Side} {m : ℕ} → Finds f r s p o → o ≡ Some (x, m) → At f r s p x m
  found {o} {x} {m} k e = go k e
    where
      go : {o : Option (Result A Side × ℕ)} → Finds f r s p o → o ≡ Some (x, m) → At f r s p x m
      go (finds_at {x = y} {m = n} t) e = let q : ◌≡◌ {A = Result A Side × ℕ} (y, n) (x, m) = cc in let a = ap (λ (z : Result A Side × ℕ). z.0) q in let b = ap (λ (z : Result A Side × ℕ). z.1) q in record { value = t.value; got = t.got ∙ ap (λ n. read t.value (drop n s)) b; is = sym a ∙ t.is; inside = rw b at t.inside }
      go (finds_none h) e = absurd (cc)

  pub lost : {o : Option (Result A Side × ℕ)} → Finds f r s p o → o ≡ None → r (drop p s) ≡ broken
  lost (finds_at t) e = absurd (cc)
  lost (finds_none h) e = h

  -- another reader that takes the same at another place
  pub moved : {t : Reader E} {q : ℕ} {o : Option (Result A Side × ℕ)} → r (drop p s) ≡ t (drop q s) → Finds f t s q o → Finds f r s p o
  moved e (finds_at k) = finds_at (record { value = k.value; got = e ∙ k.got; is = k.is; inside = k.inside })
  moved e (finds_none h) = finds_none (e ∙ h)

-- ---- of all bytes
module _ {E A : Type 0} {f : E → Value A} {r : Reader E} {s : List ℕ} where
  pub of_all : {x : Result A Side} {n : ℕ} → At f r s 0 x n → n ≡ length s → Some x ≡ answer f (whole r s)
  unfolding answer whole just
  of_all {x} {n} k e = rw (k.got, drop_past n s (omega (arith, e))) (ap Some k.is)

  pub of_part : {x : Result A Side} {n : ℕ} → At f r s 0 x n → (n ≡ length s → ⊥) → None ≡ answer f (whole r s)
  unfolding answer whole just
  of_part {x} {n} k h = let i = k.inside in rw (k.got, drop-some n s (omega (arith, h))) refl

module _ {E A : Type 0} (f : E → Value A) (r : Reader E) (s : List ℕ) where
  pub of_none : r (drop 0 s) ≡ broken → None ≡ answer f (whole r s)
  unfolding answer whole just
  of_none h = rw h refl
