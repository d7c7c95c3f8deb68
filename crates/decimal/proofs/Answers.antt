-- What `read` answers of a number that is asked for up to `most`.
use mathlib.Core.Path.{◌≡◌, refl, sym, ◌∙◌}
use mathlib.Core.Option.{Option, none, some}
use Prim.Native.Nat.{ℕ, ◌≤◌, ◌<◌}
use borrow.Author.Tests.{leb-true, leb-false, le-leb, lt-leb}
use native.Mathlib.Omega.{arith}
use lib.Dec.{leb}
use Rattle.std.specs.Prelude.{cond, Result, Ok, Err, Some, None}
use Rattle.semantics.proofs.Facts.{by_cases}
use Rattle.decimal.specs.Parsing.{parsed_of}
use Rattle.decimal.specs.declared.Misread.{Misread}
use Rattle.decimal.specs.declared.Misread.TheVariants.{NotDecimal, TooLarge}

pub parsed-number : (most n : ℕ) → n ≤ most → Ok n ≡ parsed_of most (some n)
unfolding parsed_of
parsed-number most n h = rw (le-leb n most h) refl

pub parsed-too-large : (most n : ℕ) → most < n → Err TooLarge ≡ parsed_of most (some n)
unfolding parsed_of
parsed-too-large most n h = rw (lt-leb n most h) refl

pub not-decimal : (most : ℕ) {o : Option ℕ} → o ≡ none → Err NotDecimal ≡ parsed_of most o
unfolding parsed_of
not-decimal most e = rw e refl

-- what `appended` answers
pub appended-none : (most m : ℕ) → cond (leb m most) (Some m) None ≡ None → most < m
appended-none most m e = by_cases (leb m most) (λ t. absurd (let k = rw t at e in cc)) (λ f. leb-false m most f)

pub appended-some : (most m : ℕ) {n : ℕ} → cond (leb m most) (Some m) None ≡ Some n → (m ≤ most) × (n ≡ m)
appended-some most m e = by_cases (leb m most) (λ t. let k = rw t at e in (leb-true m most t, (cc))) (λ f. absurd (let k = rw f at e in cc))

-- a number that is answered is that of the bytes, and no larger than was asked for
pub number-parsed : (most : ℕ) (o : Option ℕ) {n : ℕ} → Ok n ≡ parsed_of most o → (o ≡ some n) × (n ≤ most)
unfolding parsed_of
number-parsed most none e = absurd (cc)
number-parsed most (some m) {n} e =
    by_cases (leb m most)
    (λ t. same (e ∙ sym (parsed-number most m (leb-true m most t))) (leb-true m most t))
    (λ f. let z = e ∙ sym (parsed-too-large most m (leb-false m most f)) in absurd (cc))
  where
    same : ◌≡◌ {A = Result ℕ Misread} (Ok n) (Ok m) → m ≤ most → (some m ≡ some n) × (n ≤ most)
    same e h = let k : n ≡ m = cc in (cc, omega arith)
