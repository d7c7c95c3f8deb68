-- What is made of operands' values, as the code has them.
use mathlib.Core.Path.{◌≡◌, ap}
use Rattle.std.specs.Prelude.{Result, Ok, Err}
use Rattle.semantics.specs.Expressions.{Value, ok, fault, above, below, then_value, operands}
use Rattle.expression.specs.Evaluation.{said}
use Rattle.expression.specs.declared.Side.{Side}

-- ---- of one
module _ {A B : Type 0} (g : A → Value B) where
  pub then-fault : (v : Value A) {u : Side} → Err u ≡ said v → Err u ≡ said (then_value v g)
  unfolding then_value
  then-fault (ok a) e = absurd (cc)
  then-fault (fault above) {u} e = ap Err (same e)
    where
      same : {A : Type 0} {t u : Side} → ◌≡◌ {A = Result A Side} (Err t) (Err u) → t ≡ u
      same e = cc
  then-fault (fault below) {u} e = ap Err (same e)
    where
      same : {A : Type 0} {t u : Side} → ◌≡◌ {A = Result A Side} (Err t) (Err u) → t ≡ u
      same e = cc

  pub then-ok : (v : Value A) {a : A} → Ok a ≡ said v → said (g a) ≡ said (then_value v g)
  unfolding then_value
  then-ok (ok b) {a} e = ap (λ c. said (g c)) (same e)
    where
      same : {a b : A} → ◌≡◌ {A = Result A Side} (Ok a) (Ok b) → a ≡ b
      same e = cc
  then-ok (fault above) e = absurd (cc)
  then-ok (fault below) e = absurd (cc)

-- ---- of two
module _ {A B C : Type 0} (f : A → B → C) where
  pub left-fault : (v : Value A) (w : Value B) {u : Side} → Err u ≡ said v → Err u ≡ said (operands f v w)
  unfolding operands
  left-fault (ok a) w e = absurd (cc)
  left-fault (fault above) (ok b) e = cc
  left-fault (fault above) (fault t) e = cc
  left-fault (fault below) (ok b) e = cc
  left-fault (fault below) (fault t) e = cc

  pub right-fault : (v : Value A) (w : Value B) {a : A} {u : Side} → Ok a ≡ said v → Err u ≡ said w → Err u ≡ said (operands f v w)
  unfolding operands
  right-fault (ok a) (ok b) d e = absurd (cc)
  right-fault (ok a) (fault above) d e = cc
  right-fault (ok a) (fault below) d e = cc
  right-fault (fault above) w d e = absurd (cc)
  right-fault (fault below) w d e = absurd (cc)

  pub both-ok : (v : Value A) (w : Value B) {a : A} {b : B} → Ok a ≡ said v → Ok b ≡ said w → Ok (f a b) ≡ said (operands f v w)
  unfolding operands
  both-ok (ok a) (ok b) d e = cc
  both-ok (ok a) (fault above) d e = absurd (cc)
  both-ok (ok a) (fault below) d e = absurd (cc)
  both-ok (fault above) w d e = absurd (cc)
  both-ok (fault below) w d e = absurd (cc)
