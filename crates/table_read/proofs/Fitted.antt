-- What is read and fits a test, or is refused with one number: the two ways through `need` and `ensure`.
use mathlib.Core.Path.{◌≡◌, refl, sym, ap, ◌∙◌}
use mathlib.Core.Bool.{Bool, true, false}
use mathlib.Core.Option.{Option, none, some}
use Prim.Native.Nat.{ℕ}
use Rattle.semantics.specs.Refusals.{Judged, refused, accepted, ◌>>=◌, ◌>>◌, ensure, need}
use Rattle.semantics.proofs.Facts.{true-not-false, none-not-some, some_is}

pub data Fitted {A : Type 0} (n : ℕ) (o : Option A) (fits : A → Bool) : Judged A → Type 0 where
  fit : {a : A} → o ≡ some a → fits a ≡ true → Fitted n o fits (accepted a)
  unfit : ((a : A) → o ≡ some a → fits a ≡ true → ⊥) → Fitted n o fits (refused n)

pub fitted : {A : Type 0} (n : ℕ) (o : Option A) (fits : A → Bool) → Fitted n o fits (need n o >>= λ a. ensure n (fits a) >> accepted a)
unfolding ◌>>=◌ ◌>>◌ need ensure
fitted n none fits = unfit (λ a e h. none-not-some e)
fitted {A} n (some a) fits = go (fits a) refl
  where
    go : (b : Bool) → fits a ≡ b → Fitted n (some a) fits (ensure n b >> accepted a)
    go true e = fit refl e
    go false e = unfit (λ x i h. true-not-false (sym h ∙ ap fits (sym (some_is i)) ∙ e))
