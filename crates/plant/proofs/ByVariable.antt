-- Arrays with an entry for each variable.
use mathlib.Core.Path.{◌≡◌, refl, sym, ap, ap₂, ◌∙◌}
use mathlib.Core.List.{List, [], ◌∷◌}
use Prim.Native.Nat.{ℕ, zero, suc, ◌+◌, ◌<◌}
use native.Mathlib.Nat.{zero-add}
use native.Mathlib.Omega.{arith}
use lib.ListN.{length, get_or}
use Rattle.plant.specs.Equations.{each}

module _ {A : Type 0} (f : ℕ → A) where
  pub each-length : (v n : ℕ) → length (each f v n) ≡ n
  unfolding each
  each-length v zero = refl
  each-length v (suc n) = ap suc (each-length (suc v) n)

  from_at : (d : A) (v n i : ℕ) → i < n → get_or (each f v n) i d ≡ f (v + i)
  unfolding each
  from_at d v zero i h = absurd (omega arith)
  from_at d v (suc n) zero h = let e : v ≡ v + 0 = omega arith in ap f e
  from_at d v (suc n) (suc i) h = let e : suc v + i ≡ v + suc i = omega arith in from_at d (suc v) n i (omega arith) ∙ ap f e

  pub each_at : (d : A) (n v : ℕ) → v < n → get_or (each f 0 n) v d ≡ f v
  each_at d n v h = from_at d 0 n v h ∙ ap f (zero-add v)

  -- an array with these entries
  from_each : (d : A) (v : ℕ) (l : List A) → ((i : ℕ) → i < length l → get_or l i d ≡ f (v + i)) → l ≡ each f v (length l)
  unfolding each
  from_each d v [] h = refl
  from_each d v (x ∷ l) h =
      let e : v + 0 ≡ v = omega arith in
      ap₂ ◌∷◌ (h 0 (omega arith) ∙ ap f e) (from_each d (suc v) l (λ i j. let k : v + suc i ≡ suc v + i = omega arith in h (suc i) (omega arith) ∙ ap f k))

  pub each-is : (d : A) (l : List A) → ((v : ℕ) → v < length l → get_or l v d ≡ f v) → l ≡ each f 0 (length l)
  each-is d l h = from_each d 0 l (λ i j. h i j ∙ ap f (sym (zero-add i)))

-- functions that agree
pub each_same : {A : Type 0} (f g : ℕ → A) → ((v : ℕ) → f v ≡ g v) → (v n : ℕ) → each f v n ≡ each g v n
unfolding each
each_same f g h v zero = refl
each_same f g h v (suc n) = ap₂ ◌∷◌ (h v) (each_same f g h (suc v) n)
