-- What `judged_of result ≡ answered f j` says of the judgement j, for a result that is Ok or an Err.
use mathlib.Core.Path.{◌≡◌, sym, ap, ◌∙◌, refl}
use Prim.Native.Nat.{ℕ}
use Rattle.semantics.specs.Refusals.{Judged, refused, accepted, ◌>>=◌, ◌>>◌}
use Rattle.semantics.proofs.Judging.{refused-not-accepted, accepted-is, refused-is}
use Rattle.paper.specs.Refusals.{answered}

-- ---- what was judged, from the answer
pub was-refused : {A B : Type 0} (f : A → B) (j : Judged A) {n : ℕ} → refused n ≡ answered f j → j ≡ refused n
was-refused f (refused m) h = sym (ap (λ k. refused k) (refused-is h))
was-refused f (accepted a) h = refused-not-accepted h

-- what is judged as accepted, and what the code has of it
pub record Accepted {A B : Type 0} (f : A → B) (j : Judged A) (b : B) : Type 0 where
  pub value : A
  pub judged : j ≡ accepted value
  pub is : b ≡ f value

pub was-accepted : {A B : Type 0} (f : A → B) (j : Judged A) {b : B} → accepted b ≡ answered f j → Accepted f j b
was-accepted f (refused n) h = refused-not-accepted (sym h)
was-accepted f (accepted a) h = record { value = a; judged = refl; is = accepted-is h }

-- ---- the answer, from what was judged
pub refuses-with : {A B : Type 0} (f : A → B) {j : Judged A} {n : ℕ} → j ≡ refused n → refused n ≡ answered f j
refuses-with f h = sym (ap (answered f) h)

pub accepts-with : {A B : Type 0} (f : A → B) {j : Judged A} {a : A} {b : B} → j ≡ accepted a → b ≡ f a → accepted b ≡ answered f j
accepts-with f h e = ap (λ x. accepted x) e ∙ sym (ap (answered f) h)

-- ---- a refusal ends what follows it
pub stops-then : {A B : Type 0} {j : Judged A} {n : ℕ} (g : A → Judged B) → j ≡ refused n → (j >>= g) ≡ refused n
unfolding ◌>>=◌
stops-then g h = rw h refl

pub stops_after : {A B : Type 0} {j : Judged A} {n : ℕ} (k : Judged B) → j ≡ refused n → (j >> k) ≡ refused n
unfolding ◌>>◌
stops_after k h = rw h refl
