-- Refusals taken apart: what an accepted call has passed, and how a call goes on where a condition holds.
use mathlib.Core.Path.{◌≡◌, refl}
use mathlib.Core.Bool.{Bool, true, false, ◌&&◌}
use mathlib.Core.Option.{Option, none, some}
use Prim.Native.Nat.{ℕ}
use native.Mathlib.Omega.{arith}
use Rattle.semantics.specs.Refusals.{Judged, refused, accepted, ◌>>=◌, ◌>>◌, ensure, need, with_one_number}

pub refused-not-accepted : {A C : Type 0} {n : ℕ} {a : A} → refused n ≡ accepted a → C
refused-not-accepted h = let z : ◌≡◌ {A = ℕ} 0 1 = cc in absurd (omega arith)

pub accepted-is : {A : Type 0} {x y : A} → accepted x ≡ accepted y → x ≡ y
accepted-is h = cc

pub refused-is : {A : Type 0} {m n : ℕ} → ◌≡◌ {A = Judged A} (refused m) (refused n) → m ≡ n
refused-is h = cc

-- an accepted call passed each of its steps
pub passed_then : {A B : Type 0} (j : Judged A) (f : A → Judged B) {b : B} → (j >>= f) ≡ accepted b → (a : A) × (j ≡ accepted a) × (f a ≡ accepted b)
unfolding ◌>>=◌
passed_then (refused n) f h = refused-not-accepted h
passed_then (accepted a) f h = (a, refl, h)

pub passed-need : {A B : Type 0} (n : ℕ) (o : Option A) (f : A → Judged B) {b : B} → (need n o >>= f) ≡ accepted b → (a : A) × (o ≡ some a) × (f a ≡ accepted b)
unfolding ◌>>=◌ need
passed-need n none f h = refused-not-accepted h
passed-need n (some a) f h = (a, refl, h)

pub passed-ensure : {B : Type 0} (n : ℕ) (t : Bool) (j : Judged B) {b : B} → (ensure n t >> j) ≡ accepted b → (t ≡ true) × (j ≡ accepted b)
unfolding ◌>>◌ ensure
passed-ensure n true j h = (refl, h)
passed-ensure n false j h = refused-not-accepted h

pub passed-only : {A : Type 0} (n : ℕ) (j : Judged A) {a : A} → with_one_number n j ≡ accepted a → j ≡ accepted a
unfolding with_one_number
passed-only n (refused m) h = refused-not-accepted h
passed-only n (accepted b) h = h

-- what follows two steps follows the second
pub then-after : {A B C : Type 0} (i : Judged A) (j : Judged B) (k : Judged C) → ((i >> j) >> k) ≡ (i >> (j >> k))
unfolding ◌>>◌
then-after (refused n) j k = refl
then-after (accepted a) j k = refl

-- what follows a call follows each way through it
pub then_same : {A B : Type 0} (j : Judged A) {f g : A → Judged B} → ((a : A) → f a ≡ g a) → (j >>= f) ≡ (j >>= g)
unfolding ◌>>=◌
then_same (refused n) h = refl
then_same (accepted a) h = h a

pub ensure-then : {A B : Type 0} (n : ℕ) (t : Bool) (j : Judged A) (f : A → Judged B) → ((ensure n t >> j) >>= f) ≡ (ensure n t >> (j >>= f))
unfolding ◌>>=◌ ◌>>◌ ensure
ensure-then n true j f = refl
ensure-then n false j f = refl

-- what is read and fits a test; then what follows it
pub fitting-then : {A B : Type 0} (n : ℕ) (o : Option A) (t : A → Bool) (f : A → Judged B) →
    ((need n o >>= λ a. ensure n (t a) >> accepted a) >>= f) ≡ (need n o >>= λ a. ensure n (t a) >> f a)
unfolding ◌>>=◌ ◌>>◌ need ensure
fitting-then n none t f = refl
fitting-then n (some a) t f = go (t a)
  where
    go : (b : Bool) → ((ensure n b >> accepted a) >>= f) ≡ (ensure n b >> f a)
    go true = refl
    go false = refl

-- two tests with one number are one test
pub ensure-both : {B : Type 0} (n : ℕ) (s t : Bool) (j : Judged B) → (ensure n s >> (ensure n t >> j)) ≡ (ensure n (s && t) >> j)
unfolding ◌>>◌ ensure
ensure-both n true t j = refl
ensure-both n false t j = refl

-- a condition that holds lets the call go on
pub go-then : {A B : Type 0} {j : Judged A} {a : A} (f : A → Judged B) → j ≡ accepted a → (j >>= f) ≡ f a
unfolding ◌>>=◌
go-then f e = rw e refl

pub go-need : {A B : Type 0} (n : ℕ) {o : Option A} {a : A} (f : A → Judged B) → o ≡ some a → (need n o >>= f) ≡ f a
unfolding ◌>>=◌ need
go-need n f e = rw e refl

pub go-ensure : {B : Type 0} (n : ℕ) {t : Bool} (j : Judged B) → t ≡ true → (ensure n t >> j) ≡ j
unfolding ◌>>◌ ensure
go-ensure n j e = rw e refl

pub go-only : {A : Type 0} (n : ℕ) {j : Judged A} {a : A} → j ≡ accepted a → with_one_number n j ≡ accepted a
unfolding with_one_number
go-only n e = rw e refl
