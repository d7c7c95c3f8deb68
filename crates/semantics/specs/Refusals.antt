-- Refusals of a call. Document 01, "When a file, table or event is turned away": "A call returns the first that applies."
use Rattle.std.specs.Prelude.{Bool, true, false, ℕ}
use Rattle.std.proofs.Math.Option.{Option, none, some}

pub data Judged (A : Type 0) : Type 0 where
  refused : ℕ → Judged A
  accepted : A → Judged A

infixl 1 ◌>>=◌ ◌>>◌
unfoldable pub ◌>>=◌ : {A B : Type 0} → Judged A → (A → Judged B) → Judged B
◌>>=◌ (refused n) f = refused n
◌>>=◌ (accepted a) f = f a

unfoldable pub ◌>>◌ : {A B : Type 0} → Judged A → Judged B → Judged B
◌>>◌ (refused n) b = refused n
◌>>◌ (accepted a) b = b

-- refuses with n where the test fails
unfoldable pub ensure : ℕ → Bool → Judged (Unit {0})
ensure n true = accepted tt
ensure n false = refused n

-- refuses with n where nothing was read
unfoldable pub need : {A : Type 0} → ℕ → Option A → Judged A
need n none = refused n
need n (some a) = accepted a

-- one number for all refusals
unfoldable pub with_one_number : {A : Type 0} → ℕ → Judged A → Judged A
with_one_number n (refused m) = refused n
with_one_number n (accepted a) = accepted a

-- the number that a call returns: 0 where it accepts
unfoldable pub refusal_of : {A : Type 0} → Judged A → ℕ
refusal_of (refused n) = n
refusal_of (accepted a) = 0
