-- What code says that answers where the bytes of a value end, or which number was read, if there is one.
use Rattle.std.specs.Prelude.{◌≡◌, Bool, true, false, ◌&&◌, List, [], ◌∷◌, ℕ, drop, Option, Some, None}
use Rattle.semantics.specs.Bytes.{Read, Reader, broken, read}
use Rattle.semantics.specs.Tables.{rising_from}
use Rattle.codec.specs.Reading.{Took}

-- nothing is said of a value
abbrev pub anything : {A : Type 0} → A → Unit {0} → Type 0
anything a x = Unit {0}

-- the answer that r has at place p of s
pub data Ends {A : Type 0} (r : Reader A) (s : List ℕ) (p : ℕ) : Option ℕ → Type 0 where
  ends_at : {q : ℕ} → Took r anything s p q tt → Ends r s p (Some q)
  ends_none : r (drop p s) ≡ broken → Ends r s p None

-- the same where values that do not pass a test count as none
pub data EndsWith {A : Type 0} (r : Reader A) (good : A → Bool) (s : List ℕ) (p : ℕ) : Option ℕ → Type 0 where
  good_at : {q : ℕ} → Took r (λ a (x : Unit {0}). good a ≡ true) s p q tt → EndsWith r good s p (Some q)
  good_none : ((a : A) (e : List ℕ) → r (drop p s) ≡ read a e → good a ≡ false) → EndsWith r good s p None

-- the number that was read
unfoldable pub number_read : Read ℕ → Option ℕ
number_read broken = None
number_read (read n rest) = Some n

-- a value whose number is next where numbers rise from low on, and which fits
unfoldable pub follows : {A : Type 0} → (A → ℕ) → (A → Bool) → ℕ → A → Bool
follows number fits low a = rising_from low (number a ∷ []) && fits a
