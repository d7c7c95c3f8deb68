-- Numbers and their bytes as std's methods have them.
use mathlib.Core.Path.{◌≡◌, refl, ap, ◌∙◌}
use mathlib.Core.List.{[], ◌∷◌}
use Prim.Native.Nat.{ℕ, ◌/◌, ◌%◌, ◌<◌}
use native.Mathlib.Omega.{arith}
use lib.Dec.{ltb}
use lib.IntN.{ℤ, pos, negsuc}
use mir.Syntax.{w16, w32}
use mir.Val.{SFits, to_z, of_z}
use mir.ValLaws.{to_z-of_z}
use Rattle.std.proofs.Math.Facts.{Fits-of_z}
use Rattle.std.specs.Int.{from_be_bytes, to_be_bytes}
use Rattle.semantics.specs.Run.{value_bytes}
use Rattle.semantics.proofs.Facts.{by_cases}
use Rattle.semantics.specs.Bytes.{be2, be4, signed, unsigned, out2, out4}

pub from-two : (a b : ℕ) → from_be_bytes w16 (a ∷ b ∷ []) ≡ be2 a b
unfolding be2
from-two a b = refl

pub from-four : (a b c d : ℕ) → from_be_bytes w32 (a ∷ b ∷ c ∷ d ∷ []) ≡ be4 a b c d
unfolding be4
from-four a b c d = omega arith

pub to-two : (n : ℕ) → n < 65536 → to_be_bytes w16 n ≡ out2 n
unfolding out2
to-two n h = let e : n / 256 % 256 ≡ n / 256 = omega arith in rw e refl

pub to-four : (n : ℕ) → n < 4294967296 → to_be_bytes w32 n ≡ out4 n
unfolding out4
to-four n h = let e : n / 16777216 % 256 ≡ n / 16777216 = omega arith in rw e refl

pub to-signed : (n : ℕ) → to_z w32 n ≡ signed n
unfolding signed
to-signed n = by_cases (ltb n 2147483648) (λ e. rw e refl) (λ e. rw e (ap negsuc (omega arith)))

pub of-signed : (z : ℤ) → of_z w32 z ≡ unsigned z
unfolding unsigned
of-signed (pos n) = refl
of-signed (negsuc n) = omega arith

-- z is handed over as its bits
pub signed-bytes : (z : ℤ) → SFits w32 z → to_be_bytes w32 (of_z w32 (to_z w32 (of_z w32 z))) ≡ value_bytes z
unfolding value_bytes
signed-bytes z f = ap (λ v. to_be_bytes w32 (of_z w32 v)) (to_z-of_z w32 z f) ∙ to-four _ (Fits-of_z f).fits ∙ ap out4 (of-signed z)
