-- Bytes, big-endian numbers and readers of bytes.
-- Document 01, "Schedule file": "Big-endian, also in tables, starting values and records; signed values are 32-bit two's complement."
use Rattle.std.specs.Prelude.{Bool, true, false, ◌&&◌, cond, List, [], ◌∷◌, ◌++◌, ℕ, zero, suc, ◌+◌, ◌-◌, ◌*◌, ◌/◌, ◌%◌, ◌^◌, length, take, drop, leb, ltb, ℤ, pos, negsuc}
use Rattle.std.proofs.Math.Option.{Option, none, some}

-- ---- numbers
unfoldable pub be2 : ℕ → ℕ → ℕ
be2 a b = a * 256 + b

unfoldable pub be4 : ℕ → ℕ → ℕ → ℕ → ℕ
be4 a b c d = ((a * 256 + b) * 256 + c) * 256 + d

-- 32-bit two's complement
unfoldable pub signed : ℕ → ℤ
signed n = cond (ltb n 0x8000_0000) (pos n) (negsuc (0xffff_ffff - n))

unfoldable pub unsigned : ℤ → ℕ
unsigned (pos n) = n
unsigned (negsuc n) = 0xffff_ffff - n

-- the bytes of a number that fits them
unfoldable pub out2 : ℕ → List ℕ
out2 n = n / 256 ∷ n % 256 ∷ []

unfoldable pub out4 : ℕ → List ℕ
out4 n = n / 0x100_0000 ∷ n / 0x1_0000 % 256 ∷ n / 256 % 256 ∷ n % 256 ∷ []

-- the lowest k bytes of a number
unfoldable pub big_endian : ℕ → ℕ → List ℕ
big_endian zero n = []
big_endian (suc k) n = n / 256 ^ k % 256 ∷ big_endian k n

-- the bytes of a count, length or number whose width the edition gives
pub data Width : Type 0 where
  one_byte two_bytes : Width

unfoldable pub width_of : Width → ℕ
width_of one_byte = 1
width_of two_bytes = 2

unfoldable pub out : Width → ℕ → List ℕ
out one_byte n = n ∷ []
out two_bytes n = out2 n

-- ---- lists
unfoldable pub every : {A : Type 0} → (A → Bool) → List A → Bool
every f [] = true
every f (x ∷ xs) = elim (f x) [ true ↦ every f xs | false ↦ false ]

-- a property of each element
pub data All {A : Type 0} (P : A → Type 0) : List A → Type 0 where
  all_nil : All P []
  all_cons : {x : A} {l : List A} → P x → All P l → All P (x ∷ l)

unfoldable pub is_some : {A : Type 0} → Option A → Bool
is_some none = false
is_some (some a) = true

unfoldable pub within : ℕ → ℕ → ℕ → Bool
within a b n = leb a n && leb n b

-- a lent buffer after these bytes were written at its front
unfoldable pub overwrite : List ℕ → List ℕ → List ℕ
overwrite bs buffer = bs ++ drop (length bs) buffer

-- ---- readers: what stands at the front of a list of bytes, and the bytes after it
pub data Read (A : Type 0) : Type 0 where
  broken : Read A
  read : A → List ℕ → Read A

abbrev pub Reader : Type 0 → Type 0
Reader A = List ℕ → Read A

unfoldable pub and_then : {A B : Type 0} → Read A → (A → Reader B) → Read B
and_then broken f = broken
and_then (read a s) f = f a s

infixl 1 ◌>>=◌
unfoldable pub ◌>>=◌ : {A B : Type 0} → Reader A → (A → Reader B) → Reader B
◌>>=◌ r f s = and_then (r s) f

unfoldable pub give : {A : Type 0} → A → Reader A
give a s = read a s

unfoldable pub fail : {A : Type 0} → Reader A
fail s = broken

unfoldable pub guard : {A : Type 0} → Bool → Reader A → Reader A
guard true r = r
guard false r = fail

unfoldable pub from : {A : Type 0} → Option A → Reader A
from none = fail
from (some a) = give a

unfoldable pub byte : Reader ℕ
byte [] = broken
byte (b ∷ s) = read b s

unfoldable pub nat2 : Reader ℕ
nat2 = do
  a ← byte
  b ← byte
  give (be2 a b)

unfoldable pub nat4 : Reader ℕ
nat4 = do
  a ← byte
  b ← byte
  c ← byte
  d ← byte
  give (be4 a b c d)

unfoldable pub int4 : Reader ℤ
int4 = do
  n ← nat4
  give (signed n)

unfoldable pub number : Width → Reader ℕ
number one_byte = byte
number two_bytes = nat2

-- just n bytes
unfoldable pub bytes : ℕ → Reader (List ℕ)
bytes n s = cond (leb n (length s)) (read (take n s) (drop n s)) broken

-- n of them, one after the other
unfoldable pub times : {A : Type 0} → ℕ → Reader A → Reader (List A)
times zero r = give []
times (suc n) r = do
  a ← r
  l ← times n r
  give (a ∷ l)

-- a section: its length in 2 or 4 bytes ("bytes after it"), then its bytes
unfoldable pub section2 : Reader (List ℕ)
section2 = do
  n ← nat2
  bytes n

unfoldable pub section4 : Reader (List ℕ)
section4 = do
  n ← nat4
  bytes n

-- all of the bytes, and none left over
unfoldable pub just : {A : Type 0} → Read A → Option A
just broken = none
just (read a []) = some a
just (read a (x ∷ s)) = none

unfoldable pub whole : {A : Type 0} → Reader A → List ℕ → Option A
whole r s = just (r s)

-- ---- payloads of a fixed shape
unfoldable pub from_no_bytes : {A : Type 0} → A → List ℕ → Option A
from_no_bytes a [] = some a
from_no_bytes a (x ∷ s) = none

unfoldable pub from_two_bytes : {A : Type 0} → (ℕ → ℕ → A) → List ℕ → Option A
from_two_bytes f [] = none
from_two_bytes f (a ∷ []) = none
from_two_bytes f (a ∷ b ∷ []) = some (f a b)
from_two_bytes f (a ∷ b ∷ x ∷ s) = none

-- a byte, and the rest "even where no byte is left"
unfoldable pub byte_and_rest : {A : Type 0} → (ℕ → List ℕ → A) → List ℕ → Option A
byte_and_rest f [] = none
byte_and_rest f (a ∷ s) = some (f a s)
