-- Signed numbers of 32 bits and their four bytes.
use mathlib.Core.Path.{◌≡◌, refl, ap, subst, ◌∙◌}
use mathlib.Core.Bool.{true}
use mathlib.Core.List.{List, [], ◌∷◌, ◌++◌}
use Prim.Native.Nat.{ℕ, ◌+◌, ◌-◌, ◌*◌, ◌/◌, ◌%◌, ◌≤◌, ◌<◌}
use native.Mathlib.Omega.{arith}
use borrow.Author.Tests.{leb-true, le-leb, ltb-true, ltb-false, lt-ltb, le-ltb}
use lib.Dec.{ltb}
use lib.IntN.{ℤ, pos, negsuc}
use lib.Signed.{le_z}
use Rattle.semantics.specs.Bytes.{be4, signed, unsigned, out4, read, ◌>>=◌, and_then, give, byte, nat4, int4}
use Rattle.semantics.specs.Expressions.{fits32}
use Rattle.semantics.proofs.Facts.{by_cases, and_left, and_right, and_both, All, all_nil, all_cons}
use Rattle.semantics.proofs.Readers.{broken-not-read, read-value, read-rest, split, given, given-rest, Reads, reads-last, reads-nat4}

-- every number of the list is a byte
abbrev pub Bytes : List ℕ → Type 0
Bytes s = All (λ b. b < 256) s

-- ---- two's complement
pub signed_low : (n : ℕ) → n < 0x8000_0000 → signed n ≡ pos n
unfolding signed
signed_low n h = rw (lt-ltb n 0x8000_0000 h) refl

pub signed_high : (n : ℕ) → 0x8000_0000 ≤ n → signed n ≡ negsuc (0xffff_ffff - n)
unfolding signed
signed_high n h = rw (le-ltb n 0x8000_0000 h) refl

pub fits-pos : (n : ℕ) → fits32 (pos n) ≡ true → n < 0x8000_0000
unfolding fits32
fits-pos n h = let k = leb-true n 2147483647 (and_right (le_z (negsuc 2147483647) (pos n)) (le_z (pos n) (pos 2147483647)) h) in omega arith

pub fits_neg : (n : ℕ) → fits32 (negsuc n) ≡ true → n < 0x8000_0000
unfolding fits32
fits_neg n h = let k = leb-true n 2147483647 (and_left (le_z (negsuc 2147483647) (negsuc n)) (le_z (negsuc n) (pos 2147483647)) h) in omega arith

pub pos-fits : (n : ℕ) → n < 0x8000_0000 → fits32 (pos n) ≡ true
unfolding fits32
pos-fits n h = and_both refl (le-leb n 2147483647 (omega arith))

pub neg-fits : (n : ℕ) → n < 0x8000_0000 → fits32 (negsuc n) ≡ true
unfolding fits32
neg-fits n h = and_both (le-leb n 2147483647 (omega arith)) refl

pub signed-fits : (n : ℕ) → n < 0x1_0000_0000 → fits32 (signed n) ≡ true
signed-fits n h = by_cases (ltb n 0x8000_0000)
    (λ e. let k = ltb-true n 0x8000_0000 e in rw (signed_low n k) (pos-fits n k))
    (λ e. let k = ltb-false n 0x8000_0000 e in rw (signed_high n k) (neg-fits (0xffff_ffff - n) (omega arith)))

pub unsigned-fits : (z : ℤ) → fits32 z ≡ true → unsigned z < 0x1_0000_0000
unfolding unsigned
unsigned-fits (pos n) h = let k = fits-pos n h in omega arith
unsigned-fits (negsuc n) h = omega arith

pub unsigned_signed : (n : ℕ) → n < 0x1_0000_0000 → unsigned (signed n) ≡ n
unfolding unsigned
unsigned_signed n h = by_cases (ltb n 0x8000_0000)
    (λ e. rw (signed_low n (ltb-true n 0x8000_0000 e)) refl)
    (λ e. rw (signed_high n (ltb-false n 0x8000_0000 e), unsigned) (omega arith))

pub signed-unsigned : (z : ℤ) → fits32 z ≡ true → signed (unsigned z) ≡ z
unfolding unsigned
signed-unsigned (pos n) h = signed_low n (fits-pos n h)
signed-unsigned (negsuc n) h =
    let k = fits_neg n h in
    let e : 0xffff_ffff - (0xffff_ffff - n) ≡ n = omega arith in
    signed_high (0xffff_ffff - n) (omega arith) ∙ ap negsuc e

-- ---- four bytes
pub be4-fits : (a b c d : ℕ) → a < 256 → b < 256 → c < 256 → d < 256 → be4 a b c d < 0x1_0000_0000
unfolding be4
be4-fits a b c d i j k l = omega arith

pub out4-be4 : (a b c d : ℕ) → a < 256 → b < 256 → c < 256 → d < 256 → out4 (be4 a b c d) ≡ a ∷ b ∷ c ∷ d ∷ []
unfolding be4 out4
out4-be4 a b c d i j k l =
    let n = ((a * 256 + b) * 256 + c) * 256 + d in
    let p : n / 0x100_0000 ≡ a = omega arith in
    let q : n / 0x1_0000 % 256 ≡ b = omega arith in
    let r : n / 256 % 256 ≡ c = omega arith in
    let t : n % 256 ≡ d = omega arith in
    rw (p, q, r, t) refl

-- a signed number is read back from its bytes
pub reads-int4 : (z : ℤ) → fits32 z ≡ true → Reads int4 (out4 (unsigned z)) z
unfolding int4
reads-int4 z h = subst (Reads int4 (out4 (unsigned z))) (signed-unsigned z h) (reads-last nat4 signed (reads-nat4 (unsigned z)))

pub record Bytes4 (s : List ℕ) (n : ℕ) (t : List ℕ) : Type 0 where
  pub taken : s ≡ out4 n ++ t
  pub fits : n < 0x1_0000_0000
  pub left : Bytes t

pub nat4-read : (s : List ℕ) {n : ℕ} {t : List ℕ} → Bytes s → nat4 s ≡ read n t → Bytes4 s n t
unfolding nat4 byte ◌>>=◌ and_then give
nat4-read [] all_nil h = broken-not-read h
nat4-read (a ∷ []) p h = broken-not-read h
nat4-read (a ∷ b ∷ []) p h = broken-not-read h
nat4-read (a ∷ b ∷ c ∷ []) p h = broken-not-read h
nat4-read (a ∷ b ∷ c ∷ d ∷ u) {n} {t} (all_cons i (all_cons j (all_cons k (all_cons l p)))) h = go (read-value h) (read-rest h)
  where
    go : be4 a b c d ≡ n → u ≡ t → Bytes4 (a ∷ b ∷ c ∷ d ∷ u) n t
    go e f = record {
      taken = rw (← e, out4-be4 a b c d i j k l, f) refl;
      fits = rw (← e) (be4-fits a b c d i j k l);
      left = subst Bytes f p;
    }

-- what is read is a number of 32 bits, and the bytes taken are its bytes
pub record Bytes32 (s : List ℕ) (z : ℤ) (t : List ℕ) : Type 0 where
  pub taken : s ≡ out4 (unsigned z) ++ t
  pub fits : fits32 z ≡ true
  pub left : Bytes t

pub int4-read : (s : List ℕ) {z : ℤ} {t : List ℕ} → Bytes s → int4 s ≡ read z t → Bytes32 s z t
unfolding int4
int4-read s {z} {t} p h =
    let q = split nat4 _ h in
    go q.value q.rest (nat4-read s p q.first) (given _ _ q.then) (given-rest _ _ q.then)
  where
    go : (n : ℕ) (u : List ℕ) → Bytes4 s n u → signed n ≡ z → u ≡ t → Bytes32 s z t
    go n u r e f = record {
      taken = rw (← e, unsigned_signed n r.fits, ← f) r.taken;
      fits = rw (← e) (signed-fits n r.fits);
      left = subst Bytes f r.left;
    }
