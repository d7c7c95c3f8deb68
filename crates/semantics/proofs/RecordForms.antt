-- What is written at the front of a buffer, and the bytes of a record: its set bit by bit, its values four bytes each.
use mathlib.Core.Path.{◌≡◌, refl, sym, ap, subst, ◌∙◌}
use mathlib.Core.Bool.{Bool, true, false}
use mathlib.Core.List.Memᴰ
use mathlib.Core.List.Memᴰ.{head as first}
use mathlib.Core.List.Memᴰ.{tail as later}
use mathlib.Core.List.{List, [], ◌∷◌, ◌++◌, flat_map, Memᴰ as Mem}
use mathlib.Core.Logic.{◌↔◌, ◌⊎◌, inl, inr}
use mathlib.Core.Option.{Option, none, some}
use Prim.Native.Nat.{ℕ, zero, suc, ◌+◌, ◌-◌, ◌*◌, ◌/◌, ◌%◌, ◌^◌, ◌≤◌, ◌<◌}
use native.Mathlib.Omega.{arith}
use native.Mathlib.Decide.{ℕ_discrete}
use native.Mathlib.Nat.{pow-suc, zero-div}
use borrow.Author.Tests.{leb-true, le-leb}
use lib.Dec.{leb}
use lib.ListN.{length, drop, get_or, length-append, length-drop, get_or-append}
use lib.IntN.{ℤ, pos, negsuc}
use lib.Pow.{pow-add, shr-shr, field, mod-mod-pow}
use lib.Seq.{take-append_seam, drop-append_seam}
use Rattle.semantics.specs.Bytes.{big_endian, out4, unsigned, overwrite}
use Rattle.semantics.specs.Editions.{Edition}
use Rattle.semantics.specs.Run.{Control, Answered, set_number, acting_set, value_bytes, record_bytes, record_of}
use Rattle.semantics.specs.Tables.{rising_from}
use Rattle.semantics.specs.Records.{AtFront, Fits32, FourBytes, from_0, below_0, ValuesIn, no_value, one_value, InSet, ActsAt, acts_at, RecordIs}
use Rattle.semantics.proofs.Facts.{true-not-false, none-not-some, some_is, All, all_nil, all_cons}
use Rattle.semantics.proofs.RunCounts.{set-length}
use Rattle.semantics.proofs.WrittenRecords.{big_endian-bytes}

-- ---- at the front of a buffer
pub overwritten : (bytes buffer : List ℕ) → length bytes ≤ length buffer → AtFront bytes buffer (overwrite bytes buffer)
unfolding overwrite
overwritten bytes buffer h = record {
  room = h;
  front = take-append_seam bytes (drop (length bytes) buffer);
  rest = drop-append_seam bytes (drop (length bytes) buffer);
  as_long = (let a = length-append bytes (drop (length bytes) buffer) in let b = length-drop (length bytes) buffer in omega arith);
}

-- ---- the bits of a set
-- the members but 0, each lowered by one
lower : List ℕ → List ℕ
lower [] = []
lower (zero ∷ l) = lower l
lower (suc n ∷ l) = n ∷ lower l

rises : (low n : ℕ) (l : List ℕ) → rising_from low (n ∷ l) ≡ true → (low ≤ n) × (rising_from (suc n) l ≡ true)
unfolding rising_from
rises low n l h = go (leb low n) refl h
  where
    go : (b : Bool) → leb low n ≡ b → elim b [ true ↦ rising_from (suc n) l | false ↦ false ] ≡ true → (low ≤ n) × (rising_from (suc n) l ≡ true)
    go true e h = (leb-true low n e, h)
    go false e h = true-not-false (sym h)

lower-rises : (low : ℕ) (l : List ℕ) → rising_from (suc low) l ≡ true → rising_from low (lower l) ≡ true
unfolding rising_from lower
lower-rises low [] h = refl
lower-rises low (zero ∷ l) h = let q = (rises (suc low) zero l h).0 in absurd (omega arith)
lower-rises low (suc n ∷ l) h = let q = rises (suc low) (suc n) l h in let p = q.0 in rw (le-leb low n (omega arith), rising_from) (lower-rises (suc n) l q.1)

-- the number of a set: its halves are those of the lowered set
record Halved (l : List ℕ) : Type 0 where
  rest_rises : rising_from 0 (lower l) ≡ true
  odd : ℕ
  few : odd < 2
  halves : set_number l ≡ odd + 2 * set_number (lower l)
  has_0 : ((odd ≡ 1) × Mem 0 l) ⊎ ((odd ≡ 0) × (Mem 0 l → ⊥))

above-0 : (low : ℕ) (l : List ℕ) → rising_from (suc low) l ≡ true → (set_number l ≡ 2 * set_number (lower l)) × (Mem 0 l → ⊥)
unfolding set_number lower
above-0 low [] h = (refl, λ m. absurd (Memᴰ.not-nil m))
above-0 low (zero ∷ l) h = let q = (rises (suc low) zero l h).0 in absurd (omega arith)
above-0 low (suc n ∷ l) h =
    let ih = above-0 (suc n) l (rises (suc low) (suc n) l h).1 in
    let e = ih.0 in
    let p = pow-suc 2 n in
    (omega arith, λ m. no ih.1 (Memᴰ.cases_cons m))
  where
    no : (Mem 0 l → ⊥) → (0 ≡ suc n) ⊎ Mem 0 l → ⊥
    no f (inl e) = omega arith
    no f (inr m) = f m

halved : (l : List ℕ) → rising_from 0 l ≡ true → Halved l
unfolding set_number lower rising_from
halved [] h = record { rest_rises = refl; odd = 0; few = omega arith; halves = refl; has_0 = inr (refl, λ m. absurd (Memᴰ.not-nil m)) }
halved (zero ∷ l) h =
    let q = (rises 0 zero l h).1 in
    let e = (above-0 0 l q).0 in
    record { rest_rises = lower-rises 0 l q; odd = 1; few = omega arith; halves = omega arith; has_0 = inl (refl, first refl) }
halved (suc n ∷ l) h =
    let q = (rises 0 (suc n) l h).1 in
    let a : rising_from 1 (suc n ∷ l) ≡ true = rw (le-leb 1 (suc n) (omega arith), rising_from) q in
    let b = above-0 0 (suc n ∷ l) a in
    let e = b.0 in
    record { rest_rises = lower-rises 0 (suc n ∷ l) a; odd = 0; few = omega arith; halves = omega arith; has_0 = inr (refl, b.1) }

lowered : (n : ℕ) (l : List ℕ) → Mem n (lower l) ↔ Mem (suc n) l
unfolding lower
lowered n [] = (λ m. absurd (Memᴰ.not-nil m), λ m. absurd (Memᴰ.not-nil m))
lowered n (zero ∷ l) = let ih = lowered n l in (λ m. later (ih.0 m), λ m. up ih.1 (Memᴰ.cases_cons m))
  where
    up : (Mem (suc n) l → Mem n (lower l)) → (suc n ≡ 0) ⊎ Mem (suc n) l → Mem n (lower l)
    up f (inl e) = absurd (omega arith)
    up f (inr m) = f m
lowered n (suc k ∷ l) = let ih = lowered n l in (λ m. down ih.0 (Memᴰ.cases_cons m), λ m. up ih.1 (Memᴰ.cases_cons m))
  where
    down : (Mem n (lower l) → Mem (suc n) l) → (n ≡ k) ⊎ Mem n (lower l) → Mem (suc n) (suc k ∷ l)
    down f (inl e) = first (ap suc e)
    down f (inr m) = later (f m)

    up : (Mem (suc n) l → Mem n (lower l)) → (suc n ≡ suc k) ⊎ Mem (suc n) l → Mem n (k ∷ lower l)
    up f (inl e) = let i : n ≡ k = omega arith in first i
    up f (inr m) = later (f m)

-- bit n for node n
set-bit : (n : ℕ) (l : List ℕ) → rising_from 0 l ≡ true → (set_number l / 2 ^ n % 2 ≡ 1) ↔ Mem n l
set-bit zero l h = go (halved l h)
  where
    go : Halved l → (set_number l / 2 ^ 0 % 2 ≡ 1) ↔ Mem 0 l
    go q = by q.has_0 q.halves
      where
        by : ((q.odd ≡ 1) × Mem 0 l) ⊎ ((q.odd ≡ 0) × (Mem 0 l → ⊥)) → set_number l ≡ q.odd + 2 * set_number (lower l) → (set_number l / 2 ^ 0 % 2 ≡ 1) ↔ Mem 0 l
        by (inl p) e = let i = p.0 in (λ k. p.1, λ m. omega arith)
        by (inr p) e = let i = p.0 in (λ k. absurd (omega arith), λ m. absurd (p.1 m))
set-bit (suc n) l h =
    let q = halved l h in
    let ih = set-bit n (lower l) q.rest_rises in
    let few = q.few in
    let eq = q.halves in
    let half : set_number l / 2 ≡ set_number (lower l) = omega arith in
    let one : suc n ≡ 1 + n = omega arith in
    let e : set_number l / 2 ^ suc n ≡ set_number (lower l) / 2 ^ n = ap (λ (k : ℕ). set_number l / 2 ^ k) one ∙ sym (shr-shr (set_number l) 1 n) ∙ ap (λ (x : ℕ). x / 2 ^ n) half in
    let w = lowered n l in
    (λ k. w.0 (ih.0 (ap (λ x. x % 2) (sym e) ∙ k)), λ m. ap (λ x. x % 2) e ∙ ih.1 (w.1 m))

-- ---- the bytes of a number, the last one lowest
byte_at : (k x j : ℕ) → j < k → get_or (big_endian k x) (k - 1 - j) 0 ≡ x / 256 ^ j % 256
unfolding big_endian
byte_at zero x j h = absurd (omega arith)
byte_at (suc k) x j h = elim (ℕ_discrete j k) [
  | yes e ↦ (let i : suc k - 1 - j ≡ 0 = omega arith in rw (i, e) refl)
  | no f ↦ (let i : suc k - 1 - j ≡ suc (k - 1 - j) = omega arith in rw i (byte_at k x j (omega arith)))
]

power-of-bytes : (j : ℕ) → 256 ^ j ≡ 2 ^ (j * 8)
power-of-bytes zero = refl
power-of-bytes (suc j) =
    let e : suc j * 8 ≡ j * 8 + 8 = omega arith in
    pow-suc 256 j ∙ ap (λ (x : ℕ). x * 256) (power-of-bytes j) ∙ sym (pow-add 2 (j * 8) 8) ∙ ap (λ (k : ℕ). 2 ^ k) (sym e)

byte-bit : (x j m : ℕ) → m < 8 → x / 256 ^ j % 256 / 2 ^ m % 2 ≡ x / 2 ^ (j * 8 + m) % 2
byte-bit x j m h =
    let e : 8 ≡ (7 - m + 1) + m = omega arith in
    let y = x / 256 ^ j in
    ap (λ (z : ℕ). z % 2) (ap (λ (k : ℕ). y % 2 ^ k / 2 ^ m) e ∙ field y (7 - m + 1) m)
    ∙ mod-mod-pow (y / 2 ^ m) (7 - m) 1
    ∙ ap (λ (z : ℕ). z % 2) (ap (λ (z : ℕ). x / z / 2 ^ m) (power-of-bytes j) ∙ shr-shr x (j * 8) m)

number_bit : (k x n : ℕ) → n < 8 * k → get_or (big_endian k x) (k - 1 - n / 8) 0 / 2 ^ (n % 8) % 2 ≡ x / 2 ^ n % 2
number_bit k x n h =
    let e : n / 8 * 8 + n % 8 ≡ n = omega arith in
    ap (λ (b : ℕ). b / 2 ^ (n % 8) % 2) (byte_at k x (n / 8) (omega arith)) ∙ byte-bit x (n / 8) (n % 8) (omega arith) ∙ ap (λ (i : ℕ). x / 2 ^ i % 2) e

-- ---- values
record Digits (n : ℕ) : Type 0 where
  first_fits : n / 0x100_0000 < 256
  second_fits : n / 0x1_0000 % 256 < 256
  third_fits : n / 256 % 256 < 256
  last_fits : n % 256 < 256
  adds_up : n / 0x100_0000 * 16777216 + n / 0x1_0000 % 256 * 65536 + n / 256 % 256 * 256 + n % 256 ≡ n

digits : (n : ℕ) → n < 4294967296 → Digits n
digits n h = record { first_fits = omega arith; second_fits = omega arith; third_fits = omega arith; last_fits = omega arith; adds_up = omega arith }

four_bytes : (z : ℤ) → Fits32 z → FourBytes z (value_bytes z)
unfolding value_bytes out4 unsigned
four_bytes (pos n) h =
    let k = leb-true n 2147483647 h.1 in
    let small : n < 2147483648 = omega arith in
    let d = digits n (omega arith) in
    from_0 small d.first_fits d.second_fits d.third_fits d.last_fits d.adds_up
four_bytes (negsuc n) h =
    let k = leb-true n 2147483647 h.0 in
    let small : n < 2147483648 = omega arith in
    let m = 0xffff_ffff - n in
    let d = digits m (omega arith) in
    let e = d.adds_up in
    let all : m + (n + 1) ≡ 4294967296 = omega arith in
    below_0 small d.first_fits d.second_fits d.third_fits d.last_fits (ap (λ x. x + (n + 1)) e ∙ all)

values_in : {zs : List ℤ} → All Fits32 zs → ValuesIn zs (flat_map value_bytes zs)
unfolding flat_map
values_in all_nil = no_value
values_in (all_cons {x = z} h k) = one_value (four_bytes z h) (values_in k)

-- ---- records
-- where a run stands, the acting nodes rise
abbrev pub RisesAt : {S : Type 0} → Control S → Option S → Type 0
RisesAt {S} c place = (x : S) → place ≡ some x → rising_from 0 (c.acting x) ≡ true

module _ {S : Type 0} (ed : Edition) (c : Control S) where
  acts : {place : Option S} {n : ℕ} → ActsAt c place n → (x : S) × (place ≡ some x) × Mem n (c.acting x)
  acts (acts_at {x = x} m) = (x, refl, m)

  place-bits : (place : Option S) → RisesAt c place → (n : ℕ) → (acting_set c place / 2 ^ n % 2 ≡ 1) ↔ ActsAt c place n
  unfolding acting_set
  place-bits none rising n = (λ e. (let z = zero-div (2 ^ n) in absurd (omega arith)), λ a. none-not-some (acts a).1)
  place-bits (some x) rising n =
      let k = set-bit n (c.acting x) (rising x refl) in
      (λ e. acts_at (k.0 e), λ a. (let q = acts a in k.1 (subst (λ y. Mem n (c.acting y)) (sym (some_is q.1)) q.2)))

  -- the set does not depend on the values
  pub record-bits : (o : Answered S) → RisesAt c o.left.place → (n : ℕ) → n < 8 * ed.set_bytes → InSet ed (record_of ed c o) n ↔ ActsAt c o.left.place n
  unfolding record_of record_bytes
  record-bits o rising n h =
      let width = ed.set_bytes in
      let number = acting_set c o.left.place in
      let long = set-length width number in
      let there = get_or-append (big_endian width number) (flat_map value_bytes o.left.values ++ o.left.modes) 0 (width - 1 - n / 8) (omega arith) in
      let e = ap (λ b. b / 2 ^ (n % 8) % 2) there ∙ number_bit width number n h in
      let k = place-bits o.left.place rising n in
      (λ i. k.0 (sym e ∙ i), λ a. e ∙ k.1 a)

  pub record_is : (o : Answered S) → RisesAt c o.left.place → All Fits32 o.left.values → RecordIs ed c o (record_of ed c o)
  unfolding record_of record_bytes
  record_is o rising fits =
      let number = acting_set c o.left.place in
      record {
        set = big_endian ed.set_bytes number;
        values = flat_map value_bytes o.left.values;
        layout = refl;
        set_long = set-length ed.set_bytes number;
        set_bytes = big_endian-bytes ed.set_bytes number;
        set_bits = record-bits o rising;
        values_in = values_in fits;
      }
