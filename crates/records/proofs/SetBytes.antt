-- The bytes of a set of nodes: those of its words, the highest word first.
use mathlib.Core.Path.{◌≡◌, refl, sym, ap, ap₂, ◌∙◌}
use mathlib.Core.Bool.{Bool, true, false}
use mathlib.Core.List.{List, [], ◌∷◌, ◌++◌, append_assoc, append-nil}
use Prim.Native.Nat.{ℕ, zero, suc, ◌+◌, ◌*◌, ◌/◌, ◌%◌, ◌^◌, ◌≤◌, ◌<◌}
use native.Mathlib.Nat.{zero-lt-suc, zero-add, add-zero, add_comm, zero-mul, mul-one, pow-suc, one-le-pow}
use native.Mathlib.Nat.{zero-div, div-one, div-eq_of_lt, div-div-eq-div-mul, add-mul-div_right, add-mul-mod_self_right}
use native.Mathlib.Numerals.{add-one}
use native.Mathlib.Omega.{arith}
use borrow.Author.Tests.{eqb-true, eqb-false}
use lib.Pow.{pow-add, shr-shr}
use lib.ListN.{length, get_or, drop, length-append}
use lib.Seq.{drop-drop, get_or-drop}
use mir.Syntax.{w64}
use Rattle.std.specs.Int.{to_be_bytes}
use Rattle.semantics.specs.Bytes.{big_endian}
use Rattle.semantics.specs.Run.{set_number}
use Rattle.nodeset.specs.Sets.{bit, mem, members_from, members, Words}
use Rattle.codec.specs.Writing.{Wrote}
use Rattle.codec.proofs.Writing.{put-more, wrote_as, wrote_none, wrote-length}

-- the number of the members among the r numbers from n on
abbrev number_from : List ℕ → ℕ → ℕ → ℕ
number_from ws n r = set_number (members_from ws n r)

-- the lowest k bytes of a set's number
abbrev bytes_of_set : List ℕ → ℕ → List ℕ
bytes_of_set ws k = big_endian k (set_number (members ws))

-- ---- the members of a word
-- a digit and the digits above it, in front of the words after them
module _ (x p q t : ℕ) where
  digit-one : x % 2 ≡ 1 → p * q + (x / 2 * (p * 2) * q + t) ≡ x * p * q + t
  digit-one h = let e : x ≡ 1 + x / 2 * 2 = omega arith in with-one (x / 2) p q t ∙ ap (λ (z : ℕ). z * p * q + t) (sym e)
    where
      with-one : (y p q t : ℕ) → p * q + (y * (p * 2) * q + t) ≡ (1 + y * 2) * p * q + t
      with-one y p q t = omega arith

  digit-zero : (x % 2 ≡ 1 → ⊥) → x / 2 * (p * 2) * q + t ≡ x * p * q + t
  digit-zero h = let e : x ≡ x / 2 * 2 = omega arith in without (x / 2) p q t ∙ ap (λ (z : ℕ). z * p * q + t) (sym e)
    where
      without : (y p q t : ℕ) → y * (p * 2) * q + t ≡ y * 2 * p * q + t
      without y p q t = omega arith

module _ (ws : List ℕ) (fits : (i : ℕ) → get_or ws i 0 < 2 ^ 64) (k : ℕ) where
  abbrev w : ℕ
  w = get_or ws k 0

  in-word : (n : ℕ) → n < 64 → mem ws (n + 64 * k) ≡ bit w n
  unfolding mem
  in-word n h =
      let d : (n + 64 * k) / 64 ≡ k = omega arith in
      let m : (n + 64 * k) % 64 ≡ n = omega arith in
      ap₂ (λ i j. bit (get_or ws i 0) j) d m

  halved : (n : ℕ) → w / 2 ^ suc n ≡ w / 2 ^ n / 2
  halved n = let e : suc n ≡ n + 1 = omega arith in ap (λ (i : ℕ). w / 2 ^ i) e ∙ sym (shr-shr w n 1)

  -- j numbers are left in the word, and r after it
  word-from : (j n r : ℕ) → n + j ≡ 64 → number_from ws (n + 64 * k) (j + r) ≡ w / 2 ^ n * 2 ^ n * 2 ^ (64 * k) + number_from ws (64 * (k + 1)) r
  unfolding set_number members_from bit
  word-from zero n r h =
      let e : n ≡ 64 = omega arith in
      let f : n + 64 * k ≡ 64 * (k + 1) = omega arith in
      let z : w / 2 ^ n ≡ 0 = ap (λ (i : ℕ). w / 2 ^ i) e ∙ div-eq_of_lt (fits k) in
      let t = number_from ws (64 * (k + 1)) r in
      ap₂ (number_from ws) f (zero-add r) ∙ sym (ap (λ (x : ℕ). x * 2 ^ n * 2 ^ (64 * k) + t) z ∙ nothing (2 ^ n) (2 ^ (64 * k)) t)
    where
      nothing : (p q t : ℕ) → 0 * p * q + t ≡ t
      nothing p q t = omega arith
  word-from (suc j) n r h =
      let e : suc j + r ≡ suc (j + r) = omega arith in
      let f : suc (n + 64 * k) ≡ suc n + 64 * k = omega arith in
      let ih = word-from j (suc n) r (omega arith) ∙ ap₂ (λ (a b : ℕ). a * b * 2 ^ (64 * k) + after) (halved n) (pow-suc 2 n) in
      ap (number_from ws (n + 64 * k)) e ∙ go (mem ws (n + 64 * k)) refl (ap (λ (i : ℕ). number_from ws i (j + r)) f ∙ ih)
    where
      after : ℕ
      after = number_from ws (64 * (k + 1)) r

      others : List ℕ
      others = members_from ws (suc (n + 64 * k)) (j + r)

      x : ℕ
      x = w / 2 ^ n

      go : (b : Bool) → mem ws (n + 64 * k) ≡ b → set_number others ≡ x / 2 * (2 ^ n * 2) * 2 ^ (64 * k) + after →
          set_number (elim (mem ws (n + 64 * k)) [ true ↦ (n + 64 * k) ∷ others | false ↦ others ]) ≡ x * 2 ^ n * 2 ^ (64 * k) + after
      go true q ih =
          let one = eqb-true (x % 2) 1 (sym (in-word n (omega arith)) ∙ q) in
          rw q (ap₂ (λ (a b : ℕ). a + b) (pow-add 2 n (64 * k)) ih ∙ digit-one x (2 ^ n) (2 ^ (64 * k)) after one)
      go false q ih = rw q (ih ∙ digit-zero x (2 ^ n) (2 ^ (64 * k)) after (eqb-false (x % 2) 1 (sym (in-word n (omega arith)) ∙ q)))

  whole_word : (r : ℕ) → number_from ws (64 * k) (64 + r) ≡ w * 2 ^ (64 * k) + number_from ws (64 * (k + 1)) r
  whole_word r =
      ap (λ (i : ℕ). number_from ws i (64 + r)) (sym (zero-add (64 * k)))
      ∙ word-from 64 0 r refl
      ∙ ap (λ (x : ℕ). x * 2 ^ (64 * k) + number_from ws (64 * (k + 1)) r) (mul-one (w / 1) ∙ div-one w)

-- ---- the number of a set by its words, the lowest first
value_of : List ℕ → ℕ
value_of [] = 0
value_of (x ∷ ws) = x + value_of ws * 2 ^ 64

module _ (ws : List ℕ) (h : Words ws) where
  words-from : (k : ℕ) (l : List ℕ) → drop k ws ≡ l → number_from ws (64 * k) (64 * length l) ≡ value_of l * 2 ^ (64 * k)
  unfolding value_of members_from set_number
  words-from k [] e = sym (zero-mul (2 ^ (64 * k)))
  words-from k (x ∷ l) e =
      let n : 64 * suc (length l) ≡ 64 + 64 * length l = omega arith in
      let m : 64 * (k + 1) ≡ 64 * k + 64 = omega arith in
      let d : drop (k + 1) ws ≡ l = sym (drop-drop 1 k ws) ∙ ap (drop 1) e in
      let y : get_or ws k 0 ≡ x = sym (get_or-drop k ws 0 0 ∙ ap (λ (i : ℕ). get_or ws i 0) (add-zero k)) ∙ ap (λ (s : List ℕ). get_or s 0 0) e in
      ap (number_from ws (64 * k)) n
      ∙ whole_word ws h.fit k (64 * length l)
      ∙ ap₂ (λ (a b : ℕ). a * 2 ^ (64 * k) + b) y (words-from (k + 1) l d ∙ ap (λ (i : ℕ). value_of l * i) (ap (λ (i : ℕ). 2 ^ i) m ∙ pow-add 2 (64 * k) 64))
      ∙ joined x (value_of l) (2 ^ (64 * k)) (2 ^ 64)
    where
      joined : (a b p q : ℕ) → a * p + b * (p * q) ≡ (a + b * q) * p
      joined a b p q = omega arith

  set_value : set_number (members ws) ≡ value_of ws
  unfolding members
  set_value =
      let n : 64 * length ws ≡ 256 = omega (arith, h.four) in
      ap (number_from ws 0) (sym n) ∙ words-from 0 ws refl ∙ mul-one (value_of ws)

value-above : (k : ℕ) (ws : List ℕ) → ((i : ℕ) → get_or ws i 0 < 2 ^ 64) → value_of ws / 256 ^ (8 * k) ≡ value_of (drop k ws)
unfolding value_of
value-above zero ws h = div-one (value_of ws)
value-above (suc k) [] h = zero-div (256 ^ (8 * suc k))
value-above (suc k) (x ∷ ws) h =
    let e : 8 * suc k ≡ 8 + 8 * k = omega arith in
    let l = h 0 in
    let q : (x + value_of ws * 2 ^ 64) / 256 ^ 8 ≡ value_of ws = omega arith in
    ap (λ (y : ℕ). (x + value_of ws * 2 ^ 64) / y) (ap (λ (i : ℕ). 256 ^ i) e ∙ pow-add 256 8 (8 * k))
    ∙ sym (div-div-eq-div-mul (x + value_of ws * 2 ^ 64) (256 ^ 8) (256 ^ (8 * k)))
    ∙ ap (λ (y : ℕ). y / 256 ^ (8 * k)) q
    ∙ value-above k ws (λ i. h (suc i))

value-first : (k : ℕ) (ws : List ℕ) → value_of (drop k ws) ≡ get_or ws k 0 + value_of (drop (k + 1) ws) * 2 ^ 64
unfolding value_of
value-first zero [] = refl
value-first zero (x ∷ ws) = refl
value-first (suc k) [] = sym (ap (λ (i : ℕ). 0 + value_of (drop i []) * 2 ^ 64) (add-one (suc k)))
value-first (suc k) (x ∷ ws) = let e : suc (k + 1) ≡ suc k + 1 = omega arith in value-first k ws ∙ ap (λ (i : ℕ). get_or ws k 0 + value_of (drop i (x ∷ ws)) * 2 ^ 64) e

-- ---- bytes
pub length-bytes : (k x : ℕ) → length (big_endian k x) ≡ k
unfolding big_endian
length-bytes zero x = refl
length-bytes (suc k) x = ap suc (length-bytes k x)

-- the lowest k bytes, and m above them
bytes-above : (m k x : ℕ) → big_endian (m + k) x ≡ big_endian m (x / 256 ^ k) ++ big_endian k x
unfolding big_endian
bytes-above zero k x = ap (λ (i : ℕ). big_endian i x) (zero-add k)
bytes-above (suc m) k x =
    let e : suc m + k ≡ suc (m + k) = omega arith in
    let p : 256 ^ (m + k) ≡ 256 ^ k * 256 ^ m = ap (λ (i : ℕ). 256 ^ i) (add_comm m k) ∙ pow-add 256 k m in
    ap (λ (i : ℕ). big_endian i x) e
    ∙ ap₂ (λ (a : ℕ) (b : List ℕ). a ∷ b) (ap (λ (y : ℕ). y % 256) (ap (λ (y : ℕ). x / y) p ∙ sym (div-div-eq-div-mul x (256 ^ k) (256 ^ m)))) (bytes-above m k x)

-- whatever stands above them
bytes_below : (m x u : ℕ) → big_endian m (x + u * 256 ^ m) ≡ big_endian m x
unfolding big_endian
bytes_below zero x u = refl
bytes_below (suc m) x u =
    ap (λ (y : ℕ). big_endian (suc m) (x + y)) (ap (λ (y : ℕ). u * y) (pow-suc 256 m) ∙ turned u (256 ^ m))
    ∙ ap₂ (λ (a : ℕ) (b : List ℕ). a ∷ b) (ap (λ (y : ℕ). y % 256) (add-mul-div_right x (u * 256) (one-le-pow m 256 (zero-lt-suc 255))) ∙ add-mul-mod_self_right (x / 256 ^ m) u 256)
    (bytes_below m x (u * 256))
  where
    turned : (a b : ℕ) → a * (b * 256) ≡ a * 256 * b
    turned a b = omega arith

-- the highest word, and the others
word_first : (ws : List ℕ) → Words ws → (k : ℕ) → bytes_of_set ws (8 * (k + 1)) ≡ big_endian 8 (get_or ws k 0) ++ bytes_of_set ws (8 * k)
word_first ws h k =
    let X = set_number (members ws) in
    let e : 8 * (k + 1) ≡ 8 + 8 * k = omega arith in
    let v : X / 256 ^ (8 * k) ≡ get_or ws k 0 + value_of (drop (k + 1) ws) * 2 ^ 64 =
    ap (λ (y : ℕ). y / 256 ^ (8 * k)) (set_value ws h) ∙ value-above k ws h.fit ∙ value-first k ws in
    ap (λ (i : ℕ). big_endian i X) e
    ∙ bytes-above 8 (8 * k) X
    ∙ ap (λ (y : List ℕ). y ++ big_endian (8 * k) X) (ap (big_endian 8) v ∙ bytes_below 8 (get_or ws k 0) (value_of (drop (k + 1) ws)))

-- ---- the eight bytes of a word
pub eight : (n : ℕ) → to_be_bytes w64 n ≡ big_endian 8 n
unfolding big_endian
eight n = let e : n % 256 ≡ n / 1 % 256 = omega arith in rw e refl

-- ---- the words, from the highest to the lowest
-- all but the k lowest words are written
pub record Upto (d₀ : List ℕ) (i : ℕ) (ws : List ℕ) (size k at : ℕ) (d : List ℕ) : Type 0 where
  pub done : List ℕ
  pub wrote : Wrote d₀ i done d
  pub is : done ++ bytes_of_set ws (8 * k) ≡ bytes_of_set ws size
  pub few : k ≤ 4
  pub place : at ≡ i + length done

module _ {d₀ : List ℕ} {i : ℕ} {ws : List ℕ} where
  pub set-start : {k : ℕ} → k ≤ 4 → Upto d₀ i ws (8 * k) k i d₀
  set-start h = record { done = []; wrote = wrote_none d₀ i; is = refl; few = h; place = omega arith }

  module _ {size k at : ℕ} {d : List ℕ} (u : Upto d₀ i ws size k at d) (room : i + size ≤ length d₀) where
    -- what is left fits
    pub set_room : (at + 8 * k ≡ i + size) × (length d ≡ length d₀)
    set_room =
        let a = sym (length-append u.done (bytes_of_set ws (8 * k))) ∙ ap length u.is in
        let b = length-bytes (8 * k) (set_number (members ws)) in
        let c = length-bytes size (set_number (members ws)) in
        let p = u.place in
        (omega arith, wrote-length u.wrote (omega arith))

    pub set_next : Words ws → {j r : ℕ} {e : List ℕ} → j + 1 ≡ k → Wrote d at (big_endian 8 (get_or ws j 0)) e → r ≡ at + 8 → Upto d₀ i ws size j r e
    set_next h {j} {r} l x y =
        let few = u.few in
        let p = u.place in
        let n = length-append u.done (big_endian 8 (get_or ws j 0)) in
        record {
          done = u.done ++ big_endian 8 (get_or ws j 0);
          wrote = put-more u.wrote x (omega arith) p;
          is = append_assoc u.done _ _ ∙ ap (λ z. u.done ++ z) (sym (word_first ws h j) ∙ ap (λ z. bytes_of_set ws (8 * z)) l) ∙ u.is;
          few = omega arith;
          place = omega (arith, length-bytes 8 (get_or ws j 0));
        }

    pub set-end : {b : ℕ} → size ≡ b → k ≤ 0 → (at ≡ i + b) × Wrote d₀ i (bytes_of_set ws b) d
    unfolding big_endian
    set-end e h =
        let z : 8 * k ≡ 0 = omega arith in
        (omega (arith, set_room.0), wrote_as (sym (append-nil u.done) ∙ ap (λ j. u.done ++ bytes_of_set ws j) (sym z) ∙ u.is ∙ ap (λ j. bytes_of_set ws j) e) u.wrote)
