-- Digits from a place on, as the loops take them.
use mathlib.Core.Path.{◌≡◌, refl}
use mathlib.Core.Bool.{Bool, true, false, ◌&&◌}
use mathlib.Core.List.{List, [], ◌∷◌}
use mathlib.Core.Option.{none, some}
use Prim.Native.Nat.{ℕ, zero, suc, ◌+◌, ◌-◌, ◌*◌, ◌≤◌, ◌<◌}
use native.Mathlib.Numerals.{add-one}
use native.Mathlib.Omega.{arith}
use lib.Dec.{leb}
use lib.ListN.{length, get_or, drop}
use lib.Seq.{drop-cons, drop-nil}
use Rattle.semantics.specs.Bytes.{every, within, All, all_nil, all_cons}
use Rattle.semantics.proofs.Facts.{every-all, within_low}
use Rattle.std.specs.List.{list_all}
use Rattle.std.specs.Char.{is_ascii_digit}
use Rattle.decimal.specs.Decimal.{is_digit, value_from, decimal_in}

-- ---- all of them
none_left : (s : List ℕ) (i : ℕ) → length s ≤ i → drop i s ≡ []
none_left [] i h = drop-nil i
none_left (b ∷ s) zero h = absurd (omega arith)
none_left (b ∷ s) (suc i) h = none_left s i (omega arith)

pub value-end : (n : ℕ) (s : List ℕ) (i : ℕ) → length s ≤ i → value_from n (drop i s) ≡ n
unfolding value_from
value-end n s i h = rw (none_left s i h) refl

module _ (s : List ℕ) (i : ℕ) (h : i < length s) where
  pub value-next : (n : ℕ) → value_from n (drop i s) ≡ value_from (n * 10 + (get_or s i 0 - 48)) (drop (i + 1) s)
  unfolding value_from
  value-next n = rw (add-one, drop-cons s i 0 h) refl

all-at : {P : ℕ → Type 0} {l : List ℕ} (i : ℕ) → All P l → i < length l → P (get_or l i 0)
all-at zero all_nil h = elim h [ ]
all-at (suc i) all_nil h = elim h [ ]
all-at zero (all_cons p a) h = p
all-at (suc i) (all_cons p a) h = all-at i a (omega arith)

pub digit_low : (s : List ℕ) (i : ℕ) → every is_digit s ≡ true → i < length s → 48 ≤ get_or s i 0
unfolding is_digit
digit_low s i e h = within_low 48 57 (get_or s i 0) (all-at i (every-all is_digit s e) h)

-- more digits make no smaller number
value-more : (n : ℕ) (s : List ℕ) → n ≤ value_from n s
unfolding value_from
value-more n [] = omega arith
value-more n (b ∷ s) = let h = value-more (n * 10 + (b - 48)) s in omega arith

-- where the digits up to i make a number above most, all of them do
pub value-over : (s : List ℕ) (i : ℕ) → i < length s → (n : ℕ) {most v : ℕ} → v ≡ value_from n (drop i s) → most < n * 10 + (get_or s i 0 - 48) → most < v
value-over s i h n e k =
    let m = value-more (n * 10 + (get_or s i 0 - 48)) (drop (i + 1) s) in
    let w = value-next s i h n in
    omega arith

-- ---- what they are
-- std's test of them
pub ascii-digits : (s : List ℕ) → list_all is_ascii_digit s ≡ every is_digit s
unfolding every is_digit within
ascii-digits [] = refl
ascii-digits (b ∷ s) = go (leb 48 b && leb b 57) (ascii-digits s)
  where
    go : (t : Bool) {r q : Bool} → r ≡ q → (t && r) ≡ elim t [ true ↦ q | false ↦ false ]
    go true e = e
    go false e = refl

pub nothing : (s : List ℕ) → length s ≡ 0 → decimal_in s ≡ none
unfolding decimal_in
nothing [] h = refl
nothing (b ∷ s) h = absurd (omega arith)

pub no_digit : (s : List ℕ) → every is_digit s ≡ false → decimal_in s ≡ none
unfolding decimal_in
no_digit [] e = refl
no_digit (b ∷ s) e = rw e refl

pub decimal-value : (s : List ℕ) → 0 < length s → every is_digit s ≡ true → decimal_in s ≡ some (value_from 0 s)
unfolding decimal_in
decimal-value [] h e = absurd (omega arith)
decimal-value (b ∷ s) h e = rw e refl
