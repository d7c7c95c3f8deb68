-- A reader of lists against a place in a slice: one law for each way to put readers together.
use mathlib.Core.Path.{◌≡◌, refl, sym, ap, ◌∙◌, subst}
use mathlib.Core.Bool.{Bool, true, false, and-false}
use mathlib.Core.List.{List, [], ◌∷◌}
use mathlib.Core.Option.{Option, none, some}
use Prim.Native.Nat.{ℕ, zero, suc, ◌+◌, ◌≤◌, ◌<◌}
use native.Mathlib.Nat.{add-zero, zero-add}
use native.Mathlib.Numerals.{add-one}
use native.Mathlib.Omega.{arith}
use borrow.Author.Tests.{ltb-true, ltb-false, le-leb, lt-leb}
use lib.Dec.{leb, ltb}
use lib.IntN.{ℤ}
use lib.ListN.{length, get_or, take, drop, length-drop}
use lib.Seq.{drop-cons, drop-drop, drop-nil, get_or-drop}
use Rattle.semantics.specs.Bytes.{be2, be4, signed, Width, one_byte, two_bytes, width_of, Read, broken, read, Reader, and_then, ◌>>=◌, give, fail, guard, from, byte, nat2, nat4, int4, number, bytes, section2, section4, just, whole, within}
use Rattle.semantics.proofs.Facts.{none-not-some}
use Rattle.codec.specs.Numbers.{number_at}
use Rattle.codec.specs.Reading.{Took, Reads, reads_at, reads_none}

-- ---- an answer that is known
abbrev pair_or : {X : Type 0} → ℕ × X → Option (ℕ × X) → ℕ × X
pair_or d none = d
pair_or d (some a) = a

pub taken : {A X : Type 0} {r : Reader A} {K : A → X → Type 0} {s : List ℕ} {p q : ℕ} {x : X} {w : Option (ℕ × X)} → Reads r K s p w → w ≡ some (q, x) → Took r K s p q x
taken {A} {X} {r} {K} {s} {p} {q} {x} k e = go k e
  where
    go : {w : Option (ℕ × X)} → Reads r K s p w → w ≡ some (q, x) → Took r K s p q x
    go (reads_at {q = m} {x = y} t) e =
        subst (λ (z : ℕ × X). Took r K s p z.0 z.1) (ap (pair_or (m, y)) e) t
    go (reads_none h) e = none-not-some e

pub lost : {A X : Type 0} {r : Reader A} {K : A → X → Type 0} {s : List ℕ} {p : ℕ} {w : Option (ℕ × X)} → Reads r K s p w → w ≡ none → r (drop p s) ≡ broken
lost (reads_at t) e = none-not-some (sym e)
lost (reads_none h) e = h

-- all laws come from this one
pub moves : {A X : Type 0} {r t : Reader A} {K : A → X → Type 0} {s : List ℕ} {p q : ℕ} {w : Option (ℕ × X)} → r (drop p s) ≡ t (drop q s) → Reads t K s q w → Reads r K s p w
moves e (reads_at k) = reads_at (record { value = k.value; got = e ∙ k.got; inside = k.inside; means = k.means })
moves e (reads_none k) = reads_none (e ∙ k)

-- another meaning of the answer
pub told : {A X Y : Type 0} {r : Reader A} {K : A → X → Type 0} {L : A → Y → Type 0} {s : List ℕ} {p q : ℕ} {x : X} {y : Y} → Took r K s p q x → ((a : A) → K a x → L a y) → Took r L s p q y
told t f = record { value = t.value; got = t.got; inside = t.inside; means = f t.value t.means }

pub drop_past : (p : ℕ) (s : List ℕ) → length s ≤ p → drop p s ≡ []
drop_past p [] h = drop-nil p
drop_past zero (a ∷ s) h = absurd (omega arith)
drop_past (suc p) (a ∷ s) h = drop_past p s (omega arith)

pub drop-some : (q : ℕ) (s : List ℕ) → q < length s → drop q s ≡ get_or s q 0 ∷ drop (q + 1) s
drop-some q s h = rw (add-one, drop-cons s q 0)

-- ---- one reader after another
module _ {A B X Y : Type 0} (f : A → Reader B) {K : A → X → Type 0} {L : B → Y → Type 0} {s : List ℕ} {p : ℕ} where
  pub then : {r : Reader A} {w : Option (ℕ × X)} {v : Option (ℕ × Y)} {q : ℕ} {x : X} → Reads r K s p w → w ≡ some (q, x) → ((t : Took r K s p q x) → Reads (f t.value) L s q v) → Reads (r >>= f) L s p v
  unfolding ◌>>=◌ and_then
  then k e h =
      let t = taken k e in
      moves (rw t.got refl) (h t)

  pub then-took : {r : Reader A} {v : Option (ℕ × Y)} {q : ℕ} {x : X} (t : Took r K s p q x) → Reads (f t.value) L s q v → Reads (r >>= f) L s p v
  unfolding ◌>>=◌ and_then
  then-took t h = moves (rw t.got refl) h

  pub broke : {r : Reader A} {w : Option (ℕ × X)} → Reads r K s p w → w ≡ none → Reads (r >>= f) L s p none
  unfolding ◌>>=◌ and_then
  broke k e = reads_none (rw (lost k e) refl)

-- a reader that is put together, at the front of another
pub assoc : {A B C X : Type 0} (r : Reader A) (f : A → Reader B) (g : B → Reader C) {L : C → X → Type 0} {s : List ℕ} {p : ℕ} {v : Option (ℕ × X)} → Reads (r >>= (λ a. f a >>= g)) L s p v → Reads ((r >>= f) >>= g) L s p v
unfolding ◌>>=◌ and_then
assoc {A} {B} {C} r f g {s = s} {p = p} k = moves (go (r (drop p s))) k
  where
    go : (o : Read A) → and_then (and_then o f) g ≡ and_then o (λ a s. and_then (f a s) g)
    go broken = refl
    go (read a t) = refl

-- ---- what takes no bytes
module _ {A X : Type 0} {K : A → X → Type 0} {s : List ℕ} {p : ℕ} where
  pub gives : (a : A) {x : X} → p ≤ length s → K a x → Reads (give a) K s p (some (p, x))
  unfolding give
  gives a h e = reads_at (record { value = a; got = refl; inside = h; means = e })

  pub fails : Reads fail K s p none
  unfolding fail
  fails = reads_none refl

  pub then-guard : (b : Bool) (r : Reader A) {v : Option (ℕ × X)} → b ≡ true → Reads r K s p v → Reads (guard b r) K s p v
  unfolding guard
  then-guard b r e k = rw e k

  pub no-guard : (b : Bool) (r : Reader A) → b ≡ false → Reads (guard b r) K s p none
  unfolding guard fail
  no-guard b r e = rw e (reads_none refl)

  pub lifts : (o : Option A) {a : A} {x : X} → p ≤ length s → o ≡ some a → K a x → Reads (from o) K s p (some (p, x))
  unfolding from give
  lifts o {a} {x} h e k = reads_at {q = p} {x = x} (record { value = a; got = rw e refl; inside = h; means = k })

  pub no-lift : (o : Option A) → o ≡ none → Reads (from o) K s p none
  unfolding from fail
  no-lift o e = reads_none (rw e refl)

-- ---- a byte, and so many bytes
module _ {B X : Type 0} (f : ℕ → Reader B) {L : B → X → Type 0} {s : List ℕ} {p : ℕ} where
  pub then-byte : {v : Option (ℕ × X)} → p < length s → Reads (f (get_or s p 0)) L s (p + 1) v → Reads (byte >>= f) L s p v
  unfolding ◌>>=◌ and_then byte
  then-byte h k = moves (rw (drop-some p s) refl) k

  pub no_byte : length s ≤ p → Reads (byte >>= f) L s p none
  unfolding ◌>>=◌ and_then byte
  no_byte h = reads_none (rw (drop_past p s) refl)

module _ {B X : Type 0} (f : List ℕ → Reader B) {L : B → X → Type 0} {s : List ℕ} {p : ℕ} (n : ℕ) where
  pub then-bytes : {v : Option (ℕ × X)} → p + n ≤ length s → Reads (f (take n (drop p s))) L s (p + n) v → Reads (bytes n >>= f) L s p v
  unfolding ◌>>=◌ and_then bytes
  then-bytes h k =
      let l : leb n (length (drop p s)) ≡ true = le-leb n (length (drop p s)) (omega (arith, length-drop p s)) in
      moves (rw l (rw drop-drop refl)) k

  pub no_bytes : length s < p + n → p ≤ length s → Reads (bytes n >>= f) L s p none
  unfolding ◌>>=◌ and_then bytes
  no_bytes h i =
      let l : leb n (length (drop p s)) ≡ false = lt-leb n (length (drop p s)) (omega (arith, length-drop p s)) in
      reads_none (rw l refl)

-- ---- numbers of two and four bytes
pub nat2-some : (l : List ℕ) → 2 ≤ length l → nat2 l ≡ read (be2 (get_or l 0 0) (get_or l 1 0)) (drop 2 l)
unfolding nat2 ◌>>=◌ and_then byte give
nat2-some [] h = absurd (omega arith)
nat2-some (a ∷ []) h = absurd (omega arith)
nat2-some (a ∷ b ∷ l) h = refl

pub nat2-none : (l : List ℕ) → length l < 2 → nat2 l ≡ broken
unfolding nat2 ◌>>=◌ and_then byte give
nat2-none [] h = refl
nat2-none (a ∷ []) h = refl
nat2-none (a ∷ b ∷ l) h = absurd (omega arith)

pub nat4-some : (l : List ℕ) → 4 ≤ length l → nat4 l ≡ read (be4 (get_or l 0 0) (get_or l 1 0) (get_or l 2 0) (get_or l 3 0)) (drop 4 l)
unfolding nat4 ◌>>=◌ and_then byte give
nat4-some [] h = absurd (omega arith)
nat4-some (a ∷ []) h = absurd (omega arith)
nat4-some (a ∷ b ∷ []) h = absurd (omega arith)
nat4-some (a ∷ b ∷ c ∷ []) h = absurd (omega arith)
nat4-some (a ∷ b ∷ c ∷ d ∷ l) h = refl

pub nat4-none : (l : List ℕ) → length l < 4 → nat4 l ≡ broken
unfolding nat4 ◌>>=◌ and_then byte give
nat4-none [] h = refl
nat4-none (a ∷ []) h = refl
nat4-none (a ∷ b ∷ []) h = refl
nat4-none (a ∷ b ∷ c ∷ []) h = refl
nat4-none (a ∷ b ∷ c ∷ d ∷ l) h = absurd (omega arith)

-- the numbers at a place
abbrev pub nat2_at : List ℕ → ℕ → ℕ
nat2_at s p = be2 (get_or s p 0) (get_or s (p + 1) 0)

abbrev pub nat4_at : List ℕ → ℕ → ℕ
nat4_at s p = be4 (get_or s p 0) (get_or s (p + 1) 0) (get_or s (p + 2) 0) (get_or s (p + 3) 0)

module _ (s : List ℕ) (p : ℕ) where
  pub nat2-at : p + 2 ≤ length s → nat2 (drop p s) ≡ read (nat2_at s p) (drop (p + 2) s)
  nat2-at h =
      let l : 2 ≤ length (drop p s) = omega (arith, length-drop p s) in
      rw (nat2-some (drop p s)) (simp (drop-drop, get_or-drop, add-zero))

  pub nat2-short : length s < p + 2 → p ≤ length s → nat2 (drop p s) ≡ broken
  nat2-short h i = nat2-none (drop p s) (omega (arith, length-drop p s))

  pub nat4-at : p + 4 ≤ length s → nat4 (drop p s) ≡ read (nat4_at s p) (drop (p + 4) s)
  nat4-at h =
      let l : 4 ≤ length (drop p s) = omega (arith, length-drop p s) in
      rw (nat4-some (drop p s)) (simp (drop-drop, get_or-drop, add-zero))

  pub nat4-short : length s < p + 4 → p ≤ length s → nat4 (drop p s) ≡ broken
  nat4-short h i = nat4-none (drop p s) (omega (arith, length-drop p s))

  pub int4-at : p + 4 ≤ length s → int4 (drop p s) ≡ read (signed (nat4_at s p)) (drop (p + 4) s)
  unfolding int4 ◌>>=◌ and_then give
  int4-at h = rw (nat4-at h) refl

  pub int4-short : length s < p + 4 → p ≤ length s → int4 (drop p s) ≡ broken
  unfolding int4 ◌>>=◌ and_then
  int4-short h i = rw (nat4-short h i) refl

module _ {B X : Type 0} (f : ℕ → Reader B) {L : B → X → Type 0} {s : List ℕ} {p : ℕ} where
  pub then-nat2 : {v : Option (ℕ × X)} → p + 2 ≤ length s → Reads (f (nat2_at s p)) L s (p + 2) v → Reads (nat2 >>= f) L s p v
  unfolding ◌>>=◌ and_then
  then-nat2 h k = moves (rw (nat2-at s p h) refl) k

  pub no-nat2 : length s < p + 2 → p ≤ length s → Reads (nat2 >>= f) L s p none
  unfolding ◌>>=◌ and_then
  no-nat2 h i = reads_none (rw (nat2-short s p h i) refl)

  pub then-nat4 : {v : Option (ℕ × X)} → p + 4 ≤ length s → Reads (f (nat4_at s p)) L s (p + 4) v → Reads (nat4 >>= f) L s p v
  unfolding ◌>>=◌ and_then
  then-nat4 h k = moves (rw (nat4-at s p h) refl) k

  pub no-nat4 : length s < p + 4 → p ≤ length s → Reads (nat4 >>= f) L s p none
  unfolding ◌>>=◌ and_then
  no-nat4 h i = reads_none (rw (nat4-short s p h i) refl)

-- a count, length or number of the edition's width
pub number-at : (w : Width) (s : List ℕ) (p : ℕ) → p + width_of w ≤ length s → number w (drop p s) ≡ read (number_at w s p) (drop (p + width_of w) s)
unfolding number width_of number_at byte
number-at one_byte s p h = rw (drop-some p s (omega arith)) refl
number-at two_bytes s p h = nat2-at s p h

pub number_short : (w : Width) (s : List ℕ) (p : ℕ) → length s < p + width_of w → number w (drop p s) ≡ broken
unfolding number width_of byte
number_short one_byte s p h = rw (drop_past p s (omega arith)) refl
number_short two_bytes s p h = nat2-none (drop p s) (omega (arith, length-drop p s))

-- at the front
pub number-front : (w : Width) (s : List ℕ) → width_of w ≤ length s → number w s ≡ read (number_at w s 0) (drop (width_of w) s)
number-front w s h = number-at w s 0 (omega arith) ∙ ap (λ k. read (number_at w s 0) (drop k s)) (zero-add (width_of w))

pub no_front : (w : Width) (s : List ℕ) → length s < width_of w → number w s ≡ broken
no_front w s h = number_short w s 0 (omega arith)

module _ (w : Width) {B X : Type 0} (f : ℕ → Reader B) {L : B → X → Type 0} {s : List ℕ} {p : ℕ} where
  pub then-number : {v : Option (ℕ × X)} → p + width_of w ≤ length s → Reads (f (number_at w s p)) L s (p + width_of w) v → Reads (number w >>= f) L s p v
  unfolding ◌>>=◌ and_then
  then-number h k = moves (rw (number-at w s p h) refl) k

  pub no_number : length s < p + width_of w → Reads (number w >>= f) L s p none
  unfolding ◌>>=◌ and_then
  no_number h = reads_none (rw (number_short w s p h) refl)

module _ {B X : Type 0} (f : ℤ → Reader B) {L : B → X → Type 0} {s : List ℕ} {p : ℕ} where
  pub then-int4 : {v : Option (ℕ × X)} → p + 4 ≤ length s → Reads (f (signed (nat4_at s p))) L s (p + 4) v → Reads (int4 >>= f) L s p v
  unfolding ◌>>=◌ and_then
  then-int4 h k = moves (rw (int4-at s p h) refl) k

  pub no-int4 : length s < p + 4 → p ≤ length s → Reads (int4 >>= f) L s p none
  unfolding ◌>>=◌ and_then
  no-int4 h i = reads_none (rw (int4-short s p h i) refl)

-- ---- sections: the length, then the bytes
module _ (s : List ℕ) (p n : ℕ) where
  pub section2-at : n ≡ nat2_at s p → p + 2 + n ≤ length s → section2 (drop p s) ≡ read (take n (drop (p + 2) s)) (drop (p + 2 + n) s)
  unfolding section2 ◌>>=◌ and_then bytes
  section2-at e h =
      let l : leb n (length (drop (p + 2) s)) ≡ true = le-leb n (length (drop (p + 2) s)) (omega (arith, length-drop (p + 2) s)) in
      rw (nat2-at s p (omega arith), ← e, l, drop-drop n (p + 2) s) refl

  pub section2-cut : n ≡ nat2_at s p → p + 2 ≤ length s → length s < p + 2 + n → section2 (drop p s) ≡ broken
  unfolding section2 ◌>>=◌ and_then bytes
  section2-cut e h i =
      let l : leb n (length (drop (p + 2) s)) ≡ false = lt-leb n (length (drop (p + 2) s)) (omega (arith, length-drop (p + 2) s)) in
      rw (nat2-at s p h, ← e, l) refl

  pub section4-at : n ≡ nat4_at s p → p + 4 + n ≤ length s → section4 (drop p s) ≡ read (take n (drop (p + 4) s)) (drop (p + 4 + n) s)
  unfolding section4 ◌>>=◌ and_then bytes
  section4-at e h =
      let l : leb n (length (drop (p + 4) s)) ≡ true = le-leb n (length (drop (p + 4) s)) (omega (arith, length-drop (p + 4) s)) in
      rw (nat4-at s p (omega arith), ← e, l, drop-drop n (p + 4) s) refl

  pub section4-cut : n ≡ nat4_at s p → p + 4 ≤ length s → length s < p + 4 + n → section4 (drop p s) ≡ broken
  unfolding section4 ◌>>=◌ and_then bytes
  section4-cut e h i =
      let l : leb n (length (drop (p + 4) s)) ≡ false = lt-leb n (length (drop (p + 4) s)) (omega (arith, length-drop (p + 4) s)) in
      rw (nat4-at s p h, ← e, l) refl

pub section2-short : (s : List ℕ) (p : ℕ) → length s < p + 2 → p ≤ length s → section2 (drop p s) ≡ broken
unfolding section2 ◌>>=◌ and_then
section2-short s p h i = rw (nat2-short s p h i) refl

pub section4-short : (s : List ℕ) (p : ℕ) → length s < p + 4 → p ≤ length s → section4 (drop p s) ≡ broken
unfolding section4 ◌>>=◌ and_then
section4-short s p h i = rw (nat4-short s p h i) refl

module _ {B X : Type 0} (f : List ℕ → Reader B) {L : B → X → Type 0} {s : List ℕ} {p : ℕ} where
  pub then-section2 : (n : ℕ) {v : Option (ℕ × X)} → n ≡ nat2_at s p → p + 2 + n ≤ length s → Reads (f (take n (drop (p + 2) s))) L s (p + 2 + n) v → Reads (section2 >>= f) L s p v
  unfolding ◌>>=◌ and_then
  then-section2 n e h k = moves (rw (section2-at s p n e h) refl) k

  pub cut-section2 : (n : ℕ) → n ≡ nat2_at s p → p + 2 ≤ length s → length s < p + 2 + n → Reads (section2 >>= f) L s p none
  unfolding ◌>>=◌ and_then
  cut-section2 n e h i = reads_none (rw (section2-cut s p n e h i) refl)

  pub no-section2 : length s < p + 2 → p ≤ length s → Reads (section2 >>= f) L s p none
  unfolding ◌>>=◌ and_then
  no-section2 h i = reads_none (rw (section2-short s p h i) refl)

  pub then-section4 : (n : ℕ) {v : Option (ℕ × X)} → n ≡ nat4_at s p → p + 4 + n ≤ length s → Reads (f (take n (drop (p + 4) s))) L s (p + 4 + n) v → Reads (section4 >>= f) L s p v
  unfolding ◌>>=◌ and_then
  then-section4 n e h k = moves (rw (section4-at s p n e h) refl) k

  pub cut-section4 : (n : ℕ) → n ≡ nat4_at s p → p + 4 ≤ length s → length s < p + 4 + n → Reads (section4 >>= f) L s p none
  unfolding ◌>>=◌ and_then
  cut-section4 n e h i = reads_none (rw (section4-cut s p n e h i) refl)

  pub no-section4 : length s < p + 4 → p ≤ length s → Reads (section4 >>= f) L s p none
  unfolding ◌>>=◌ and_then
  no-section4 h i = reads_none (rw (section4-short s p h i) refl)

-- ---- a whole slice
module _ {A X : Type 0} {K : A → X → Type 0} {s : List ℕ} {r : Reader A} where
  pub kept : {q : ℕ} {x : X} (t : Took r K s 0 q x) → length s ≤ q → whole r s ≡ some t.value
  unfolding whole just
  kept {q} t h = rw (t.got, drop_past q s) refl

  pub over : {q : ℕ} {x : X} → Took r K s 0 q x → q < length s → whole r s ≡ none
  unfolding whole just
  over {q} t h = rw (t.got, drop-some q s) refl

  pub none_kept : {w : Option (ℕ × X)} → Reads r K s 0 w → w ≡ none → whole r s ≡ none
  unfolding whole just
  none_kept k e = rw (lost k e) refl

-- the two cases of a place and an end
pub either : {C : Type 0} (a b : ℕ) → (a < b → C) → (b ≤ a → C) → C
either {C} a b f g = go (ltb a b) refl
  where
    go : (t : Bool) → ltb a b ≡ t → C
    go true e = f (ltb-true a b e)
    go false e = g (ltb-false a b e)

-- a number outside its bounds; Facts of semantics has within-both
module _ (a b n : ℕ) where
  pub within-below : n < a → within a b n ≡ false
  unfolding within
  within-below h = rw (lt-leb a n) refl

  pub within-above : b < n → within a b n ≡ false
  unfolding within
  within-above h = rw (lt-leb n b, and-false (leb a n)) refl
