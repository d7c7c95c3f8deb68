-- What is known where a reader is known to succeed: a read at a place inverted by rewriting.
-- Readers of semantics has the same for lists: split, guarded, from-some, whole-read.
use mathlib.Core.Path.{◌≡◌, refl, sym, ap, ◌∙◌}
use mathlib.Core.Bool.{true, false}
use mathlib.Core.List.{List, [], ◌∷◌, ◌++◌}
use mathlib.Core.Option.{Option, none, some}
use Prim.Native.Nat.{ℕ, zero, suc, ◌+◌, ◌≤◌, ◌<◌}
use native.Mathlib.Omega.{arith}
use lib.IntN.{ℤ}
use lib.ListN.{length, get_or, take, drop, get_elem?, length-drop}
use lib.Seq.{drop-drop}
use borrow.Author.Tests.{le-leb, lt-leb}
use lib.Dec.{leb}
use Rattle.semantics.specs.Bytes.{signed, Width, width_of, Read, broken, read, Reader, and_then, ◌>>=◌, give, byte, nat2, nat4, int4, number, bytes, times, section2, section4}
use Rattle.semantics.proofs.Readers.{broken-not-read, read-value, read-rest, split, given, given-rest, times-read}
use Rattle.codec.specs.Numbers.{number_at}
use Rattle.codec.specs.Reading.{Took, Reads}
use Rattle.codec.proofs.Reading.{lost, drop_past, drop-some, nat2_at, nat4_at, nat2-at, nat2-short, nat4-at, nat4-short, int4-at, int4-short, number-at, number-front, number_short, section2-at, section2-cut, section4-at, section4-cut}

-- ---- what follows the first reader
module _ {A B : Type 0} (f : A → Reader B) {s : List ℕ} {p : ℕ} {b : B} {e : List ℕ} where
  pub after-took : {X : Type 0} {r : Reader A} {K : A → X → Type 0} {q : ℕ} {x : X} (t : Took r K s p q x) → (r >>= f) (drop p s) ≡ read b e → f t.value (drop q s) ≡ read b e
  unfolding ◌>>=◌ and_then
  after-took t h = rw t.got at h

pub not-broken : {A X C : Type 0} {r : Reader A} {K : A → X → Type 0} {s : List ℕ} {p : ℕ} {w : Option (ℕ × X)} {a : A} {e : List ℕ} → Reads r K s p w → w ≡ none → r (drop p s) ≡ read a e → C
not-broken k i h = broken-not-read (sym (lost k i) ∙ h)

pub not-lost : {A B C : Type 0} (f : A → Reader B) (r : Reader A) (l : List ℕ) {b : B} {e : List ℕ} → r l ≡ broken → (r >>= f) l ≡ read b e → C
unfolding ◌>>=◌ and_then
not-lost f r l k h = broken-not-read (rw k at h)

module _ {B : Type 0} (f : ℕ → Reader B) (s : List ℕ) (p : ℕ) {b : B} {e : List ℕ} where
  pub after-byte : p < length s → (byte >>= f) (drop p s) ≡ read b e → f (get_or s p 0) (drop (p + 1) s) ≡ read b e
  unfolding ◌>>=◌ and_then byte
  after-byte i h = rw (drop-some p s) at h

  pub not-past : {C : Type 0} → length s ≤ p → (byte >>= f) (drop p s) ≡ read b e → C
  unfolding ◌>>=◌ and_then byte
  not-past i h = broken-not-read (rw (drop_past p s) at h)

  -- a count, length or number of the edition's width
  pub after-number : (w : Width) → p + width_of w ≤ length s → (number w >>= f) (drop p s) ≡ read b e → f (number_at w s p) (drop (p + width_of w) s) ≡ read b e
  unfolding ◌>>=◌ and_then
  after-number w i h = rw (number-at w s p i) at h

  pub not-number : {C : Type 0} (w : Width) → length s < p + width_of w → (number w >>= f) (drop p s) ≡ read b e → C
  not-number w i h = not-lost f (number w) (drop p s) (number_short w s p i) h

  pub after-nat2 : p + 2 ≤ length s → (nat2 >>= f) (drop p s) ≡ read b e → f (nat2_at s p) (drop (p + 2) s) ≡ read b e
  unfolding ◌>>=◌ and_then
  after-nat2 i h = rw (nat2-at s p i) at h

  pub not-nat2 : {C : Type 0} → length s < p + 2 → p ≤ length s → (nat2 >>= f) (drop p s) ≡ read b e → C
  not-nat2 i j h = not-lost f nat2 (drop p s) (nat2-short s p i j) h

  pub after-nat4 : p + 4 ≤ length s → (nat4 >>= f) (drop p s) ≡ read b e → f (nat4_at s p) (drop (p + 4) s) ≡ read b e
  unfolding ◌>>=◌ and_then
  after-nat4 i h = rw (nat4-at s p i) at h

  pub not-nat4 : {C : Type 0} → length s < p + 4 → p ≤ length s → (nat4 >>= f) (drop p s) ≡ read b e → C
  not-nat4 i j h = not-lost f nat4 (drop p s) (nat4-short s p i j) h

-- a number at the front
pub after_front : {B : Type 0} (f : ℕ → Reader B) (s : List ℕ) {b : B} {e : List ℕ} (w : Width) → width_of w ≤ length s → (number w >>= f) s ≡ read b e → f (number_at w s 0) (drop (width_of w) s) ≡ read b e
unfolding ◌>>=◌ and_then
after_front f s w i h = rw (number-front w s i) at h

module _ {B : Type 0} (f : ℤ → Reader B) (s : List ℕ) (p : ℕ) {b : B} {e : List ℕ} where
  pub after-int4 : p + 4 ≤ length s → (int4 >>= f) (drop p s) ≡ read b e → f (signed (nat4_at s p)) (drop (p + 4) s) ≡ read b e
  unfolding ◌>>=◌ and_then
  after-int4 i h = rw (int4-at s p i) at h

  pub not-int4 : {C : Type 0} → length s < p + 4 → p ≤ length s → (int4 >>= f) (drop p s) ≡ read b e → C
  not-int4 i j h = not-lost f int4 (drop p s) (int4-short s p i j) h

module _ {B : Type 0} (f : List ℕ → Reader B) (s : List ℕ) (p n : ℕ) {b : B} {e : List ℕ} where
  pub after-bytes : p + n ≤ length s → (bytes n >>= f) (drop p s) ≡ read b e → f (take n (drop p s)) (drop (p + n) s) ≡ read b e
  unfolding ◌>>=◌ and_then bytes
  after-bytes i h =
      let l : leb n (length (drop p s)) ≡ true = le-leb n (length (drop p s)) (omega (arith, length-drop p s)) in
      rw drop-drop at (rw l at h)

  pub not_short : {C : Type 0} → p ≤ length s → length s < p + n → (bytes n >>= f) (drop p s) ≡ read b e → C
  unfolding ◌>>=◌ and_then bytes
  not_short i j h =
      let l : leb n (length (drop p s)) ≡ false = lt-leb n (length (drop p s)) (omega (arith, length-drop p s)) in
      broken-not-read (rw l at h)

  -- a section: its length and its bytes
  pub after-section2 : n ≡ nat2_at s p → p + 2 + n ≤ length s → (section2 >>= f) (drop p s) ≡ read b e → f (take n (drop (p + 2) s)) (drop (p + 2 + n) s) ≡ read b e
  unfolding ◌>>=◌ and_then
  after-section2 k i h = rw (section2-at s p n k i) at h

  pub not-section2 : {C : Type 0} → n ≡ nat2_at s p → p + 2 ≤ length s → length s < p + 2 + n → (section2 >>= f) (drop p s) ≡ read b e → C
  not-section2 k i j h = not-lost f section2 (drop p s) (section2-cut s p n k i j) h

  pub after-section4 : n ≡ nat4_at s p → p + 4 + n ≤ length s → (section4 >>= f) (drop p s) ≡ read b e → f (take n (drop (p + 4) s)) (drop (p + 4 + n) s) ≡ read b e
  unfolding ◌>>=◌ and_then
  after-section4 k i h = rw (section4-at s p n k i) at h

  pub not-section4 : {C : Type 0} → n ≡ nat4_at s p → p + 4 ≤ length s → length s < p + 4 + n → (section4 >>= f) (drop p s) ≡ read b e → C
  not-section4 k i j h = not-lost f section4 (drop p s) (section4-cut s p n k i j) h

-- the last reader of a row
pub record Last {A B : Type 0} (r : Reader A) (g : A → B) (l : List ℕ) (b : B) (m : List ℕ) : Type 0 where
  pub value : A
  pub got : r l ≡ read value m
  pub made : g value ≡ b

pub last : {A B : Type 0} (r : Reader A) (g : A → B) {l : List ℕ} {b : B} {m : List ℕ} → (r >>= (λ a. give (g a))) l ≡ read b m → Last r g l b m
last r g {l} h =
    let k = split r (λ a. give (g a)) h in
    record { value = k.value; got = k.first ∙ ap (read k.value) (given-rest (g k.value) k.rest k.then); made = given (g k.value) k.rest k.then }

-- ---- n of them: the first, and the others
pub record Cons {A : Type 0} (r : Reader A) (n : ℕ) (l : List ℕ) (a : List A) (e : List ℕ) : Type 0 where
  pub head : A
  pub tail : List A
  pub mid : List ℕ
  pub first : r l ≡ read head mid
  pub rest : times n r mid ≡ read tail e
  pub is : head ∷ tail ≡ a

pub cons : {A : Type 0} (r : Reader A) (n : ℕ) {l : List ℕ} {a : List A} {e : List ℕ} → times (suc n) r l ≡ read a e → Cons r n l a e
unfolding times
cons r n {l} h =
    let k = split r _ h in
    let j = last (times n r) (λ t. k.value ∷ t) k.then in
    record { head = k.value; tail = j.value; mid = k.rest; first = k.first; rest = j.got; is = j.made }

pub times-length : {A : Type 0} (r : Reader A) (n : ℕ) (l : List ℕ) {a : List A} {e : List ℕ} → times n r l ≡ read a e → length a ≡ n
times-length r n l h = (times-read {P = λ a. Unit {0}} r (λ a s t k. tt) n l h).0

-- the element m of what was read n times, where m of them lead to j
pub record Nth {A : Type 0} (r : Reader A) (j : List ℕ) (a : List A) (m : ℕ) : Type 0 where
  pub value : A
  pub end : List ℕ
  pub got : r j ≡ read value end
  pub is : get_elem? a m ≡ some value

pub nth : {A : Type 0} (r : Reader A) (n m : ℕ) (l : List ℕ) {a b : List A} {e j : List ℕ} → times n r l ≡ read a e → m < n → times m r l ≡ read b j → Nth r j a m
unfolding times give
nth r zero m l h i k = absurd (omega arith)
nth r (suc n) zero l h i k =
    let c = cons r n h in
    record { value = c.head; end = c.mid; got = ap r (sym (read-rest k)) ∙ c.first; is = ap (λ z. get_elem? z zero) (sym c.is) }
nth r (suc n) (suc m) l {a} {b} {e} {j} h i k =
    let c = cons r n h in
    let d = cons r m k in
    let same : d.mid ≡ c.mid = read-rest (sym d.first ∙ c.first) in
    let x = nth r n m c.mid c.rest (omega arith) (ap (times m r) (sym same) ∙ d.rest) in
    record { value = x.value; end = x.end; got = x.got; is = ap (λ z. get_elem? z (suc m)) (sym c.is) ∙ x.is }

-- the first m of n are there
pub not_none : {A C : Type 0} (r : Reader A) (n m : ℕ) (l : List ℕ) {a : List A} {e : List ℕ} → times n r l ≡ read a e → m ≤ n → times m r l ≡ broken → C
unfolding times give ◌>>=◌ and_then
not_none r n zero l h i k = broken-not-read (sym k)
not_none r zero (suc m) l h i k = absurd (omega arith)
not_none r (suc n) (suc m) l h i k =
    let c = cons r n h in
    not_none r n m c.mid c.rest (omega arith) (go c.head (times m r c.mid) (rw c.first at k))
  where
    go : {A : Type 0} (a : A) (o : Read (List A)) → and_then o (λ t. give (a ∷ t)) ≡ broken → o ≡ broken
    go a broken h = refl
    go a (read t u) h = broken-not-read (sym h)

-- ---- one more at the end
pub snoc : {A : Type 0} (r : Reader A) (i : ℕ) (l : List ℕ) {a : List A} {m : List ℕ} {x : A} {e : List ℕ} → times i r l ≡ read a m → r m ≡ read x e → times (suc i) r l ≡ read (a ++ (x ∷ [])) e
unfolding times ◌>>=◌ and_then give
snoc r zero l {a} {m} {x} {e} h k =
    let w : r l ≡ read x e = ap r (read-rest h) ∙ k in
    rw w (ap (λ z. read (z ++ (x ∷ [])) e) (read-value h))
snoc r (suc i) l {a} {m} {x} {e} h k =
    let c = cons r i h in
    let w = snoc r i c.mid c.rest k in
    rw c.first (rw w (ap (λ z. read (z ++ (x ∷ [])) e) c.is))

pub snoc-none : {A : Type 0} (r : Reader A) (i n : ℕ) (l : List ℕ) {a : List A} {m : List ℕ} → times i r l ≡ read a m → r m ≡ broken → i < n → times n r l ≡ broken
unfolding times ◌>>=◌ and_then give
snoc-none r i zero l h k j = absurd (omega arith)
snoc-none r zero (suc n) l h k j = let w : r l ≡ broken = ap r (read-rest h) ∙ k in rw w refl
snoc-none r (suc i) (suc n) l h k j =
    let c = cons r i h in
    rw (c.first, snoc-none r i n c.mid c.rest k (omega arith)) refl

-- ---- elements of a list with one more at the end
pub past_end : {A : Type 0} (a : List A) (m : ℕ) → length a ≤ m → get_elem? a m ≡ none
past_end [] m h = refl
past_end (x ∷ a) zero h = absurd (omega arith)
past_end (x ∷ a) (suc m) h = past_end a m (omega arith)

pub nth-before : {A : Type 0} (a : List A) (x : A) (j : ℕ) → j < length a → get_elem? (a ++ (x ∷ [])) j ≡ get_elem? a j
nth-before [] x j h = absurd (omega arith)
nth-before (y ∷ a) x zero h = refl
nth-before (y ∷ a) x (suc j) h = nth-before a x j (omega arith)

pub nth_last : {A : Type 0} (a : List A) (x : A) (j : ℕ) → j ≡ length a → get_elem? (a ++ (x ∷ [])) j ≡ some x
nth_last [] x j h = rw h refl
nth_last (y ∷ a) x zero h = absurd (omega arith)
nth_last (y ∷ a) x (suc j) h = nth_last a x j (omega arith)
