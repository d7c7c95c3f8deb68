-- The places of values that a reader takes one after the other: how many, one more at the end, and what stands at each.
use mathlib.Core.Path.{◌≡◌, refl, sym, ap, subst, ◌∙◌}
use mathlib.Core.Bool.{Bool, true, false, cond}
use mathlib.Core.List.{List, [], ◌∷◌, ◌++◌}
use mathlib.Core.Option.{Option}
use Prim.Native.Nat.{ℕ, zero, suc, ◌+◌, ◌-◌, ◌≤◌, ◌<◌}
use native.Mathlib.Numerals.{add-one}
use native.Mathlib.Omega.{arith}
use borrow.Author.Tests.{leb-true}
use lib.Dec.{leb}
use lib.ListN.{length, get_or, take, drop, get_elem?, length-drop}
use lib.Seq.{drop-drop}
use Rattle.semantics.specs.Bytes.{be2, be4, signed, Width, one_byte, two_bytes, Read, broken, read, Reader, ◌>>=◌, give, fail, guard, from, byte, nat2, nat4, int4, number, bytes, times, section2, section4}
use Rattle.semantics.proofs.Readers.{broken-not-read, read-rest, split, given-rest, guarded, from_some}
use Rattle.codec.specs.Reading.{Took}
use Rattle.codec.specs.Places.{places_from}
use Rattle.codec.proofs.Known.{Cons, cons, Nth}

-- ---- readers that take bytes from the front and leave the others
pub record Tail (m l : List ℕ) : Type 0 where
  pub count : ℕ
  pub few : count ≤ length l
  pub is : m ≡ drop count l

pub record Takes {A : Type 0} (r : Reader A) : Type 0 where
  pub leaves : (l : List ℕ) {a : A} {m : List ℕ} → r l ≡ read a m → Tail m l

all_left : (l : List ℕ) {m : List ℕ} → l ≡ m → Tail m l
all_left l e = record { count = 0; few = omega arith; is = sym e }

further : {m k l : List ℕ} → Tail m k → Tail k l → Tail m l
further {m} {k} {l} t u =
    let e : length k ≡ length l - u.count = ap length u.is ∙ length-drop u.count l in
    let f = t.few in
    let g = u.few in
    record { count = u.count + t.count; few = omega arith; is = t.is ∙ ap (drop t.count) u.is ∙ drop-drop t.count u.count l }

pub takes-give : {A : Type 0} (a : A) → Takes (give a)
takes-give a = record { leaves = λ l h. all_left l (given-rest a l h) }

pub takes-fail : {A : Type 0} → Takes (fail {A = A})
unfolding fail
takes-fail = record { leaves = λ l h. broken-not-read h }

pub takes-then : {A B : Type 0} {r : Reader A} {f : A → Reader B} → Takes r → ((a : A) → Takes (f a)) → Takes (r >>= f)
takes-then {r = r} {f = f} t u = record { leaves = λ l h. let k = split r f h in further ((u k.value).leaves k.rest k.then) (t.leaves l k.first) }

pub takes-guard : {A : Type 0} (b : Bool) {r : Reader A} → Takes r → Takes (guard b r)
takes-guard b {r} t = record { leaves = λ l h. t.leaves l (guarded b r h).1 }

pub takes-from : {A : Type 0} (o : Option A) → Takes (from o)
takes-from o = record { leaves = λ l h. all_left l (from_some o h).1 }

pub takes-byte : Takes byte
unfolding byte
takes-byte = record { leaves = λ l h. go l h }
  where
    go : (l : List ℕ) {a : ℕ} {m : List ℕ} → byte l ≡ read a m → Tail m l
    go [] h = broken-not-read h
    go (b ∷ l) h = record { count = 1; few = omega arith; is = sym (read-rest h) }

pub takes-bytes : (n : ℕ) → Takes (bytes n)
unfolding bytes
takes-bytes n = record { leaves = λ l h. go l (leb n (length l)) refl h }
  where
    go : (l : List ℕ) {a m : List ℕ} (c : Bool) → leb n (length l) ≡ c → cond {A = Read (List ℕ)} c (read (take n l) (drop n l)) broken ≡ read a m → Tail m l
    go l true e h = record { count = n; few = leb-true n (length l) e; is = sym (read-rest h) }
    go l false e h = broken-not-read h

pub takes-nat2 : Takes nat2
unfolding nat2
takes-nat2 = takes-then takes-byte (λ a. takes-then takes-byte (λ b. takes-give (be2 a b)))

pub takes-nat4 : Takes nat4
unfolding nat4
takes-nat4 = takes-then takes-byte (λ a. takes-then takes-byte (λ b. takes-then takes-byte (λ c. takes-then takes-byte (λ d. takes-give (be4 a b c d)))))

pub takes-int4 : Takes int4
unfolding int4
takes-int4 = takes-then takes-nat4 (λ n. takes-give (signed n))

pub takes-number : (w : Width) → Takes (number w)
unfolding number
takes-number one_byte = takes-byte
takes-number two_bytes = takes-nat2

pub takes-section2 : Takes section2
unfolding section2
takes-section2 = takes-then takes-nat2 takes-bytes

pub takes-section4 : Takes section4
unfolding section4
takes-section4 = takes-then takes-nat4 takes-bytes

pub takes-times : {A : Type 0} (n : ℕ) {r : Reader A} → Takes r → Takes (times n r)
unfolding times
takes-times zero t = takes-give []
takes-times (suc n) t = takes-then t (λ a. takes-then (takes-times n t) (λ l. takes-give (a ∷ l)))

-- ---- the places
module _ {A : Type 0} (total : ℕ) (r : Reader A) where
  -- the first, and the others
  pub places-next : (n : ℕ) (l : List ℕ) {a : A} {m : List ℕ} → r l ≡ read a m → places_from total r (suc n) l ≡ (total - length l) ∷ places_from total r n m
  unfolding places_from
  places-next n l h = rw (h, places_from) refl

  -- as many as were read
  pub places-length : (n : ℕ) (l : List ℕ) {a : List A} {e : List ℕ} → times n r l ≡ read a e → length (places_from total r n l) ≡ n
  unfolding places_from
  places-length zero l h = refl
  places-length (suc n) l h =
      let c = cons r n h in
      ap length (places-next n l c.first) ∙ ap suc (places-length n c.mid c.rest)

  -- one more at the end
  pub places-snoc : (i : ℕ) (l : List ℕ) {a : List A} {m : List ℕ} {x : A} {e : List ℕ} → times i r l ≡ read a m → r m ≡ read x e → places_from total r (suc i) l ≡ places_from total r i l ++ ((total - length m) ∷ [])
  unfolding places_from times give
  places-snoc zero l {a} {m} {x} {e} h k =
      let same : l ≡ m = read-rest h in
      places-next zero l (ap r same ∙ k) ∙ ap (λ z. (total - length z) ∷ []) same
  places-snoc (suc i) l {m = m} h k =
      let c = cons r i h in
      places-next (suc i) l c.first ∙ ap (λ z. (total - length l) ∷ z) (places-snoc i c.mid c.rest k) ∙ ap (λ z. z ++ ((total - length m) ∷ [])) (sym (places-next i l c.first))

  -- no place is past the end
  pub place_inside : (n : ℕ) (l : List ℕ) (i : ℕ) → get_or (places_from total r n l) i 0 ≤ total
  unfolding places_from
  place_inside zero l i = omega arith
  place_inside (suc n) l i = go (r l) i (place_inside n)
    where
      go : (o : Read A) (i : ℕ) → ((m : List ℕ) (i : ℕ) → get_or (places_from total r n m) i 0 ≤ total) → get_or (elim o [ broken ↦ [] | read a m ↦ (total - length l) ∷ places_from total r n m ]) i 0 ≤ total
      go broken i h = omega arith
      go (read a m) zero h = omega arith
      go (read a m) (suc i) h = h m i

-- ---- what stands at a place: the value i of a stands at p
pub record Placed {A : Type 0} (r : Reader A) (s : List ℕ) (a : List A) (i p : ℕ) : Type 0 where
  pub inside : p ≤ length s
  pub nth : Nth r (drop p s) a i

module _ {A : Type 0} {r : Reader A} {s : List ℕ} {n : ℕ} {l : List ℕ} {a : List A} {e : List ℕ} (c : Cons r n l a e) where
  first-placed : (from : ℕ) → from ≤ length s → l ≡ drop from s → Placed r s a zero (get_or (places_from (length s) r (suc n) l) zero 0)
  first-placed from b k = subst (Placed r s a zero) place (record { inside = b; nth = record { value = c.head; end = c.mid; got = ap r (sym k) ∙ c.first; is = ap (λ z. get_elem? z zero) (sym c.is) } })
    where
      place : from ≡ get_or (places_from (length s) r (suc n) l) zero 0
      place =
          let o : length l ≡ length s - from = ap length k ∙ length-drop from s in
          let p : from ≡ length s - length l = omega arith in
          p ∙ ap (λ z. get_or z zero 0) (sym (places-next (length s) r n l c.first))

  later-placed : (i : ℕ) → Placed r s c.tail i (get_or (places_from (length s) r n c.mid) i 0) → Placed r s a (suc i) (get_or (places_from (length s) r (suc n) l) (suc i) 0)
  later-placed i x = subst (Placed r s a (suc i)) place (record { inside = x.inside; nth = further-nth x.nth })
    where
      place : get_or (places_from (length s) r n c.mid) i 0 ≡ get_or (places_from (length s) r (suc n) l) (suc i) 0
      place = ap (λ z. get_or z (suc i) 0) (sym (places-next (length s) r n l c.first))

      further-nth : {j : List ℕ} → Nth r j c.tail i → Nth r j a (suc i)
      further-nth y = record { value = y.value; end = y.end; got = y.got; is = ap (λ z. get_elem? z (suc i)) (sym c.is) ∙ y.is }

module _ {A : Type 0} {r : Reader A} (t : Takes r) (s : List ℕ) where
  placed-from : (n i from : ℕ) (l : List ℕ) {a : List A} {e : List ℕ} → from ≤ length s → l ≡ drop from s → times n r l ≡ read a e → i < n → Placed r s a i (get_or (places_from (length s) r n l) i 0)
  placed-from zero i from l b k h j = absurd (omega arith)
  placed-from (suc n) zero from l b k h j = first-placed (cons r n h) from b k
  placed-from (suc n) (suc i) from l b k h j =
      let c = cons r n h in
      let u = t.leaves l c.first in
      let o : length l ≡ length s - from = ap length k ∙ length-drop from s in
      let f = u.few in
      let v : c.mid ≡ drop (from + u.count) s = u.is ∙ ap (drop u.count) k ∙ drop-drop u.count from s in
      later-placed c i (placed-from n i (from + u.count) c.mid (omega arith) v c.rest (omega arith))

  -- n values read from a place of the slice on
  pub placed : (n i from : ℕ) {a : List A} {e : List ℕ} → from ≤ length s → times n r (drop from s) ≡ read a e → i < n → Placed r s a i (get_or (places_from (length s) r n (drop from s)) i 0)
  placed n i from b h j = placed-from n i from (drop from s) b refl h j

-- ---- a loop that notes the place of each value
pub places-start : {A : Type 0} (total : ℕ) (r : Reader A) (l : List ℕ) → places_from total r 0 l ≡ []
unfolding places_from
places-start total r l = refl

module _ {A X : Type 0} (r : Reader A) {K : List A → X → Type 0} {s : List ℕ} {from : ℕ} (i : ℕ) {p : ℕ} {x : X} (t : Took (times i r) K s from p x) where
  pub places-more : {Y : Type 0} {L : A → Y → Type 0} {q : ℕ} {y : Y} → Took r L s p q y → places_from (length s) r (i + 1) (drop from s) ≡ places_from (length s) r i (drop from s) ++ (p ∷ [])
  places-more u =
      let b = t.inside in
      let e : length s - length (drop p s) ≡ p = omega (arith, length-drop p s) in
      ap (λ k. places_from (length s) r k (drop from s)) (add-one i) ∙ places-snoc (length s) r i (drop from s) t.got u.got ∙ ap (λ k. places_from (length s) r i (drop from s) ++ (k ∷ [])) e

  -- as many places as turns
  pub places_count : length (places_from (length s) r i (drop from s)) ≡ i
  places_count = places-length (length s) r i (drop from s) t.got
