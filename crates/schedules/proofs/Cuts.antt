-- A list cut in front of one of its elements, and what is known of those before it.
use mathlib.Core.Path.{◌≡◌, refl, sym, ap, ◌∙◌}
use mathlib.Core.Logic.{◌⊎◌, inl, inr}
use mathlib.Core.List.Memᴰ
use mathlib.Core.List.Memᴰ.{head as first}
use mathlib.Core.List.Memᴰ.{tail as later}
use mathlib.Core.List.{List, [], ◌∷◌, ◌++◌, flat_map, append_assoc, Memᴰ as Mem}
use mathlib.Core.Option.{some}
use Prim.Native.Nat.{ℕ, zero, suc, ◌<◌}
use native.Mathlib.Omega.{arith}
use lib.ListN.{get_elem?}
use Rattle.semantics.specs.Proper.{Rising}
use Rattle.semantics.proofs.Facts.{none-not-some, some_is}
use Rattle.semantics.proofs.TablesProper.{rising-rest, rising-above}
use Rattle.schedules.specs.Reached.{FirstOccurrences}
use Rattle.schedules.proofs.Places.{flat_append, flat-from}
use Rattle.schedules.proofs.Numbered.{met?, number-at}

pub record Cut {A : Type 0} (y : A) (F : A → Type 0) (l : List A) : Type 0 where
  pub front : List A
  pub back : List A
  pub is : l ≡ front ++ (y ∷ back)
  pub before : (x : A) → Mem x front → F x

module _ {A : Type 0} {y : A} {F : A → Type 0} where
  cut-is : {l k : List A} → l ≡ k → Cut y F k → Cut y F l
  cut-is e c = record { front = c.front; back = c.back; is = e ∙ c.is; before = c.before }

  cut_left : {l : List A} (k : List A) → Cut y F l → Cut y F (l ++ k)
  cut_left k c = record { front = c.front; back = c.back ++ k; is = ap (λ (r : List A). r ++ k) c.is ∙ append_assoc c.front (y ∷ c.back) k; before = c.before }

  pub cut_right : (l : List A) {k : List A} → Cut y F k → Cut y (λ x. Mem x l ⊎ F x) (l ++ k)
  cut_right l c = record {
    front = l ++ c.front;
    back = c.back;
    is = ap (λ (r : List A). l ++ r) c.is ∙ sym (append_assoc l c.front (y ∷ c.back));
    before = λ x m. go x (Memᴰ.append_cases l m);
  }
    where
      go : (x : A) → Mem x l ⊎ Mem x c.front → Mem x l ⊎ F x
      go x (inl m) = inl m
      go x (inr m) = inr (c.before x m)

-- what stands before y in the lists of those before z, or in z's own
pub data Flat {A B : Type 0} (f : A → List B) (F : A → Type 0) (G : B → Type 0) (x : B) : Type 0 where
  of_earlier : {w : A} → F w → Mem x (f w) → Flat f F G x
  of_same : G x → Flat f F G x

pub cut-flat : {A B : Type 0} (f : A → List B) {z : A} {y : B} {F : A → Type 0} {G : B → Type 0} {l : List A} → Cut z F l → Cut y G (f z) → Cut y (Flat f F G) (flat_map f l)
unfolding flat_map
cut-flat {A} {B} f {z} {y} {F} {G} c d =
    let e = cut-is (ap (flat_map f) c.is ∙ flat_append f c.front (z ∷ c.back)) (cut_right (flat_map f c.front) (cut_left (flat_map f c.back) d)) in
    record { front = e.front; back = e.back; is = e.is; before = λ x m. go x (e.before x m) }
  where
    go : (x : B) → Mem x (flat_map f c.front) ⊎ G x → Flat f F G x
    go x (inl m) = let p = flat-from f c.front m in of_earlier (c.before p.0 p.1) p.2
    go x (inr g) = of_same g

-- ---- of a place
pub record Place {A : Type 0} (l : List A) (j : ℕ) (x : A) : Type 0 where
  pub place : ℕ
  pub lower : place < j
  pub there : get_elem? l place ≡ some x

place-later : {A : Type 0} {l : List A} {j : ℕ} {x y : A} → Place l j x → Place (y ∷ l) (suc j) x
place-later p = let z = p.lower in record { place = suc p.place; lower = omega arith; there = p.there }

pub cut-place : {A : Type 0} (l : List A) (j : ℕ) {y : A} → get_elem? l j ≡ some y → Cut y (Place l j) l
cut-place [] j h = none-not-some h
cut-place {A} (z ∷ l) zero h = record { front = []; back = l; is = ap (λ (z : A). z ∷ l) (some_is h); before = λ x m. absurd (Memᴰ.not-nil m) }
cut-place {A} (z ∷ l) (suc j) h =
    let c = cut-place l j h in
    record { front = z ∷ c.front; back = c.back; is = ap (λ (r : List A). z ∷ r) c.is; before = λ x m. go x (c.before x) (Memᴰ.cases_cons m) }
  where
    go : (x : A) {f : List A} → (Mem x f → Place l j x) → (x ≡ z) ⊎ Mem x f → Place (z ∷ l) (suc j) x
    go x g (inl e) = record { place = 0; lower = omega arith; there = ap some (sym e) }
    go x g (inr m) = place-later (g m)

-- ---- of a number in a list that rises
pub record Below (l : List ℕ) (m n : ℕ) : Type 0 where
  pub lower : n < m
  pub listed : Mem n l

pub cut-rising : (l : List ℕ) (m : ℕ) → Rising l → Mem m l → Cut m (Below l m) l
cut-rising [] m r h = absurd (Memᴰ.not-nil h)
cut-rising (x ∷ l) m r h = go (Memᴰ.cases_cons h) (λ k. cut-rising l m (rising-rest r) k)
  where
    more : Mem m l → Cut m (Below l m) l → Cut m (Below (x ∷ l) m) (x ∷ l)
    more k c = record { front = x ∷ c.front; back = c.back; is = ap (λ (r : List ℕ). x ∷ r) c.is; before = λ n i. at n (c.before n) (Memᴰ.cases_cons i) }
      where
        at : (n : ℕ) {f : List ℕ} → (Mem n f → Below l m n) → (n ≡ x) ⊎ Mem n f → Below (x ∷ l) m n
        at n g (inl e) = let z = rising-above m r k in record { lower = omega arith; listed = first e }
        at n g (inr i) = let b = g i in record { lower = b.lower; listed = later b.listed }

    go : (m ≡ x) ⊎ Mem m l → (Mem m l → Cut m (Below l m) l) → Cut m (Below (x ∷ l) m) (x ∷ l)
    go (inl e) f = record { front = []; back = l; is = ap (λ (z : ℕ). z ∷ l) (sym e); before = λ n i. absurd (Memᴰ.not-nil i) }
    go (inr k) f = more k (f k)

-- ---- of first occurrences: what has a lower number than y stands before every y
pub before-first : {A : Type 0} (eq? : (x y : A) → Dec (x ≡ y)) {k l : List A} {y : A} {F : A → Type 0} → FirstOccurrences k l → Cut y F k →
    (i j : ℕ) (x : A) → get_elem? l i ≡ some x → get_elem? l j ≡ some y → i < j → F x
before-first {A} eq? {k} {l} {y} {F} o c i j x a b h = go (met? eq? x c.front)
  where
    not-here : (Mem x c.front → ⊥) → Mem x c.front ⊎ Mem x (y ∷ []) → ⊥
    not-here n (inl m) = n m
    not-here n (inr m) =
        let z : i ≡ j = some_is (sym (number-at eq? o.distinct i a) ∙ number-at eq? o.distinct j (b ∙ ap some (sym (Memᴰ.eq_of_singleton m)))) in
        omega arith

    go : Mem x c.front ⊎ (Mem x c.front → ⊥) → F x
    go (inl m) = c.before x m
    go (inr n) =
        let z = o.rising (c.front ++ (y ∷ [])) c.back (c.is ∙ sym (append_assoc c.front (y ∷ []) c.back)) j i y x b a (Memᴰ.append_right c.front (first refl))
        (λ m. not-here n (Memᴰ.append_cases c.front m)) in
        absurd (omega arith)
