-- Laws of truths, options, lists and orders that more than one proof cites.
use mathlib.Core.Path.{◌≡◌, refl, sym, subst}
use mathlib.Core.Bool.{Bool, true, false, not, ◌&&◌}
use mathlib.Core.List.Memᴰ
use mathlib.Core.List.Memᴰ.{head as first}
use mathlib.Core.List.Memᴰ.{tail as later}
use mathlib.Core.List.{List, [], ◌∷◌, ◌++◌, flat_map, Memᴰ as Mem}
use mathlib.Core.Logic.{◌⊎◌, inl, inr}
use mathlib.Core.Option.{Option, none, some}
use Prim.Native.Nat.{ℕ, zero, suc, ◌≤◌, ◌<◌}
use native.Mathlib.Omega.{arith}
use borrow.Author.Tests.{eqb-true, eq-eqb, leb-true, leb-false, le-leb, le-ltb, lt-ltb}
use lib.Dec.{eqb, leb, ltb}
use lib.IntN.{ℤ, pos, negsuc}
use lib.Signed.{le_z, lt_z}
use lib.ListN.{length, get_or, get_elem?}
pub use Rattle.semantics.specs.Bytes.{All, all_nil, all_cons}
use Rattle.semantics.specs.Bytes.{every, is_some, within}
use Rattle.semantics.specs.Plant.{among}

-- ---- contradictions
pub true-not-false : {C : Type 0} → true ≡ false → C
true-not-false h = let z : ◌≡◌ {A = ℕ} 0 1 = cc in absurd (omega arith)

pub none-not-some : {A C : Type 0} {x : A} → none ≡ some x → C
none-not-some h = let z : ◌≡◌ {A = ℕ} 0 1 = cc in absurd (omega arith)

pub some_is : {A : Type 0} {x y : A} → some x ≡ some y → x ≡ y
some_is h = cc

-- ---- two tests
pub and_left : (a b : Bool) → (a && b) ≡ true → a ≡ true
and_left true b h = refl
and_left false b h = h

pub and_right : (a b : Bool) → (a && b) ≡ true → b ≡ true
and_right true b h = h
and_right false b h = true-not-false (sym h)

pub and_both : {a b : Bool} → a ≡ true → b ≡ true → (a && b) ≡ true
and_both h k = rw (h, k) refl

-- a test of either value, with the equation
pub by_cases : {C : Type 0} (b : Bool) → (b ≡ true → C) → (b ≡ false → C) → C
by_cases true f g = f refl
by_cases false f g = g refl

pub within_low : (a b n : ℕ) → within a b n ≡ true → a ≤ n
unfolding within
within_low a b n h = leb-true a n (and_left (leb a n) (leb n b) h)

pub within-high : (a b n : ℕ) → within a b n ≡ true → n ≤ b
unfolding within
within-high a b n h = leb-true n b (and_right (leb a n) (leb n b) h)

pub within_both : (a b n : ℕ) → a ≤ n → n ≤ b → within a b n ≡ true
unfolding within
within_both a b n h k = and_both (le-leb a n h) (le-leb n b k)

-- ---- options
pub is-some : {A : Type 0} {o : Option A} {x : A} → o ≡ some x → is_some o ≡ true
unfolding is_some
is-some e = rw e refl

pub some_of : {A : Type 0} (o : Option A) → is_some o ≡ true → (x : A) × (o ≡ some x)
unfolding is_some
some_of none h = true-not-false (sym h)
some_of (some x) h = (x, refl)

-- ---- a property of each element
pub all_append : {A : Type 0} {P : A → Type 0} {l k : List A} → All P l → All P k → All P (l ++ k)
all_append all_nil q = q
all_append (all_cons h p) q = all_cons h (all_append p q)

pub all_map : {A : Type 0} {P Q : A → Type 0} {l : List A} → ((x : A) → P x → Q x) → All P l → All Q l
all_map f all_nil = all_nil
all_map f (all_cons {x = x} h p) = all_cons (f x h) (all_map f p)

pub all-mem : {A : Type 0} {P : A → Type 0} {l : List A} {x : A} → All P l → Mem x l → P x
all-mem all_nil m = absurd (Memᴰ.not-nil m)
all-mem {P = P} {x = x} (all_cons {x = y} {l = l} h p) m = go (Memᴰ.cases_cons m) (λ k. all-mem p k)
  where
    go : (x ≡ y) ⊎ Mem x l → (Mem x l → P x) → P x
    go (inl e) f = subst P (sym e) h
    go (inr k) f = f k

pub all-flat : {A B : Type 0} {P : B → Type 0} (f : A → List B) {l : List A} → All (λ x. All P (f x)) l → All P (flat_map f l)
unfolding flat_map
all-flat f all_nil = all_nil
all-flat f (all_cons h p) = all_append h (all-flat f p)

pub every-all : {A : Type 0} (f : A → Bool) (l : List A) → every f l ≡ true → All (λ x. f x ≡ true) l
unfolding every
every-all f [] h = all_nil
every-all f (x ∷ l) h = go (f x) refl h (every-all f l)
  where
    go : (b : Bool) → f x ≡ b → elim b [ true ↦ every f l | false ↦ false ] ≡ true → (every f l ≡ true → All (λ x. f x ≡ true) l) → All (λ x. f x ≡ true) (x ∷ l)
    go true e h ih = all_cons e (ih h)
    go false e h ih = true-not-false (sym h)

pub all-every : {A : Type 0} (f : A → Bool) {l : List A} → All (λ x. f x ≡ true) l → every f l ≡ true
unfolding every
all-every f all_nil = refl
all-every f (all_cons {x = x} h p) = rw (h, every) (all-every f p)

-- ---- membership
pub among-mem : (n : ℕ) (l : List ℕ) → among n l ≡ true → Mem n l
unfolding among
among-mem n [] h = true-not-false (sym h)
among-mem n (m ∷ l) h = go (eqb m n) refl h (among-mem n l)
  where
    go : (b : Bool) → eqb m n ≡ b → elim b [ true ↦ true | false ↦ among n l ] ≡ true → (among n l ≡ true → Mem n l) → Mem n (m ∷ l)
    go true e h ih = first (sym (eqb-true m n e))
    go false e h ih = later (ih h)

pub mem-among : (n : ℕ) (l : List ℕ) → Mem n l → among n l ≡ true
unfolding among
mem-among n [] k = absurd (Memᴰ.not-nil k)
mem-among n (m ∷ l) k = go (Memᴰ.cases_cons k) (mem-among n l)
  where
    skip : (b : Bool) → among n l ≡ true → elim b [ true ↦ true | false ↦ among n l ] ≡ true
    skip true h = refl
    skip false h = h

    go : (n ≡ m) ⊎ Mem n l → (Mem n l → among n l ≡ true) → elim (eqb m n) [ true ↦ true | false ↦ among n l ] ≡ true
    go (inl e) ih = rw (eq-eqb m n (sym e)) refl
    go (inr k) ih = skip (eqb m n) (ih k)

-- ---- the element at a number
pub at-below : {A : Type 0} (l : List A) (k : ℕ) {x : A} → get_elem? l k ≡ some x → k < length l
at-below [] k h = none-not-some h
at-below (y ∷ l) zero h = omega arith
at-below (y ∷ l) (suc k) h = let i = at-below l k h in omega arith

pub at_mem : {A : Type 0} (l : List A) (k : ℕ) {x : A} → get_elem? l k ≡ some x → Mem x l
at_mem [] k h = none-not-some h
at_mem (y ∷ l) zero h = first (sym (some_is h))
at_mem (y ∷ l) (suc k) h = later (at_mem l k h)

pub at-exists : {A : Type 0} (l : List A) (k : ℕ) → k < length l → (x : A) × (get_elem? l k ≡ some x)
at-exists [] k h = absurd (omega arith)
at-exists (y ∷ l) zero h = (y, refl)
at-exists (y ∷ l) (suc k) h = at-exists l k (omega arith)

-- ---- the element at a number
pub got : {A : Type 0} (l : List A) (n : ℕ) (d : A) {x : A} → get_elem? l n ≡ some x → get_or l n d ≡ x
got [] n d h = none-not-some h
got (y ∷ l) zero d h = some_is h
got (y ∷ l) (suc n) d h = got l n d h

-- ---- orders
ltb-leb : (a b : ℕ) → ltb a b ≡ not (leb b a)
ltb-leb a b = go (leb b a) refl
  where
    go : (t : Bool) → leb b a ≡ t → ltb a b ≡ not t
    go true e = le-ltb a b (leb-true b a e)
    go false e = lt-ltb a b (leb-false b a e)

pub lt_z-le_z : (a b : ℤ) → lt_z a b ≡ not (le_z b a)
lt_z-le_z (pos a) (pos b) = ltb-leb a b
lt_z-le_z (pos a) (negsuc b) = refl
lt_z-le_z (negsuc a) (pos b) = refl
lt_z-le_z (negsuc a) (negsuc b) = ltb-leb b a
