-- Lists whose numbers rise from 0 and whose elements all pass a test, one more at the end.
use mathlib.Core.Path.{◌≡◌, refl, sym, ap, ◌∙◌}
use mathlib.Core.Bool.{Bool, true, false, ◌&&◌}
use mathlib.Core.List.{List, [], ◌∷◌, ◌++◌, map}
use Prim.Native.Nat.{ℕ, suc, ◌+◌}
use native.Mathlib.Numerals.{add-one}
use lib.Dec.{leb}
use Rattle.semantics.specs.Bytes.{every}
use Rattle.semantics.specs.Tables.{rising_from}
use Rattle.semantics.proofs.Facts.{and_left, and_right, and_both}
use Rattle.table_read.specs.Ends.{follows}
use Rattle.codec.proofs.Loops.{every-snoc}

-- the least number that may come after these
unfoldable pub next_from : ℕ → List ℕ → ℕ
next_from low [] = low
next_from low (n ∷ l) = next_from (suc n) l

map-append : {A B : Type 0} (f : A → B) (l m : List A) → map f (l ++ m) ≡ map f l ++ map f m
map-append f [] m = refl
map-append f (a ∷ l) m = ap (λ z. f a ∷ z) (map-append f l m)

rising-append : (low : ℕ) (l m : List ℕ) → rising_from low (l ++ m) ≡ (rising_from low l && rising_from (next_from low l) m)
unfolding rising_from next_from
rising-append low [] m = refl
rising-append low (n ∷ l) m = go (leb low n) (rising_from (suc n) (l ++ m)) (rising_from (suc n) l) (rising-append (suc n) l m)
  where
    go : (b u v : Bool) → u ≡ (v && rising_from (next_from (suc n) l) m) → elim b [ true ↦ u | false ↦ false ] ≡ (elim b [ true ↦ v | false ↦ false ] && rising_from (next_from (suc n) l) m)
    go true u v h = h
    go false u v h = refl

next-append : (low : ℕ) (l m : List ℕ) → next_from low (l ++ m) ≡ next_from (next_from low l) m
unfolding next_from
next-append low [] m = refl
next-append low (n ∷ l) m = next-append (suc n) l m

pub rising_one : (low n : ℕ) → rising_from low (n ∷ []) ≡ leb low n
unfolding rising_from
rising_one low n = go (leb low n)
  where
    go : (b : Bool) → elim b [ true ↦ true | false ↦ false ] ≡ b
    go true = refl
    go false = refl

pub every_append : {A : Type 0} (P : A → Bool) (l m : List A) → every P (l ++ m) ≡ true → every P l ≡ true
unfolding every
every_append P [] m h = refl
every_append P (x ∷ l) m h = go (P x) (every P (l ++ m)) (every P l) (every_append P l m) h
  where
    go : (b u v : Bool) → (u ≡ true → v ≡ true) → elim b [ true ↦ u | false ↦ false ] ≡ true → elim b [ true ↦ v | false ↦ false ] ≡ true
    go true u v f h = f h
    go false u v f h = h

module _ {A : Type 0} (number : A → ℕ) (fits : A → Bool) where
  unfoldable pub laid : List A → Bool
  laid l = rising_from 0 (map number l) && every fits l

  pub record Laid (l : List A) (low : ℕ) : Type 0 where
    pub rises : rising_from 0 (map number l) ≡ true
    pub all_fit : every fits l ≡ true
    pub next : next_from 0 (map number l) ≡ low

  pub laid_none : Laid [] 0
  unfolding rising_from every next_from
  laid_none = record { rises = refl; all_fit = refl; next = refl }

  rising_more : (l : List A) (a : A) → rising_from 0 (map number (l ++ (a ∷ []))) ≡ (rising_from 0 (map number l) && rising_from (next_from 0 (map number l)) (number a ∷ []))
  rising_more l a = rw (map-append number l (a ∷ []), rising-append 0 (map number l) (number a ∷ [])) refl

  pub laid_more : {l : List A} {low : ℕ} (a : A) → Laid l low → follows number fits low a ≡ true → Laid (l ++ (a ∷ [])) (number a + 1)
  unfolding next_from follows
  laid_more {l} {low} a k h = record {
    rises = rising_more l a ∙ and_both k.rises (ap (λ z. rising_from z (number a ∷ [])) k.next ∙ and_left (rising_from low (number a ∷ [])) (fits a) h);
    all_fit = every-snoc fits l a ∙ and_both k.all_fit (and_right (rising_from low (number a ∷ [])) (fits a) h);
    next = rw (map-append number l (a ∷ []), next-append 0 (map number l) (number a ∷ []), add-one (number a)) refl;
  }

  pub laid-true : {l : List A} {low : ℕ} → Laid l low → laid l ≡ true
  unfolding laid
  laid-true k = and_both k.rises k.all_fit

  pub not-laid : {l : List A} {low : ℕ} (a : A) → Laid l low → follows number fits low a ≡ false → laid (l ++ (a ∷ [])) ≡ false
  unfolding laid follows
  not-laid {l} {low} a k h = rw (rising_more l a, every-snoc fits l a, k.next, k.rises, k.all_fit) h

  pub laid-fronts : (l m : List A) → laid (l ++ m) ≡ true → laid l ≡ true
  unfolding laid
  laid-fronts l m h =
      let r : (rising_from 0 (map number l) && rising_from (next_from 0 (map number l)) (map number m)) ≡ true = sym (rising-append 0 (map number l) (map number m)) ∙ ap (rising_from 0) (sym (map-append number l m)) ∙ and_left (rising_from 0 (map number (l ++ m))) _ h in
      and_both (and_left (rising_from 0 (map number l)) _ r) (every_append fits l m (and_right (rising_from 0 (map number (l ++ m))) _ h))
