-- An array that holds a list, and d behind it: the list grows by stores.
use mathlib.Core.Path.{◌≡◌, refl, sym, ap, ◌∙◌}
use mathlib.Core.List.{List, [], ◌∷◌, ◌++◌, map, append_assoc, append-nil, map-append}
use mathlib.Core.Option.{some}
use Prim.Native.Nat.{ℕ, zero, suc, ◌+◌, ◌-◌, ◌≤◌, ◌<◌}
use native.Mathlib.Nat.{sub-zero}
use native.Mathlib.Omega.{arith}
use lib.ListN.{length, get_or, take, set, get_elem?, replicate, length-append, length-map, length-replicate, replicate-append-replicate, get_or-append}
use lib.Seq.{sets, set_at, append_snoc, take-append_seam}
use Rattle.semantics.proofs.Facts.{none-not-some, some_is}
use Rattle.codec.specs.Padding.{pad}

pub repeated : {A : Type 0} (d : A) (k i : ℕ) → get_or (replicate k d) i d ≡ d
repeated d zero i = refl
repeated d (suc k) zero = refl
repeated d (suc k) (suc i) = repeated d k i

module _ {A : Type 0} (n : ℕ) (d : A) where
  pub pad-none : replicate n d ≡ pad n d []
  unfolding pad
  pad-none = rw sub-zero refl

  pub length-pad : (l : List A) → length l ≤ n → length (pad n d l) ≡ n
  unfolding pad
  length-pad l h = omega (arith, length-append l (replicate (n - length l) d), length-replicate (n - length l) d)

  -- however long the list is
  pub pad-long : (l : List A) → n ≤ length (pad n d l)
  unfolding pad
  pad-long l = omega (arith, length-append l (replicate (n - length l) d), length-replicate (n - length l) d)

  -- ---- one more, and a row more
  pub set-pad : (l : List A) (i : ℕ) (x : A) → length l ≡ i → i < n → set (pad n d l) i x ≡ pad n d (l ++ (x ∷ []))
  unfolding pad
  set-pad l i x e h =
      let k : ℕ = n - length (l ++ (x ∷ [])) in
      let m : n - length l ≡ suc k = omega (arith, length-append l (x ∷ [])) in
      rw m (set_at l d (replicate k d) x i e ∙ sym (append_snoc l x (replicate k d)))

  pub sets-pad : (l row : List A) → length l + length row ≤ n → sets (pad n d l) (length l) row ≡ pad n d (l ++ row)
  sets-pad l [] h = ap (pad n d) (sym (append-nil l))
  sets-pad l (x ∷ row) h =
      let e : length (l ++ (x ∷ [])) ≡ suc (length l) = length-append l (x ∷ []) ∙ omega arith in
      ap (λ z. sets z (suc (length l)) row) (set-pad l (length l) x refl (omega arith)) ∙ ap (λ k. sets (pad n d (l ++ (x ∷ []))) k row) (sym e) ∙ sets-pad (l ++ (x ∷ [])) row (omega arith) ∙ ap (pad n d) (append_snoc l x row)

  -- a part that is filled up by itself
  pub pad-part : (l : List A) (k : ℕ) (row : List A) → length l + k ≤ n → length row ≤ k → pad n d (l ++ pad k d row) ≡ pad n d (l ++ row)
  unfolding pad
  pad-part l k row h i =
      let a : ℕ = k - length row in
      let fill : List A = replicate a d in
      let z : length (l ++ (row ++ fill)) ≡ length l + k = omega (arith, length-append l (row ++ fill), length-append row fill, length-replicate a d) in
      let w : a + (n - (length l + k)) ≡ n - length (l ++ row) = omega (arith, length-append l row) in
      ap (λ m. (l ++ (row ++ fill)) ++ replicate (n - m) d) z
      ∙ ap (λ m. m ++ replicate (n - (length l + k)) d) (sym (append_assoc l row fill))
      ∙ append_assoc (l ++ row) fill (replicate (n - (length l + k)) d)
      ∙ ap (λ m. (l ++ row) ++ m) (replicate-append-replicate a (n - (length l + k)) d ∙ ap (λ m. replicate m d) w)

  -- ---- what it holds
  followed : (l : List A) (k i : ℕ) → get_or (l ++ replicate k d) i d ≡ get_or l i d
  followed [] k i = repeated d k i
  followed (x ∷ l) k zero = refl
  followed (x ∷ l) k (suc i) = followed l k i

  pub pad-at : (l : List A) (i : ℕ) → get_or (pad n d l) i d ≡ get_or l i d
  unfolding pad
  pad-at l i = followed l (n - length l) i

  pub pad-some : (l : List A) (i : ℕ) {x : A} → get_elem? l i ≡ some x → get_or (pad n d l) i d ≡ x
  pad-some l i h = pad-at l i ∙ held l i h
    where
      held : (l : List A) (i : ℕ) {x : A} → get_elem? l i ≡ some x → get_or l i d ≡ x
      held [] i h = none-not-some h
      held (y ∷ l) zero h = some_is h
      held (y ∷ l) (suc i) h = held l i h

  pub get_d-pad : (l : List A) (i : ℕ) (e : A) → i < length l → get_or (pad n d l) i e ≡ get_or l i e
  unfolding pad
  get_d-pad l i e h = get_or-append l (replicate (n - length l) d) e i h

  pub take-pad : (l : List A) (k : ℕ) → length l ≡ k → take k (pad n d l) ≡ l
  unfolding pad
  take-pad l k e = rw (← e) (take-append_seam l _)

-- ---- an array of what f makes of each element
module _ {B : Type 0} (n : ℕ) (d : B) where
  pub pad-map-snoc : {A : Type 0} (f : A → B) (l : List A) (i : ℕ) (x : A) → length l ≡ i → i < n → set (pad n d (map f l)) i (f x) ≡ pad n d (map f (l ++ (x ∷ [])))
  pad-map-snoc f l i x e h = set-pad n d (map f l) i (f x) (length-map l f ∙ e) h ∙ ap (pad n d) (sym (map-append f l (x ∷ [])))

  pub pad-map-some : {A : Type 0} (f : A → B) (l : List A) (i : ℕ) {x : A} → get_elem? l i ≡ some x → get_or (pad n d (map f l)) i d ≡ f x
  pad-map-some {A = A} f l i h = pad-some n d (map f l) i (mapped l i h)
    where
      mapped : (l : List A) (i : ℕ) {x : A} → get_elem? l i ≡ some x → get_elem? (map f l) i ≡ some (f x)
      mapped [] i h = none-not-some h
      mapped (y ∷ l) zero h = ap (λ z. some (f z)) (some_is h)
      mapped (y ∷ l) (suc i) h = mapped l i h

pub pad-map : (n d : ℕ) (f : ℕ → ℕ) (l : List ℕ) (i : ℕ) → i < length l → get_or (pad n d (map f l)) i 0 ≡ f (get_or l i 0)
pad-map n d f l i h = get_d-pad n d (map f l) i 0 (omega (arith, length-map l f)) ∙ held l i h
  where
    held : (l : List ℕ) (i : ℕ) → i < length l → get_or (map f l) i 0 ≡ f (get_or l i 0)
    held [] i h = absurd (omega arith)
    held (y ∷ l) zero h = refl
    held (y ∷ l) (suc i) h = held l i (omega arith)
