-- A loop that fills an array and tests entry i against element i of a list.
use mathlib.Core.Path.{◌≡◌, refl, sym, ap, ◌∙◌}
use mathlib.Core.Bool.{Bool, true, false, ◌&&◌}
use mathlib.Core.List.{List, [], ◌∷◌, ◌++◌}
use mathlib.Core.Option.{some}
use Prim.Native.Nat.{ℕ, zero, suc, ◌+◌, ◌-◌, ◌≤◌, ◌<◌}
use native.Mathlib.Nat.{add-zero, zero-add, sub-zero}
use native.Mathlib.Numerals.{add-one}
use native.Mathlib.Omega.{arith}
use lib.ListN.{length, set, drop, get_elem?, drop_of_length-le}
use Rattle.semantics.proofs.Facts.{none-not-some, some_is, at-exists}
use Rattle.codec.specs.Padding.{pad}
use Rattle.codec.proofs.Padding.{set-pad}

-- ---- entries
-- f i and the n - 1 after it
unfoldable pub entries : {A : Type 0} → (ℕ → A) → ℕ → ℕ → List A
entries f i zero = []
entries f i (suc n) = f i ∷ entries f (suc i) n

pub entries-length : {A : Type 0} (f : ℕ → A) (i n : ℕ) → length (entries f i n) ≡ n
unfolding entries
entries-length f i zero = refl
entries-length f i (suc n) = ap suc (entries-length f (suc i) n)

entries-snoc : {A : Type 0} (f : ℕ → A) (i n : ℕ) → entries f i (suc n) ≡ entries f i n ++ (f (i + n) ∷ [])
unfolding entries
entries-snoc f i zero = rw add-zero refl
entries-snoc f i (suc n) =
    let e : suc i + n ≡ i + suc n = omega arith in
    ap (λ t. f i ∷ t) (entries-snoc f (suc i) n ∙ ap (λ k. entries f (suc i) n ++ (f k ∷ [])) e)

entries_next : {A : Type 0} (f : ℕ → A) (i n : ℕ) → i < n → entries f i (n - i) ≡ f i ∷ entries f (suc i) (n - suc i)
unfolding entries
entries_next f i n h = let e : n - i ≡ suc (n - suc i) = omega arith in rw e refl

entries_none : {A : Type 0} (f : ℕ → A) (i n : ℕ) → n ≤ i → entries f i (n - i) ≡ []
unfolding entries
entries_none f i n h = let e : n - i ≡ 0 = omega arith in rw e refl

-- ---- arrays
filled_next : {A : Type 0} (w : ℕ) (d : A) (f : ℕ → A) (i : ℕ) → i < w → set (pad w d (entries f 0 i)) i (f i) ≡ pad w d (entries f 0 (suc i))
filled_next w d f i h =
    set-pad w d (entries f 0 i) i (f i) (entries-length f 0 i) h ∙ ap (pad w d) (sym (entries-snoc f 0 i ∙ ap (λ k. entries f 0 i ++ (f k ∷ [])) (zero-add i)))

drop_at : {X : Type 0} (xs : List X) (i : ℕ) {x : X} → get_elem? xs i ≡ some x → drop i xs ≡ x ∷ drop (suc i) xs
drop_at [] i h = none-not-some h
drop_at (y ∷ xs) zero h = ap (λ z. z ∷ xs) (some_is h)
drop_at (y ∷ xs) (suc i) h = drop_at xs i h

-- ---- the loop: the array holds i entries, and they fit; T tells which lists the code stands for
pub record Going {A X : Type 0} (w : ℕ) (d : A) (Fit : List X → List A → Bool) (T : List X → Type 0) (f : ℕ → A) (n i : ℕ) (array : List A) : Type 0 where
  pub filled : array ≡ pad w d (entries f 0 i)
  pub so_far : (xs : List X) → T xs → Fit xs (entries f 0 n) ≡ Fit (drop i xs) (entries f i (n - i))

module _ {A X : Type 0} (w : ℕ) (d : A) (Fit : List X → List A → Bool) (T : List X → Type 0) (f : ℕ → A) (n : ℕ) where
  pub going_start : Going w d Fit T f n 0 (pad w d [])
  unfolding entries
  going_start = record { filled = refl; so_far = λ xs t. rw sub-zero refl }

module _ {A X : Type 0} (w : ℕ) (d : A) (Fit : List X → List A → Bool) (T : List X → Type 0) (f : ℕ → A) (n : ℕ) (fits : X → A → Bool) (step : (x : X) (xs : List X) (a : A) (l : List A) → Fit (x ∷ xs) (a ∷ l) ≡ (fits x a && Fit xs l)) (many : (xs : List X) → T xs → n ≡ length xs) (i : ℕ) {array : List A} (g : Going w d Fit T f n i array) where
  -- entry i against its element
  tested : i < n → {b : Bool} → ((xs : List X) (x : X) → T xs → get_elem? xs i ≡ some x → fits x (f i) ≡ b) → (xs : List X) → T xs → Fit xs (entries f 0 n) ≡ (b && Fit (drop (suc i) xs) (entries f (suc i) (n - suc i)))
  tested h {b} test xs t =
      let m = many xs t in
      let e = at-exists xs i (omega arith) in
      g.so_far xs t ∙ rw (drop_at xs i e.1, entries_next f i n h, step e.0 (drop (suc i) xs) (f i) (entries f (suc i) (n - suc i)), test xs e.0 t e.1) refl

  pub going_next : i < n → i < w → ((xs : List X) (x : X) → T xs → get_elem? xs i ≡ some x → fits x (f i) ≡ true) → (a : A) → a ≡ f i → Going w d Fit T f n (i + 1) (set array i a)
  going_next h k test a e = rw add-one (record {
    filled = rw (e, g.filled) (filled_next w d f i k);
    so_far = tested h test;
  })

  pub stopped : i < n → ((xs : List X) (x : X) → T xs → get_elem? xs i ≡ some x → fits x (f i) ≡ false) → (xs : List X) → T xs → Fit xs (entries f 0 n) ≡ false
  stopped h test xs t = tested h test xs t

  pub ended : i ≡ n → Fit [] [] ≡ true → (xs : List X) → T xs → Fit xs (entries f 0 n) ≡ true
  ended h k xs t =
      let m = many xs t in
      let e : drop i xs ≡ [] = drop_of_length-le xs {i = i} (omega arith) in
      g.so_far xs t ∙ rw (e, entries_none f i n (omega arith)) k

pub filled-all : {A X : Type 0} {w : ℕ} {d : A} {Fit : List X → List A → Bool} {T : List X → Type 0} {f : ℕ → A} {n i : ℕ} {array : List A} → Going w d Fit T f n i array → i ≡ n → array ≡ pad w d (entries f 0 n)
filled-all {w = w} {d = d} {f = f} g h = g.filled ∙ ap (λ k. pad w d (entries f 0 k)) h
