-- Entries that are stored one after the other.
use mathlib.Core.Path.{◌≡◌, refl, sym, ap, ◌∙◌}
use mathlib.Core.List.{List, [], ◌∷◌, ◌++◌, map}
use Prim.Native.Nat.{ℕ, zero, suc, ◌+◌, ◌≤◌, ◌<◌}
use native.Mathlib.Omega.{arith}
use lib.ListN.{length, get_or, take, drop, set, length-set}
use borrow.Rule.Slice.PartMut.{put_mid}
use Rattle.std.proofs.lemmas.Slice.{put_mid-paste}
use lib.Seq.{sets, sets-eq, take_all, get_or-set_same, get_or-set_other}

-- ---- a loop that stores the entries of vs from i on
module _ {A : Type 0} (d : A) where
  one_more : (vs l : List A) (i k : ℕ) → k < length vs → set (sets l i (take k vs)) (i + k) (get_or vs k d) ≡ sets l i (take (suc k) vs)
  one_more [] l i k h = absurd (omega arith)
  one_more (x ∷ vs) l i zero h = let e : i + 0 ≡ i = omega arith in ap (λ z. set l z x) e
  one_more (x ∷ vs) l i (suc k) h =
      let e : i + suc k ≡ suc i + k = omega arith in
      ap (λ z. set (sets (set l i x) (suc i) (take k vs)) z (get_or vs k d)) e ∙ one_more vs (set l i x) (suc i) k (omega arith)

  pub stored_next : (vs l : List A) (i k : ℕ) {m : List A} {v : A} → k < length vs → m ≡ sets l i (take k vs) → v ≡ get_or vs k d → set m (i + k) v ≡ sets l i (take (k + 1) vs)
  stored_next vs l i k h e f = let j : k + 1 ≡ suc k = omega arith in rw (e, f, j) (one_more vs l i k h)

  pub stored-all : (vs l : List A) (i k : ℕ) {m : List A} → length vs ≤ k → m ≡ sets l i (take k vs) → m ≡ sets l i vs
  stored-all vs l i k h e = e ∙ ap (sets l i) (take_all k vs h)

  -- ---- what stands there then
  pub before-row : (vs l : List A) (i k : ℕ) → k < i → get_or (sets l i vs) k d ≡ get_or l k d
  before-row [] l i k h = refl
  before-row (x ∷ vs) l i k h = before-row vs (set l i x) (suc i) k (omega arith) ∙ get_or-set_other l i k x d (λ e. omega arith)

  pub in_row : (vs l : List A) (i k : ℕ) → i + length vs ≤ length l → k < length vs → get_or (sets l i vs) (i + k) d ≡ get_or vs k d
  in_row [] l i k h b = absurd (omega arith)
  in_row (x ∷ vs) l i zero h b =
      let e : i + 0 ≡ i = omega arith in
      ap (λ z. get_or (sets (set l i x) (suc i) vs) z d) e ∙ before-row vs (set l i x) (suc i) i (omega arith) ∙ get_or-set_same l i x d (omega arith)
  in_row (x ∷ vs) l i (suc k) h b =
      let e : i + suc k ≡ suc i + k = omega arith in
      ap (λ z. get_or (sets (set l i x) (suc i) vs) z d) e ∙ in_row vs (set l i x) (suc i) k (omega (arith, length-set l i x)) (omega arith)

pub map_at : {A : Type 0} (f : A → ℕ) (l : List A) (k : ℕ) (d : A) → k < length l → get_or (map f l) k 0 ≡ f (get_or l k d)
map_at f [] k d h = absurd (omega arith)
map_at f (x ∷ l) zero d h = refl
map_at f (x ∷ l) (suc k) d h = map_at f l k d (omega arith)

pub map_same : (l : List ℕ) → map (λ (k : ℕ). k) l ≡ l
map_same [] = refl
map_same (x ∷ l) = ap (λ z. x ∷ z) (map_same l)

-- ---- a slice copied to i and the entries after it
pub copied : {A : Type 0} (l vs : List A) (i k : ℕ) {m : List A} → i + length vs ≤ length l → k ≡ length vs → m ≡ vs → put_mid i k l m ≡ sets l i vs
copied l vs i k h e f =
    put_mid-paste i k l _ vs k f refl e
    ∙ ap (λ z. take i l ++ z ++ drop (i + k) l) (take_all k vs (omega arith))
    ∙ ap (λ z. take i l ++ vs ++ drop (i + z) l) e
    ∙ sym (sets-eq vs l i h)
