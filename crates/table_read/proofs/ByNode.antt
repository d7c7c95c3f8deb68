-- Numbers by node: one more action, and what stands at a node.
use mathlib.Core.Path.{◌≡◌, refl, sym, ap, ap₂}
use mathlib.Core.Bool.{Bool, true, false}
use mathlib.Core.List.{List, [], ◌∷◌, ◌++◌, map}
use mathlib.Core.Option.{Option, none, some}
use Prim.Native.Nat.{ℕ, zero, suc, ◌≤◌, ◌<◌}
use native.Mathlib.Omega.{arith}
use borrow.Author.Tests.{eq-eqb, ne_eqb, leb-true}
use lib.Dec.{leb, eqb}
use lib.ListN.{length, get_or, set, replicate}
use Rattle.semantics.specs.TableFile.{NodeAction}
use Rattle.semantics.specs.Tables.{rising_from, action_at}
use Rattle.semantics.proofs.Facts.{true-not-false, none-not-some}
use Rattle.table_read.specs.ActionIndex.{listed, place_at}
use Rattle.table_read.proofs.Rising.{next_from}

-- ---- lists by number
pub listed-length : (k : ℕ) (f : ℕ → ℕ) → length (listed k f) ≡ k
unfolding listed
listed-length zero f = refl
listed-length (suc k) f = ap suc (listed-length k (λ n. f (suc n)))

pub listed_at : (k : ℕ) (f : ℕ → ℕ) (i : ℕ) → i < k → get_or (listed k f) i 0 ≡ f i
unfolding listed
listed_at zero f i h = absurd (omega arith)
listed_at (suc k) f zero h = refl
listed_at (suc k) f (suc i) h = listed_at k (λ n. f (suc n)) i (omega arith)

pub listed_same : (k : ℕ) (f g : ℕ → ℕ) → ((n : ℕ) → f n ≡ g n) → listed k f ≡ listed k g
unfolding listed
listed_same zero f g h = refl
listed_same (suc k) f g h = ap₂ (λ a l. a ∷ l) (h 0) (listed_same k (λ n. f (suc n)) (λ n. g (suc n)) (λ n. h (suc n)))

pub listed-set : (k : ℕ) (f g : ℕ → ℕ) (n v : ℕ) → n < k → g n ≡ v → ((m : ℕ) → (n ≡ m → ⊥) → g m ≡ f m) → set (listed k f) n v ≡ listed k g
unfolding listed
listed-set zero f g n v h e o = absurd (omega arith)
listed-set (suc k) f g zero v h e o = ap₂ (λ a l. a ∷ l) (sym e) (listed_same k (λ n. f (suc n)) (λ n. g (suc n)) (λ m. sym (o (suc m) (λ i. omega arith))))
listed-set (suc k) f g (suc n) v h e o = ap₂ (λ a l. a ∷ l) (sym (o 0 (λ i. omega arith))) (listed-set k (λ n. f (suc n)) (λ n. g (suc n)) n v (omega arith) e (λ m i. o (suc m) (λ j. i (omega arith))))

pub listed-zero : (k : ℕ) (f : ℕ → ℕ) → ((n : ℕ) → f n ≡ 0) → replicate k 0 ≡ listed k f
unfolding listed
listed-zero zero f h = refl
listed-zero (suc k) f h = ap₂ (λ a l. a ∷ l) (sym (h 0)) (listed-zero k (λ n. f (suc n)) (λ n. h (suc n)))

-- ---- one more action
same_branch : {A : Type 0} (t : Bool) (x y z : Option A) → y ≡ z → ◌≡◌ {A = Option A} (elim t [ true ↦ x | false ↦ y ]) (elim t [ true ↦ x | false ↦ z ])
same_branch true x y z h = refl
same_branch false x y z h = h

not_found : {A : Type 0} (t : Bool) (x : A) (y : Option A) → ◌≡◌ {A = Option A} (elim t [ true ↦ some x | false ↦ y ]) none → (t ≡ false) × (y ≡ none)
not_found true x y h = none-not-some (sym h)
not_found false x y h = (refl, h)

module _ (a : NodeAction) where
  pub action-other : (l : List NodeAction) (m : ℕ) → (a.node ≡ m → ⊥) → action_at (l ++ (a ∷ [])) m ≡ action_at l m
  unfolding action_at
  action-other [] m h = rw (action_at, ne_eqb a.node m h) refl
  action-other (b ∷ l) m h = same_branch (eqb b.node m) (some b.action) (action_at (l ++ (a ∷ [])) m) (action_at l m) (action-other l m h)

  pub action-new : (l : List NodeAction) → action_at l a.node ≡ none → action_at (l ++ (a ∷ [])) a.node ≡ some a.action
  unfolding action_at
  action-new [] h = rw (action_at, eq-eqb a.node a.node refl) refl
  action-new (b ∷ l) h =
      let k = not_found (eqb b.node a.node) b.action (action_at l a.node) h in
      rw (action_at, k.0) (action-new l k.1)

  pub place_other : (l : List NodeAction) (ps : List ℕ) (p m : ℕ) → length ps ≡ length l → (a.node ≡ m → ⊥) → place_at (l ++ (a ∷ [])) (ps ++ (p ∷ [])) m ≡ place_at l ps m
  unfolding place_at
  place_other [] [] p m e h = rw (place_at, ne_eqb a.node m h) refl
  place_other [] (q ∷ ps) p m e h = absurd (omega arith)
  place_other (b ∷ l) [] p m e h = absurd (omega arith)
  place_other (b ∷ l) (q ∷ ps) p m e h = same_branch (eqb b.node m) (some q) (place_at (l ++ (a ∷ [])) (ps ++ (p ∷ [])) m) (place_at l ps m) (place_other l ps p m (omega arith) h)

  pub place-new : (l : List NodeAction) (ps : List ℕ) (p : ℕ) → length ps ≡ length l → action_at l a.node ≡ none → place_at (l ++ (a ∷ [])) (ps ++ (p ∷ [])) a.node ≡ some p
  unfolding place_at action_at
  place-new [] [] p e h = rw (place_at, eq-eqb a.node a.node refl) refl
  place-new [] (q ∷ ps) p e h = absurd (omega arith)
  place-new (b ∷ l) [] p e h = absurd (omega arith)
  place-new (b ∷ l) (q ∷ ps) p e h =
      let k = not_found (eqb b.node a.node) b.action (action_at l a.node) h in
      rw (place_at, k.0) (place-new l ps p (omega arith) k.1)

pub place_none : (ps : List ℕ) (n : ℕ) → place_at [] ps n ≡ none
unfolding place_at
place_none ps n = refl

-- ---- a number that has not come yet
next-above : (low : ℕ) (l : List ℕ) → rising_from low l ≡ true → low ≤ next_from low l
unfolding rising_from next_from
next-above low [] h = omega arith
next-above low (n ∷ l) h = go (leb low n) refl h (next-above (suc n) l)
  where
    go : (t : Bool) → leb low n ≡ t → elim t [ true ↦ rising_from (suc n) l | false ↦ false ] ≡ true → (rising_from (suc n) l ≡ true → suc n ≤ next_from (suc n) l) → low ≤ next_from (suc n) l
    go true e h f = let i = f h in omega (arith, leb-true low n e)
    go false e h f = true-not-false (sym h)

fresh : (low n : ℕ) (l : List NodeAction) → rising_from low (map (λ a. a.node) l) ≡ true → next_from low (map (λ a. a.node) l) ≤ n → action_at l n ≡ none
unfolding rising_from next_from action_at
fresh low n [] h k = refl
fresh low n (a ∷ l) h k =
    let r = rest (leb low a.node) (rising_from (suc a.node) (map (λ a. a.node) l)) h in
    let i = next-above (suc a.node) (map (λ a. a.node) l) r in
    rw (action_at, ne_eqb a.node n (λ e. omega arith)) (fresh (suc a.node) n l r k)
  where
    rest : (t u : Bool) → elim t [ true ↦ u | false ↦ false ] ≡ true → u ≡ true
    rest true u h = h
    rest false u h = true-not-false (sym h)

pub not_yet : (n low : ℕ) (l : List NodeAction) → rising_from 0 (map (λ a. a.node) l) ≡ true → next_from 0 (map (λ a. a.node) l) ≡ low → low ≤ n → action_at l n ≡ none
not_yet n low l h e k = fresh 0 n l h (omega arith)
