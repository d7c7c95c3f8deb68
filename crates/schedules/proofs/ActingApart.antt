-- Nodes that act at once stand in different children of a PARALLEL; and `different_children` tells just where two nodes stand so.
use mathlib.Core.Path.{◌≡◌, refl, sym, ◌∙◌}
use mathlib.Core.Bool.{Bool, true, false, ◌&&◌, ◌||◌}
use mathlib.Core.List.Memᴰ.{head as first}
use mathlib.Core.List.Memᴰ.{tail as later}
use mathlib.Core.List.{[], ◌∷◌, ◌++◌, Memᴰ as Mem}
use mathlib.Core.List.Memᴰ
use mathlib.Core.Logic.{◌↔◌, ◌⊎◌, inl, inr, ⊎_elim}
use Prim.Native.Nat.{ℕ, ◌≤◌, ◌<◌}
use native.Mathlib.Omega.{arith}
use borrow.Author.Tests.{ltb-true, ltb-false}
use lib.Dec.{ltb}
use Rattle.semantics.specs.Plant.{among}
use Rattle.semantics.proofs.Facts.{true-not-false, and_left, and_right, and_both, by_cases, among-mem, mem-among}
use Rattle.schedules.specs.Trees.{Tree, Forest, leaf, halt, loop, branch, seq, par, nil, cons}
use Rattle.schedules.specs.Residuals.{Residual, Parts, acting, acting_at, acting_parts}
use Rattle.schedules.specs.Reached.{Of, OfSeq, OfParts, of-leaf, of-halt, of-loop, of-body, of-branch, of_first, of_second, of-seq, of-par, of-here, of-later, of_none, of-finished, of_part}
use Rattle.schedules.specs.Independent.{nodes_of, nodes_of_all, stands_before, in_different, different_children, any_different}
use Rattle.schedules.specs.IndependenceRules.{NthChild, nth_here, nth_later, Within, itself, in_body, in_first, in_second, in_sequence, in_parallel, NodeIn, DifferentChildren}
use Rattle.schedules.proofs.Reachable.{or_left, or_right}
use Rattle.schedules.proofs.NodesApart.{node-up, different-up, own-node, Some, this-has, later-has, Two, two-now, two-later, different-here, different-turned, different-below}

-- ---- a node that acts stands in the tree
module _ {n : ℕ} where
  mutual
    unfolding acting acting_at

    node-acting : {t : Tree} {r : Residual} → Of t r → Mem n (acting r) → NodeIn n t
    node-acting (of-leaf {n = m}) h = own-node (leaf m) refl (Memᴰ.eq_of_singleton h)
    node-acting (of-halt {n = m}) h = own-node (halt m) refl (Memᴰ.eq_of_singleton h)
    node-acting (of-loop {n = m} {t = t}) h = own-node (loop m t) refl (Memᴰ.eq_of_singleton h)
    node-acting (of-body o) h = node-up (in_body itself) (node-acting o h)
    node-acting (of-branch {n = m} {t = t} {u = u}) h = own-node (branch m t u) refl (Memᴰ.eq_of_singleton h)
    node-acting (of_first o) h = node-up (in_first itself) (node-acting o h)
    node-acting (of_second o) h = node-up (in_second itself) (node-acting o h)
    node-acting (of-seq o) h = let k = node_seq o h in node-up (in_sequence k.is_child itself) k.has
    node-acting (of-par o e) h = let k = node-parts o h in node-up (in_parallel k.is_child itself) k.has

    node_seq : {ts : Forest} {r : Residual} → OfSeq ts r → Mem n (acting r) → Some (NodeIn n) ts
    node_seq (of-here o) h = this-has (node-acting o h)
    node_seq (of-later o) h = later-has (node_seq o h)

    node-parts : {ts : Forest} {ps : Parts} → OfParts ts ps → Mem n (acting_parts ps) → Some (NodeIn n) ts
    node-parts of_none h = absurd (Memᴰ.not-nil h)
    node-parts (of-finished o) h = later-has (node-parts o h)
    node-parts (of_part {r = r} o q) h = ⊎_elim (λ k. this-has (node-acting o k)) (λ k. later-has (node-parts q k)) (Memᴰ.append_cases (acting r) h)

-- ---- two of them stand in different children
-- of a PARALLEL with these children
data Apart (a b : ℕ) (ts : Forest) : Type 0 where
  first_before : Two a b ts → Apart a b ts
  second_before : Two b a ts → Apart a b ts
  below_one : Some (DifferentChildren a b) ts → Apart a b ts

apart-later : {a b : ℕ} {t : Tree} {ts : Forest} → Apart a b ts → Apart a b (cons t ts)
apart-later (first_before h) = first_before (two-later h)
apart-later (second_before h) = second_before (two-later h)
apart-later (below_one h) = below_one (later-has h)

of-parallel : {a b : ℕ} {t : Tree} {ts : Forest} → Apart a b (cons t ts) → DifferentChildren a b (par t ts)
of-parallel (first_before h) = different-here h
of-parallel (second_before h) = different-turned h
of-parallel (below_one h) = different-below h

module _ (a b : ℕ) (differ : a ≡ b → ⊥) where
  one-node : {n : ℕ} {C : Type 0} → Mem a (n ∷ []) → Mem b (n ∷ []) → C
  one-node h k = absurd (differ (Memᴰ.eq_of_singleton h ∙ sym (Memᴰ.eq_of_singleton k)))

  mutual
    unfolding acting acting_at

    pub acting-apart : {t : Tree} {r : Residual} → Of t r → Mem a (acting r) → Mem b (acting r) → DifferentChildren a b t
    acting-apart of-leaf h k = one-node h k
    acting-apart of-halt h k = one-node h k
    acting-apart of-loop h k = one-node h k
    acting-apart (of-body o) h k = different-up (in_body itself) (acting-apart o h k)
    acting-apart of-branch h k = one-node h k
    acting-apart (of_first o) h k = different-up (in_first itself) (acting-apart o h k)
    acting-apart (of_second o) h k = different-up (in_second itself) (acting-apart o h k)
    acting-apart (of-seq o) h k = let d = apart-seq o h k in different-up (in_sequence d.is_child itself) d.has
    acting-apart (of-par o e) h k = of-parallel (apart_parts o h k)

    apart-seq : {ts : Forest} {r : Residual} → OfSeq ts r → Mem a (acting r) → Mem b (acting r) → Some (DifferentChildren a b) ts
    apart-seq (of-here o) h k = this-has (acting-apart o h k)
    apart-seq (of-later o) h k = later-has (apart-seq o h k)

    apart_parts : {ts : Forest} {ps : Parts} → OfParts ts ps → Mem a (acting_parts ps) → Mem b (acting_parts ps) → Apart a b ts
    apart_parts of_none h k = absurd (Memᴰ.not-nil h)
    apart_parts (of-finished o) h k = apart-later (apart_parts o h k)
    apart_parts (of_part {t = t} {ts = ts} {r = r} {ps = ps} o q) h k =
        go (Memᴰ.append_cases (acting r) h) (Memᴰ.append_cases (acting r) k) (λ i j. acting-apart o i j) (λ i j. apart_parts q i j)
      where
        go : Mem a (acting r) ⊎ Mem a (acting_parts ps) → Mem b (acting r) ⊎ Mem b (acting_parts ps) →
            (Mem a (acting r) → Mem b (acting r) → DifferentChildren a b t) → (Mem a (acting_parts ps) → Mem b (acting_parts ps) → Apart a b ts) → Apart a b (cons t ts)
        go (inl i) (inl j) f g = below_one (this-has (f i j))
        go (inl i) (inr j) f g = first_before (two-now (node-acting o i) (node-parts q j))
        go (inr i) (inl j) f g = second_before (two-now (node-acting o j) (node-parts q i))
        go (inr i) (inr j) f g = apart-later (g i j)

-- ---- a node is listed just where it stands in the tree
module _ {n : ℕ} where
  child-listed : {t : Tree} {ts : Forest} {i : ℕ} → NthChild t ts i → Mem n (nodes_of t) → Mem n (nodes_of_all ts)
  unfolding nodes_of_all
  child-listed (nth_here {ts = ts}) h = Memᴰ.append_left (nodes_of_all ts) h
  child-listed (nth_later {u = u} k) h = Memᴰ.append_right (nodes_of u) (child-listed k h)

  own-listed : (t : Tree) → acting_at t ≡ n ∷ [] → Mem n (nodes_of t)
  unfolding nodes_of acting_at
  own-listed (leaf m) e = let q : n ≡ m = cc in first q
  own-listed (halt m) e = let q : n ≡ m = cc in first q
  own-listed (loop m t) e = let q : n ≡ m = cc in first q
  own-listed (branch m t u) e = let q : n ≡ m = cc in first q
  own-listed (seq t ts) e = let z : ◌≡◌ {A = ℕ} 0 1 = cc in absurd (omega arith)
  own-listed (par t ts) e = let z : ◌≡◌ {A = ℕ} 0 1 = cc in absurd (omega arith)

  within-listed : {t u : Tree} → Within t u → Mem n (nodes_of t) → Mem n (nodes_of u)
  unfolding nodes_of nodes_of_all
  within-listed itself h = h
  within-listed (in_body k) h = later (within-listed k h)
  within-listed (in_first {v = v} k) h = later (Memᴰ.append_left (nodes_of v) (within-listed k h))
  within-listed (in_second {u = u} k) h = later (Memᴰ.append_right (nodes_of u) (within-listed k h))
  within-listed (in_sequence c k) h = child-listed c (within-listed k h)
  within-listed (in_parallel c k) h = child-listed c (within-listed k h)

  listed-child : (t : Tree) (ts : Forest) → (Mem n (nodes_of t) → NodeIn n t) → (Mem n (nodes_of_all ts) → Some (NodeIn n) ts) → Mem n (nodes_of t ++ nodes_of_all ts) → Some (NodeIn n) (cons t ts)
  listed-child t ts f g h = ⊎_elim (λ i. this-has (f i)) (λ i. later-has (g i)) (Memᴰ.append_cases (nodes_of t) h)

  mutual
    unfolding nodes_of acting_at

    listed-node : (t : Tree) → Mem n (nodes_of t) → NodeIn n t
    listed-node (leaf m) h = own-node (leaf m) refl (Memᴰ.eq_of_singleton h)
    listed-node (halt m) h = own-node (halt m) refl (Memᴰ.eq_of_singleton h)
    listed-node (loop m t) h = ⊎_elim (own-node (loop m t) refl) (λ k. node-up (in_body itself) (listed-node t k)) (Memᴰ.cases_cons h)
    listed-node (branch m t u) h = ⊎_elim (own-node (branch m t u) refl)
        (λ k. ⊎_elim (λ i. node-up (in_first itself) (listed-node t i)) (λ i. node-up (in_second itself) (listed-node u i)) (Memᴰ.append_cases (nodes_of t) k))
        (Memᴰ.cases_cons h)
    listed-node (seq t ts) h = let k = listed-child t ts (λ i. listed-node t i) (λ i. listed-some ts i) h in node-up (in_sequence k.is_child itself) k.has
    listed-node (par t ts) h = let k = listed-child t ts (λ i. listed-node t i) (λ i. listed-some ts i) h in node-up (in_parallel k.is_child itself) k.has

    listed-some : (ts : Forest) → Mem n (nodes_of_all ts) → Some (NodeIn n) ts
    listed-some nil h = absurd (Memᴰ.not-nil h)
    listed-some (cons t ts) h = listed-child t ts (λ i. listed-node t i) (λ i. listed-some ts i) h

pub node_is : (n : ℕ) (t : Tree) → Mem n (nodes_of t) ↔ NodeIn n t
node_is n t = (listed-node t, λ h. within-listed h.within (own-listed h.own h.is_own))

-- ---- the test
pub or_cases : (a b : Bool) → (a || b) ≡ true → (a ≡ true) ⊎ (b ≡ true)
or_cases true b h = inl refl
or_cases false b h = inr h

module _ (a b : ℕ) where
  turn-there : (ts : Forest) → stands_before a b ts ≡ true → Two a b ts
  unfolding stands_before
  turn-there nil h = true-not-false (sym h)
  turn-there (cons t ts) h =
      let x = among a (nodes_of t) in
      let y = among b (nodes_of_all ts) in
      ⊎_elim (λ k. two-now (listed-node t (among-mem a (nodes_of t) (and_left x y k))) (listed-some ts (among-mem b (nodes_of_all ts) (and_right x y k)))) (λ k. two-later (turn-there ts k))
      (or_cases (x && y) (stands_before a b ts) h)

  turn-here : {t u : Tree} {ts : Forest} {i j : ℕ} → i < j → NthChild t ts i → NthChild u ts j → NodeIn a t → NodeIn b u → stands_before a b ts ≡ true
  unfolding stands_before
  turn-here l nth_here nth_here h k = absurd (omega arith)
  turn-here {t = t} {u = u} l (nth_here {ts = ts}) (nth_later d) h k =
      or_left (stands_before a b ts) (and_both (mem-among a (nodes_of t) ((node_is a t).1 h)) (mem-among b (nodes_of_all ts) (child-listed d ((node_is b u).1 k))))
  turn-here l (nth_later c) nth_here h k = absurd (omega arith)
  turn-here l (nth_later {u = u} {ts = ts} c) (nth_later d) h k = or_right (among a (nodes_of u) && among b (nodes_of_all ts)) (turn-here (omega arith) c d h k)

module _ (a b : ℕ) where
  parallel-there : (t : Tree) (ts : Forest) → in_different a b (cons t ts) ≡ true → DifferentChildren a b (par t ts)
  unfolding in_different
  parallel-there t ts h =
      ⊎_elim (λ k. different-here (turn-there a b (cons t ts) k)) (λ k. different-turned (turn-there b a (cons t ts) k)) (or_cases (stands_before a b (cons t ts)) (stands_before b a (cons t ts)) h)

  parallel-here : {ts : Forest} {t u : Tree} {i j : ℕ} → (i ≡ j → ⊥) → NthChild t ts i → NthChild u ts j → NodeIn a t → NodeIn b u → in_different a b ts ≡ true
  unfolding in_different
  parallel-here {ts} {i = i} {j = j} f c d h k =
      by_cases (ltb i j) (λ e. or_left (stands_before b a ts) (turn-here a b (ltb-true i j e) c d h k)) (λ e. or_right (stands_before a b ts) (turn-here b a (above (ltb-false i j e)) d c k h))
    where
      above : j ≤ i → j < i
      above l = by_cases (ltb j i) (λ e. ltb-true j i e) (λ e. (let q = ltb-false j i e in absurd (f (omega arith))))

  child-told : {t : Tree} {ts : Forest} {i : ℕ} → NthChild t ts i → different_children a b t ≡ true → any_different a b ts ≡ true
  unfolding any_different
  child-told (nth_here {ts = ts}) h = or_left (any_different a b ts) h
  child-told (nth_later {u = u} c) h = or_right (different_children a b u) (child-told c h)

  within-told : {t u : Tree} → Within t u → different_children a b t ≡ true → different_children a b u ≡ true
  unfolding different_children any_different
  within-told itself h = h
  within-told (in_body k) h = within-told k h
  within-told (in_first {v = v} k) h = or_left (different_children a b v) (within-told k h)
  within-told (in_second {u = u} k) h = or_right (different_children a b u) (within-told k h)
  within-told (in_sequence c k) h = child-told c (within-told k h)
  within-told (in_parallel {u = u} {us = us} c k) h = or_right (in_different a b (cons u us)) (child-told c (within-told k h))

  told_child : (t : Tree) (ts : Forest) → (different_children a b t ≡ true → DifferentChildren a b t) → (any_different a b ts ≡ true → Some (DifferentChildren a b) ts) →
      (different_children a b t || any_different a b ts) ≡ true → Some (DifferentChildren a b) (cons t ts)
  told_child t ts f g h = ⊎_elim (λ k. this-has (f k)) (λ k. later-has (g k)) (or_cases (different_children a b t) (any_different a b ts) h)

  mutual
    unfolding different_children

    told-there : (t : Tree) → different_children a b t ≡ true → DifferentChildren a b t
    told-there (leaf n) h = true-not-false (sym h)
    told-there (halt n) h = true-not-false (sym h)
    told-there (loop n t) h = different-up (in_body itself) (told-there t h)
    told-there (branch n t u) h = ⊎_elim (λ k. different-up (in_first itself) (told-there t k)) (λ k. different-up (in_second itself) (told-there u k))
        (or_cases (different_children a b t) (different_children a b u) h)
    told-there (seq t ts) h = let k = told_child t ts (λ i. told-there t i) (λ i. told-some ts i) h in different-up (in_sequence k.is_child itself) k.has
    told-there (par t ts) h = ⊎_elim (parallel-there t ts) (λ k. different-below (told_child t ts (λ i. told-there t i) (λ i. told-some ts i) k))
        (or_cases (in_different a b (cons t ts)) (different_children a b t || any_different a b ts) h)

    told-some : (ts : Forest) → any_different a b ts ≡ true → Some (DifferentChildren a b) ts
    told-some nil h = true-not-false (sym h)
    told-some (cons t ts) h = told_child t ts (λ i. told-there t i) (λ i. told-some ts i) h

  told_here : {t : Tree} → DifferentChildren a b t → different_children a b t ≡ true
  unfolding different_children
  told_here h =
      within-told h.somewhere (or_left (different_children a b h.first || any_different a b h.others) (parallel-here h.different h.is_one h.is_other h.a_in h.b_in))

pub different-is : (a b : ℕ) (t : Tree) → (different_children a b t ≡ true) ↔ DifferentChildren a b t
different-is a b t = (told-there a b t, told_here a b)
