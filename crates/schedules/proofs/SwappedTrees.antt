-- Where two children of a PARALLEL change places the two trees are alike by the new numbers.
use mathlib.Core.Path.{◌≡◌, sym, subst}
use mathlib.Core.List.{List, ◌∷◌, ◌++◌}
use mathlib.Core.Option.{Option, none, some}
use Prim.Native.Nat.{ℕ, suc, ◌+◌, ◌≤◌}
use native.Mathlib.Omega.{arith}
use lib.ListN.{length}
use Rattle.semantics.proofs.Facts.{none-not-some, some_is}
use Rattle.schedules.specs.Nodes.{Node, sequence, parallel, while_do, if_else, continue_until, reset, reinitial, switch_to, stop_all}
use Rattle.schedules.specs.Trees.{Tree, Forest, nil, cons, par, children, of_none, of_one, of_two, of_some, tree_from, tree_of}
use Rattle.schedules.specs.Preorder.{forest_length, WrittenAll}
use Rattle.schedules.specs.Reordered.{Swapped, swapped_number}
use Rattle.schedules.proofs.OneTree.{one_tree, one_only}
use Rattle.schedules.proofs.AlikeTrees.{Alike, AlikeAll, Shuffled, alike-leaf, alike-halt, alike-loop, alike-branch, alike-seq, alike-par}
use Rattle.schedules.proofs.AlikeTrees.{alike-nil, alike-cons, shuffled-nil, shuffled-cons, shuffled-swap}
use Rattle.schedules.proofs.SwappedNumbers.{ex_before, ex_one, ex_other, ex_after, exchanged-is}
use Rattle.schedules.proofs.TreeStack.{Cut, cut_none, cut_next, Opened, opened, Moves, Kept, on-top, same_nodes, top-trees}

module _ {f : ℕ → ℕ} where
  one_by_one : {ts us : Forest} → AlikeAll f ts us → Shuffled f ts us
  one_by_one alike-nil = shuffled-nil
  one_by_one (alike-cons a al) = shuffled-cons a (one_by_one al)

  only-alike : {t u : Tree} → AlikeAll f (cons t nil) (cons u nil) → Alike f t u
  only-alike (alike-cons a alike-nil) = a

  cut-alike : {k : ℕ} {ts us cs ds os ps : Forest} → Cut k ts cs os → Cut k us ds ps → AlikeAll f ts us → AlikeAll f cs ds × AlikeAll f os ps
  cut-alike cut_none cut_none al = (alike-nil, al)
  cut-alike (cut_next c) (cut_next d) (alike-cons a al) = let r = cut-alike c d al in (alike-cons a r.0, r.1)

-- ---- one node on top of stacks that are alike
-- as tree_from makes trees of the children
data Made (f : ℕ → ℕ) : Option Tree → Option Tree → Type 0 where
  made_none : Made f none none
  made_some : {t u : Tree} → Alike f t u → Made f (some t) (some u)

module _ {f : ℕ → ℕ} where
  made_alike : {o p : Option Tree} {t u : Tree} → Made f o p → o ≡ some t → p ≡ some u → Alike f t u
  made_alike made_none d e = none-not-some d
  made_alike {t = t} (made_some {u = v} a) d e = subst (Alike f t) (some_is e) (subst (λ t. Alike f t v) (some_is d) a)

  made-parallel : {ts us : Forest} → Shuffled f ts us → Made f (of_some par ts) (of_some par us)
  unfolding of_some
  made-parallel shuffled-nil = made_none
  made-parallel (shuffled-cons a s) = made_some (alike-par (shuffled-cons a s))
  made-parallel (shuffled-swap a b s) = made_some (alike-par (shuffled-swap a b s))

  made-from : (m : ℕ) {k : ℕ} (x : Node) {ts us : Forest} → f m ≡ k → AlikeAll f ts us → Made f (tree_from m x ts) (tree_from k x us)
  unfolding tree_from of_none of_one of_two of_some
  made-from m (sequence c) e alike-nil = made_none
  made-from m (sequence c) e (alike-cons a al) = made_some (alike-seq (alike-cons a al))
  made-from m (parallel c) e al = made-parallel (one_by_one al)
  made-from m (while_do c) e alike-nil = made_none
  made-from m (while_do c) e (alike-cons a alike-nil) = made_some (alike-loop e a)
  made-from m (while_do c) e (alike-cons a (alike-cons b al)) = made_none
  made-from m (if_else c) e alike-nil = made_none
  made-from m (if_else c) e (alike-cons a alike-nil) = made_none
  made-from m (if_else c) e (alike-cons a (alike-cons b alike-nil)) = made_some (alike-branch e a b)
  made-from m (if_else c) e (alike-cons a (alike-cons b (alike-cons d al))) = made_none
  made-from m (continue_until c) e alike-nil = made_some (alike-leaf e)
  made-from m (continue_until c) e (alike-cons a al) = made_none
  made-from m (reset v c) e alike-nil = made_some (alike-leaf e)
  made-from m (reset v c) e (alike-cons a al) = made_none
  made-from m (reinitial v c) e alike-nil = made_some (alike-leaf e)
  made-from m (reinitial v c) e (alike-cons a al) = made_none
  made-from m (switch_to s c) e alike-nil = made_some (alike-leaf e)
  made-from m (switch_to s c) e (alike-cons a al) = made_none
  made-from m stop_all e alike-nil = made_some (alike-halt e)
  made-from m stop_all e (alike-cons a al) = made_none

  pushed : {ts us : Forest} {m k : ℕ} {x y : Node} {ms ns : List Node} (a : Opened ts m x ms) (b : Opened us k y ns) →
      Alike f a.tree b.tree → AlikeAll f a.others b.others → AlikeAll f ts us
  pushed {ts} a b t os = subst (AlikeAll f ts) (sym b.is) (subst (λ ts. AlikeAll f ts (cons b.tree b.others)) (sym a.is) (alike-cons t os))

  node_kept : Kept (AlikeAll f) f
  node_kept = record { keeps = λ x a b e al. let c = cut-alike a.cut b.cut al in pushed a b (made_alike (made-from _ x e c.0) a.rooted.made b.rooted.made) c.1 }

  alike-nodes : {ns : List Node} {ts us : Forest} {m k : ℕ} → Moves f m k (length ns) → WrittenAll ts m ns → WrittenAll us k ns → AlikeAll f ts us
  alike-nodes = same_nodes (AlikeAll f) f node_kept alike-nil

-- ---- the PARALLEL
-- after the first p trees two neighbours have changed places
data Crossed (f : ℕ → ℕ) : ℕ → Forest → Forest → Type 0 where
  crossed_here : {t u v w : Tree} {ts us : Forest} → Alike f t v → Alike f u w → AlikeAll f ts us → Crossed f 0 (cons t (cons u ts)) (cons w (cons v us))
  crossed_next : {p : ℕ} {t u : Tree} {ts us : Forest} → Alike f t u → Crossed f p ts us → Crossed f (suc p) (cons t ts) (cons u us)

module _ {f : ℕ → ℕ} where
  cut-crossed : {p k : ℕ} {ts us cs ds os ps : Forest} → Crossed f p ts us → Cut k ts cs os → Cut k us ds ps → p + 2 ≤ k → Shuffled f cs ds × AlikeAll f os ps
  cut-crossed (crossed_here a b al) cut_none d h = absurd (omega arith)
  cut-crossed (crossed_here a b al) (cut_next cut_none) d h = absurd (omega arith)
  cut-crossed (crossed_here a b al) (cut_next (cut_next c)) (cut_next (cut_next d)) h = let r = cut-alike c d al in (shuffled-swap a b (one_by_one r.0), r.1)
  cut-crossed (crossed_next a al) cut_none d h = absurd (omega arith)
  cut-crossed (crossed_next a al) (cut_next c) (cut_next d) h = let r = cut-crossed al c d (omega arith) in (shuffled-cons a r.0, r.1)

  crossed-two : {ts us cs ds es gs os ps qs rs : Forest} → Cut 1 ts cs os → Cut 1 os ds qs → Cut 1 us es ps → Cut 1 ps gs rs →
      AlikeAll f cs gs → AlikeAll f ds es → AlikeAll f qs rs → Crossed f 0 ts us
  crossed-two (cut_next cut_none) (cut_next cut_none) (cut_next cut_none) (cut_next cut_none) (alike-cons a alike-nil) (alike-cons b alike-nil) al = crossed_here a b al

  crossed-behind : {p : ℕ} {ts us cs ds os ps : Forest} → Cut p ts cs os → Cut p us ds ps → AlikeAll f cs ds → Crossed f 0 os ps → Crossed f p ts us
  crossed-behind cut_none cut_none alike-nil x = x
  crossed-behind (cut_next c) (cut_next d) (alike-cons a al) x = crossed_next a (crossed-behind c d al x)

-- the nodes after it; where they are counted from is the same number twice
children-crossed : {ns ms : List Node} (s : Swapped ns ms) {ts us : Forest} (n m : ℕ) → length s.before ≡ n → length s.before ≡ m →
    WrittenAll ts (suc n) (s.first ++ (s.one ++ (s.other ++ s.after))) → WrittenAll us (suc m) (s.first ++ (s.other ++ (s.one ++ s.after))) →
    Crossed (swapped_number s) (forest_length s.first_trees) ts us
unfolding swapped_number forest_length
children-crossed s n m here there v w =
    let a = top-trees s.first_written v in
    let b = top-trees (one_only s.one_tree.1) a.others_written in
    let c = top-trees (one_only s.other_tree.1) b.others_written in
    let a' = top-trees s.first_written w in
    let c' = top-trees (one_only s.other_tree.1) a'.others_written in
    let b' = top-trees (one_only s.one_tree.1) c'.others_written in
    let firsts = alike-nodes {f = swapped_number s} (λ i j p q e. exchanged-is (ex_before (omega arith) (omega arith))) a.written a'.written in
    let ones = alike-nodes {f = swapped_number s} (λ i j p q e. exchanged-is (ex_one (omega arith) (omega arith) (omega arith))) b.written b'.written in
    let others = alike-nodes {f = swapped_number s} (λ i j p q e. exchanged-is (ex_other (omega arith) (omega arith) (omega arith))) c.written c'.written in
    let rest = alike-nodes {f = swapped_number s} (λ i j p q e. exchanged-is (ex_after (omega arith) (omega arith))) c.others_written b'.others_written in
    crossed-behind a.cut a'.cut firsts (crossed-two b.cut c.cut c'.cut b'.cut ones others rest)

-- the nodes from the PARALLEL on
from-parallel : {ns ms : List Node} (s : Swapped ns ms) (n m : ℕ) (ts us : Forest) → 0 + length s.before ≡ n → 0 + length s.before ≡ m →
    WrittenAll ts n (parallel s.count ∷ (s.first ++ (s.one ++ (s.other ++ s.after)))) →
    WrittenAll us m (parallel s.count ∷ (s.first ++ (s.other ++ (s.one ++ s.after)))) → AlikeAll (swapped_number s) ts us
unfolding children tree_from
from-parallel s n m ts us p q v w =
    let a = opened v in
    let b = opened w in
    let c = cut-crossed (children-crossed s n m (omega arith) (omega arith) a.written b.written) a.cut b.cut s.both in
    pushed a b (made_alike (made-parallel c.0) a.rooted.made b.rooted.made) c.1

pub swapped-trees : {ns ms : List Node} (s : Swapped ns ms) {t u : Tree} → tree_of ns ≡ some t → tree_of ms ≡ some u → Alike (swapped_number s) t u
unfolding swapped_number
swapped-trees {ns} {ms} s {t} {u} h k =
    let v = subst (WrittenAll (cons t nil) 0) s.here (one_only ((one_tree ns t).0 h)) in
    let w = subst (WrittenAll (cons u nil) 0) s.there (one_only ((one_tree ms u).0 k)) in
    only-alike (on-top (AlikeAll (swapped_number s)) (swapped_number s) node_kept s.before (λ i j p q e. exchanged-is (ex_before (omega arith) (omega arith))) (from-parallel s) v w)
