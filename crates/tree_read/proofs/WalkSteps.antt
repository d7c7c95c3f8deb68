-- What a step of the walk makes of what its calls said.
use mathlib.Core.Path.{◌≡◌, refl, sym, ap, ◌∙◌, subst}
use mathlib.Core.List.{List, [], ◌∷◌, map}
use mathlib.Core.Option.{some}
use Prim.Native.Nat.{ℕ, zero, suc, ◌+◌, ◌-◌, ◌≤◌, ◌<◌}
use native.Mathlib.Numerals.{add-one, sub-one}
use native.Mathlib.Omega.{arith}
use lib.ListN.{length, get_or, drop, set, get_elem?, drop_of_length-le, length-map, length-set}
use lib.Seq.{get_or-set_same, get_or-set_other}
use Rattle.semantics.proofs.Facts.{none-not-some, some_is, at-exists, at-below}
use Rattle.schedules.specs.Nodes.{Node}
use Rattle.schedules.specs.Trees.{Tree, Forest, cons, children, tree_from, Walked, lost, walked, onward, found, read_forest, read_tree}
use Rattle.schedules.specs.Laid.{NodeRow, Laid, LaidF, laid_nil, laid_cons}
use Rattle.schedules.proofs.OneTree.{forest-sound, read-written}
use Rattle.tree_read.specs.Walks.{Parent, Counts, KindsOf, Bound, Kept, TreeWalked, ForestWalked}
use Rattle.std.proofs.Common.{Option, Some, None}
use Rattle.tree_read.proofs.NodeKinds.{kind_number, says}
use Rattle.tree_read.proofs.LaidSteps.{Same, laid_same, laid_f-same, laid_root}

-- ---- the next node
pub lost-not-some : {C : Type 0} {r : Option ℕ} {m : ℕ} → r ≡ None → r ≡ Some m → C
lost-not-some p q = absurd (cc)

pub same-next : {r : Option ℕ} {m n : ℕ} → r ≡ Some m → r ≡ Some n → m ≡ n
same-next p q = cc

-- ---- bounds
pub bound-lost : {low high : ℕ} → Bound low high None
bound-lost = record { within = λ m e. absurd (cc) }

pub bound-next : {low high m : ℕ} → low ≤ m → m ≤ high → Bound low high (Some m)
bound-next {m = m} a b = record { within = λ k e. let q : m ≡ k = cc in omega arith }

pub bound-wider : {low low' high : ℕ} {r : Option ℕ} → low' ≤ low → Bound low high r → Bound low' high r
bound-wider h b = record { within = λ k e. omega (arith, b.within k e) }

-- ---- a node and the nodes after it
pub record Head (ks : List ℕ) (ns : List Node) (n : ℕ) : Type 0 where
  pub node : Node
  pub at : get_elem? ns n ≡ some node
  pub is : drop n ns ≡ node ∷ drop (n + 1) ns
  pub counts : children node ≡ get_or ks n 0
  pub parent : Parent node

drop-next : {A : Type 0} (l : List A) (i : ℕ) {x : A} → get_elem? l i ≡ some x → drop i l ≡ x ∷ drop (suc i) l
drop-next [] i e = none-not-some e
drop-next (y ∷ l) zero e = ap (λ z. z ∷ l) (some_is e)
drop-next (y ∷ l) (suc i) e = drop-next l i e

map_at : {A : Type 0} (f : A → ℕ) (l : List A) (i : ℕ) {x : A} → get_elem? l i ≡ some x → get_or (map f l) i 0 ≡ f x
map_at f [] i e = none-not-some e
map_at f (y ∷ l) zero e = ap f (some_is e)
map_at f (y ∷ l) (suc i) e = map_at f l i e

counts-length : {ks : List ℕ} {ns : List Node} → Counts ks ns → length ks ≡ length ns
counts-length {ns = ns} c = ap length c.is ∙ length-map ns children

head : {ks : List ℕ} {ns : List Node} (n : ℕ) → Counts ks ns → n < length ks → Head ks ns n
head {ks} {ns} n c h =
    let x = at-exists ns n (omega (arith, counts-length c)) in
    record {
      node = x.0;
      at = x.1;
      is = drop-next ns n x.1 ∙ ap (λ k. x.0 ∷ drop k ns) (sym (add-one n));
      counts = sym (ap (λ l. get_or l n 0) c.is ∙ map_at children ns n x.1);
      parent = c.parents n x.1;
    }

-- ---- the entries that a walk leaves as they were
kept-none : (d : List ℕ) (n : ℕ) → Kept d d n n
kept-none d n = record { ordered = omega arith; long = refl; before = λ i h. refl; behind = λ i h. refl }

kept_more : {d e e' : List ℕ} {n m k : ℕ} → Kept d e n m → Kept e e' m k → Kept d e' n k
kept_more p q =
    let a = p.ordered in
    let b = q.ordered in
    record { ordered = omega arith; long = q.long ∙ p.long; before = λ i h. q.before i (omega arith) ∙ p.before i h; behind = λ i h. q.behind i h ∙ p.behind i (omega arith) }

kept-before : {e e' : List ℕ} {n m k : ℕ} → Kept e e' m k → Same e e' n m
kept-before p = record { long = p.long; at = λ i h l. p.before i l }

-- a write before what is written already
kept_set : {d e : List ℕ} {n m : ℕ} (v : ℕ) → Kept d e (n + 1) m → Kept d (set e n v) n m
kept_set {d} {e} {n} {m} v p =
    let a = p.ordered in
    record {
      ordered = omega arith;
      long = length-set e n v ∙ p.long;
      before = λ i h. get_or-set_other e n i v 0 (λ q. omega arith) ∙ p.before i (omega arith);
      behind = λ i h. get_or-set_other e n i v 0 (λ q. omega arith) ∙ p.behind i h;
    }

same_set : (e : List ℕ) (n v m : ℕ) → Same e (set e n v) (suc n) m
same_set e n v m = record { long = length-set e n v; at = λ i h l. get_or-set_other e n i v 0 (λ q. omega arith) }

-- ---- children
module _ (ns : List Node) (r : ℕ → List Node → Walked Tree) where
  pub forest-none : (d : List ℕ) (k n : ℕ) → k ≡ 0 → ForestWalked ns n d d (read_forest r k n (drop n ns)) (Some n)
  unfolding read_forest
  forest-none d k n e = rw e (record { answer = refl; rest = refl; kept = kept-none d n }, λ ks h. laid_nil refl)

  pub forest-lost : (d e e' : List ℕ) (k n : ℕ) {w : Option ℕ} → (k ≡ 0 → ⊥) → TreeWalked ns n d e (r n (drop n ns)) w → w ≡ None → ForestWalked ns n d e' (read_forest r k n (drop n ns)) None
  unfolding read_forest onward
  forest-lost d e e' zero n z p q = absurd (z refl)
  forest-lost d e e' (suc k) n {w} z p q = go (r n (drop n ns)) p
    where
      go : (o : Walked Tree) → TreeWalked ns n d e o w → ForestWalked ns n d e' (onward o (λ t m ms. onward (read_forest r k m ms) (λ ts l ls. walked (cons t ts) l ls))) None
      go lost p = refl
      go (walked t m ms) p = lost-not-some q p.0.answer

-- a tree, and then the others
forest-cons : (ns : List Node) (d e e' : List ℕ) (t : Tree) (n m : ℕ) (z : Option ℕ) (o : Walked Forest) → Kept d e n m → ((ks : List ℕ) → KindsOf ks ns → Laid ks e t n m) → ForestWalked ns m e e' o z →
    ForestWalked ns n d e' (onward o (λ ts l ls. walked (cons t ts) l ls)) z
unfolding onward
forest-cons ns d e e' t n m z lost k l p = p
forest-cons ns d e e' t n m z (walked ts j ms) k l p = (
  record { answer = p.0.answer; rest = p.0.rest; kept = kept_more k p.0.kept },
  λ ks h. laid_cons (laid_same (l ks h) (kept-before p.0.kept)) (p.1 ks h),
)

module _ (ns : List Node) (r : ℕ → List Node → Walked Tree) where
  pub forest-more : (d e e' : List ℕ) (k n m : ℕ) {w : Option ℕ} (z : Option ℕ) → (k ≡ 0 → ⊥) → TreeWalked ns n d e (r n (drop n ns)) w → w ≡ Some m →
      ForestWalked ns m e e' (read_forest r (k - 1) m (drop m ns)) z → ForestWalked ns n d e' (read_forest r k n (drop n ns)) z
  unfolding read_forest onward
  forest-more d e e' zero n m z f p q s = absurd (f refl)
  forest-more d e e' (suc k) n m {w} z f p q s = go (r n (drop n ns)) p
    where
      go : (o : Walked Tree) → TreeWalked ns n d e o w → ForestWalked ns n d e' (onward o (λ t m ms. onward (read_forest r k m ms) (λ ts l ls. walked (cons t ts) l ls))) z
      go lost p = lost-not-some p q
      go (walked t j ms) p =
          let same : m ≡ j = same-next q p.0.answer in
          let g : ForestWalked ns j e e' (read_forest r k j ms) z = subst (λ i. ForestWalked ns j e e' (read_forest r k j i) z) (sym p.0.rest) (subst (λ i. ForestWalked ns i e e' (read_forest r k i (drop i ns)) z) same (subst (λ i. ForestWalked ns m e e' (read_forest r i m (drop m ns)) z) (sub-one (suc k)) s)) in
          forest-cons ns d e e' t n j z (read_forest r k j ms) p.0.kept p.1 g

-- ---- a node
-- what the walk over the children of node n says
abbrev Below : List ℕ → List Node → ℕ → List ℕ → List ℕ → Option ℕ → Type 0
Below ks ns n d e w = (f : ℕ) → length ks ≤ n + 1 + f → ForestWalked ns (n + 1) d e (read_forest (read_tree f) (get_or ks n 0) (n + 1) (drop (n + 1) ns)) w

module _ (ks : List ℕ) (ns : List Node) (n : ℕ) (c : Counts ks ns) where
  pub tree-out : (d e : List ℕ) (f : ℕ) → length ks ≤ n → TreeWalked ns n d e (read_tree f n (drop n ns)) None
  unfolding read_tree
  tree-out d e f h =
      let k : length ns ≤ n = omega (arith, counts-length c) in
      rw (drop_of_length-le ns k) (go f)
    where
      go : (f : ℕ) → TreeWalked ns n d e (read_tree f n []) None
      go zero = refl
      go (suc f) = refl

  -- the walk over the children, where the node is read
  below : (d e : List ℕ) (w : Option ℕ) (h : n < length ks) → Below ks ns n d e w → (f : ℕ) → length ks ≤ n + suc f →
      ForestWalked ns (n + 1) d e (read_forest (read_tree f) (children (head n c h).node) (suc n) (drop (n + 1) ns)) w
  below d e w h s f l = rw ((head n c h).counts, ← add-one n) (s f (omega arith))

  pub tree-lost : (d e e' : List ℕ) {w : Option ℕ} → n < length ks → Below ks ns n d e w → w ≡ None → (f : ℕ) → length ks ≤ n + f → TreeWalked ns n d e' (read_tree f n (drop n ns)) None
  unfolding read_tree onward
  tree-lost d e e' {w} h s q zero l = absurd (omega arith)
  tree-lost d e e' {w} h s q (suc f) l = rw (head n c h).is (go (read_forest (read_tree f) (children (head n c h).node) (suc n) (drop (n + 1) ns)) (below d e w h s f l))
    where
      go : (o : Walked Forest) → ForestWalked ns (n + 1) d e o w → TreeWalked ns n d e' (onward o (λ ts m ms. found (tree_from n (head n c h).node ts) m ms)) None
      go lost p = refl
      go (walked ts m ms) p = lost-not-some q p.0.answer

  pub tree-read : (d e : List ℕ) (m : ℕ) {w : Option ℕ} → n < length ks → n < length d → Below ks ns n d e w → w ≡ Some m → (f : ℕ) → length ks ≤ n + f →
      TreeWalked ns n d (set e n m) (read_tree f n (drop n ns)) (Some m)
  unfolding read_tree onward found
  tree-read d e m {w} h b s q zero l = absurd (omega arith)
  tree-read d e m {w} h b s q (suc f) l = rw (head n c h).is (go _ refl (below d e w h s f l))
    where
      x : Node
      x = (head n c h).node

      here : (ks : List ℕ) → KindsOf ks ns → (j : ℕ) → m ≡ j → length e ≡ length d → NodeRow ks (set e n m) n (kind_number x) j
      here ks k j same z =
          let y = k.made n (head n c h).at in
          record {
            in_kinds = omega (arith, at-below ns n (head n c h).at, k.inside);
            in_ends = omega (arith, length-set e n m);
            kind = (says _ y.0 y.1).number;
            ends = get_or-set_same e n m 0 (omega arith) ∙ same;
          }

      made : (ts : Forest) (j : ℕ) (ms : List Node) {t : Tree} → tree_from n x ts ≡ some t → ForestWalked ns (n + 1) d e (walked ts j ms) w → TreeWalked ns n d (set e n m) (walked t j ms) (Some m)
      made ts j ms {t} g p =
          let same : m ≡ j = same-next q p.0.answer in (
            record { answer = ap Some same; rest = p.0.rest; kept = kept_set m p.0.kept },
            λ ks k. laid_root x ts g (here ks k j same p.0.kept.long) (laid_f-same (subst (λ i. LaidF ks e ts i j) (add-one n) (p.1 ks k)) (same_set e n m j)),
          )

      go : (o : Walked Forest) → read_forest (read_tree f) (children x) (suc n) (drop (n + 1) ns) ≡ o → ForestWalked ns (n + 1) d e o w →
          TreeWalked ns n d (set e n m) (onward o (λ ts m ms. found (tree_from n x ts) m ms)) (Some m)
      go lost k p = lost-not-some p q
      go (walked ts j ms) k p =
          let t = (head n c h).parent n ts (forest-sound (read_tree f) (read-written f) (children x) (suc n) (drop (n + 1) ns) k).0 in
          rw t.1 (made ts j ms t.1 p)
