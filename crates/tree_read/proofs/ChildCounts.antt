-- The child counts of the nodes, from the index.
use mathlib.Core.Path.{◌≡◌, refl, sym, ap, ◌∙◌}
use mathlib.Core.List.{List, [], ◌∷◌, ◌++◌, map}
use mathlib.Core.Option.{Option, none, some}
use Prim.Native.Nat.{ℕ, zero, suc, ◌+◌, ◌-◌, ◌≤◌, ◌<◌}
use native.Mathlib.Nat.{add-zero}
use native.Mathlib.Numerals.{add-one}
use native.Mathlib.Omega.{arith}
use lib.ListN.{length, get_or, take, drop, set, get_elem?, replicate, length-take, length-drop}
use lib.Seq.{get_or-take, get_or-drop, take_all, length-take-le}
use Rattle.semantics.specs.Editions.{Edition}
use Rattle.semantics.proofs.Facts.{none-not-some, some_is, at-exists}
use Rattle.schedules.specs.Nodes.{Node, nodes_in}
use Rattle.schedules.specs.Trees.{children}
use Rattle.codec.specs.Parts.{between}
use Rattle.codec.specs.Padding.{pad}
use Rattle.tree_read.specs.Index.{nodes_of, nodes_as, IndexOf}
use Rattle.tree_read.specs.Walks.{Makes}
use Rattle.tree_read.specs.declared.nodes.Nodes.{Nodes}
use Rattle.codec.proofs.Padding.{pad-none, pad-map-snoc}
use Rattle.tree_read.proofs.NodeIndex.{indexed, nodes-none}
use Rattle.tree_read.proofs.NodeKinds.{Says, says, kind-from-1}

-- ---- a node by number
pub record Known (s : List ℕ) (r : Nodes) (ns : List Node) (i : ℕ) : Type 0 where
  pub node : Node
  pub is : get_elem? ns i ≡ some node
  pub made : Makes s (get_or r.kinds i 0) (get_or r.starts i 0) node

pub known : (ed : Edition) (s : List ℕ) {ns : List Node} → nodes_in ed s ≡ some ns → (i : ℕ) → i < length ns → Known s (nodes_of ed s) ns i
known ed s {ns} h i l =
    let x = indexed ed s h in
    let n = x.counted in
    let y = at-exists ns i l in
    record { node = y.0; is = y.1; made = record { stop = _; is = (x.entries i (omega arith)).node ∙ y.1 } }

-- where the index counts a node there are nodes
present : (ed : Edition) (s : List ℕ) (i : ℕ) → i < (nodes_of ed s).count → (ns : List Node) × (nodes_in ed s ≡ some ns)
present ed s i l = go (nodes_in ed s) refl
  where
    go : (o : Option (List Node)) → nodes_in ed s ≡ o → (ns : List Node) × (o ≡ some ns)
    go none e = let z : (nodes_of ed s).count ≡ 0 = ap (λ (r : Nodes). r.count) (nodes-none ed s e) in absurd (omega arith)
    go (some ns) e = (ns, refl)

few-nodes : (ed : Edition) (s : List ℕ) → (nodes_of ed s).count ≤ 256
few-nodes ed s = go (nodes_in ed s) refl
  where
    go : (o : Option (List Node)) → nodes_in ed s ≡ o → (nodes_of ed s).count ≤ 256
    go none e = let z : (nodes_of ed s).count ≡ 0 = ap (λ (r : Nodes). r.count) (nodes-none ed s e) in omega arith
    go (some ns) e = omega (arith, (indexed ed s e).few, ed.entries_fit)

-- ---- a payload's first byte
part-begins : (s : List ℕ) (b e : ℕ) → 1 ≤ length (between b e s) → (0 < e - b) × (b < length s)
part-begins s b e h = omega (arith, length-take (e - b) (drop b s), length-drop b s)

part-first : (s : List ℕ) (b e : ℕ) → 0 < e - b → get_or (between b e s) 0 0 ≡ get_or s b 0
part-first s b e h = get_or-take (e - b) (drop b s) 0 0 h ∙ get_or-drop b s 0 0 ∙ ap (λ n. get_or s n 0) (add-zero b)

-- ---- the children of a node, by its kind and where its payload starts
module _ {s : List ℕ} {k b : ℕ} {x : Node} (m : Makes s k b x) where
  pub said : Says k (between b m.stop s) x
  said = says k _ m.is

  pub count-inside : k ≤ 2 → b < length s
  count-inside h = (part-begins s b m.stop (said.begins h)).1

  pub count-given : k ≤ 2 → get_or s b 0 ≡ children x
  count-given h = sym (part-first s b m.stop (part-begins s b m.stop (said.begins h)).0) ∙ said.counted h

  pub no_child-given : (k ≡ 1 → ⊥) → (k ≡ 2 → ⊥) → (k ≡ 3 → ⊥) → (k ≡ 4 → ⊥) → 0 ≡ children x
  no_child-given f g h i = said.no_child (omega (arith, said.number, kind-from-1 x))

-- ---- the loop
take_next : {A : Type 0} (l : List A) (i : ℕ) {x : A} → get_elem? l i ≡ some x → take (suc i) l ≡ take i l ++ (x ∷ [])
take_next [] i e = none-not-some e
take_next (y ∷ l) zero e = ap (λ z. z ∷ []) (some_is e)
take_next (y ∷ l) (suc i) e = ap (λ z. y ∷ z) (take_next l i e)

pub counts_start : (ns : List Node) → replicate 256 0 ≡ pad 256 0 (map children (take 0 ns))
counts_start ns = pad-none 256 0

counts-more : (ed : Edition) (s cs : List ℕ) (i v : ℕ) {ns : List Node} (h : nodes_in ed s ≡ some ns) → i < (nodes_of ed s).count → cs ≡ pad 256 0 (map children (take i ns)) →
    ((x : Node) → Makes s (get_or (nodes_of ed s).kinds i 0) (get_or (nodes_of ed s).starts i 0) x → v ≡ children x) → set cs i v ≡ pad 256 0 (map children (take (i + 1) ns))
counts-more ed s cs i v {ns} h l e k =
    let n = (indexed ed s h).counted in
    let b = (indexed ed s h).few in
    let f = ed.entries_fit in
    let j : i < length ns = omega arith in
    let x = known ed s h i j in
    let m : length (take i ns) ≡ i = length-take-le i ns (omega arith) in
    rw (e, k x.node x.made, add-one i, take_next ns i x.is) (pad-map-snoc 256 0 children (take i ns) i x.node m (omega arith))

counts_all : (ed : Edition) (s cs : List ℕ) (i : ℕ) {ns : List Node} → nodes_in ed s ≡ some ns → (nodes_of ed s).count ≤ i → cs ≡ pad 256 0 (map children (take i ns)) → cs ≡ pad 256 0 (map children ns)
counts_all ed s cs i {ns} h l e = let n = (indexed ed s h).counted in e ∙ ap (λ z. pad 256 0 (map children z)) (take_all i ns (omega arith))

-- an index, of some edition
module _ (s : List ℕ) (r : Nodes) (k : (ed : Edition) × (r ≡ nodes_of ed s)) where
  few-in : r.count ≤ 256
  few-in = rw k.1 (few-nodes k.0 s)

  made_in : (i : ℕ) → i < r.count → (x : Node) × Makes s (get_or r.kinds i 0) (get_or r.starts i 0) x
  made_in i = rw k.1 (λ l. let p = present k.0 s i l in let x = known k.0 s p.1 i (omega (arith, (indexed k.0 s p.1).counted)) in (x.node, x.made))

module _ (ed : Edition) (s : List ℕ) (r : Nodes) (e : r ≡ nodes_of ed s) where
  next-in : (cs : List ℕ) (i v : ℕ) (ns : List Node) → nodes_in ed s ≡ some ns → i < r.count → cs ≡ pad 256 0 (map children (take i ns)) →
      ((x : Node) → Makes s (get_or r.kinds i 0) (get_or r.starts i 0) x → v ≡ children x) → set cs i v ≡ pad 256 0 (map children (take (i + 1) ns))
  next-in cs i v ns h = rw e (counts-more ed s cs i v h)

  end-in : (cs : List ℕ) (i : ℕ) (ns : List Node) → nodes_in ed s ≡ some ns → r.count ≤ i → cs ≡ pad 256 0 (map children (take i ns)) → cs ≡ pad 256 0 (map children ns)
  end-in cs i ns h = rw e (counts_all ed s cs i h)

-- as the code has them: two arrays and the count
module _ (s ks bs : List ℕ) (m : ℕ) where
  module _ (k : (ed : Edition) × IndexOf ed s ks bs m) where
    pub few : m ≤ 256
    few = few-in s (nodes_as m ks bs k.1.0) (k.0, k.1.1)

    pub node_made : (i : ℕ) → i < m → (x : Node) × Makes s (get_or ks i 0) (get_or bs i 0) x
    node_made = made_in s (nodes_as m ks bs k.1.0) (k.0, k.1.1)

  module _ (ed : Edition) (k : IndexOf ed s ks bs m) where
    pub counts-next : (cs : List ℕ) (i v : ℕ) (ns : List Node) → nodes_in ed s ≡ some ns → i < m → cs ≡ pad 256 0 (map children (take i ns)) →
        ((x : Node) → Makes s (get_or ks i 0) (get_or bs i 0) x → v ≡ children x) → set cs i v ≡ pad 256 0 (map children (take (i + 1) ns))
    counts-next = next-in ed s (nodes_as m ks bs k.0) k.1

    pub counts_end : (cs : List ℕ) (i : ℕ) (ns : List Node) → nodes_in ed s ≡ some ns → m ≤ i → cs ≡ pad 256 0 (map children (take i ns)) → cs ≡ pad 256 0 (map children ns)
    counts_end = end-in ed s (nodes_as m ks bs k.0) k.1
