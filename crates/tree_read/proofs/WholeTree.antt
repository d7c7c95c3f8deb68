-- The walk of node 0 against condition 10.
use mathlib.Core.Path.{◌≡◌, refl, sym, ap, ◌∙◌, subst}
use mathlib.Core.List.{List, [], ◌∷◌, map}
use mathlib.Core.Option.{Option, none, some}
use Prim.Native.Nat.{ℕ, zero, suc, ◌+◌, ◌≤◌, ◌<◌}
use native.Mathlib.Omega.{arith}
use lib.ListN.{length, get_or, take, drop, replicate, length-drop, length-map, length-replicate}
use lib.Seq.{take_at}
use Rattle.semantics.specs.Editions.{Edition}
use Rattle.semantics.specs.Refusals.{need, ◌>>=◌}
use Rattle.semantics.proofs.Facts.{none-not-some, some_is, at-below}
use Rattle.semantics.proofs.Judging.{go-need}
use Rattle.schedules.specs.Nodes.{Node, nodes_in}
use Rattle.schedules.specs.Trees.{Tree, children, Walked, lost, walked, read_tree, when_none_left, tree_of}
use Rattle.schedules.specs.Laid.{Laid}
use Rattle.schedules.specs.Files.{judge_tree}
use Rattle.codec.specs.Padding.{pad}
use Rattle.tree_read.specs.Index.{nodes_of, IndexOf}
use Rattle.tree_read.specs.Ends.{TreeAt, TreeRead, TreeIn}
use Rattle.tree_read.specs.Walks.{Parent, Counts, KindsOf, Kept, TreeWalked}
use Rattle.tree_read.specs.declared.nodes.Nodes.{Nodes}
use Rattle.paper.specs.declared.refusals.Refusal.{Refusal}
use Rattle.paper.specs.declared.refusals.Refusal.TheVariants.{NoTree}
use Rattle.std.proofs.Common.{Result, Ok, Err}
use Rattle.std.proofs.Common as Std
use Rattle.tree_read.proofs.NodeIndex.{nodes-none, indexed}
use Rattle.tree_read.proofs.ChildCounts.{known, said}
use Rattle.tree_read.proofs.LaidSteps.{laid_end}
use Rattle.tree_read.proofs.WalkSteps.{lost-not-some, same-next}

-- ---- the answer, by the nodes
module _ (ed : Edition) (s : List ℕ) {r : Result (Unit {0}) Refusal} {ends : List ℕ} where
  no-nodes : nodes_in ed s ≡ none → r ≡ Err NoTree → TreeIn ed s r ends
  unfolding need ◌>>=◌
  no-nodes e q = record { read = subst (λ o. TreeRead ed s (need 9 o >>= judge_tree) r ends) (sym e) q }

  module _ {ns : List Node} (e : nodes_in ed s ≡ some ns) where
    of-nodes : TreeRead ed s (judge_tree ns) r ends → TreeIn ed s r ends
    of-nodes h = record { read = subst (λ j. TreeRead ed s j r ends) (sym (go-need 9 judge_tree e)) h }

    pub of_tree : TreeIn ed s r ends → TreeRead ed s (judge_tree ns) r ends
    of_tree h = subst (λ j. TreeRead ed s j r ends) (go-need 9 judge_tree e) h.read

    none_made : tree_of ns ≡ none → r ≡ Err NoTree → TreeIn ed s r ends
    unfolding need
    none_made g q = of-nodes (subst (λ o. TreeRead ed s (need 10 o) r ends) (sym g) q)

-- ---- the child counts that the walk is given, and the nodes' kinds
counts_of : (ed : Edition) (s cs : List ℕ) {ns : List Node} → nodes_in ed s ≡ some ns → cs ≡ pad 256 0 (map children ns) → Counts (take (nodes_of ed s).count cs) ns
unfolding pad
counts_of ed s cs {ns} h e = record {
  is = ap (take (nodes_of ed s).count) e ∙ take_at (map children ns) _ (nodes_of ed s).count (length-map ns children ∙ (indexed ed s h).counted);
  parents = λ i g. subst Parent (some_is (sym (known ed s h i (at-below ns i g)).is ∙ g)) (said (known ed s h i (at-below ns i g)).made).parent;
}

kinds-of : (ed : Edition) (s : List ℕ) {ns : List Node} → nodes_in ed s ≡ some ns → KindsOf (nodes_of ed s).kinds ns
kinds-of ed s {ns} h =
    let x = indexed ed s h in
    record {
      inside = omega (arith, x.counted, x.few, x.kinds_full, ed.entries_fit);
      made = λ i g. (_, (x.entries i (omega (arith, x.counted, at-below ns i g))).node ∙ g);
    }

-- ---- over zeros
get_d-zeros : (n i : ℕ) → ◌≡◌ {A = ℕ} (get_or (replicate n 0) i 0) 0
get_d-zeros zero i = refl
get_d-zeros (suc n) zero = refl
get_d-zeros (suc n) (suc i) = get_d-zeros n i

lies_over : {kinds e : List ℕ} {t : Tree} {count : ℕ} → length kinds ≡ 256 → Kept (replicate 256 0) e 0 count → Laid kinds e t 0 count → TreeAt kinds count t e
lies_over {kinds} {e} {t} {count} k p l = record {
  full = p.long ∙ length-replicate {A = ℕ} 256 0;
  lies = record { laid = subst (Laid kinds e t 0) (sym (laid_end l)) l; small = omega arith };
  whole = laid_end l;
  behind = λ i h. p.behind i h ∙ get_d-zeros 256 i;
}

-- what the walk of node 0 says of any nodes with these child counts
abbrev Root : List ℕ → List ℕ → List ℕ → Std.Option ℕ → Type 0
Root ks d e w = (ns : List Node) → Counts ks ns → (f : ℕ) → length ks ≤ 0 + f → TreeWalked ns 0 d e (read_tree f 0 (drop 0 ns)) w

module _ (ed : Edition) (s cs e : List ℕ) (w : Std.Option ℕ) (c : (ns : List Node) → nodes_in ed s ≡ some ns → cs ≡ pad 256 0 (map children ns))
    (p : Root (take (nodes_of ed s).count cs) (replicate 256 0) e w) where
  -- the walk from node 0 on, where there are nodes
  root : {ns : List Node} → nodes_in ed s ≡ some ns → TreeWalked ns 0 (replicate 256 0) e (read_tree (length ns) 0 ns) w
  root {ns} h =
      let k = counts_of ed s cs h (c ns h) in
      p ns k (length ns) (omega (arith, ap length k.is ∙ length-map ns children))

  -- without nodes nothing is read
  empty : nodes_in ed s ≡ none → w ≡ Std.None
  unfolding read_tree
  empty h =
      let z : (nodes_of ed s).count ≡ 0 = ap (λ (r : Nodes). r.count) (nodes-none ed s h) in
      let k : take (nodes_of ed s).count cs ≡ [] = ap (λ n. take n cs) z in
      p [] (record { is = k; parents = λ i g. none-not-some g }) 0 (omega (arith, ap length k))

  is_lost : {ns : List Node} → nodes_in ed s ≡ some ns → w ≡ Std.None → tree_of ns ≡ none
  unfolding tree_of when_none_left
  is_lost {ns} h q = go (read_tree (length ns) 0 ns) (root h)
    where
      go : (o : Walked Tree) → TreeWalked ns 0 (replicate 256 0) e o w → when_none_left o ≡ none
      go lost k = refl
      go (walked t m ms) k = lost-not-some q k.0.answer

  is-over : {ns : List Node} {m : ℕ} → nodes_in ed s ≡ some ns → w ≡ Std.Some m → m < length ns → tree_of ns ≡ none
  unfolding tree_of when_none_left
  is-over {ns} {m} h q l = go (read_tree (length ns) 0 ns) (root h)
    where
      go : (o : Walked Tree) → TreeWalked ns 0 (replicate 256 0) e o w → when_none_left o ≡ none
      go lost k = refl
      go (walked t j []) k =
          let same : m ≡ j = same-next q k.0.answer in
          absurd (omega (arith, ap length k.0.rest ∙ length-drop j ns))
      go (walked t j (x ∷ ms)) k = refl

  is-tree : {ns : List Node} → nodes_in ed s ≡ some ns → w ≡ Std.Some (length ns) → TreeRead ed s (judge_tree ns) (Ok tt) e
  unfolding tree_of when_none_left need
  is-tree {ns} h q = go (read_tree (length ns) 0 ns) (root h)
    where
      go : (o : Walked Tree) → TreeWalked ns 0 (replicate 256 0) e o w → TreeRead ed s (need 10 (when_none_left o)) (Ok tt) e
      go lost k = lost-not-some k q
      go (walked t j []) k =
          let same : j ≡ (nodes_of ed s).count = sym (same-next q k.0.answer) ∙ (indexed ed s h).counted in
          (refl, lies_over (indexed ed s h).kinds_full (subst (Kept (replicate 256 0) e 0) same k.0.kept) (subst (Laid (nodes_of ed s).kinds e t 0) same (k.1 (nodes_of ed s).kinds (kinds-of ed s h))))
      go (walked t j (x ∷ ms)) k =
          let same : length ns ≡ j = same-next q k.0.answer in
          absurd (omega (arith, ap length k.0.rest ∙ length-drop j ns))

-- ---- as the code has them: two arrays and the count, and ends over d
module _ (ed : Edition) (s ks bs : List ℕ) (n : ℕ) (x : IndexOf ed s ks bs n) (cs d e : List ℕ) (w : Std.Option ℕ) (c : (ns : List Node) → nodes_in ed s ≡ some ns → cs ≡ pad 256 0 (map children ns))
    (z : d ≡ replicate 256 0) (p : Root (take n cs) d e w) where
  count-is : n ≡ (nodes_of ed s).count
  count-is = ap (λ (r : Nodes). r.count) x.1

  given : Root (take (nodes_of ed s).count cs) (replicate 256 0) e w
  given = subst (λ m. Root (take m cs) (replicate 256 0) e w) count-is (subst (λ l. Root (take n cs) l e w) z p)

  counted : {ns : List Node} → nodes_in ed s ≡ some ns → n ≡ length ns
  counted h = count-is ∙ sym (indexed ed s h).counted

  pub tree-found : {m : ℕ} → w ≡ Std.Some m → m ≡ n → TreeIn ed s (Ok tt) e
  tree-found {m} q g = go (nodes_in ed s) refl
    where
      go : (o : Option (List Node)) → nodes_in ed s ≡ o → TreeIn ed s (Ok tt) e
      go none h = lost-not-some (empty ed s cs e w c given h) q
      go (some ns) h = of-nodes ed s h (is-tree ed s cs e w c given h (q ∙ ap Std.Some (g ∙ counted h)))

  pub nodes-over : {m : ℕ} → w ≡ Std.Some m → (m ≡ n → ⊥) → m ≤ n → TreeIn ed s (Err NoTree) e
  nodes-over {m} q g b = go (nodes_in ed s) refl
    where
      go : (o : Option (List Node)) → nodes_in ed s ≡ o → TreeIn ed s (Err NoTree) e
      go none h = no-nodes ed s h refl
      go (some ns) h =
          let z = counted h in
          let l : m < length ns = omega arith in
          none_made ed s h (is-over ed s cs e w c given h q l) refl

  pub tree-lost : w ≡ Std.None → TreeIn ed s (Err NoTree) e
  tree-lost q = go (nodes_in ed s) refl
    where
      go : (o : Option (List Node)) → nodes_in ed s ≡ o → TreeIn ed s (Err NoTree) e
      go none h = no-nodes ed s h refl
      go (some ns) h = none_made ed s h (is_lost ed s cs e w c given h q) refl
