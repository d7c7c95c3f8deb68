-- What a call that is given the subtrees of a schedule section knows of its tree.
use mathlib.Core.Path.{◌≡◌, refl}
use mathlib.Core.List.{List}
use mathlib.Core.Option.{Option, none, some}
use Prim.Native.Nat.{ℕ}
use Rattle.std.proofs.Common.{Result, Ok, Err}
use Rattle.paper.specs.declared.refusals.Refusal.{Refusal}
use Rattle.paper.specs.declared.refusals.Refusal.TheVariants.{NoTree}
use Rattle.semantics.specs.Editions.{Edition}
use Rattle.semantics.specs.Refusals.{need}
use Rattle.schedules.specs.Nodes.{Node, nodes_in}
use Rattle.schedules.specs.Trees.{Tree, tree_of}
use Rattle.tree_read.specs.Index.{nodes_of}
use Rattle.tree_read.specs.Ends.{TreeAt, TreeRead, TreeIn}
use Rattle.tree_read.proofs.WholeTree.{of_tree}

module _ (ed : Edition) (s : List ℕ) {ns : List Node} (h : nodes_in ed s ≡ some ns) {r : Result (Unit {0}) Refusal} {ends : List ℕ} (w : TreeIn ed s r ends) where
  judged : {o : Option Tree} → tree_of ns ≡ o → TreeRead ed s (need 10 o) r ends
  judged e = rw e at (of_tree ed s h w)

  pub tree-accepted : r ≡ Ok tt → (t : Tree) × (tree_of ns ≡ some t) × TreeAt (nodes_of ed s).kinds (nodes_of ed s).count t ends
  unfolding need
  tree-accepted k = go (tree_of ns) refl
    where
      go : (o : Option Tree) → tree_of ns ≡ o → (t : Tree) × (o ≡ some t) × TreeAt (nodes_of ed s).kinds (nodes_of ed s).count t ends
      go none e = let i = judged e in absurd (cc)
      go (some t) e = (t, refl, (judged e).1)

  pub tree-refused : {why : Refusal} → r ≡ Err why → (tree_of ns ≡ none) × (why ≡ NoTree)
  unfolding need
  tree-refused {why} k = go (tree_of ns) refl
    where
      go : (o : Option Tree) → tree_of ns ≡ o → (o ≡ none) × (why ≡ NoTree)
      go none e = let i = judged e in (refl, cc)
      go (some t) e = let i = (judged e).0 in absurd (cc)
