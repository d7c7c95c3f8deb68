-- Condition 10, and where the subtree of each node ends.
use Rattle.std.specs.Prelude.{◌≡◌, List, ℕ, ◌≤◌, length, get_or, Result, Ok, Err}
use Rattle.semantics.specs.Editions.{Edition}
use Rattle.semantics.specs.Refusals.{Judged, refused, accepted, ◌>>=◌}
use Rattle.schedules.specs.Trees.{Tree}
use Rattle.schedules.specs.Laid.{Lies}
use Rattle.schedules.specs.Files.{judge_node_section, judge_tree}
use Rattle.tree_read.specs.Index.{nodes_of}
use Rattle.paper.specs.declared.refusals.Refusal.{Refusal}
use Rattle.paper.specs.declared.refusals.Refusal.TheVariants.{NoTree}

-- the tree t, of so many nodes, lies in their kinds and the ends of their subtrees; behind its last node the ends are 0
pub record TreeAt (kinds : List ℕ) (count : ℕ) (t : Tree) (ends : List ℕ) : Type 0 where
  pub full : length ends ≡ 256
  pub lies : Lies kinds ends t
  pub whole : get_or ends 0 0 ≡ count
  pub behind : (i : ℕ) → count ≤ i → get_or ends i 0 ≡ 0

-- what is answered, and the ends of the subtrees where there is a tree
abbrev pub TreeRead : Edition → List ℕ → Judged Tree → Result (Unit {0}) Refusal → List ℕ → Type 0
TreeRead ed s (refused n) r ends = r ≡ Err NoTree
TreeRead ed s (accepted t) r ends = (r ≡ Ok tt) × TreeAt (nodes_of ed s).kinds (nodes_of ed s).count t ends

-- of the nodes of a schedule section
pub record TreeIn (ed : Edition) (s : List ℕ) (r : Result (Unit {0}) Refusal) (ends : List ℕ) : Type 0 where
  pub read : TreeRead ed s (judge_node_section ed s >>= judge_tree) r ends
