-- Schedules that are the same but for the order in which the children of PARALLELs are listed.
use Rattle.std.specs.Prelude.{◌≡◌, cond, List, ◌∷◌, ◌++◌, ℕ, suc, ◌+◌, ◌-◌, ◌≤◌, ltb, length, drop}
use Rattle.std.proofs.Math.Option.{some}
use Rattle.semantics.specs.Editions.{Edition}
use Rattle.semantics.specs.Renumbering.{RecordsCorrespond}
use Rattle.semantics.specs.Calls.{Ran}
use Rattle.schedules.specs.FileSections.{FileSections, file_sections_in}
use Rattle.schedules.specs.Nodes.{Node, parallel, nodes_in}
use Rattle.schedules.specs.Trees.{Tree, Forest}
use Rattle.schedules.specs.Preorder.{forest_length, Written, WrittenAll}
use Rattle.schedules.specs.Files.{file_header, file_length}

-- the nodes of one tree, in preorder; from which number on they are counted does not matter
abbrev pub OneTree : List Node → Type 0
OneTree ns = (t : Tree) × Written t 0 ns

-- two neighbouring children of a PARALLEL, each with all of its nodes, have changed places
pub record Swapped (ns ms : List Node) : Type 0 where
  -- the nodes before the PARALLEL, those of its first children, of the two, and all nodes after them
  pub before : List Node
  pub first : List Node
  pub one : List Node
  pub other : List Node
  pub after : List Node
  pub count : ℕ
  pub first_trees : Forest
  pub first_written : WrittenAll first_trees 0 first
  pub one_tree : OneTree one
  pub other_tree : OneTree other
  -- both are children of it
  pub both : forest_length first_trees + 2 ≤ count
  pub here : ns ≡ before ++ (parallel count ∷ (first ++ (one ++ (other ++ after))))
  pub there : ms ≡ before ++ (parallel count ∷ (first ++ (other ++ (one ++ after))))

-- by any number of such exchanges: any order of the children of any PARALLELs of the tree
pub data Reordered (ns : List Node) : List Node → Type 0 where
  unchanged : Reordered ns ns
  swapped : {ms ls : List Node} → Reordered ns ms → Swapped ms ls → Reordered ns ls

-- ---- which node is which: nodes are numbered as they are listed
-- the new number of node n where `one` nodes from number `from` on and the `other` ones after them change places
unfoldable pub exchanged_number : (from one other : ℕ) → ℕ → ℕ
exchanged_number from one other n = cond (ltb n from) n (cond (ltb n (from + one)) (n + other) (cond (ltb n (from + one + other)) (n - one) n))

-- where two children change places; their nodes come after the PARALLEL and its first children
unfoldable pub swapped_number : {ns ms : List Node} → Swapped ns ms → ℕ → ℕ
swapped_number s n = exchanged_number (suc (length s.before + length s.first)) (length s.one) (length s.other) n

-- by one exchange after the other
unfoldable pub new_number : {ns ms : List Node} → Reordered ns ms → ℕ → ℕ
new_number unchanged n = n
new_number (swapped r s) n = swapped_number s (new_number r n)

-- two files with the same variables and equations, whose nodes are the same but for that order
pub record SameButOrder (ed : Edition) (file other : List ℕ) : Type 0 where
  -- 1 and 2 apply to both or to neither
  pub same_header : file_header ed file ≡ file_header ed other
  pub same_length : file_length file ≡ file_length other
  pub parts : FileSections
  pub other_parts : FileSections
  pub in_file : file_sections_in (drop 3 file) ≡ some parts
  pub in_other : file_sections_in (drop 3 other) ≡ some other_parts
  pub same_variables : parts.variables ≡ other_parts.variables
  pub same_equations : parts.equations ≡ other_parts.equations
  pub nodes : List Node
  pub other_nodes : List Node
  pub nodes_read : nodes_in ed parts.schedule ≡ some nodes
  pub other_read : nodes_in ed other_parts.schedule ≡ some other_nodes
  pub order : Reordered nodes other_nodes

-- what two runs with corresponding events return: the same refusal and counts, and records with the same bytes but for the sets of acting nodes, which have the same nodes by their other numbers
pub record RunsCorrespond (ed : Edition) (number : ℕ → ℕ) (size count : ℕ) (one other : Ran) : Type 0 where
  pub refusal : one.refusal ≡ other.refusal
  pub counts : one.counts ≡ other.counts
  pub records : RecordsCorrespond ed number size count one.records other.records
