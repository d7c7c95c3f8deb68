-- Document 01, "When a file, table or event is turned away": what 10, 11 and 12, and 34 of document 02, item 3, ask of the nodes that were read, as relations;
-- and what an accepted file is.
use Rattle.std.specs.Prelude.{◌≡◌, List, ℕ, ◌<◌, length}
use Rattle.std.proofs.Math.Option.{some}
use Rattle.std.proofs.Math.ListN.{get_elem?}
use Rattle.semantics.specs.Bytes.{All}
use Rattle.semantics.specs.Editions.{Edition}
use Rattle.semantics.specs.Plant.{Plant, selectors}
use Rattle.semantics.specs.Proper.{IsTruth, IsNumber, ModeThere, Driven, ProperPlant}
use Rattle.schedules.specs.Nodes.{Node, while_do, if_else, continue_until, reset, reinitial, switch_to}
use Rattle.schedules.specs.Trees.{Tree}
use Rattle.schedules.specs.Preorder.{Written}
use Rattle.schedules.specs.Files.{Schedule}
use Rattle.schedules.specs.Writing.{sections_of, write_file, FileLimits}

-- ---- 11: "A node names a missing variable, selector or mode, its truth or number left aside."
-- what it names is there
pub record NamedNode (p : Plant) (x : Node) : Type 0 where
  pub resets : (v : ℕ) (e : List ℕ) → x ≡ reset v e → v < length p.variables
  pub reinitials : (v : ℕ) (e : List ℕ) → x ≡ reinitial v e → v < length p.variables
  pub switches : (s m : ℕ) → x ≡ switch_to s m → ModeThere (selectors p) s m

-- ---- document 02, item 3, 34: "RESET belongs to variables that no equation drives, REINITIAL to driven ones."
pub record PartedNode (p : Plant) (x : Node) : Type 0 where
  pub resets : (v : ℕ) (e : List ℕ) → x ≡ reset v e → Driven p.equations v → ⊥
  pub reinitials : (v : ℕ) (e : List ℕ) → x ≡ reinitial v e → Driven p.equations v

-- "a node that breaks it": a RESET of a variable that some equation drives, or a REINITIAL of one that none does
pub data Breaks (p : Plant) (ns : List Node) : Type 0 where
  reset_of_driven : (n v : ℕ) (e : List ℕ) → get_elem? ns n ≡ some (reset v e) → Driven p.equations v → Breaks p ns
  reinitial_of_undriven : (n v : ℕ) (e : List ℕ) → get_elem? ns n ≡ some (reinitial v e) → (Driven p.equations v → ⊥) → Breaks p ns

-- ---- 12, of a node
pub record ReadNode (ed : Edition) (p : Plant) (x : Node) : Type 0 where
  pub whiles : (t : List ℕ) → x ≡ while_do t → IsTruth ed (length p.variables) t
  pub ifs : (t : List ℕ) → x ≡ if_else t → IsTruth ed (length p.variables) t
  pub continues : (t : List ℕ) → x ≡ continue_until t → IsTruth ed (length p.variables) t
  pub resets : (v : ℕ) (e : List ℕ) → x ≡ reset v e → IsNumber ed (length p.variables) e
  pub reinitials : (v : ℕ) (e : List ℕ) → x ≡ reinitial v e → IsNumber ed (length p.variables) e

-- ---- the whole
-- "just one tree"
pub record ProperSchedule (ed : Edition) (p : Plant) (ns : List Node) (root : Tree) : Type 0 where
  pub plant : ProperPlant ed p
  pub tree : Written root 0 ns
  pub named : All (NamedNode p) ns
  pub parted : All (PartedNode p) ns
  pub read : All (ReadNode ed p) ns

-- what an accepted file is: the written form of its schedule, within the printed limits
pub record ScheduleWritten (ed : Edition) (file : List ℕ) (s : Schedule) : Type 0 where
  pub bytes : file ≡ write_file ed s.plant s.nodes
  pub sections : s.sections ≡ sections_of ed s.plant s.nodes
  pub limits : FileLimits ed s.plant s.nodes
  pub proper : ProperSchedule ed s.plant s.nodes s.root
