-- Document 02, item 3: "In K1 node 1 therefore becomes kind 7; its table bytes do not alter." A schedule with kinds 6 and 7 of one node exchanged.
use Rattle.std.specs.Prelude.{◌≡◌, List, [], ◌∷◌, ◌++◌, ℕ, zero, suc}
use Rattle.semantics.specs.Editions.{Edition}
use Rattle.schedules.specs.Nodes.{Node, sequence, parallel, while_do, if_else, continue_until, reset, reinitial, switch_to, stop_all}
use Rattle.schedules.specs.Files.{Schedule}
use Rattle.schedules.specs.Writing.{write_nodes}

-- a RESET becomes the REINITIAL of the same variable to the same number, and the other way round; any other node stays
unfoldable pub other_kind : Node → Node
other_kind (sequence k) = sequence k
other_kind (parallel k) = parallel k
other_kind (while_do t) = while_do t
other_kind (if_else t) = if_else t
other_kind (continue_until t) = continue_until t
other_kind (reset v e) = reinitial v e
other_kind (reinitial v e) = reset v e
other_kind (switch_to s m) = switch_to s m
other_kind stop_all = stop_all

-- of node n alone, "numbered from 0"
unfoldable pub exchanged_at : ℕ → List Node → List Node
exchanged_at n [] = []
exchanged_at zero (x ∷ ns) = other_kind x ∷ ns
exchanged_at (suc n) (x ∷ ns) = x ∷ exchanged_at n ns

-- the schedule with this node exchanged: its third section is written anew, all else is the same
unfoldable pub exchanged : Edition → ℕ → Schedule → Schedule
exchanged ed n s = record {
  sections = record { variables = s.sections.variables; equations = s.sections.equations; schedule = write_nodes ed (exchanged_at n s.nodes) };
  plant = s.plant;
  nodes = exchanged_at n s.nodes;
  root = s.root;
}

-- two files that differ in one byte
pub record OneByte (here there : ℕ) (file other : List ℕ) : Type 0 where
  pub front : List ℕ
  pub behind : List ℕ
  pub file_is : file ≡ front ++ (here ∷ behind)
  pub other_is : other ≡ front ++ (there ∷ behind)
