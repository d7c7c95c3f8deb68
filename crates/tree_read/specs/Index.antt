-- Condition 9, and the nodes by number: the kind of each, and where its payload starts and ends in the schedule section.
use Rattle.std.specs.Prelude.{◌≡◌, Bool, true, false, List, map, ℕ, ◌+◌, ◌≤◌, ◌<◌, length, get_or, drop, replicate, Option, Some, None}
use Rattle.std.proofs.Math.ListN.{get_elem?}
use Rattle.semantics.specs.Bytes.{Read, broken, read}
use Rattle.semantics.specs.Editions.{Edition}
use Rattle.semantics.specs.Refusals.{Judged, refused, accepted}
use Rattle.schedules.specs.Nodes.{Node, kind_of, node_of, read_node}
use Rattle.schedules.specs.Files.{judge_node_section}
use Rattle.codec.specs.Numbers.{wide, num_at}
use Rattle.codec.specs.Parts.{part_at}
use Rattle.codec.specs.Places.{places_from}
use Rattle.codec.specs.Padding.{pad}
use Rattle.tree_read.specs.declared.nodes.Nodes.{Nodes}
use Rattle.tree_read.specs.declared.nodes.Found.{Found}

-- ---- what stands at a place where a node stands: its length, its kind and its payload
unfoldable pub kind_at : Edition → List ℕ → ℕ → ℕ
kind_at ed s p = get_or s (p + wide ed) 0

unfoldable pub start_at : Edition → ℕ → ℕ
start_at ed p = p + wide ed + 1

unfoldable pub end_at : Edition → List ℕ → ℕ → ℕ
end_at ed s p = p + wide ed + num_at ed s p

-- the places of n nodes; the node count stands before them
unfoldable pub node_places : Edition → List ℕ → ℕ → List ℕ
node_places ed s n = places_from (length s) (read_node ed) n (drop (wide ed) s)

-- ---- the answer: its arrays hold the most nodes of any edition
unfoldable pub index : Edition → List ℕ → ℕ → Nodes
index ed s n = record {
  count = n;
  kinds = pad 256 0 (map (kind_at ed s) (node_places ed s n));
  starts = pad 256 0 (map (start_at ed) (node_places ed s n));
  ends = pad 256 0 (map (end_at ed s) (node_places ed s n));
}

-- a section that breaks its layout has no nodes
abbrev pub no_nodes : Nodes
no_nodes = record { count = 0; kinds = replicate 256 0; starts = replicate 256 0; ends = replicate 256 0 }

unfoldable pub nodes_read_in : Edition → List ℕ → Judged (List Node) → Nodes
nodes_read_in ed s (refused n) = no_nodes
nodes_read_in ed s (accepted ns) = index ed s (length ns)

unfoldable pub nodes_of : Edition → List ℕ → Nodes
nodes_of ed s = nodes_read_in ed s (judge_node_section ed s)

-- an index by its arrays
abbrev pub nodes_as : ℕ → List ℕ → List ℕ → List ℕ → Nodes
nodes_as n kinds starts ends = record { count = n; kinds = kinds; starts = starts; ends = ends }

-- ---- what the index says of the nodes
-- entry i has the kind of node i, and where its payload starts and ends in s
pub record NodeAt (s kinds starts ends : List ℕ) (ns : List Node) (i : ℕ) : Type 0 where
  pub node : node_of (kind_of (get_or kinds i 0)) (part_at s starts ends i) ≡ get_elem? ns i
  pub ordered : get_or starts i 0 ≤ get_or ends i 0
  pub inside : get_or ends i 0 ≤ length s

-- ns are the nodes of which this is the index
pub record NodesAt (ed : Edition) (s kinds starts ends : List ℕ) (count : ℕ) (ns : List Node) : Type 0 where
  pub counted : length ns ≡ count
  pub few : count ≤ ed.nodes
  pub kinds_full : length kinds ≡ 256
  pub starts_full : length starts ≡ 256
  pub ends_full : length ends ≡ 256
  pub entries : (i : ℕ) → i < count → NodeAt s kinds starts ends ns i

-- ---- for the code's own contracts
-- whether a node stands at a place, and what is laid of it
unfoldable pub was_read : {A : Type 0} → Read A → Bool
was_read broken = false
was_read (read a s) = true

abbrev pub found_at : Edition → List ℕ → ℕ → Found
found_at ed s p = record { kind = kind_at ed s p; start = start_at ed p; end = end_at ed s p }

abbrev pub FoundAt : Edition → List ℕ → ℕ → Option Found → Type 0
FoundAt ed s p None = false ≡ was_read (read_node ed (drop p s))
FoundAt ed s p (Some x) = (true ≡ was_read (read_node ed (drop p s))) × (x ≡ found_at ed s p)

-- n nodes of s, of these kinds, whose payloads start there
abbrev pub IndexOf : Edition → List ℕ → List ℕ → List ℕ → ℕ → Type 0
IndexOf ed s kinds starts n = (ends : List ℕ) × (nodes_as n kinds starts ends ≡ nodes_of ed s)
