-- Document 01, "Schedule file": conditions 1 to 12, with 34 of document 02, item 3, and the control of a schedule.
use Rattle.std.specs.Prelude.{Bool, ◌&&◌, List, ℕ, length, get_or, drop, leb, eqb}
use Rattle.semantics.specs.Bytes.{be2, every}
use Rattle.semantics.specs.Editions.{Edition}
use Rattle.semantics.specs.Refusals.{Judged, accepted, ◌>>=◌, ◌>>◌, ensure, need}
use Rattle.semantics.specs.Plant.{Plant, judge_plant, switches_read, selectors}
use Rattle.semantics.specs.Run.{Control}
use Rattle.schedules.specs.FileSections.{FileSections, file_sections_in}
use Rattle.schedules.specs.Nodes.{Node, nodes_in, node_named, node_parted, node_reads, node_action}
use Rattle.schedules.specs.Trees.{Tree, tree_of}
use Rattle.schedules.specs.Residuals.{Residual, fresh, acting, move}

pub record Schedule : Type 0 where
  pub sections : FileSections
  pub plant : Plant
  pub nodes : List Node
  pub root : Tree

-- 1: "The file has under 3 bytes or byte 0 is not 1."
unfoldable pub file_header : Edition → List ℕ → Bool
file_header ed f = leb 3 (length f) && eqb (get_or f 0 0) ed.version

-- 2: "Its length field is not its length."
unfoldable pub file_length : List ℕ → Bool
file_length f = eqb (be2 (get_or f 1 0) (get_or f 2 0)) (length f)

-- 11 of the nodes; 34 of the nodes, "directly after 11"; 12 of the nodes and of the plant's switches
unfoldable pub judge_nodes : Edition → Plant → List Node → Judged (Unit {0})
judge_nodes ed p ns = do
  ensure 11 (every (node_named (length p.variables) (selectors p)) ns)
  ensure 34 (every (node_parted p.equations) ns)
  ensure 12 (every (node_reads ed (length p.variables)) ns && switches_read ed p)

-- 9 and 10: the nodes of a section, and the tree of nodes
abbrev pub judge_node_section : Edition → List ℕ → Judged (List Node)
judge_node_section ed s = need 9 (nodes_in ed s)

abbrev pub judge_tree : List Node → Judged Tree
judge_tree ns = need 10 (tree_of ns)

-- 4 to 11, 34 and 12, of the three sections
unfoldable pub judge_file_sections : Edition → FileSections → Judged Schedule
judge_file_sections ed parts = do
  -- 4 to 8
  p ← judge_plant ed parts.variables parts.equations
  ns ← judge_node_section ed parts.schedule
  t ← judge_tree ns
  judge_nodes ed p ns
  accepted (record { sections = parts; plant = p; nodes = ns; root = t })

-- 1 to 3: the three sections
unfoldable pub judge_file_layout : Edition → List ℕ → Judged FileSections
judge_file_layout ed f = do
  ensure 1 (file_header ed f)
  ensure 2 (file_length f)
  need 3 (file_sections_in (drop 3 f))

unfoldable pub judge_file : Edition → List ℕ → Judged Schedule
judge_file ed f = do
  parts ← judge_file_layout ed f
  judge_file_sections ed parts

-- "A run starts at the fresh root"
unfoldable pub rule_control : Schedule → Control Residual
rule_control s = record { start = fresh s.root; acting = acting; action = node_action s.nodes; next = move }
