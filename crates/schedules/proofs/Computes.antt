-- For theorems by computation: each name below opens every definition of its module.
use Rattle.schedules.specs.FileSections as FileSections
use Rattle.schedules.specs.Nodes as Nodes
use Rattle.schedules.specs.Trees as Trees
use Rattle.schedules.specs.Residuals as Residuals
use Rattle.schedules.specs.Numbering as Numbering
use Rattle.schedules.specs.Comparisons as Comparisons
use Rattle.schedules.specs.Comparing as Comparing
use Rattle.schedules.specs.Files as Files
use Rattle.schedules.specs.Compiling as Compiling
use Rattle.schedules.specs.Writing as Writing
use Rattle.schedules.specs.Exchanged as Exchanged
use Rattle.schedules.specs.Calls as Calls
use Rattle.schedules.specs.Sizes as Sizes
use Rattle.schedules.specs.TableSizes as TableSizes
use Rattle.schedules.specs.Reordered as Reordered
use Rattle.schedules.specs.Independent as Independent
use Rattle.semantics.proofs.Computes as Semantics
use mathlib.Core.Option.{bind}
use native.Mathlib.Decide.{ℕ_discrete}

unfoldable pub file_sections : Unit {0}
unfolding FileSections.read_file_sections FileSections.file_sections_in
file_sections = tt

unfoldable pub nodes : Unit {0}
unfolding Nodes.kind_of Nodes.child_count Nodes.node_of Nodes.read_node Nodes.read_nodes Nodes.nodes_in Nodes.node_reads Nodes.node_named Nodes.node_parted bind Nodes.action_of Nodes.node_action Nodes.listed Nodes.actions_from Nodes.actions_of
nodes = tt

unfoldable pub trees : Unit {0}
unfolding Trees.children Trees.of_none Trees.of_one Trees.of_two Trees.of_some Trees.tree_from Trees.onward Trees.found Trees.read_forest Trees.read_tree Trees.when_none_left Trees.tree_of
trees = tt

unfoldable pub residuals : Unit {0}
unfolding Residuals.fresh Residuals.acting_at Residuals.acting Residuals.when_node Residuals.move_at Residuals.inside Residuals.next_child Residuals.every_finished Residuals.joined Residuals.or_else Residuals.move Residuals.same?
residuals = tt

unfoldable pub numbering : Unit {0}
unfolding Numbering.number_of Numbering.meet Numbering.number_from Numbering.residual_in Numbering.node_targets Numbering.targets Numbering.locations Comparisons.comparisons_of Comparisons.comparisons_from Comparisons.target_locations Comparisons.comparisons
numbering = tt

unfoldable pub comparing : Unit {0}
unfolding Comparing.by_numbers Comparing.location_code Comparing.entry_codes Comparing.location_codes
comparing = tt

unfoldable pub files : Unit {0}
unfolding Files.file_header Files.file_length Files.judge_nodes Files.judge_file_sections Files.judge_file_layout Files.judge_file Files.rule_control
files = tt

unfoldable pub compiling : Unit {0}
unfolding Compiling.tests_of Compiling.schedule_locations Compiling.schedule_comparisons Compiling.target_code Compiling.entry_of Compiling.entries_of Compiling.table_of Compiling.judge_table_of Compiling.judge_compile
compiling = tt

unfoldable pub writing : Unit {0}
unfolding Writing.node_bytes Writing.write_node Writing.write_nodes Writing.write_sections Writing.write_file
writing = tt

unfoldable pub exchanges : Unit {0}
unfolding Exchanged.other_kind Exchanged.exchanged_at Exchanged.exchanged
exchanges = tt

unfoldable pub calls : Unit {0}
unfolding Calls.schedule_counts Calls.read_schedule Calls.too_many_for Calls.cap Calls.size_told Calls.size_counts Calls.size Calls.rule_program Calls.rule_run_of Calls.compiled_into Calls.file_comparisons Calls.compile
calls = tt

unfoldable pub sizes : Unit {0}
unfolding Sizes.one Sizes.nothing_left Sizes.in_turn Sizes.side_by_side Sizes.sequence_size Sizes.parallel_size Sizes.leaf_size Sizes.halt_size Sizes.loop_size Sizes.branch_size Sizes.size_of Sizes.all_finish Sizes.up_to_first Sizes.sum_of Sizes.factor Sizes.product_of Sizes.entry_products Sizes.by_products Sizes.pencil_size TableSizes.table_length_of
sizes = tt

unfoldable pub branches : Unit {0}
unfolding Reordered.exchanged_number Independent.nodes_of Independent.nodes_of_all Independent.stands_before Independent.in_different Independent.different_children Independent.occurs Independent.occurs_in Independent.in_statement Independent.left_by Independent.second Independent.both_taken Independent.record_taken Independent.records_taken
branches = tt

unfoldable pub schedules : Unit {0}
unfolding Semantics.semantics ℕ_discrete file_sections nodes trees residuals numbering comparing files compiling writing exchanges calls sizes branches
schedules = tt
