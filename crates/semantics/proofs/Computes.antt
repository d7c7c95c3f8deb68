-- For theorems by computation: each name below opens every definition of its module.
use Rattle.semantics.specs.Bytes as Bytes
use Rattle.semantics.specs.Refusals as Refusals
use Rattle.semantics.specs.Expressions as Expressions
use Rattle.semantics.specs.Sections as Sections
use Rattle.semantics.specs.Plant as Plant
use Rattle.semantics.specs.Events as Events
use Rattle.semantics.specs.Run as Run
use Rattle.semantics.specs.TableFile as TableFile
use Rattle.semantics.specs.Tables as Tables
use Rattle.semantics.specs.Starts as Starts
use Rattle.semantics.specs.Writing as Writing
use Rattle.semantics.specs.Calls as Calls
use mathlib.Core.List.{flat_map}

unfoldable pub bytes : Unit {0}
unfolding Bytes.be2 Bytes.be4 Bytes.signed Bytes.unsigned Bytes.out2 Bytes.out4 Bytes.big_endian Bytes.width_of Bytes.out Bytes.every Bytes.is_some Bytes.within Bytes.overwrite Bytes.and_then Bytes.◌>>=◌ Bytes.give Bytes.fail Bytes.guard Bytes.from Bytes.byte Bytes.nat2 Bytes.nat4 Bytes.int4 Bytes.number Bytes.bytes Bytes.times Bytes.section2 Bytes.section4 Bytes.just Bytes.whole Bytes.from_no_bytes Bytes.from_two_bytes Bytes.byte_and_rest
bytes = tt

unfoldable pub refusals : Unit {0}
unfolding Refusals.◌>>=◌ Refusals.◌>>◌ Refusals.ensure Refusals.need Refusals.with_one_number Refusals.refusal_of
refusals = tt

unfoldable pub expressions : Unit {0}
unfolding Expressions.number_depth Expressions.truth_depth Expressions.ranged Expressions.result Expressions.then_value Expressions.operands Expressions.applied Expressions.eq_z Expressions.compared Expressions.connected Expressions.value_of Expressions.holds Expressions.form_of Expressions.operation_code Expressions.comparison_code Expressions.connective_code Expressions.number_bytes Expressions.truth_bytes Expressions.fits32 Expressions.number_known Expressions.truth_known Expressions.number_of_expression Expressions.to_truth Expressions.read_variable_number Expressions.read_as_number Expressions.read_truth Expressions.read_form Expressions.read_expression Expressions.number_in Expressions.truth_in Expressions.value_of_number Expressions.value_of_truth
expressions = tt

unfoldable pub sections : Unit {0}
unfolding Sections.read_variable Sections.read_variables Sections.variables_in Sections.read_rate Sections.read_switch Sections.read_mode Sections.read_steady Sections.read_choice Sections.read_equation_body Sections.equation_in_bytes Sections.read_equation Sections.read_equations Sections.equations_in
sections = tt

unfoldable pub plant : Unit {0}
unfolding Plant.ordered Plant.rate_named Plant.switch_named Plant.mode_named Plant.equation_named Plant.among Plant.apart Plant.once_after Plant.rates_drive Plant.mode_drives Plant.drives Plant.mode_once Plant.modes_once Plant.driven_once Plant.is_driven_in Plant.switch_reads Plant.mode_reads Plant.equation_reads Plant.switches_read Plant.judge_variables Plant.judge_equations Plant.judge_plant Plant.selectors_of Plant.selectors Plant.mode_exists_in Plant.current_of Plant.current_modes Plant.switch_truths Plant.current_truths Plant.rates_of Plant.rate_among Plant.rate_of Plant.declared Plant.declared_at Plant.stored Plant.all_declared Plant.added Plant.advance
plant = tt

unfoldable pub events : Unit {0}
unfolding Events.event_kind Events.unused Events.read_event_body Events.read_event Events.event_in Events.events_in
events = tt

unfoldable pub run : Unit {0}
unfolding Run.is_test Run.possible Run.◌>>=◌ Run.◌>>◌ Run.allow Run.find Run.valued Run.is_wait Run.wait_truth Run.walk Run.check_modes Run.assigned Run.act Run.judge_switch Run.check_of_switch Run.judge_pick Run.judge_tick Run.judge Run.fault_answer Run.turned_away_by Run.arrive Run.follow Run.settle Run.step Run.answers Run.set_number Run.acting_set Run.value_bytes Run.record_bytes Run.record_of Run.is_taken Run.is_turned_away Run.is_faulted Run.how_many Run.counts_from
run = tt

unfoldable pub table_file : Unit {0}
unfolding TableFile.FINISHED TableFile.HALTED TableFile.NONE TableFile.action_kind TableFile.action_of_kind TableFile.read_table_sections TableFile.table_sections_in TableFile.read_action TableFile.read_action_count TableFile.read_actions TableFile.actions_in TableFile.read_entry TableFile.read_location TableFile.read_location_count TableFile.read_locations TableFile.locations_in TableFile.kind_number TableFile.operand_bytes TableFile.action_bytes TableFile.in_section2 TableFile.in_section4 TableFile.write_action TableFile.write_actions TableFile.write_entry TableFile.write_location TableFile.write_locations TableFile.table_body TableFile.table_bytes
table_file = tt

unfoldable pub tables : Unit {0}
unfolding Tables.table_header Tables.rising_from Tables.operand_fits Tables.operands_fit Tables.node_exists Tables.action_nodes Tables.actions_numbered Tables.actions_fit Tables.action_at Tables.is_going_on Tables.targets_fit Tables.entry_fits Tables.entry_nodes Tables.location_fits Tables.locations_fit_in Tables.judge_actions Tables.judge_locations Tables.judge_table_sections Tables.judge_table_layout Tables.judge_table Tables.going_to Tables.entry_target Tables.next_of_entry Tables.entries_at Tables.action_or_stop Tables.table_control
tables = tt

unfoldable pub starts : Unit {0}
unfolding Starts.read_start Starts.start_in Starts.is_ok Starts.modes_fit Starts.fits_start
starts = tt

unfoldable pub writing : Unit {0}
unfolding Writing.write_variable Writing.write_variables Writing.write_rate Writing.write_switch Writing.write_mode Writing.equation_bytes Writing.write_equation Writing.write_equations Writing.write_table Writing.start_bytes
writing = tt

unfoldable pub calls : Unit {0}
unfolding Calls.whole_events Calls.event_count Calls.record_size Calls.room_for_records Calls.judge_start Calls.judge_admission Calls.run_from Calls.outcome_of Calls.judge_run Calls.report Calls.table_program Calls.table_run_of Calls.table_counts_of Calls.read_table_of
calls = tt

unfoldable pub semantics : Unit {0}
unfolding flat_map bytes refusals expressions sections plant events run table_file tables starts writing calls
semantics = tt
