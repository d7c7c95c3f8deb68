-- What demands 2 and 3 say of a file and the table that compiling wrote for it.
use Rattle.std.specs.Prelude.{◌≡◌, false, ℕ, ◌+◌, ◌<◌, length}
use mathlib.Core.List.{List, flat_map, Memᴰ as Mem}
use Rattle.std.proofs.Math.Option.{some}
use Rattle.semantics.specs.Bytes.{overwrite}
use Rattle.semantics.specs.Editions.{Edition}
use Rattle.semantics.specs.Refusals.{accepted}
use Rattle.semantics.specs.Starts.{Start, start_in}
use Rattle.semantics.specs.Run.{Answered, at, record_of, answers_in, counts_from}
use Rattle.semantics.specs.Rules.{Derives}
use Rattle.semantics.specs.TableFile.{location_limit, table_bytes}
use Rattle.semantics.specs.Tables.{Table, judge_table}
use Rattle.semantics.specs.Calls.{Ran, table_run_of, read_table_of, event_count, events_of, records_size}
use Rattle.semantics.specs.Conditions.{is20, is21, is22}
use Rattle.schedules.specs.Residuals.{Residual, fresh}
use Rattle.schedules.specs.Nodes.{actions_of}
use Rattle.schedules.specs.Preorder.{Written}
use Rattle.schedules.specs.Conditions.{file_schedule}
use Rattle.semantics.specs.Proper.{Distinct}
use Rattle.schedules.specs.Reached.{Leads, Reached, Rows}
use Rattle.schedules.specs.Compiling.{tests_of}
use Rattle.schedules.specs.Files.{Schedule, judge_file, rule_control}
use Rattle.schedules.specs.Calls.{rule_run_of}

-- ---- demand 2: the table has every control state that the rules reach, and no other, each with an edge for each move
pub record TableHolds (ed : Edition) (file table : List ℕ) : Type 0 where
  pub schedule : Schedule
  pub schedule_read : judge_file ed file ≡ accepted schedule
  -- it is what stands in the file: its parts, read one by one, and the tree that its nodes are
  pub of_file : file_schedule ed file ≡ some schedule
  pub tree : Written schedule.root 0 schedule.nodes
  pub locations : List Residual
  pub reached : Reached (tests_of schedule.nodes) schedule.root locations
  -- the table's bytes, read back
  pub back : Table
  pub table_read : judge_table ed table ≡ accepted back
  pub same_plant : back.plant ≡ schedule.plant
  pub actions : back.actions ≡ actions_of schedule.nodes
  pub rows : Rows (tests_of schedule.nodes) locations back.locations
  -- and the bytes are just those that the layout gives for this
  pub bytes : table ≡ table_bytes ed schedule.sections.variables schedule.sections.equations (actions_of schedule.nodes) back.locations

-- more residuals can be reached than a table may hold
pub record TooMany (s : Schedule) : Type 0 where
  pub some_reached : List Residual
  pub distinct : Distinct some_reached
  pub each : (r : Residual) → Mem r some_reached → Leads (tests_of s.nodes) (fresh s.root) r
  pub many : location_limit < length some_reached

-- ---- what both runs of one start and one list of events come to
pub record RunsAgree (ed : Edition) (s : Schedule) (st : Start) (events : List ℕ) (by_rules by_table : List ℕ) (r t : Ran) : Type 0 where
  -- neither run is refused
  pub rules_taken_on : r.refusal ≡ 0
  pub table_taken_on : t.refusal ≡ 0
  -- what the rule-by-rule relation derives from the fresh root, event by event
  pub said : List (Answered Residual)
  pub derived : Derives ed s.plant (rule_control s) (at (fresh s.root) st.values st.modes) (events_of ed events) said
  -- both buffers hold just those records, one after the other, and then what they held
  pub rules_records : r.records ≡ overwrite (flat_map (record_of ed (rule_control s)) said) by_rules
  pub table_records : t.records ≡ overwrite (flat_map (record_of ed (rule_control s)) said) by_table
  pub records_length : length (flat_map (record_of ed (rule_control s)) said) ≡ records_size ed s.plant events
  -- each count is the number of such answers
  pub rules_counts : r.counts ≡ counts_from (answers_in said)
  pub table_counts : t.counts ≡ r.counts
  pub counts_add : r.counts.taken + r.counts.turned_away + r.counts.faulted ≡ event_count ed events

-- ---- the table of this file
pub record Agrees (ed : Edition) (file table : List ℕ) : Type 0 where
  -- none of 15 to 19 applies to the table
  pub table_read : (read_table_of ed table).refusal ≡ 0
  pub schedule : Schedule
  pub schedule_read : judge_file ed file ≡ accepted schedule
  pub of_file : file_schedule ed file ≡ some schedule
  pub tree : Written schedule.root 0 schedule.nodes
  -- for every start, event list and record buffer both calls return the same and leave the same, also where they refuse
  pub same : (start events buffer : List ℕ) → rule_run_of ed file start events buffer ≡ table_run_of ed table start events buffer
  -- for every start that 20 lets pass, every list of whole events and all buffers that are long enough
  pub runs : (start events by_rules by_table : List ℕ) →
      is20 ed (some schedule.plant) start events by_rules ≡ false → is21 ed (some schedule.plant) start events by_rules ≡ false →
      is22 ed (some schedule.plant) start events by_rules ≡ false → is22 ed (some schedule.plant) start events by_table ≡ false →
      (st : Start) × (start_in schedule.plant start ≡ some st) ×
      RunsAgree ed schedule st events by_rules by_table (rule_run_of ed file start events by_rules) (table_run_of ed table start events by_table)
