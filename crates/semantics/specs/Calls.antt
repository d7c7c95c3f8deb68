-- The calls: all that each returns, and what a lent buffer holds afterwards, for all inputs.
-- Document 01: "the rule run 1..12 and 20..22, the table run 15..22"; 34 of document 02, item 3, is checked where 11 is.
use Rattle.std.specs.Prelude.{Bool, ℕ, ◌+◌, ◌*◌, ◌/◌, ◌%◌, length, leb, eqb}
use mathlib.Core.List.{List, flat_map}
use Rattle.semantics.specs.Bytes.{overwrite}
use Rattle.semantics.specs.Editions.{Edition}
use Rattle.semantics.specs.Events.{events_in}
use Rattle.semantics.specs.Refusals.{Judged, refused, accepted, ◌>>=◌, ◌>>◌, ensure, need}
use Rattle.semantics.specs.Plant.{Plant, selectors}
use Rattle.semantics.specs.Starts.{Start, start_in, fits_start}
use Rattle.semantics.specs.Run.{Control, Answered, at, answers, record_of, answers_in, Counts, counts_from, no_counts}
use Rattle.semantics.specs.Tables.{Table, judge_table, table_control}

-- 20: "The starting values (4 bytes each, then modes) have a wrong length, value or mode."
unfoldable pub judge_start : Plant → List ℕ → Judged Start
judge_start p start = do
  st ← need 20 (start_in p start)
  ensure 20 (fits_start p st)
  accepted st

-- 21: "The event bytes are not a multiple of 3."
unfoldable pub whole_events : ℕ → List ℕ → Bool
whole_events width events = eqb (length events % width) 0

unfoldable pub event_count : Edition → List ℕ → ℕ
event_count ed events = length events / ed.event_bytes

-- the events themselves
abbrev pub events_of : Edition → List ℕ → List (List ℕ)
events_of ed events = events_in ed.event_bytes (event_count ed events) events

-- answer, set, values, modes: of so many variables and selectors, and of a plant
abbrev pub record_length_of : Edition → (variables selectors : ℕ) → ℕ
record_length_of ed variables selectors = 1 + (ed.set_bytes + (4 * variables + selectors))

unfoldable pub record_size : Edition → Plant → ℕ
record_size ed p = record_length_of ed (length p.variables) (length (selectors p))

-- of the records of all events
abbrev pub records_size : Edition → Plant → List ℕ → ℕ
records_size ed p events = event_count ed events * record_size ed p

-- 22: "The record buffer is too short."
unfoldable pub room_for_records : Edition → Plant → List ℕ → List ℕ → Bool
room_for_records ed p events buffer = leb (records_size ed p events) (length buffer)

-- 20 to 22 of a run of this plant: the start that it is admitted with
unfoldable pub judge_admission : Edition → Plant → List ℕ → List ℕ → List ℕ → Judged Start
judge_admission ed p start events buffer = do
  st ← judge_start p start
  ensure 21 (whole_events ed.event_bytes events)
  ensure 22 (room_for_records ed p events buffer)
  accepted st

-- what is run: by the rules or by a table
pub record Program (S : Type 0) : Type 0 where
  pub plant : Plant
  pub control : Control S

module _ {S : Type 0} (ed : Edition) where
  -- "A run starts at the fresh root" or at location 0, "with the starting values and modes lent to it"
  unfoldable pub run_from : Program S → Start → List ℕ → List (Answered S)
  run_from g st events = answers ed g.plant g.control (at g.control.start st.values st.modes) (events_of ed events)

-- what a run says: its answers, and its records one after the other
pub record Outcome : Type 0 where
  pub said : List ℕ
  pub written : List ℕ

module _ {S : Type 0} (ed : Edition) where
  unfoldable pub outcome_of : Control S → List (Answered S) → Outcome
  outcome_of c l = record { said = answers_in l; written = flat_map (record_of ed c) l }

  unfoldable pub judge_run : Judged (Program S) → List ℕ → List ℕ → List ℕ → Judged Outcome
  judge_run program start events buffer = do
    g ← program
    st ← judge_admission ed g.plant start events buffer
    accepted (outcome_of g.control (run_from ed g st events))

-- what a call that runs returns
pub record Ran : Type 0 where
  pub refusal : ℕ
  pub counts : Counts
  -- the lent record buffer afterwards
  pub records : List ℕ

-- a refused run counts nothing and leaves its buffer; any other writes its records at the front of it
unfoldable pub report : List ℕ → Judged Outcome → Ran
report buffer (refused n) = record { refusal = n; counts = no_counts; records = buffer }
report buffer (accepted o) = record { refusal = 0; counts = counts_from o.said; records = overwrite o.written buffer }

-- ---- the call "running a table": 15 to 22
abbrev pub program_of_table : Table → Program ℕ
program_of_table t = record { plant = t.plant; control = table_control t }

unfoldable pub table_program : Edition → List ℕ → Judged (Program ℕ)
table_program ed table = do
  t ← judge_table ed table
  accepted (program_of_table t)

unfoldable pub table_run_of : Edition → List ℕ → List ℕ → List ℕ → List ℕ → Ran
table_run_of ed table start events buffer = report buffer (judge_run ed (table_program ed table) start events buffer)

-- ---- the call "reading a table": 15 to 19
pub record TableRead : Type 0 where
  pub refusal : ℕ
  pub variables : ℕ
  pub selectors : ℕ
  pub actions : ℕ
  pub locations : ℕ

unfoldable pub table_counts_of : Judged Table → TableRead
table_counts_of (refused n) = record { refusal = n; variables = 0; selectors = 0; actions = 0; locations = 0 }
table_counts_of (accepted t) = record {
  refusal = 0;
  variables = length t.plant.variables;
  selectors = length (selectors t.plant);
  actions = length t.actions;
  locations = length t.locations;
}

unfoldable pub read_table_of : Edition → List ℕ → TableRead
read_table_of ed table = table_counts_of (judge_table ed table)
