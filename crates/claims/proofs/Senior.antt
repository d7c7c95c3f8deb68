-- Document 02, item 6, as theorems about the definitions: files and tables of both editions, told by their byte 0.
-- "Moves and numbering are shown once over the node limit, and both editions cite that.": the statements of Claims, Sides, Assignments, Comparisons and Branches are over any edition.
-- Of bytes that tell their edition they hold with `edition_in` of them for `ed`. Here stands what is beside that. The calls in code take edition 1.
-- What a statement, or a group of them, rules out is named by two wrong products that it does not let by.
use mathlib.Core.Path.{◌≡◌, sym, ◌∙◌}
use mathlib.Core.Bool.{true, false}
use mathlib.Core.List.{List, [], ◌∷◌, ◌++◌, flat_map}
use mathlib.Core.Logic.{◌↔◌, ◌⊎◌}
use mathlib.Core.Option.{none, some}
use Prim.Native.Nat.{ℕ, ◌+◌, ◌*◌, ◌<◌}
use lib.ListN.{length, get_or, take, replicate}
use Rattle.semantics.specs.Bytes.{be4, big_endian}
use Rattle.semantics.specs.Editions.{Edition, edition2, edition_in, OfEdition, NoEdition}
use Rattle.semantics.specs.Refusals.{refused, accepted}
use Rattle.semantics.specs.Events.{tick, pick, take_switch, senseless, event_in}
use Rattle.semantics.specs.Run.{stop, set_number}
use Rattle.semantics.specs.TableFile.{NodeAction}
use Rattle.semantics.specs.Tables.{Table, judge_actions, judge_locations, judge_table}
use Rattle.semantics.specs.Calls.{whole_events, read_table_of, table_run_of}
use Rattle.semantics.specs.Sentences.{Sentence15}
use Rattle.semantics.specs.K1.{start_with}
use Rattle.semantics.specs.SeniorK1.{senior_file, senior_table, senior_events, senior_record, senior_records}
use Rattle.semantics.proofs.EditionBytes as EditionBytes
use Rattle.semantics.proofs.EditionCalls as EditionCalls
use Rattle.semantics.proofs.SeniorPapers as Tables
use Rattle.schedules.specs.Nodes.{stop_all, nodes_in}
use Rattle.schedules.specs.Files.{Schedule, judge_file}
use Rattle.schedules.specs.Calls.{read_schedule, rule_run_of, compile}
use Rattle.schedules.specs.Sentences.{Sentence1}
use Rattle.schedules.specs.Agreement.{TableHolds, Agrees}
use Rattle.schedules.proofs.Demand2 as Demand2
use Rattle.schedules.proofs.Agreement as Agreement
use Rattle.schedules.proofs.FileEditions as FileEditions
use Rattle.schedules.proofs.SeniorPapers as Schedules

-- ---- "Edition 2 files and tables have version byte 2": the edition that bytes are judged by is the one that byte 0 tells, and no bytes are of both.
-- Ruled out: a reader that takes a file of over 64 nodes for edition 2; a reader that is told the edition beside the file.
pub edition-told : (bytes : List ℕ) (ed : Edition) → OfEdition bytes ed → edition_in bytes ≡ ed
edition-told bytes ed = EditionBytes.edition-told

pub one-edition : (bytes : List ℕ) (a b : Edition) → OfEdition bytes a → OfEdition bytes b → a ≡ b
one-edition bytes a b h k = sym (EditionBytes.edition-told h) ∙ EditionBytes.edition-told k

-- what is accepted is of the edition that it is judged by.
-- Ruled out: a reader that takes a file of version 3; a table runner that takes version 0x82, the clock dialect's.
pub accepted-file : (file : List ℕ) (s : Schedule) → judge_file (edition_in file) file ≡ accepted s → OfEdition file (edition_in file)
accepted-file = FileEditions.file-of-edition

pub accepted-table : (table : List ℕ) (t : Table) → judge_table (edition_in table) table ≡ accepted t → OfEdition table (edition_in table)
accepted-table = EditionCalls.table-of-edition

-- "Rules 1 .. and 15 .. read the edition's limits": by the bytes alone, 1 where a file has under 3 bytes or is of no edition,
-- 15 where a table has under 5 bytes, is of no edition, or has another length than it says.
-- Ruled out: a reader that gives 2 for a file of version 3; one that refuses files of edition 2 with 1.
pub refused-1 : (file : List ℕ) → ((read_schedule (edition_in file) file).refusal ≡ 1) ↔ ((length file < 3) ⊎ NoEdition file)
refused-1 = FileEditions.refused-1

pub refused-15 : (table : List ℕ) → ((read_table_of (edition_in table) table).refusal ≡ 15)
    ↔ ((length table < 5) ⊎ (NoEdition table ⊎ (be4 (get_or table 1 0) (get_or table 2 0) (get_or table 3 0) (get_or table 4 0) ≡ length table → ⊥)))
refused-15 = EditionCalls.refused-15

-- so of each call by the edition that byte 0 tells: the sentence that is its first one (`first-number-*`) says just that of the bytes.
-- Ruled out: compiling that gives 1 where reading does not; a table run that takes a table of version 3.
pub sentence-1 : (file : List ℕ) → Sentence1 (edition_in file) file ↔ ((length file < 3) ⊎ NoEdition file)
sentence-1 = FileEditions.sentence-1

pub sentence-15 : (table : List ℕ) → Sentence15 (edition_in table) table
    ↔ ((length table < 5) ⊎ (NoEdition table ⊎ (be4 (get_or table 1 0) (get_or table 2 0) (get_or table 3 0) (get_or table 4 0) ≡ length table → ⊥)))
sentence-15 = EditionCalls.sentence-15

-- ---- a schedule's table is of the schedule's edition, so that what is lent to the table run is judged by the same one.
-- Ruled out: a compiler that writes tables of edition 1 for schedules of at most 64 nodes; one that writes version 1 before numbers of two bytes.
pub table-edition : (file room : List ℕ) → (compile (edition_in file) file room).refusal ≡ 0 →
    OfEdition (take (compile (edition_in file) file room).written (compile (edition_in file) file room).table) (edition_in file)
table-edition = FileEditions.table-edition

pub table-judged-by : (file room : List ℕ) → (compile (edition_in file) file room).refusal ≡ 0 →
    edition_in (take (compile (edition_in file) file room).written (compile (edition_in file) file room).table) ≡ edition_in file
table-judged-by = FileEditions.same-edition-in

-- "the match between them is over both": demands 2 and 3 by the file's byte 0, which is the table's (`table-judged-by`); `runs-by-bytes` has each run by its own.
-- Ruled out: runs that agree for one edition only; a table run that writes records of the other edition's size.
pub reached-by-bytes : (file room : List ℕ) → (compile (edition_in file) file room).refusal ≡ 0 →
    TableHolds (edition_in file) file (take (compile (edition_in file) file room).written (compile (edition_in file) file room).table)
reached-by-bytes file = Demand2.table-holds (edition_in file) file

pub agreement-by-bytes : (file room : List ℕ) → (compile (edition_in file) file room).refusal ≡ 0 →
    Agrees (edition_in file) file (take (compile (edition_in file) file room).written (compile (edition_in file) file room).table)
agreement-by-bytes file = Agreement.agreement (edition_in file) file

pub runs-by-bytes : (file room : List ℕ) → (compile (edition_in file) file room).refusal ≡ 0 → (start events buffer : List ℕ) →
    (let table = take (compile (edition_in file) file room).written (compile (edition_in file) file room).table in
    rule_run_of (edition_in file) file start events buffer ≡ table_run_of (edition_in table) table start events buffer)
runs-by-bytes = FileEditions.same_bytes

-- ---- "An event is then 4 bytes, the node number or the pair filling the middle two; the last byte must be 0, and in a tick the middle two as well."
-- A number of 256 and above is a number.
-- Ruled out: a pick by the third byte alone; a switch whose last byte is not looked at.
pub senior-event : (event_in edition2 (0 ∷ 0 ∷ 0 ∷ 0 ∷ []) ≡ tick) × ((h l : ℕ) → event_in edition2 (1 ∷ h ∷ l ∷ 0 ∷ []) ≡ pick (h * 256 + l))
    × ((s k : ℕ) → event_in edition2 (2 ∷ s ∷ k ∷ 0 ∷ []) ≡ take_switch s k)
senior-event = (Tables.senior_tick, Tables.senior_pick, Tables.senior-switch)

pub senior-last-byte : (a b x : ℕ) → (x ≡ 0 → ⊥) → (event_in edition2 (1 ∷ a ∷ b ∷ x ∷ []) ≡ senseless) × (event_in edition2 (2 ∷ a ∷ b ∷ x ∷ []) ≡ senseless)
    × (event_in edition2 (0 ∷ 0 ∷ 0 ∷ x ∷ []) ≡ senseless)
senior-last-byte = Tables.last_byte

pub senior-tick-middle : (x b c : ℕ) → (x ≡ 0 → ⊥) → (event_in edition2 (0 ∷ x ∷ b ∷ c ∷ []) ≡ senseless) × (event_in edition2 (0 ∷ 0 ∷ x ∷ c ∷ []) ≡ senseless)
senior-tick-middle = Tables.tick-middle

-- and in a run, 24 for these and 25 for picks of 256 and 257, whose low bytes name nodes.
-- Ruled out: a run that picks node 1 for 257; one that gives 24 for a node number above 255.
pub senior-turned-away : table_run_of edition2 senior_table (start_with 0)
    (1 ∷ 0 ∷ 1 ∷ 1 ∷ 2 ∷ 0 ∷ 0 ∷ 1 ∷ 0 ∷ 0 ∷ 0 ∷ 1 ∷ 0 ∷ 1 ∷ 0 ∷ 0 ∷ 1 ∷ 1 ∷ 0 ∷ 0 ∷ 1 ∷ 1 ∷ 1 ∷ 0 ∷ []) (replicate 222 0)
    ≡ record {
      refusal = 0;
      counts = record { taken = 0; turned_away = 6; faulted = 0 };
      records = senior_record 24 2 0 (senior_record 24 2 0 (senior_record 24 2 0 (senior_record 24 2 0 (senior_record 25 2 0 (senior_record 25 2 0 [])))));
    }
senior-turned-away = Tables.turned_away

-- 21 by 4 bytes.
-- Ruled out: a run of edition 2 that takes 6 bytes for two events; one that refuses 8.
pub senior-whole-events : (whole_events edition2.event_bytes (replicate 6 0) ≡ false) × (whole_events edition2.event_bytes (replicate 8 0) ≡ true)
senior-whole-events = Tables.whole-events

-- "The set in a record grows to 32 bytes": one number, its highest byte first.
-- Ruled out: a set with its 8-byte words lowest first; one with node 255 in its last byte.
pub senior-set : (big_endian 32 (set_number (255 ∷ [])) ≡ 0x80 ∷ replicate 31 0) × (big_endian 32 (set_number (0 ∷ [])) ≡ replicate 31 0 ++ (1 ∷ []))
senior-set = (Tables.highest-node, Tables.lowest-node)

-- "node counts .. of two bytes", "the new limit": 256 nodes are read; a count of 257 or 0 is none, whatever follows, and a length of 257 is none, though its low byte would do.
-- Ruled out: a reader of 257 nodes; one that takes the low byte of a count or a length.
pub nodes-256 : nodes_in edition2 (1 ∷ 0 ∷ flat_map (λ (n : ℕ). 0 ∷ 1 ∷ 9 ∷ []) (replicate 256 0)) ≡ some (replicate 256 stop_all)
nodes-256 = Schedules.count-256

pub nodes-257 : (rest : List ℕ) → (nodes_in edition2 (1 ∷ 1 ∷ rest) ≡ none) × (nodes_in edition2 (0 ∷ 0 ∷ rest) ≡ none)
nodes-257 rest = (Schedules.count-257 rest, Schedules.count-0 rest)

pub length-257 : (rest : List ℕ) → nodes_in edition2 (0 ∷ 1 ∷ 1 ∷ 1 ∷ rest) ≡ none
length-257 = Schedules.length-257

-- of a table: a STOP of node 255 is an action, one of node 256 is 18, and so are lengths of 2, 203 and 259; an entry of node 257 beside the action of node 1 is 19, and one of node 1 is taken.
-- Ruled out: a reader that takes the low byte of a node's number; one that takes an action of node 256.
pub senior-actions : (judge_actions edition2 (0 ∷ 1 ∷ 0 ∷ 3 ∷ 0 ∷ 255 ∷ 5 ∷ []) ≡ accepted (record { node = 255; action = stop } ∷ []))
    × (judge_actions edition2 (0 ∷ 1 ∷ 0 ∷ 3 ∷ 1 ∷ 0 ∷ 5 ∷ []) ≡ refused 18)
senior-actions = (Tables.node-255, Tables.node-256)

pub senior-action-lengths : (rest : List ℕ) → (judge_actions edition2 (0 ∷ 1 ∷ 0 ∷ 2 ∷ rest) ≡ refused 18) × (judge_actions edition2 (0 ∷ 1 ∷ 0 ∷ 203 ∷ rest) ≡ refused 18)
    × (judge_actions edition2 (0 ∷ 1 ∷ 1 ∷ 3 ∷ rest) ≡ refused 18)
senior-action-lengths = Tables.action-lengths

pub senior-entries : (let node1 : List NodeAction = record { node = 1; action = stop } ∷ [] in
    (judge_locations edition2 node1 (0 ∷ 1 ∷ 1 ∷ 1 ∷ 1 ∷ 0xFF ∷ 0xFD ∷ 0xFF ∷ 0xFF ∷ []) ≡ refused 19)
    × (judge_locations edition2 node1 (0 ∷ 1 ∷ 1 ∷ 0 ∷ 1 ∷ 0xFF ∷ 0xFD ∷ 0xFF ∷ 0xFF ∷ []) ≡ accepted ((record { node = 1; target = 0xFFFD; other = 0xFFFF } ∷ []) ∷ [])))
senior-entries = (Tables.entry-257, Tables.entry-1)

-- ---- K1's schedule in edition 2: its table, and K2's run by the rules and by that table
pub K1-senior : compile (edition_in senior_file) senior_file (replicate 82 0 ++ (7 ∷ 8 ∷ [])) ≡ record { refusal = 0; written = 82; comparisons = 1; table = senior_table ++ (7 ∷ 8 ∷ []) }
K1-senior = Schedules.K1

pub K2-senior : (rule_run_of (edition_in senior_file) senior_file (start_with 0) senior_events (replicate 296 0 ++ (7 ∷ 8 ∷ []))
    ≡ record { refusal = 0; counts = record { taken = 4; turned_away = 4; faulted = 0 }; records = senior_records (7 ∷ 8 ∷ []) })
    × (table_run_of (edition_in senior_table) senior_table (start_with 0) senior_events (replicate 296 0 ++ (7 ∷ 8 ∷ []))
    ≡ record { refusal = 0; counts = record { taken = 4; turned_away = 4; faulted = 0 }; records = senior_records (7 ∷ 8 ∷ []) })
K2-senior = (Schedules.K2-rules, Tables.K2-table)
