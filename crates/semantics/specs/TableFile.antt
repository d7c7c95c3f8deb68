-- Document 01, "Table file": the layout of a table, read and written.
use Rattle.std.specs.Prelude.{cond, ℕ, ◌+◌, ◌-◌, length, leb, eqb}
use mathlib.Core.List.{List, [], ◌∷◌, ◌++◌, flat_map}
use Rattle.std.proofs.Math.Option.{Option, none, some}
use Rattle.semantics.specs.Bytes.{out2, out4, out, width_of, within, Reader, ◌>>=◌, give, guard, from, byte, nat2, number, bytes, times, section2, section4, whole, from_no_bytes, from_two_bytes, byte_and_rest}
use Rattle.semantics.specs.Editions.{Edition}
use Rattle.semantics.specs.Run.{Action, test, wait, assign, switch, stop}

pub record NodeAction : Type 0 where
  pub node : ℕ
  pub action : Action

pub record Entry : Type 0 where
  pub node : ℕ
  pub target : ℕ
  -- the target on false
  pub other : ℕ

pub record TableSections : Type 0 where
  pub variables : List ℕ
  pub equations : List ℕ
  pub actions : List ℕ
  pub locations : List ℕ

-- "FFFE is finished, FFFD halted, FFFF none."
unfoldable pub FINISHED : ℕ
FINISHED = 0xfffe

unfoldable pub HALTED : ℕ
HALTED = 0xfffd

unfoldable pub NONE : ℕ
NONE = 0xffff

-- of both 13 and 19
abbrev pub location_limit : ℕ
location_limit = 1024

-- "kind (1 test, 2 wait, 3 assign, 4 switch, 5 stop), operand bytes"
abbrev pub TEST : ℕ
TEST = 1

abbrev pub WAIT : ℕ
WAIT = 2

abbrev pub ASSIGN : ℕ
ASSIGN = 3

abbrev pub SWITCH : ℕ
SWITCH = 4

abbrev pub STOP : ℕ
STOP = 5

pub data ActionKind : Type 0 where
  a_test a_wait an_assignment a_switch a_stop no_kind : ActionKind

unfoldable pub action_kind : ℕ → ActionKind
action_kind k =
    cond (eqb k TEST) a_test (cond (eqb k WAIT) a_wait (cond (eqb k ASSIGN) an_assignment
    (cond (eqb k SWITCH) a_switch (cond (eqb k STOP) a_stop no_kind))))

unfoldable pub action_of_kind : ActionKind → List ℕ → Option Action
action_of_kind a_test t = some (test t)
action_of_kind a_wait t = some (wait t)
action_of_kind an_assignment b = byte_and_rest assign b
action_of_kind a_switch b = from_two_bytes switch b
action_of_kind a_stop b = from_no_bytes stop b
action_of_kind no_kind b = none

-- "the variable and equation sections copied, then: actions (2-byte length) ..; locations (4-byte length) .."
unfoldable pub read_table_sections : Reader TableSections
read_table_sections = do
  vs ← section2
  es ← section2
  acts ← section2
  locs ← section4
  give (record { variables = vs; equations = es; actions = acts; locations = locs })

-- 16: "Its four sections do not fill it."
unfoldable pub table_sections_in : List ℕ → Option TableSections
table_sections_in = whole read_table_sections

-- 19: "A location count is outside 1..1,024"
unfoldable pub read_location_count : Reader ℕ
read_location_count = do
  n ← nat2
  guard (within 1 location_limit n) (give n)

module _ (ed : Edition) where
  -- "a length byte, node, kind (..), operand bytes"; "kind and operand make 1..200 bytes"
  unfoldable pub read_action : Reader NodeAction
  read_action = do
    l ← number ed.width
    guard (within (width_of ed.width + 1) (width_of ed.width + 200) l) (do
      n ← number ed.width
      k ← byte
      b ← bytes (l - (width_of ed.width + 1))
      a ← from (action_of_kind (action_kind k) b)
      give (record { node = n; action = a }))

  -- 18: "An action count is outside 1..64"
  unfoldable pub read_action_count : Reader ℕ
  read_action_count = do
    n ← number ed.width
    guard (within 1 ed.nodes n) (give n)

  unfoldable pub read_actions : Reader (List NodeAction)
  read_actions = do
    n ← read_action_count
    times n read_action

  unfoldable pub actions_in : List ℕ → Option (List NodeAction)
  actions_in = whole read_actions

  -- "per entry node (1 byte), target and target on false (2 bytes each)"
  unfoldable pub read_entry : Reader Entry
  read_entry = do
    n ← number ed.width
    t ← nat2
    u ← nat2
    give (record { node = n; target = t; other = u })

  -- "per location its entry count, then .."; 19: "an entry count 0"
  unfoldable pub read_location : Reader (List Entry)
  read_location = do
    n ← byte
    guard (leb 1 n) (times n read_entry)

  unfoldable pub read_locations : Reader (List (List Entry))
  read_locations = do
    n ← read_location_count
    times n read_location

  unfoldable pub locations_in : List ℕ → Option (List (List Entry))
  locations_in = whole read_locations

-- ---- the same, written
unfoldable pub kind_number : Action → ℕ
kind_number (test t) = TEST
kind_number (wait t) = WAIT
kind_number (assign v e) = ASSIGN
kind_number (switch s m) = SWITCH
kind_number stop = STOP

unfoldable pub operand_bytes : Action → List ℕ
operand_bytes (test t) = t
operand_bytes (wait t) = t
operand_bytes (assign v e) = v ∷ e
operand_bytes (switch s m) = s ∷ m ∷ []
operand_bytes stop = []

unfoldable pub action_bytes : Action → List ℕ
action_bytes a = kind_number a ∷ operand_bytes a

unfoldable pub in_section2 : List ℕ → List ℕ
in_section2 s = out2 (length s) ++ s

unfoldable pub in_section4 : List ℕ → List ℕ
in_section4 s = out4 (length s) ++ s

-- "the variable and equation sections copied, then .."
abbrev pub copied_then : (variables equations rest : List ℕ) → List ℕ
copied_then variables equations rest = in_section2 variables ++ (in_section2 equations ++ rest)

-- "actions (2-byte length) ..; locations (4-byte length) .."
abbrev pub action_section : List ℕ → List ℕ
action_section s = in_section2 s

abbrev pub location_section : List ℕ → List ℕ
location_section s = in_section4 s

abbrev pub write_table_sections : TableSections → List ℕ
write_table_sections x = copied_then x.variables x.equations (action_section x.actions ++ location_section x.locations)

module _ (ed : Edition) where
  -- "a length byte, node, kind (..), operand bytes": of a node, and the bytes of its kind and operand
  abbrev pub write_action_row : ℕ → List ℕ → List ℕ
  write_action_row n b = out ed.width (width_of ed.width + length b) ++ (out ed.width n ++ b)

  unfoldable pub write_action : NodeAction → List ℕ
  write_action a = write_action_row a.node (action_bytes a.action)

  -- the rows of actions, without their number
  abbrev pub write_action_rows : List NodeAction → List ℕ
  write_action_rows l = flat_map write_action l

  unfoldable pub write_actions : List NodeAction → List ℕ
  write_actions l = out ed.width (length l) ++ write_action_rows l

  unfoldable pub write_entry : Entry → List ℕ
  write_entry e = out ed.width e.node ++ (out2 e.target ++ out2 e.other)

  -- the entries of a location, without their number
  abbrev pub write_entries : List Entry → List ℕ
  write_entries es = flat_map write_entry es

  unfoldable pub write_location : List Entry → List ℕ
  write_location es = length es ∷ write_entries es

  -- the rows of locations, without their number
  abbrev pub write_location_rows : List (List Entry) → List ℕ
  write_location_rows l = flat_map write_location l

  unfoldable pub write_locations : List (List Entry) → List ℕ
  write_locations l = out2 (length l) ++ write_location_rows l

  -- the four sections
  unfoldable pub table_body : List ℕ → List ℕ → List NodeAction → List (List Entry) → List ℕ
  table_body variables equations actions locations =
      write_table_sections (record { variables = variables; equations = equations; actions = write_actions actions; locations = write_locations locations })

  -- "Version 1, whole length (4 bytes)"
  abbrev pub table_head : ℕ → List ℕ
  table_head whole = ed.version ∷ out4 whole

  -- "the variable and equation sections copied, then .."
  unfoldable pub table_bytes : List ℕ → List ℕ → List NodeAction → List (List Entry) → List ℕ
  table_bytes variables equations actions locations =
      let body = table_body variables equations actions locations in
      table_head (5 + length body) ++ body
