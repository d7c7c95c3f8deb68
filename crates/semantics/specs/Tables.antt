-- Document 01, "Table file": conditions 15 to 19, and the control of a table.
use Rattle.std.specs.Prelude.{Bool, true, false, ◌&&◌, cond, List, [], ◌∷◌, map, ℕ, suc, length, get_or, drop, leb, ltb, eqb}
use Rattle.std.proofs.Math.Option.{Option, none, some}
use Rattle.semantics.specs.Bytes.{be4, every, is_some}
use Rattle.semantics.specs.Editions.{Edition}
use Rattle.semantics.specs.Expressions.{number_in, truth_in}
use Rattle.semantics.specs.Refusals.{Judged, accepted, ◌>>=◌, ◌>>◌, ensure, need, with_one_number}
use Rattle.semantics.specs.Sections.{Selector}
use Rattle.semantics.specs.Plant.{Plant, judge_plant, switches_read, selectors, mode_exists_in}
use Rattle.semantics.specs.Run.{Action, test, wait, assign, switch, stop, Next, to, finished, halted, idle, Control}
use Rattle.semantics.specs.TableFile.{NodeAction, Entry, FINISHED, HALTED, NONE, TableSections, table_sections_in, actions_in, locations_in}

pub record Table : Type 0 where
  pub plant : Plant
  pub actions : List NodeAction
  pub locations : List (List Entry)

-- 15: "The table has under 5 bytes, or a wrong version or length."
unfoldable pub table_header : Edition → List ℕ → Bool
table_header ed t = leb 5 (length t) && (eqb (get_or t 0 0) ed.version && eqb (be4 (get_or t 1 0) (get_or t 2 0) (get_or t 3 0) (get_or t 4 0)) (length t))

-- from this number on, each greater than the one before it
unfoldable pub rising_from : ℕ → List ℕ → Bool
rising_from low [] = true
rising_from low (n ∷ l) = elim (leb low n) [ true ↦ rising_from (suc n) l | false ↦ false ]

-- a node number that is not "above 63"
unfoldable pub node_exists : Edition → NodeAction → Bool
node_exists ed a = ltb a.node ed.nodes

unfoldable pub action_nodes : List NodeAction → List ℕ
action_nodes l = map (λ (a : NodeAction). a.node) l

-- 18: "a node number above 63 or not rising"
unfoldable pub actions_numbered : Edition → List NodeAction → Bool
actions_numbered ed l = rising_from 0 (action_nodes l) && every (node_exists ed) l

-- 18: "or operand wrong (.. 11 and 12 judge operands)"
unfoldable pub operand_fits : Edition → ℕ → List Selector → Action → Bool
operand_fits ed variables cs (test t) = is_some (truth_in ed variables t)
operand_fits ed variables cs (wait t) = is_some (truth_in ed variables t)
operand_fits ed variables cs (assign v e) = ltb v variables && is_some (number_in ed variables e)
operand_fits ed variables cs (switch s m) = mode_exists_in cs s m
operand_fits ed variables cs stop = true

-- those of all actions
unfoldable pub operands_fit : Edition → Plant → List NodeAction → Bool
operands_fit ed p l = every (λ (a : NodeAction). operand_fits ed (length p.variables) (selectors p) a.action) l

-- 18, but for the count, kinds, lengths and bytes missing or left over, which are the layout's
unfoldable pub actions_fit : Edition → Plant → List NodeAction → Bool
actions_fit ed p l = actions_numbered ed l && operands_fit ed p l

-- the action of a node
unfoldable pub action_at : List NodeAction → ℕ → Option Action
action_at [] n = none
action_at (a ∷ l) n = elim (eqb a.node n) [ true ↦ some a.action | false ↦ action_at l n ]

-- "each a location or FFFE"
unfoldable pub is_going_on : ℕ → ℕ → Bool
is_going_on locations t = cond (ltb t locations) true (eqb t FINISHED)

-- "Fit targets: tests take two, each a location or FFFE; stop has FFFD, FFFF; others a location or FFFE, then FFFF."
unfoldable pub targets_fit : ℕ → Action → ℕ → ℕ → Bool
targets_fit locations (test c) t u = is_going_on locations t && is_going_on locations u
targets_fit locations (wait c) t u = is_going_on locations t && eqb u NONE
targets_fit locations (assign v e) t u = is_going_on locations t && eqb u NONE
targets_fit locations (switch s m) t u = is_going_on locations t && eqb u NONE
targets_fit locations stop t u = eqb t HALTED && eqb u NONE

-- 19: "a node unknown or not rising, a target unfit for its kind"
unfoldable pub entry_fits : ℕ → List NodeAction → Entry → Bool
entry_fits locations l e = elim (action_at l e.node) [ none ↦ false | some a ↦ targets_fit locations a e.target e.other ]

unfoldable pub entry_nodes : List Entry → List ℕ
entry_nodes es = map (λ (e : Entry). e.node) es

unfoldable pub location_fits : ℕ → List NodeAction → List Entry → Bool
location_fits locations l es = rising_from 0 (entry_nodes es) && every (entry_fits locations l) es

unfoldable pub locations_fit_in : List NodeAction → List (List Entry) → Bool
locations_fit_in l locations = every (location_fits (length locations) l) locations

-- 18 of the section alone: its layout and its node numbers
unfoldable pub judge_actions : Edition → List ℕ → Judged (List NodeAction)
judge_actions ed s = do
  l ← need 18 (actions_in ed s)
  ensure 18 (actions_numbered ed l)
  accepted l

-- 19, of the section and the actions before it
unfoldable pub judge_locations : Edition → List NodeAction → List ℕ → Judged (List (List Entry))
judge_locations ed l s = do
  locs ← need 19 (locations_in ed s)
  ensure 19 (locations_fit_in l locs)
  accepted locs

-- 17 to 19 of the four sections
unfoldable pub judge_table_sections : Edition → TableSections → Judged Table
judge_table_sections ed parts = do
  -- 17: "Its first two sections break 4..8 or 12."
  p ← with_one_number 17 (judge_plant ed parts.variables parts.equations)
  ensure 17 (switches_read ed p)
  acts ← judge_actions ed parts.actions
  ensure 18 (operands_fit ed p acts)
  locs ← judge_locations ed acts parts.locations
  accepted (record { plant = p; actions = acts; locations = locs })

-- 15 and 16: the four sections
unfoldable pub judge_table_layout : Edition → List ℕ → Judged TableSections
judge_table_layout ed t = do
  ensure 15 (table_header ed t)
  need 16 (table_sections_in (drop 5 t))

unfoldable pub judge_table : Edition → List ℕ → Judged Table
judge_table ed t = do
  parts ← judge_table_layout ed t
  judge_table_sections ed parts

-- ---- "A run of a table starts at location 0 .. The acting nodes are the location's entries, their actions hold the truths and assignments,
-- a wait stands for CONTINUE .. A taken pick goes to its entry's target, a false test to the second one."
unfoldable pub going_to : ℕ → Next ℕ
going_to t = cond (eqb t FINISHED) finished (cond (eqb t HALTED) halted (cond (eqb t NONE) idle (to t)))

-- the target of a node's entry; a node without an entry does not act
unfoldable pub entry_target : List Entry → ℕ → Bool → ℕ
entry_target [] n b = NONE
entry_target (e ∷ es) n b = elim (eqb e.node n) [ true ↦ cond b e.target e.other | false ↦ entry_target es n b ]

unfoldable pub next_of_entry : List Entry → ℕ → Bool → Next ℕ
next_of_entry es n b = going_to (entry_target es n b)

unfoldable pub entries_at : Table → ℕ → List Entry
entries_at t x = get_or t.locations x []

-- of an accepted table (19) every acting node has an action
unfoldable pub action_or_stop : List NodeAction → ℕ → Action
action_or_stop l n = elim (action_at l n) [ none ↦ stop | some a ↦ a ]

unfoldable pub table_control : Table → Control ℕ
table_control t = record {
  start = 0;
  acting = λ x. entry_nodes (entries_at t x);
  action = action_or_stop t.actions;
  next = λ x. next_of_entry (entries_at t x);
}
