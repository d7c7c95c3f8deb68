-- Document 01, "Schedule file" and "Table file": what a node of kinds 3 to 9 does, and the action that a table has for it. `action_of` of Nodes is shown to be just this.
use Rattle.std.specs.Prelude.{List, ℕ}
use Rattle.semantics.specs.Run.{Action, test, wait, assign, switch, stop}
use Rattle.schedules.specs.Nodes.{Node, while_do, if_else, continue_until, reset, reinitial, switch_to, stop_all}

-- kinds 3 to 9: "3 WHILE (truth ..), 4 IF (truth ..), 5 CONTINUE UNTIL (truth), 6 RESET and 7 REINITIAL (variable, number), 8 SWITCH (selector, mode), 9 STOP",
-- and for each its action: "1 test, 2 wait, 3 assign, 4 switch, 5 stop"
pub data Does : Node → Action → Type 0 where
  while_tests : {t : List ℕ} → Does (while_do t) (test t)
  if_tests : {t : List ℕ} → Does (if_else t) (test t)
  -- "a wait stands for CONTINUE"
  continue_waits : {t : List ℕ} → Does (continue_until t) (wait t)
  -- "Kinds 6 and 7 both assign."
  reset_assigns : {v : ℕ} {e : List ℕ} → Does (reset v e) (assign v e)
  reinitial_assigns : {v : ℕ} {e : List ℕ} → Does (reinitial v e) (assign v e)
  switch_switches : {s m : ℕ} → Does (switch_to s m) (switch s m)
  stop_stops : Does stop_all stop
