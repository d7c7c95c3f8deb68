-- Where a run by the rules stands, as the code has it, and what one event makes of it.
use Rattle.std.specs.Prelude.{◌≡◌, Bool, List, ℕ, ℤ}
use Rattle.std.proofs.Math.Option.{Option, some}
use Rattle.semantics.specs.Editions.{Edition}
use Rattle.semantics.specs.Run.{judge}
use Rattle.schedules.specs.Trees.{Tree}
use Rattle.schedules.specs.Residuals.{Residual, acting}
use Rattle.schedules.specs.Files.{Schedule, rule_control}
use Rattle.schedules.specs.Reached.{Of}
use Rattle.schedules.specs.Calls.{program_of}
use Rattle.nodeset.specs.Sets.{members, Words}
use Rattle.nodeset.specs.declared.NodeSet.{NodeSet}
use Rattle.moves.specs.MoveContracts.{Charted, Standing}
use Rattle.moves.specs.declared.Moves.{Moves}
use Rattle.program.specs.Lent.{Lent}
use Rattle.schedule_read.specs.Lent.{ScheduleLent}
use Rattle.event.specs.Decoded.{event_of}
use Rattle.event.specs.declared.Event.{Event}
use Rattle.effects.specs.Verdicts.{Left}
use Rattle.effects.specs.PaperNumbers.{Verdict, Move}
use Rattle.execution.specs.Ready.{Fits}
use Rattle.execution.specs.Runs.{Shows, Arrives, Steps}

-- ---- where a run stands
-- the acting nodes are those of a residual of the tree, or the run is over and there are none
abbrev pub StandsFor : Schedule → List ℕ → Option Residual → Type 0
StandsFor s ws o = Shows (rule_control s) (Of s.root) ws o

-- the moves are those of the tree, and the set is that of one of its residuals
pub record Here (m : Moves) (t : Tree) (ws : List ℕ) (r : Residual) : Type 0 where
  pub charted : Charted m t
  pub of : Of t r
  pub stands : members ws ≡ acting r
  pub words : Words ws

-- ---- one event, part by part
-- a node that moves acts
pub record Movable (m : Moves) (s : NodeSet) (v : Verdict) : Type 0 where
  pub standing : (n : ℕ) (b : Bool) → v ≡ Move n b → Standing m s n

-- what the move of node n makes of the set: for every schedule and residual that the moves and the set are of
abbrev pub Moved : Moves → List ℕ → ℕ → Bool → ℕ → List ℕ → Type 0
Moved m ws n b a ws' = (s : Schedule) (x : Residual) → Here m s.root ws x → Arrives (StandsFor s ws') ((rule_control s).next x n b) a

-- what is made of a judged event
abbrev pub Settled : Edition → Moves → Verdict → List ℕ → ℕ → List ℕ → Type 0
Settled ed m v ws a ws' =
    (s : Schedule) (x : Residual) → Here m s.root ws x → (vs : List ℤ) (ms : List ℕ) (e : Event) (vs' : List ℤ) (ms' : List ℕ)
    → Left (judge ed s.plant (rule_control s).action (members ws) vs ms (event_of e)) vs ms v vs' ms'
    → Steps ed (program_of s) (StandsFor s ws') (some x) vs ms e a vs' ms'

-- ---- the whole event
-- what the reader promises of a schedule, its moves, and a place, values and modes that fit it: all that a step asks
pub record Promised (ed : Edition) (l : Lent) (m : Moves) (ws : List ℕ) (vs : List ℤ) (ms : List ℕ) : Type 0 where
  pub schedule : Schedule
  pub lent : ScheduleLent ed schedule l
  pub charted : Charted m schedule.root
  pub place : Option Residual
  pub stands : StandsFor schedule ws place
  pub fits : Fits schedule.plant vs ms

-- what a step gives, from acting nodes, values and modes to the same: for every schedule that the arrays hold and every place that the run stands at
abbrev pub StepsOn : Edition → Lent → Moves → List ℕ → List ℤ → List ℕ → Event → ℕ → List ℕ → List ℤ → List ℕ → Type 0
StepsOn ed l m ws vs ms e a ws' vs' ms' =
    (s : Schedule) (o : Option Residual) → ScheduleLent ed s l → Charted m s.root → StandsFor s ws o → Fits s.plant vs ms
    → Steps ed (program_of s) (StandsFor s ws') o vs ms e a vs' ms' × Fits s.plant vs' ms'
