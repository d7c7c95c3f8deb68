-- What the code's results tell of a verdict.
use Rattle.std.specs.Prelude.{Bool, true, false, ℕ, Result, Ok, Err, Option, Some, None}
use Rattle.paper.specs.Answers.{turned_number}
use Rattle.effects.specs.PaperNumbers.{Verdict, Away, Above, Below, Stay, Move}
use Rattle.effects.specs.declared.Untaken.{Untaken}
use Rattle.effects.specs.declared.Untaken.TheVariants as Code
use Rattle.effects.specs.declared.Mover.{Mover}
use Rattle.expression.specs.declared.Side.{Side}
use Rattle.expression.specs.declared.Side.TheVariants as Sides

-- an event that is not taken
abbrev pub untaken : Untaken → Verdict
untaken (Code.Away why) = Away (turned_number why)
untaken Code.Above = Above
untaken Code.Below = Below

-- the value of an expression; what condition 12 turns away faults above
abbrev pub value_taken : {A : Type 0} → Option (Result A Side) → Result A Untaken
value_taken (Some (Ok a)) = Ok a
value_taken (Some (Err Sides.Above)) = Err Code.Above
value_taken (Some (Err Sides.Below)) = Err Code.Below
value_taken None = Err Code.Above

-- something done, d where it is
abbrev pub told_done : Verdict → Result (Unit {0}) Untaken → Verdict
told_done d (Ok u) = d
told_done d (Err why) = untaken why

-- a step after which the event goes on
abbrev pub told_step : Result (Unit {0}) Untaken → Verdict
told_step r = told_done Stay r

-- a truth: y where it is true, n where it is false
abbrev pub told_truth : Verdict → Verdict → Result Bool Untaken → Verdict
told_truth y n (Ok true) = y
told_truth y n (Ok false) = n
told_truth y n (Err why) = untaken why

-- what the picked node n does: it moves on an outcome
abbrev pub told_pick : ℕ → Result Bool Untaken → Verdict
told_pick n r = told_truth (Move n true) (Move n false) r

-- an event: taken with nobody's move or with a node's
abbrev pub told : Result (Option Mover) Untaken → Verdict
told (Ok None) = Stay
told (Ok (Some m)) = Move m.node m.outcome
told (Err why) = untaken why
