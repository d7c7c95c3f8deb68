-- Document 01's number for each case of what is read of the equations: 6 where the layout is broken, 7 where a name is missing, 0 else.
use Rattle.std.specs.Prelude.{Bool, true, false, ℕ, Option, Some, None}
use Rattle.plant.specs.declared.equations.Step.{Step}

unfoldable pub paper_named : Bool → ℕ
paper_named true = 0
paper_named false = 7

unfoldable pub paper_step : Option Step → ℕ
paper_step (Some w) = paper_named w.named
paper_step None = 6

unfoldable pub paper_seen : Option Bool → ℕ
paper_seen (Some named) = paper_named named
paper_seen None = 6
