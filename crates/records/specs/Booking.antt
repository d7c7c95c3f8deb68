-- The counts of a run.
use Rattle.std.specs.Prelude.{◌+◌, ◌^◌, ◌<◌}
use Rattle.records.specs.declared.Counts.{Counts}

-- each count may be one more
pub record Room (c : Counts) : Type 0 where
  pub taken : c.taken + 1 < 2 ^ 64
  pub turned_away : c.turned_away + 1 < 2 ^ 64
  pub faulted : c.faulted + 1 < 2 ^ 64
