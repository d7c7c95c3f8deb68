use native.Mathlib.Omega.{arith}
use Rattle.program.proofs.Stores.{copied}
use Rattle.program.proofs.fill.put_ranges.Goals as goal

pub returns : goal.returns
returns c = copied _ _ _ _ (omega arith) (omega arith) c.copy_from_slice.ensures.after
