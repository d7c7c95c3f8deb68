use mathlib.Core.Path.{◌∙◌}
use native.Mathlib.Omega.{arith}
use Rattle.codec.proofs.Words.{signed-bytes}
use Rattle.codec.proofs.Writing.{wrote_as}
use Rattle.codec.proofs.put_signed.Goals as goal

pub returns : goal.returns
returns c = let p = c.put_slice.ensures in
    (omega arith, wrote_as (c.to_be_bytes.ensures ∙ signed-bytes _ c.ranges.z) p.1)
