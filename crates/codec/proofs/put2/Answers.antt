use mathlib.Core.Path.{◌∙◌}
use native.Mathlib.Omega.{arith}
use Rattle.codec.proofs.Words.{to-two}
use Rattle.codec.proofs.Writing.{wrote_as}
use Rattle.codec.proofs.put2.Goals as goal

pub returns : goal.returns
returns c = let p = c.put_slice.ensures in
    (omega arith, wrote_as (c.to_be_bytes.ensures ∙ to-two _ c.requires.1) p.1)
