use mathlib.Core.Path.{refl}
use native.Mathlib.Omega.{arith}
use Rattle.codec.proofs.Writing.{put_one}
use Rattle.codec.proofs.put1.Goals as goal

pub returns : goal.returns
returns c = (refl, record { is = put_one _ _ _ (omega arith) })
