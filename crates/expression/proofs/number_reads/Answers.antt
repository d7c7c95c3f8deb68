-- Whether the bytes are a number does not depend on the values: they are evaluated on zeros.
use mathlib.Core.List.{List}
use lib.IntN.{ℤ, pos}
use lib.ListN.{take, replicate}
use lib.Seq.{length-take-le}
use Rattle.expression.proofs.Values.{number-decides}
use Rattle.expression.proofs.number_reads.Goals as goal

abbrev zeros : List ℤ
zeros = replicate 32 (pos 0)

pub returns : goal.returns
returns c ed = number-decides ed (take c.args.variables zeros) c.args.s.now (c.number_value.ensures ed).is (length-take-le c.args.variables zeros c.requires) c.is_some.ensures
