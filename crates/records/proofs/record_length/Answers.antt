use native.Mathlib.Omega.{arith}
use Rattle.edition.proofs.Widths.{few-set-bytes}
use Rattle.records.proofs.record_length.Goals as goal

pub overflow_add-result : goal.overflow_add-result
overflow_add-result c = omega (arith, c.set_bytes.ensures, few-set-bytes c.args.ed)

pub overflow_add-result-2 : goal.overflow_add-result-2
overflow_add-result-2 c = omega (arith, c.set_bytes.ensures, few-set-bytes c.args.ed)

pub overflow_add-result-3 : goal.overflow_add-result-3
overflow_add-result-3 c = omega (arith, c.set_bytes.ensures, few-set-bytes c.args.ed)
