-- A wrong length or a wrong count contradicts `VariablesStand`.
use mathlib.Core.Path.{sym}
use native.Mathlib.Omega.{arith}
use borrow.Author.Tests.{ltb-false}
use Rattle.plant.proofs.VariableSection.{not-counted}
use Rattle.plant.proofs.variables.counted.Goals.{then-n-lt1-via-then-n-lt1, then-n-lt1-via-else-n-lt1+then-n-gt-VARIABLES, then-n-lt1-via-else-n-lt1+else-n-gt-VARIABLES+then-s-n}
use Rattle.plant.proofs.variables.counted.Goals as goal

pub returns-in_err-first : goal.returns-in_err-first
returns-in_err-first c = rw c.from_residual.ensures (not-counted c.args.s.now (λ z. let a = z.size in let l = ltb-false 0 _ (sym c.in_err-first.ensures.item.0) in omega arith))

pub returns-then-n-lt1 : goal.returns-then-n-lt1
returns-then-n-lt1 c = let h = c.in_ok-first.ensures.item.3.1 0 in
    not-counted c.args.s.now (λ z. let l = z.low in let i = z.high in let k = z.size in elim c.then-n-lt1.branch [
      | then-n-lt1-via-then-n-lt1 w ↦ omega arith
      | then-n-lt1-via-else-n-lt1+then-n-gt-VARIABLES w ↦ omega arith
      | then-n-lt1-via-else-n-lt1+else-n-gt-VARIABLES+then-s-n w ↦ omega arith
    ])
