-- Fewer than four bytes are left, or they are there and their number fits 32 bits.
use native.Mathlib.Omega.{arith}
use mir.Syntax.{w32}
use mir.Val.{SFits}
use mir.ValLaws.{to_z-of_z}
use Rattle.expression.proofs.Steps.{constant-there, constant-cut}
use Rattle.expression.proofs.constant.Goals as goal

pub returns-then-s-at-lt4 : goal.returns-then-s-at-lt4
returns-then-s-at-lt4 c ed vs = constant-cut ed vs c.args.s.now c.args.at c.requires (omega arith)

pub returns : goal.returns
returns c ed vs = let f : SFits w32 c.int4.result = record { sfits = c.int4.type_inv } in
    rw (to_z-of_z w32 c.int4.result f) (constant-there ed vs c.args.s.now c.args.at (omega arith) c.int4.ensures f)
