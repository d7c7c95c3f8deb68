use Rattle.std.proofs.Common.{rules}
use native.Mathlib.Omega.{arith}
use Rattle.tree_read.proofs.ChildCounts.{said, count-inside, count-given, no_child-given}
use Rattle.tree_read.proofs.tree.children_of.Goals as goal

pub bounds-s-start : goal.bounds-s-start
bounds-s-start c = count-inside c.requires.1 (omega (arith, c.in-1.is))

pub bounds-s-start-in-2 : goal.bounds-s-start-in-2
bounds-s-start-in-2 c = count-inside c.requires.1 (omega (arith, c.in-2.is))

pub returns-in-1 : goal.returns-in-1
returns-in-1 c = λ x m. count-given m (omega (arith, c.in-1.is))

pub returns-in-2 : goal.returns-in-2
returns-in-2 c = λ x m. count-given m (omega (arith, c.in-2.is))

pub returns-in-3 : goal.returns-in-3
returns-in-3 c = λ x m. (said m).one c.in-3.is

pub returns-in-4 : goal.returns-in-4
returns-in-4 c = λ x m. (said m).two c.in-4.is

pub returns-in_default : goal.returns-in_default
returns-in_default c = λ x m. no_child-given m (search rules) (search rules) (search rules) (search rules)
