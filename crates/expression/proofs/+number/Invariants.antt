use Rattle.expression.proofs.+number.Given as goal

-- the depth that is left
abbrev pub decreases-number : goal.decreases-number
decreases-number l = l.depth
