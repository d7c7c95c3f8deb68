use Rattle.expression.proofs.+truth.Given as goal

-- the depth that is left
abbrev pub decreases-truth : goal.decreases-truth
decreases-truth l = l.depth
