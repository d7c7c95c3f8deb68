use Rattle.showtable.proofs.formula.+form.Given as goal

abbrev pub decreases-form : goal.decreases-form
decreases-form g l = l.levels
