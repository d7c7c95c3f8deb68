use Rattle.plant.proofs.equations.+put_rates.Given as goal

abbrev pub decreases-put_rates : goal.decreases-put_rates
decreases-put_rates l = l.n
