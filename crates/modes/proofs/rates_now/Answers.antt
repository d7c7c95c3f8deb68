use Rattle.modes.proofs.Rates.{laid-in-force}
use Rattle.modes.proofs.rates_now.Goals as goal

pub returns : goal.returns
returns c = laid-in-force c.steady-rates.ensures c.lay_all.ensures
