-- K2 to K4 of document 01, three events each.
use mathlib.Core.Path.{◌≡◌, refl}
use mathlib.Core.List.{[]}
use Rattle.semantics.specs.Editions.{edition1}
use Rattle.semantics.specs.K1.{k1_table, start_with}
use Rattle.semantics.specs.Refusals.{refused, accepted}
use Rattle.semantics.proofs.Computes.{semantics}
use Rattle.event.specs.declared.Event.TheVariants.{Tick, Pick}
use Rattle.lookahead.specs.Ahead.{answers_from, three_answers}

-- "tick 27, pick 1 200, pick 2 29"
K2-ahead : three_answers edition1 k1_table (start_with 0) Tick (Pick 1) (Pick 2) ≡ accepted (record { first = 27; second = 200; third = 29 })
unfolding semantics k1_table answers_from three_answers
K2-ahead = refl

-- "pick 1 203 ..; tick 23": 23 once more
K3-ahead : three_answers edition1 k1_table (start_with 10) (Pick 1) Tick Tick ≡ accepted (record { first = 203; second = 23; third = 23 })
unfolding semantics k1_table answers_from three_answers
K3-ahead = refl

-- "pick 1 200, pick 2 201": then the run is over
K4-ahead : three_answers edition1 k1_table (start_with 9) (Pick 1) (Pick 2) Tick ≡ accepted (record { first = 200; second = 201; third = 23 })
unfolding semantics k1_table answers_from three_answers
K4-ahead = refl

-- no table; a value above its maximum
no_table : three_answers edition1 [] (start_with 0) Tick Tick Tick ≡ refused 15
unfolding semantics three_answers
no_table = refl

no_start : three_answers edition1 k1_table (start_with 11) Tick Tick Tick ≡ refused 20
unfolding semantics k1_table three_answers
no_start = refl
