-- "acting nodes rising": the bytes of a table of K5, where two nodes act at location 0, and the lower one's target has the lower number.
use mathlib.Core.Path.{◌≡◌, refl}
use mathlib.Core.List.{[], ◌∷◌, ◌++◌}
use lib.ListN.{replicate}
use Rattle.semantics.specs.Editions.{edition1}
use Rattle.schedules.specs.Examples.{k5_file, k5_table}
use Rattle.schedules.specs.Calls.{compile}
use Rattle.schedules.proofs.Computes.{schedules}

pub K5-table : compile edition1 k5_file (replicate 85 9 ++ (7 ∷ 8 ∷ [])) ≡ record { refusal = 0; written = 85; comparisons = 3; table = k5_table ++ (7 ∷ 8 ∷ []) }
unfolding schedules k5_file k5_table
K5-table = refl
