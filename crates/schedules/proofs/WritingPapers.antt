-- Papers of the written forms: K1's bytes and those of the CASE paper are what the writers give; two CASEs make a file, and a start may stand in any mode.
use mathlib.Core.Path.{◌≡◌, refl}
use mathlib.Core.Bool.{false}
use mathlib.Core.List.{[], ◌∷◌}
use mathlib.Core.Option.{some}
use Prim.Native.Nat.{ℕ}
use lib.IntN.{pos, negsuc}
use Rattle.semantics.specs.Editions.{edition1}
use Rattle.semantics.specs.Expressions.{constant, variable, operate, Truth, compare, difference, less, equal, number_bytes, truth_bytes}
use Rattle.semantics.specs.Sections.{Rate, Switch, Mode, Equation, choice}
use Rattle.semantics.specs.Plant.{Plant}
use Rattle.semantics.specs.Run.{assign, wait}
use Rattle.semantics.specs.Writing.{write_table, start_bytes}
use Rattle.semantics.specs.Conditions.{given, is20}
use Rattle.semantics.specs.K1.{k1_file, k1_table}
use Rattle.schedules.specs.Nodes.{sequence, if_else, continue_until, reinitial, switch_to, stop_all}
use Rattle.schedules.specs.Calls.{read_schedule}
use Rattle.schedules.specs.Writing.{write_file}
use Rattle.schedules.specs.Examples.{case_file}
use Rattle.schedules.specs.AssignmentExamples.{k1_plant, one_further, three_reached, k1_nodes}
use Rattle.schedules.proofs.Computes.{schedules}

-- ---- K1
pub k1-file-written : k1_file ≡ write_file edition1 k1_plant k1_nodes
unfolding schedules k1_file
k1-file-written = refl

pub k1-table-written : k1_table ≡ write_table edition1 (record {
  plant = k1_plant;
  actions = record { node = 1; action = assign 0 one_further } ∷ record { node = 2; action = wait three_reached } ∷ [];
  locations = (record { node = 1; target = 1; other = 0xffff } ∷ []) ∷ (record { node = 2; target = 0xfffe; other = 0xffff } ∷ []) ∷ [];
})
unfolding schedules k1_table
k1-table-written = refl

-- ---- the CASE paper
abbrev switch_where : ℕ → Truth → Switch
switch_where m t = record { target = m; truth = truth_bytes edition1 t }

abbrev case_plant : Plant
case_plant = record {
  variables = record { minimum = pos 0; maximum = pos 100; initial = pos 0 } ∷ record { minimum = negsuc 49; maximum = pos 50; initial = pos 0 } ∷ [];
  equations = choice (record {
    initial = 0;
    modes =
        record { rates = record { driven = 0; rate = pos 1 } ∷ []; switches = switch_where 1 (compare equal (variable 0) (constant (pos 2))) ∷ [] } ∷
        record { rates = record { driven = 1; rate = negsuc 0 } ∷ []; switches = switch_where 2 (compare less (variable 1) (constant (pos 0))) ∷ [] } ∷
        record { rates = record { driven = 0; rate = pos 1 } ∷ []; switches = [] } ∷ [];
  }) ∷ [];
}

pub case-file-written : case_file ≡ write_file edition1 case_plant (
    sequence 3 ∷ continue_until three_reached ∷
    reinitial 1 (number_bytes edition1 (operate difference (constant (pos 3)) (constant (pos 10)))) ∷
    if_else (truth_bytes edition1 (compare less (variable 1) (constant (pos 0)))) ∷ switch_to 0 1 ∷ stop_all ∷ [])
unfolding schedules case_file
case-file-written = refl

-- ---- two CASEs of two modes
abbrev no_switch : Rate → Mode
no_switch r = record { rates = r ∷ []; switches = [] }

abbrev two_modes : ℕ → Equation
two_modes v = choice (record { initial = 0; modes = no_switch (record { driven = v; rate = pos 1 }) ∷ no_switch (record { driven = v; rate = pos 2 }) ∷ [] })

abbrev two_plant : Plant
two_plant = record {
  variables = record { minimum = pos 0; maximum = pos 10; initial = pos 0 } ∷ record { minimum = pos 0; maximum = pos 10; initial = pos 0 } ∷ [];
  equations = two_modes 0 ∷ two_modes 1 ∷ [];
}

pub two-cases-read : read_schedule edition1 (write_file edition1 two_plant (stop_all ∷ [])) ≡ record { refusal = 0; variables = 2; selectors = 2; nodes = 1 }
unfolding schedules
two-cases-read = refl

-- values 3 and 10, modes 1 and 0: not the initial ones
pub two-cases-start : is20 edition1 (some two_plant) (start_bytes (record { values = pos 3 ∷ pos 10 ∷ []; modes = 1 ∷ 0 ∷ [] })) [] [] ≡ false
unfolding schedules is20 given
two-cases-start = refl
