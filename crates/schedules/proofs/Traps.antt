-- Negative papers: for each trap that document 01 names, a small run that tells the right rule from the wrong one.
use mathlib.Core.Path.{◌≡◌, refl}
use mathlib.Core.List.{[], ◌∷◌}
use lib.ListN.{replicate}
use Rattle.semantics.specs.Editions.{edition1}
use Rattle.semantics.specs.K1.{start_with, one_record}
use Rattle.schedules.specs.Calls.{compile, rule_run_of}
use Rattle.schedules.proofs.Computes.{schedules}
use Rattle.schedules.specs.Examples.{one_wait_file, stop_wait_file, two_rates_file, two_rates_file_2, while_file, stop_reset_file, stop_reset_table, faulty_check_file, fault_first_file, truth_first_file, truth_listed_file, fault_listed_file}

-- "or" that skips its right side would answer 201: the pick of CONTINUE UNTIL (true or a fault) faults
pub or-evaluates-both : rule_run_of edition1 one_wait_file (start_with 0) (1 ∷ 0 ∷ 0 ∷ []) (replicate 13 9)
    ≡ record { refusal = 0; counts = record { taken = 0; turned_away = 0; faulted = 1 }; records = one_record 203 0 0 [] }
unfolding schedules one_wait_file
or-evaluates-both = refl

-- a STOP that ends one branch would leave the CONTINUE to act: after the STOP no node acts, and the next pick is 23
pub stop-ends-all : rule_run_of edition1 stop_wait_file (start_with 0) (1 ∷ 1 ∷ 0 ∷ 1 ∷ 2 ∷ 0 ∷ []) (replicate 26 9)
    ≡ record { refusal = 0; counts = record { taken = 1; turned_away = 1; faulted = 0 }; records = one_record 202 0 0 (one_record 23 0 0 []) }
unfolding schedules stop_wait_file
stop-ends-all = refl

-- a tick that adds rates one variable at a time past a fault would leave 1 in the variable that stays in its range
pub tick-adds-all-or-none : rule_run_of edition1 two_rates_file (replicate 8 0) (0 ∷ 0 ∷ 0 ∷ []) (replicate 17 9)
    ≡ record { refusal = 0; counts = record { taken = 0; turned_away = 0; faulted = 1 }; records = one_record 203 0 0 (replicate 4 0) }
unfolding schedules two_rates_file
tick-adds-all-or-none = refl

pub tick-adds-all-or-none-2 : rule_run_of edition1 two_rates_file_2 (replicate 8 0) (0 ∷ 0 ∷ 0 ∷ []) (replicate 17 9)
    ≡ record { refusal = 0; counts = record { taken = 0; turned_away = 0; faulted = 1 }; records = one_record 203 0 0 (replicate 4 0) }
unfolding schedules two_rates_file_2
tick-adds-all-or-none-2 = refl

-- a WHILE that starts its body's first move itself would set 7 at once: picking it makes the RESET act, and the RESET's own pick sets 7
pub while-starts-nothing : rule_run_of edition1 while_file (start_with 0) (1 ∷ 0 ∷ 0 ∷ 1 ∷ 1 ∷ 0 ∷ []) (replicate 26 9)
    ≡ record { refusal = 0; counts = record { taken = 2; turned_away = 0; faulted = 0 }; records = one_record 200 2 0 (one_record 200 1 7 []) }
unfolding schedules while_file
while-starts-nothing = refl

-- "per node of kinds 3..9, reached or not": the RESET after a STOP has its action, and no location
pub unreached-action : compile edition1 stop_reset_file (replicate 50 9) ≡ record { refusal = 0; written = 50; comparisons = 0; table = stop_reset_table }
unfolding schedules stop_reset_file stop_reset_table
unreached-action = refl

-- "a fault in the switch check is 203 before 29 or 31 is looked at": a pick of the CONTINUE that is false, and a tick while the other is true
pub check-faults-before-29 : rule_run_of edition1 faulty_check_file (replicate 5 0) (1 ∷ 1 ∷ 0 ∷ []) (replicate 14 9)
    ≡ record { refusal = 0; counts = record { taken = 0; turned_away = 0; faulted = 1 }; records = one_record 203 0 0 (0 ∷ []) }
unfolding schedules faulty_check_file
check-faults-before-29 = refl

pub check-faults-before-31 : rule_run_of edition1 faulty_check_file (replicate 5 0) (0 ∷ 0 ∷ 0 ∷ []) (replicate 14 9)
    ≡ record { refusal = 0; counts = record { taken = 0; turned_away = 0; faulted = 1 }; records = one_record 203 0 0 (0 ∷ []) }
unfolding schedules faulty_check_file
check-faults-before-31 = refl

-- "selectors rising": a check that takes selector 1 first would answer 28 to the first pick, and 203 once the CASEs are changed over
pub lower-selector-faults : rule_run_of edition1 fault_first_file (replicate 6 0) (1 ∷ 0 ∷ 0 ∷ 0 ∷ 0 ∷ 0 ∷ []) (replicate 30 9)
    ≡ record { refusal = 0; counts = record { taken = 0; turned_away = 1; faulted = 1 }; records = one_record 203 0 0 (0 ∷ 0 ∷ one_record 23 0 0 (0 ∷ 0 ∷ [])) }
unfolding schedules fault_first_file
lower-selector-faults = refl

pub lower-selector-true : rule_run_of edition1 truth_first_file (replicate 6 0) (1 ∷ 0 ∷ 0 ∷ 0 ∷ 0 ∷ 0 ∷ []) (replicate 30 9)
    ≡ record { refusal = 0; counts = record { taken = 0; turned_away = 2; faulted = 0 }; records = one_record 28 1 0 (0 ∷ 0 ∷ one_record 28 1 0 (0 ∷ 0 ∷ [])) }
unfolding schedules truth_first_file
lower-selector-true = refl

-- "each mode's as listed": a check that takes the last switch first would answer 203 to the first pick, and 28 once the switches are changed over
pub first-listed-true : rule_run_of edition1 truth_listed_file (replicate 5 0) (1 ∷ 0 ∷ 0 ∷ 0 ∷ 0 ∷ 0 ∷ []) (replicate 28 9)
    ≡ record { refusal = 0; counts = record { taken = 0; turned_away = 2; faulted = 0 }; records = one_record 28 1 0 (0 ∷ one_record 28 1 0 (0 ∷ [])) }
unfolding schedules truth_listed_file
first-listed-true = refl

pub first-listed-faults : rule_run_of edition1 fault_listed_file (replicate 5 0) (1 ∷ 0 ∷ 0 ∷ 0 ∷ 0 ∷ 0 ∷ []) (replicate 28 9)
    ≡ record { refusal = 0; counts = record { taken = 0; turned_away = 1; faulted = 1 }; records = one_record 203 0 0 (0 ∷ one_record 23 0 0 (0 ∷ [])) }
unfolding schedules fault_listed_file
first-listed-faults = refl
