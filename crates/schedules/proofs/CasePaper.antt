-- A paper of our own that drives what K1 leaves out: a CASE of three modes with rates and switches, a switch event, REINITIAL, a difference, a negative value, an IF and a SWITCH.
use mathlib.Core.Path.{◌≡◌, refl}
use lib.ListN.{replicate}
use Rattle.semantics.specs.Editions.{edition1}
use Rattle.semantics.specs.Calls.{table_run_of}
use Rattle.schedules.specs.Calls.{rule_run_of, compile}
use Rattle.schedules.specs.Examples.{case_file, case_table, case_events, case_records}
use Rattle.schedules.proofs.Computes.{schedules}

pub case-compiled : compile edition1 case_file (replicate 165 0) ≡ record { refusal = 0; written = 165; comparisons = 10; table = case_table }
unfolding schedules case_file case_table
case-compiled = refl

pub case-rules : rule_run_of edition1 case_file (replicate 9 0) case_events (replicate 342 0)
    ≡ record { refusal = 0; counts = record { taken = 10; turned_away = 9; faulted = 0 }; records = case_records }
unfolding schedules case_file case_events case_records
case-rules = refl

pub case-by-table : table_run_of edition1 case_table (replicate 9 0) case_events (replicate 342 0)
    ≡ record { refusal = 0; counts = record { taken = 10; turned_away = 9; faulted = 0 }; records = case_records }
unfolding schedules case_table case_events case_records
case-by-table = refl
