-- Papers of edition 2 that a schedule settles.
use mathlib.Core.Path.{◌≡◌, refl}
use mathlib.Core.List.{List, [], ◌∷◌, ◌++◌, flat_map}
use mathlib.Core.Option.{none, some}
use Prim.Native.Nat.{ℕ}
use lib.ListN.{replicate}
use Rattle.semantics.specs.Editions.{edition2, edition_in}
use Rattle.semantics.specs.K1.{start_with}
use Rattle.semantics.specs.SeniorK1.{senior_file, senior_table, senior_events, senior_records}
use Rattle.schedules.specs.Nodes.{stop_all, nodes_in}
use Rattle.schedules.specs.Calls.{rule_run_of, compile}
use Rattle.schedules.proofs.Computes.{schedules}

-- K1: the table's 82 bytes, and the bytes of the buffer after them as they were
pub K1 : compile (edition_in senior_file) senior_file (replicate 82 0 ++ (7 ∷ 8 ∷ [])) ≡ record { refusal = 0; written = 82; comparisons = 1; table = senior_table ++ (7 ∷ 8 ∷ []) }
unfolding schedules edition_in senior_file senior_table
K1 = refl

-- K2 by the rules
pub K2-rules : rule_run_of (edition_in senior_file) senior_file (start_with 0) senior_events (replicate 296 0 ++ (7 ∷ 8 ∷ []))
    ≡ record { refusal = 0; counts = record { taken = 4; turned_away = 4; faulted = 0 }; records = senior_records (7 ∷ 8 ∷ []) }
unfolding schedules edition_in senior_file senior_events senior_records
K2-rules = refl

-- a node count of 257, and none, whatever follows
pub count-257 : (rest : List ℕ) → nodes_in edition2 (1 ∷ 1 ∷ rest) ≡ none
unfolding schedules
count-257 rest = refl

pub count-0 : (rest : List ℕ) → nodes_in edition2 (0 ∷ 0 ∷ rest) ≡ none
unfolding schedules
count-0 rest = refl

-- of one node, a length of 257: its low byte alone would fit
pub length-257 : (rest : List ℕ) → nodes_in edition2 (0 ∷ 1 ∷ 1 ∷ 1 ∷ rest) ≡ none
unfolding schedules
length-257 rest = refl

-- 256 nodes, each a STOP: read as they are
pub count-256 : nodes_in edition2 (1 ∷ 0 ∷ flat_map (λ (n : ℕ). 0 ∷ 1 ∷ 9 ∷ []) (replicate 256 0)) ≡ some (replicate 256 stop_all)
unfolding schedules flat_map
count-256 = refl
