-- Papers of document 01 that a table or an expression settles.
use mathlib.Core.Path.{◌≡◌, refl}
use mathlib.Core.Bool.{true, false}
use mathlib.Core.List.{List, [], ◌∷◌, ◌++◌}
use lib.ListN.{replicate}
use lib.IntN.{ℤ, pos, negsuc}
use Rattle.semantics.specs.Editions.{edition1}
use Rattle.semantics.specs.Expressions.{constant, negation, Truth, connect, either, always, Side, ok, fault, above, operands, value_of, holds, value_of_number, value_of_truth}
use Rattle.semantics.specs.Calls.{table_run_of}
use Rattle.semantics.proofs.Computes.{semantics}
use Rattle.semantics.specs.K1.{k1_table, start_with, k2_events, k2_records, k3_events, k3_records, k4_events, k4_records}

-- K2 by the table: a buffer of just 8 records and 2 bytes more, which stay
pub K2-table : table_run_of edition1 k1_table (start_with 0) k2_events (replicate 104 0 ++ (7 ∷ 8 ∷ []))
    ≡ record { refusal = 0; counts = record { taken = 4; turned_away = 4; faulted = 0 }; records = k2_records (7 ∷ 8 ∷ []) }
unfolding semantics k1_table k2_events k2_records
K2-table = refl

-- K3 by the table
pub K3-table : table_run_of edition1 k1_table (start_with 10) k3_events (replicate 26 0)
    ≡ record { refusal = 0; counts = record { taken = 0; turned_away = 1; faulted = 1 }; records = k3_records [] }
unfolding semantics k1_table k3_events k3_records
K3-table = refl

-- K4 by the table
pub K4-table : table_run_of edition1 k1_table (start_with 9) k4_events (replicate 26 0)
    ≡ record { refusal = 0; counts = record { taken = 2; turned_away = 0; faulted = 0 }; records = k4_records [] }
unfolding semantics k1_table k4_events k4_records
K4-table = refl

-- K9: "Negating −2147483648 faults; true or a fault faults."
pub K9-negation : (vs : List ℤ) → value_of vs (negation (constant (negsuc 2147483647))) ≡ fault above
unfolding semantics
K9-negation vs = refl

pub K9-bytes : value_of_number edition1 [] (0x14 ∷ 0x01 ∷ 0x80 ∷ 0 ∷ 0 ∷ 0 ∷ []) ≡ fault above
unfolding semantics
K9-bytes = refl

-- true or a fault faults, whatever faults
pub K9-or : (vs : List ℤ) (t : Truth) (side : Side) → holds vs t ≡ fault side → holds vs (connect either always t) ≡ fault side
unfolding holds operands
K9-or vs t side h = rw h refl

pub K9-or-bytes : value_of_truth edition1 [] (0x29 ∷ 0x2f ∷ 0x20 ∷ 0x14 ∷ 0x01 ∷ 0x80 ∷ 0 ∷ 0 ∷ 0 ∷ 0x01 ∷ 0 ∷ 0 ∷ 0 ∷ 0 ∷ []) ≡ fault above
unfolding semantics
K9-or-bytes = refl

-- each code by its bytes, with 7 and −3 as the values of the variables
pub number-codes : (let value = value_of_number edition1 (pos 7 ∷ negsuc 2 ∷ []) in
    (value (0x01 ∷ 0xff ∷ 0xff ∷ 0xff ∷ 0xfe ∷ []) ≡ ok (negsuc 1)) × (value (0x02 ∷ 1 ∷ []) ≡ ok (negsuc 2)) × (value (0x10 ∷ 0x02 ∷ 0 ∷ 0x02 ∷ 1 ∷ []) ≡ ok (pos 4))
    × (value (0x11 ∷ 0x02 ∷ 0 ∷ 0x02 ∷ 1 ∷ []) ≡ ok (pos 10)) × (value (0x12 ∷ 0x02 ∷ 0 ∷ 0x02 ∷ 1 ∷ []) ≡ ok (negsuc 20)) × (value (0x14 ∷ 0x02 ∷ 0 ∷ []) ≡ ok (negsuc 6)))
unfolding semantics
number-codes = (refl, refl, refl, refl, refl, refl)

pub comparison-codes : (let holding = value_of_truth edition1 (pos 7 ∷ negsuc 2 ∷ []) in
    (holding (0x20 ∷ 0x02 ∷ 0 ∷ 0x02 ∷ 0 ∷ []) ≡ ok true) × (holding (0x20 ∷ 0x02 ∷ 0 ∷ 0x02 ∷ 1 ∷ []) ≡ ok false)
    × (holding (0x21 ∷ 0x02 ∷ 0 ∷ 0x02 ∷ 0 ∷ []) ≡ ok false) × (holding (0x21 ∷ 0x02 ∷ 1 ∷ 0x02 ∷ 0 ∷ []) ≡ ok true)
    × (holding (0x22 ∷ 0x02 ∷ 0 ∷ 0x02 ∷ 0 ∷ []) ≡ ok true) × (holding (0x22 ∷ 0x02 ∷ 0 ∷ 0x02 ∷ 1 ∷ []) ≡ ok false)
    × (holding (0x23 ∷ 0x02 ∷ 0 ∷ 0x02 ∷ 0 ∷ []) ≡ ok false) × (holding (0x23 ∷ 0x02 ∷ 0 ∷ 0x02 ∷ 1 ∷ []) ≡ ok true))
unfolding semantics
comparison-codes = (refl, refl, refl, refl, refl, refl, refl, refl)

pub connective-codes : (let holding = value_of_truth edition1 [] in
    (holding (0x2f ∷ []) ≡ ok true) × (holding (0x2a ∷ 0x2f ∷ []) ≡ ok false)
    × (holding (0x28 ∷ 0x2f ∷ 0x2f ∷ []) ≡ ok true) × (holding (0x28 ∷ 0x2f ∷ 0x2a ∷ 0x2f ∷ []) ≡ ok false)
    × (holding (0x29 ∷ 0x2f ∷ 0x2a ∷ 0x2f ∷ []) ≡ ok true) × (holding (0x29 ∷ 0x2a ∷ 0x2f ∷ 0x2a ∷ 0x2f ∷ []) ≡ ok false))
unfolding semantics
connective-codes = (refl, refl, refl, refl, refl, refl)
