-- K1's bytes, node 1 of kind 7 as document 02, item 3, has it, and the event lists of K2, K3 and K4.
use Rattle.std.specs.Prelude.{List, [], ◌∷◌, ℕ}

-- 01 0038 | 000D 01 00000000 0000000A 00000000 | 0009 01 0006 01 00 00000001 | 0019 03 020102 0A0700100200 0100000001 0905200100000003 0200
unfoldable pub k1_file : List ℕ
k1_file =
    0x01 ∷ 0x00 ∷ 0x38 ∷
    0x00 ∷ 0x0D ∷ 0x01 ∷ 0 ∷ 0 ∷ 0 ∷ 0 ∷ 0 ∷ 0 ∷ 0 ∷ 0x0A ∷ 0 ∷ 0 ∷ 0 ∷ 0 ∷
    0x00 ∷ 0x09 ∷ 0x01 ∷ 0x00 ∷ 0x06 ∷ 0x01 ∷ 0x00 ∷ 0 ∷ 0 ∷ 0 ∷ 0x01 ∷
    0x00 ∷ 0x19 ∷ 0x03 ∷ 0x02 ∷ 0x01 ∷ 0x02 ∷ 0x0A ∷ 0x07 ∷ 0x00 ∷ 0x10 ∷ 0x02 ∷ 0x00 ∷ 0x01 ∷ 0 ∷ 0 ∷ 0 ∷ 0x01 ∷
    0x09 ∷ 0x05 ∷ 0x20 ∷ 0x01 ∷ 0 ∷ 0 ∷ 0 ∷ 0x03 ∷ 0x02 ∷ 0x00 ∷ []

-- 01 0000004B | the same first two sections | 0018 02 0B0103001002000100000001 0A02022001000000030200 | 0000000E 0002 01 01 0001 FFFF 01 02 FFFE FFFF
unfoldable pub k1_table : List ℕ
k1_table =
    0x01 ∷ 0x00 ∷ 0x00 ∷ 0x00 ∷ 0x4B ∷
    0x00 ∷ 0x0D ∷ 0x01 ∷ 0 ∷ 0 ∷ 0 ∷ 0 ∷ 0 ∷ 0 ∷ 0 ∷ 0x0A ∷ 0 ∷ 0 ∷ 0 ∷ 0 ∷
    0x00 ∷ 0x09 ∷ 0x01 ∷ 0x00 ∷ 0x06 ∷ 0x01 ∷ 0x00 ∷ 0 ∷ 0 ∷ 0 ∷ 0x01 ∷
    0x00 ∷ 0x18 ∷ 0x02 ∷ 0x0B ∷ 0x01 ∷ 0x03 ∷ 0x00 ∷ 0x10 ∷ 0x02 ∷ 0x00 ∷ 0x01 ∷ 0 ∷ 0 ∷ 0 ∷ 0x01 ∷
    0x0A ∷ 0x02 ∷ 0x02 ∷ 0x20 ∷ 0x01 ∷ 0 ∷ 0 ∷ 0 ∷ 0x03 ∷ 0x02 ∷ 0x00 ∷
    0x00 ∷ 0x00 ∷ 0x00 ∷ 0x0E ∷ 0x00 ∷ 0x02 ∷ 0x01 ∷ 0x01 ∷ 0x00 ∷ 0x01 ∷ 0xFF ∷ 0xFF ∷ 0x01 ∷ 0x02 ∷ 0xFF ∷ 0xFE ∷ 0xFF ∷ 0xFF ∷ []

-- one starting value, below 256
abbrev pub start_with : ℕ → List ℕ
start_with z = 0 ∷ 0 ∷ 0 ∷ z ∷ []

-- tick, pick 1, pick 2, tick, tick, tick, pick 2, tick
unfoldable pub k2_events : List ℕ
k2_events = 0 ∷ 0 ∷ 0 ∷ 1 ∷ 1 ∷ 0 ∷ 1 ∷ 2 ∷ 0 ∷ 0 ∷ 0 ∷ 0 ∷ 0 ∷ 0 ∷ 0 ∷ 0 ∷ 0 ∷ 0 ∷ 1 ∷ 2 ∷ 0 ∷ 0 ∷ 0 ∷ 0 ∷ []

-- pick 1, tick
unfoldable pub k3_events : List ℕ
k3_events = 1 ∷ 1 ∷ 0 ∷ 0 ∷ 0 ∷ 0 ∷ []

-- pick 1, pick 2
unfoldable pub k4_events : List ℕ
k4_events = 1 ∷ 1 ∷ 0 ∷ 1 ∷ 2 ∷ 0 ∷ []

-- a record of one variable below 256 and no CASE, nodes below 8
abbrev pub one_record : ℕ → ℕ → ℕ → List ℕ → List ℕ
one_record answer acting value l = answer ∷ 0 ∷ 0 ∷ 0 ∷ 0 ∷ 0 ∷ 0 ∷ 0 ∷ acting ∷ 0 ∷ 0 ∷ 0 ∷ value ∷ l

-- "tick 27, pick 1 200, pick 2 29, tick 200, tick 200, tick 31, pick 2 201, tick 23"
unfoldable pub k2_records : List ℕ → List ℕ
k2_records l =
    one_record 27 2 0 (one_record 200 4 1 (one_record 29 4 1 (one_record 200 4 2
    (one_record 200 4 3 (one_record 31 4 3 (one_record 201 0 3 (one_record 23 0 3 l)))))))

-- "pick 1 203, value 10; tick 23"
unfoldable pub k3_records : List ℕ → List ℕ
k3_records l = one_record 203 0 10 (one_record 23 0 10 l)

-- "pick 1 200, pick 2 201"
unfoldable pub k4_records : List ℕ → List ℕ
k4_records l = one_record 200 4 10 (one_record 201 0 10 l)
