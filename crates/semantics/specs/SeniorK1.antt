-- K1's bytes in edition 2, and K2's events and records: node counts, lengths and numbers of two bytes, events of four, sets of 32.
use Rattle.std.specs.Prelude.{List, [], ◌∷◌, ◌++◌, ℕ, replicate}

-- 02 003C | 000D 01 00000000 0000000A 00000000 | 0009 01 0006 01 00 00000001 | 001D 0003 0002 0102 000A 0700100200 0100000001 0009 05200100000003 0200
unfoldable pub senior_file : List ℕ
senior_file =
    0x02 ∷ 0x00 ∷ 0x3C ∷
    0x00 ∷ 0x0D ∷ 0x01 ∷ 0 ∷ 0 ∷ 0 ∷ 0 ∷ 0 ∷ 0 ∷ 0 ∷ 0x0A ∷ 0 ∷ 0 ∷ 0 ∷ 0 ∷
    0x00 ∷ 0x09 ∷ 0x01 ∷ 0x00 ∷ 0x06 ∷ 0x01 ∷ 0x00 ∷ 0 ∷ 0 ∷ 0 ∷ 0x01 ∷
    0x00 ∷ 0x1D ∷ 0x00 ∷ 0x03 ∷ 0x00 ∷ 0x02 ∷ 0x01 ∷ 0x02 ∷ 0x00 ∷ 0x0A ∷ 0x07 ∷ 0x00 ∷ 0x10 ∷ 0x02 ∷ 0x00 ∷ 0x01 ∷ 0 ∷ 0 ∷ 0 ∷ 0x01 ∷
    0x00 ∷ 0x09 ∷ 0x05 ∷ 0x20 ∷ 0x01 ∷ 0 ∷ 0 ∷ 0 ∷ 0x03 ∷ 0x02 ∷ 0x00 ∷ []

-- 02 00000052 | the same first two sections | 001D 0002 000C 0001 03001002000100000001 000B 0002 022001000000030200 | 00000010 0002 01 0001 0001 FFFF 01 0002 FFFE FFFF
unfoldable pub senior_table : List ℕ
senior_table =
    0x02 ∷ 0x00 ∷ 0x00 ∷ 0x00 ∷ 0x52 ∷
    0x00 ∷ 0x0D ∷ 0x01 ∷ 0 ∷ 0 ∷ 0 ∷ 0 ∷ 0 ∷ 0 ∷ 0 ∷ 0x0A ∷ 0 ∷ 0 ∷ 0 ∷ 0 ∷
    0x00 ∷ 0x09 ∷ 0x01 ∷ 0x00 ∷ 0x06 ∷ 0x01 ∷ 0x00 ∷ 0 ∷ 0 ∷ 0 ∷ 0x01 ∷
    0x00 ∷ 0x1D ∷ 0x00 ∷ 0x02 ∷ 0x00 ∷ 0x0C ∷ 0x00 ∷ 0x01 ∷ 0x03 ∷ 0x00 ∷ 0x10 ∷ 0x02 ∷ 0x00 ∷ 0x01 ∷ 0 ∷ 0 ∷ 0 ∷ 0x01 ∷
    0x00 ∷ 0x0B ∷ 0x00 ∷ 0x02 ∷ 0x02 ∷ 0x20 ∷ 0x01 ∷ 0 ∷ 0 ∷ 0 ∷ 0x03 ∷ 0x02 ∷ 0x00 ∷
    0x00 ∷ 0x00 ∷ 0x00 ∷ 0x10 ∷ 0x00 ∷ 0x02 ∷
    0x01 ∷ 0x00 ∷ 0x01 ∷ 0x00 ∷ 0x01 ∷ 0xFF ∷ 0xFF ∷ 0x01 ∷ 0x00 ∷ 0x02 ∷ 0xFF ∷ 0xFE ∷ 0xFF ∷ 0xFF ∷ []

-- tick; pick of a node below 256
abbrev pub senior_tick : List ℕ → List ℕ
senior_tick l = 0 ∷ 0 ∷ 0 ∷ 0 ∷ l

abbrev pub senior_pick : ℕ → List ℕ → List ℕ
senior_pick n l = 1 ∷ 0 ∷ n ∷ 0 ∷ l

-- tick, pick 1, pick 2, tick, tick, tick, pick 2, tick
unfoldable pub senior_events : List ℕ
senior_events = senior_tick (senior_pick 1 (senior_pick 2 (senior_tick (senior_tick (senior_tick (senior_pick 2 (senior_tick [])))))))

-- a record of one variable below 256 and no CASE, nodes below 8: 31 bytes of the set are 0
abbrev pub senior_record : ℕ → ℕ → ℕ → List ℕ → List ℕ
senior_record answer acting value l = answer ∷ (replicate 31 0 ++ (acting ∷ 0 ∷ 0 ∷ 0 ∷ value ∷ l))

-- "tick 27, pick 1 200, pick 2 29, tick 200, tick 200, tick 31, pick 2 201, tick 23"
unfoldable pub senior_records : List ℕ → List ℕ
senior_records l =
    senior_record 27 2 0 (senior_record 200 4 1 (senior_record 29 4 1 (senior_record 200 4 2
    (senior_record 200 4 3 (senior_record 31 4 3 (senior_record 201 0 3 (senior_record 23 0 3 l)))))))
