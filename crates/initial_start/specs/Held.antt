-- A start as the code answers it.
use Rattle.std.specs.Prelude.{List, [], ℕ, cond, leb, length, replicate, take}
use Rattle.semantics.specs.Bytes.{overwrite}
use Rattle.initial_start.specs.declared.Start.{Start}

-- its bytes at the front of 144 zeros: 32 values of 4 bytes and 16 modes have room
unfoldable pub held : List ℕ → Start
held s = record { length = length s; bytes = overwrite s (replicate 144 0) }

-- the bytes that are held
abbrev pub held_bytes : Start → List ℕ
held_bytes x = cond (leb x.length (length x.bytes)) (take x.length x.bytes) []
