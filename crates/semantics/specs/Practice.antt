-- Document 02, item 1: practice events from a seed.
-- "A generator takes a 32-bit seed and a count up to 10,000 and writes that many events."
use Rattle.std.specs.Prelude.{cond, ℕ, zero, suc, ◌+◌, ◌*◌, ◌/◌, ◌%◌, ◌^◌, length, leb, eqb}
use mathlib.Core.List.{List, [], ◌∷◌, flat_map}
use Rattle.semantics.specs.Bytes.{within, overwrite}
use Rattle.semantics.specs.Editions.{edition1}
use Rattle.semantics.specs.Events.{Event, tick, pick, take_switch, senseless}
use Rattle.semantics.specs.Refusals.{Judged, refused, accepted, ◌>>◌, ensure}

-- "Each draw replaces the seed by 1664525 times the seed plus 1013904223, modulo 4294967296."
unfoldable pub next_seed : ℕ → ℕ
next_seed seed = (1664525 * seed + 1013904223) % 4294967296

-- so many bits of a number, from this bit on
abbrev pub bits : (lowest many : ℕ) → ℕ → ℕ
bits lowest many n = n / 2 ^ lowest % 2 ^ many

-- "One draw makes one event: the new seed's top two bits 0 give a tick, 1 or 2 a pick, 3 a switch.
-- The next six bits are the node, or three bits selector and three bits switch."
unfoldable pub event_of_seed : ℕ → Event
event_of_seed seed =
    cond (eqb (bits 30 2 seed) 0) tick
    (cond (within 1 2 (bits 30 2 seed)) (pick (bits 24 6 seed))
    (take_switch (bits 27 3 seed) (bits 24 3 seed)))

-- "0,0,0 tick; 1,n,0 pick node n; 2,s,k take switch k .. of selector s's current mode"
unfoldable pub bytes_of_event : Event → List ℕ
bytes_of_event tick = 0 ∷ 0 ∷ 0 ∷ []
bytes_of_event (pick n) = 1 ∷ n ∷ 0 ∷ []
bytes_of_event (take_switch s k) = 2 ∷ s ∷ k ∷ []
-- no draw gives it: bytes of no known kind
bytes_of_event senseless = 3 ∷ 0 ∷ 0 ∷ []

-- the events of so many draws
unfoldable pub drawn : ℕ → ℕ → List Event
drawn seed zero = []
drawn seed (suc n) = event_of_seed (next_seed seed) ∷ drawn (next_seed seed) n

-- "writes that many events": their bytes, one event after the other
unfoldable pub practice_list : ℕ → ℕ → List ℕ
practice_list seed count = flat_map bytes_of_event (drawn seed count)

-- ---- the call: all that it returns, and what the lent buffer holds afterwards
pub record Practised : Type 0 where
  pub refusal : ℕ
  -- in bytes
  pub written : ℕ
  pub events : List ℕ

-- "a count up to 10,000"
abbrev pub practice_limit : ℕ
practice_limit = 10000

-- "It refuses with 32 a count above 10,000, and then with 33 a buffer under 3 times the count."
unfoldable pub judge_practice : ℕ → ℕ → List ℕ → Judged (List ℕ)
judge_practice seed count buffer = do
  ensure 32 (leb count practice_limit)
  ensure 33 (leb (edition1.event_bytes * count) (length buffer))
  accepted (practice_list seed count)

-- a refused call writes nothing; any other writes the list at the front of its buffer
unfoldable pub practised_into : List ℕ → Judged (List ℕ) → Practised
practised_into buffer (refused n) = record { refusal = n; written = 0; events = buffer }
practised_into buffer (accepted l) = record { refusal = 0; written = length l; events = overwrite l buffer }

unfoldable pub practice : ℕ → ℕ → List ℕ → Practised
practice seed count buffer = practised_into buffer (judge_practice seed count buffer)
