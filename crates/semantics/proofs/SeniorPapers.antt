-- Papers of edition 2 that a table, an event or a record settles.
use mathlib.Core.Path.{◌≡◌, refl, ap}
use mathlib.Core.Option.{none, some}
use mathlib.Core.Bool.{Bool, true, false, cond}
use mathlib.Core.List.{List, [], ◌∷◌, ◌++◌}
use Prim.Native.Nat.{ℕ, ◌+◌, ◌*◌}
use borrow.Author.Tests.{ne_eqb}
use lib.Dec.{eqb}
use lib.ListN.{replicate}
use Rattle.semantics.specs.Bytes.{every, big_endian, Read, read, broken, just}
use Rattle.semantics.specs.Editions.{edition2, edition_in}
use Rattle.semantics.specs.Refusals.{refused, accepted}
use Rattle.semantics.specs.Events.{Event, tick, pick, take_switch, senseless, unused, event_in}
use Rattle.semantics.specs.Run.{stop, set_number}
use Rattle.semantics.specs.Tables.{judge_actions, judge_locations}
use Rattle.semantics.specs.Calls.{whole_events, table_run_of}
use Rattle.semantics.specs.K1.{start_with}
use Rattle.semantics.specs.SeniorK1.{senior_table, senior_events, senior_record, senior_records}
use Rattle.semantics.proofs.Facts.{true-not-false}
use Rattle.semantics.proofs.Computes.{semantics}

-- K2 by the table: a buffer of just 8 records and 2 bytes more, which stay
pub K2-table : table_run_of (edition_in senior_table) senior_table (start_with 0) senior_events (replicate 296 0 ++ (7 ∷ 8 ∷ []))
    ≡ record { refusal = 0; counts = record { taken = 4; turned_away = 4; faulted = 0 }; records = senior_records (7 ∷ 8 ∷ []) }
unfolding semantics edition_in senior_table senior_events senior_records
K2-table = refl

-- events of 4 bytes: the middle two are the node's number or the pair
pub senior_tick : event_in edition2 (0 ∷ 0 ∷ 0 ∷ 0 ∷ []) ≡ tick
unfolding semantics
senior_tick = refl

pub senior_pick : (h l : ℕ) → event_in edition2 (1 ∷ h ∷ l ∷ 0 ∷ []) ≡ pick (h * 256 + l)
unfolding semantics
senior_pick h l = refl

pub senior-switch : (s k : ℕ) → event_in edition2 (2 ∷ s ∷ k ∷ 0 ∷ []) ≡ take_switch s k
unfolding semantics
senior-switch s k = refl

-- bytes that must be 0 and are not
not-0 : (e : Event) (x : ℕ) (s : List ℕ) → (x ≡ 0 → ⊥) → unused e (x ∷ s) ≡ broken
unfolding unused every
not-0 e x s h = go (eqb x 0) (ne_eqb x 0 h)
  where
    go : (t : Bool) → t ≡ false → cond {A = Read Event} (elim t [ true ↦ every (λ b. eqb b 0) s | false ↦ false ]) (read e []) broken ≡ broken
    go true z = true-not-false z
    go false z = refl

-- what is read of the bytes after the first
abbrev read_as : Read Event → Event
read_as r = elim (just r) [ none ↦ senseless | some m ↦ m ]

-- the last byte must be 0, and in a tick the middle two as well
pub last_byte : (a b x : ℕ) → (x ≡ 0 → ⊥) → (event_in edition2 (1 ∷ a ∷ b ∷ x ∷ []) ≡ senseless) × (event_in edition2 (2 ∷ a ∷ b ∷ x ∷ []) ≡ senseless)
    × (event_in edition2 (0 ∷ 0 ∷ 0 ∷ x ∷ []) ≡ senseless)
unfolding semantics
last_byte a b x h = (ap read_as (not-0 (pick (a * 256 + b)) x [] h), ap read_as (not-0 (take_switch a b) x [] h), ap read_as (not-0 tick x [] h))

pub tick-middle : (x b c : ℕ) → (x ≡ 0 → ⊥) → (event_in edition2 (0 ∷ x ∷ b ∷ c ∷ []) ≡ senseless) × (event_in edition2 (0 ∷ 0 ∷ x ∷ c ∷ []) ≡ senseless)
unfolding semantics
tick-middle x b c h = (ap read_as (not-0 tick x (b ∷ c ∷ []) h), ap read_as (not-0 tick x (c ∷ []) h))

-- 24 and 25 in a run: the last byte of a pick, a switch and a tick, a tick's middle, and picks of 256 and 257, of which the low bytes name nodes
pub turned_away : table_run_of edition2 senior_table (start_with 0)
    (1 ∷ 0 ∷ 1 ∷ 1 ∷ 2 ∷ 0 ∷ 0 ∷ 1 ∷ 0 ∷ 0 ∷ 0 ∷ 1 ∷ 0 ∷ 1 ∷ 0 ∷ 0 ∷ 1 ∷ 1 ∷ 0 ∷ 0 ∷ 1 ∷ 1 ∷ 1 ∷ 0 ∷ []) (replicate 222 0)
    ≡ record {
      refusal = 0;
      counts = record { taken = 0; turned_away = 6; faulted = 0 };
      records = senior_record 24 2 0 (senior_record 24 2 0 (senior_record 24 2 0 (senior_record 24 2 0 (senior_record 25 2 0 (senior_record 25 2 0 [])))));
    }
unfolding semantics senior_table
turned_away = refl

-- 21 is by 4 bytes: 6 are one event and a half
pub whole-events : (whole_events edition2.event_bytes (replicate 6 0) ≡ false) × (whole_events edition2.event_bytes (replicate 8 0) ≡ true)
unfolding semantics
whole-events = (refl, refl)

-- a set of one node, the highest and the lowest: one number of 32 bytes
pub highest-node : big_endian 32 (set_number (255 ∷ [])) ≡ 0x80 ∷ replicate 31 0
unfolding semantics
highest-node = refl

pub lowest-node : big_endian 32 (set_number (0 ∷ [])) ≡ replicate 31 0 ++ (1 ∷ [])
unfolding semantics
lowest-node = refl

-- of one action, a STOP: of node 255, and of node 256, which is none
pub node-255 : judge_actions edition2 (0 ∷ 1 ∷ 0 ∷ 3 ∷ 0 ∷ 255 ∷ 5 ∷ []) ≡ accepted (record { node = 255; action = stop } ∷ [])
unfolding semantics
node-255 = refl

pub node-256 : judge_actions edition2 (0 ∷ 1 ∷ 0 ∷ 3 ∷ 1 ∷ 0 ∷ 5 ∷ []) ≡ refused 18
unfolding semantics
node-256 = refl

-- its length is at least 3 and at most 202, whatever follows
pub action-lengths : (rest : List ℕ) → (judge_actions edition2 (0 ∷ 1 ∷ 0 ∷ 2 ∷ rest) ≡ refused 18) × (judge_actions edition2 (0 ∷ 1 ∷ 0 ∷ 203 ∷ rest) ≡ refused 18)
    × (judge_actions edition2 (0 ∷ 1 ∷ 1 ∷ 3 ∷ rest) ≡ refused 18)
unfolding semantics
action-lengths rest = (refl, refl, refl)

-- of one location, an entry of node 257 beside the action of node 1
pub entry-257 : judge_locations edition2 (record { node = 1; action = stop } ∷ []) (0 ∷ 1 ∷ 1 ∷ 1 ∷ 1 ∷ 0xFF ∷ 0xFD ∷ 0xFF ∷ 0xFF ∷ []) ≡ refused 19
unfolding semantics
entry-257 = refl

pub entry-1 : judge_locations edition2 (record { node = 1; action = stop } ∷ []) (0 ∷ 1 ∷ 1 ∷ 0 ∷ 1 ∷ 0xFF ∷ 0xFD ∷ 0xFF ∷ 0xFF ∷ [])
    ≡ accepted ((record { node = 1; target = 0xFFFD; other = 0xFFFF } ∷ []) ∷ [])
unfolding semantics
entry-1 = refl
