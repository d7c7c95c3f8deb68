-- Document 01, "Run by the rules": "An event is 3 bytes: 0,0,0 tick; 1,n,0 pick node n; 2,s,k take switch k (from 0) of selector s's current mode."
use Rattle.std.specs.Prelude.{cond, List, [], ◌∷◌, ℕ, zero, suc, take, drop, eqb}
use Rattle.std.proofs.Math.Option.{none, some}
use Rattle.semantics.specs.Bytes.{every, Reader, read, broken, ◌>>=◌, fail, byte, number, whole}
use Rattle.semantics.specs.Editions.{Edition}

pub data Event : Type 0 where
  tick : Event
  pick : ℕ → Event
  -- a selector, and the switch of its current mode
  take_switch : ℕ → ℕ → Event
  -- 24: "The event's kind is unknown or an unused byte is not 0."
  senseless : Event

pub data EventKind : Type 0 where
  a_tick a_pick a_switch no_kind : EventKind

unfoldable pub event_kind : ℕ → EventKind
event_kind k = cond (eqb k 0) a_tick (cond (eqb k 1) a_pick (cond (eqb k 2) a_switch no_kind))

-- the bytes left are unused and must be 0
unfoldable pub unused : Event → Reader Event
unused e s = cond (every (λ b. eqb b 0) s) (read e []) broken

module _ (ed : Edition) where
  unfoldable pub read_event_body : EventKind → Reader Event
  read_event_body a_tick = unused tick
  read_event_body a_pick = do
    n ← number ed.width
    unused (pick n)
  read_event_body a_switch = do
    s ← byte
    k ← byte
    unused (take_switch s k)
  read_event_body no_kind = fail

  unfoldable pub read_event : Reader Event
  read_event = do
    k ← byte
    read_event_body (event_kind k)

  unfoldable pub event_in : List ℕ → Event
  event_in e = elim (whole read_event e) [ none ↦ senseless | some m ↦ m ]

-- n events of w bytes each
unfoldable pub events_in : ℕ → ℕ → List ℕ → List (List ℕ)
events_in w zero s = []
events_in w (suc n) s = take w s ∷ events_in w n (drop w s)
