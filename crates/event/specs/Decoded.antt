-- The event that the code has for some bytes.
use Rattle.std.specs.Prelude.{◌≡◌, Bool, true, false, List, ℕ, eqb}
use Rattle.std.proofs.Math.Option.{some}
use Rattle.semantics.specs.Bytes.{every}
use Rattle.semantics.specs.Editions.{Edition}
use Rattle.semantics.specs.Events as Events
use Rattle.semantics.specs.Events.{tick, pick, take_switch, senseless, event_in}
use Rattle.event.specs.PaperNumbers.{paper_event}
use Rattle.event.specs.declared.Event.{Event}
use Rattle.event.specs.declared.Event.TheVariants.{Tick, Pick, Switch, Senseless}

-- the event that a case stands for
abbrev pub event_of : Event → Events.Event
event_of Tick = tick
event_of (Pick n) = pick n
event_of (Switch s k) = take_switch s k
event_of Senseless = senseless

abbrev pub all_zero : List ℕ → Bool
all_zero s = every (λ b. eqb b 0) s

-- an event whose unused bytes are 0, or not
abbrev pub where_zero : Bool → Event → Event
where_zero true e = e
where_zero false e = Senseless

-- these bytes are that event, and its number is 24 just where they are none
pub record Decodes (ed : Edition) (s : List ℕ) (r : Event) : Type 0 where
  pub is : event_of r ≡ event_in ed s
  pub number : paper_event r ≡ some 24 → event_in ed s ≡ senseless
  pub numbered : event_in ed s ≡ senseless → paper_event r ≡ some 24
