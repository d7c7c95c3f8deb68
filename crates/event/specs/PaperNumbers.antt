-- The papers' number for each case of an event: 24, "The event's kind is unknown or an unused byte is not 0.", or none.
use Rattle.std.proofs.Math.Option.{Option, none, some}
use Rattle.std.specs.Prelude.{ℕ}
use Rattle.event.specs.declared.Event.{Event}
use Rattle.event.specs.declared.Event.TheVariants.{Tick, Pick, Switch, Senseless}

unfoldable pub paper_event : Event → Option ℕ
paper_event Tick = none
paper_event (Pick n) = none
paper_event (Switch s k) = none
paper_event Senseless = some 24
