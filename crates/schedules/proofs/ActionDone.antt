-- What a node does, by the definition and by the relation.
use mathlib.Core.Path.{◌≡◌, refl}
use mathlib.Core.Option.{some}
use Rattle.semantics.specs.Run.{Action}
use Rattle.semantics.proofs.Facts.{none-not-some, some_is}
use Rattle.schedules.specs.Nodes.{Node, sequence, parallel, while_do, if_else, continue_until, reset, reinitial, switch_to, stop_all, action_of}
use Rattle.schedules.specs.Doing.{Does, while_tests, if_tests, continue_waits, reset_assigns, reinitial_assigns, switch_switches, stop_stops}

pub does : (x : Node) {a : Action} → action_of x ≡ some a → Does x a
unfolding action_of
does (sequence k) e = none-not-some e
does (parallel k) e = none-not-some e
does (while_do t) e = rw (← some_is e) while_tests
does (if_else t) e = rw (← some_is e) if_tests
does (continue_until t) e = rw (← some_is e) continue_waits
does (reset v t) e = rw (← some_is e) reset_assigns
does (reinitial v t) e = rw (← some_is e) reinitial_assigns
does (switch_to s m) e = rw (← some_is e) switch_switches
does stop_all e = rw (← some_is e) stop_stops

pub done : {x : Node} {a : Action} → Does x a → action_of x ≡ some a
unfolding action_of
done while_tests = refl
done if_tests = refl
done continue_waits = refl
done reset_assigns = refl
done reinitial_assigns = refl
done switch_switches = refl
done stop_stops = refl
