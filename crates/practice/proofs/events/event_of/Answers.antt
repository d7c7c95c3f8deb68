-- One return for each kind of event; the bits are those of `event_of_seed`.
use Rattle.std.proofs.Common.{◌≡◌, ◌/◌, refl, arith, rules}
use Rattle.practice.proofs.Draws.{event-tick, event-pick, event-switch}
use Rattle.practice.proofs.events.event_of.Goals as goal

pub returns-in-0 : goal.returns-in-0
returns-in-0 c = event-tick c.args.seed (omega arith) c.in-0.is

pub returns-in-3 : goal.returns-in-3
returns-in-3 c = event-switch c.args.seed _ (omega arith) (omega (arith, c.in-3.is)) refl

pub returns-in_default : goal.returns-in_default
returns-in_default c = let z : c.args.seed / 1073741824 ≡ 0 → ⊥ = search rules in
    let t : c.args.seed / 1073741824 ≡ 3 → ⊥ = search rules in
    event-pick c.args.seed _ (omega arith) (omega (arith, z)) (omega (arith, t)) refl
