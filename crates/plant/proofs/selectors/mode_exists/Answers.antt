use mathlib.Core.Path.{◌≡◌, ◌∙◌}
use Rattle.std.proofs.Common.{rules, nat_lt, false}
use Rattle.plant.proofs.ModeCounts.{no-selector, selector}
use Rattle.plant.proofs.selectors.mode_exists.Goals as goal

pub returns-then-c-selectors : goal.returns-then-c-selectors
returns-then-c-selectors c = λ cs d. selector d _ _ c.if-c-selectors.true

pub returns-else-c-selectors : goal.returns-else-c-selectors
returns-else-c-selectors c = λ cs d. (let e : nat_lt c.args.c c.args.selectors ≡ false = search rules in e ∙ no-selector d _ _ c.if-c-selectors.false)
