-- The reader of a mode step by step: count, rates, count, switches; a step that breaks is the answer.
use mathlib.Core.Path.{ap, ap₂}
use mathlib.Core.Bool.{◌&&◌}
use native.Mathlib.Omega.{arith}
use Rattle.std.proofs.Common.{rules, length, ◌≤◌, Some}
use Rattle.semantics.specs.Sections.{read_rate, read_switch, read_mode}
use Rattle.semantics.specs.Plant.{rate_named, switch_named, mode_named}
use Rattle.codec.proofs.Reading.{then, broke, then-byte, no_byte, gives}
use Rattle.plant.specs.Equations.{view, StepSays}
use Rattle.plant.proofs.EquationParts.{several-read, ends-inside}
use Rattle.plant.proofs.PaperNumbers.{step-says}
use Rattle.plant.proofs.equations.mode.Goals as goal

pub returns-then-s-at : goal.returns-then-s-at
unfolding read_mode
returns-then-s-at c = step-says (no_byte _ (omega arith))

pub returns-in_err-rates : goal.returns-in_err-rates
unfolding read_mode
returns-in_err-rates c =
    let rates = several-read read_rate (rate_named c.args.variables) c.args.s.now (omega arith) (λ p w i k. search rules) c.several.ensures in
    rw c.from_residual.ensures (step-says (then-byte _ (omega arith) (broke _ rates (ap view c.in_err-rates.was))))

pub returns-then-s-rates : goal.returns-then-s-rates
unfolding read_mode
returns-then-s-rates c =
    let rates = several-read read_rate (rate_named c.args.variables) c.args.s.now (omega arith) (λ p w i k. search rules) c.several.ensures in
    step-says (then-byte _ (omega arith) (then _ rates (ap view c.in_ok-rates.was) (λ t. no_byte _ (omega arith))))

pub several-requires-2-clause-next : goal.several-requires-2-clause-next
several-requires-2-clause-next c = λ p w k.
    let h : StepSays read_switch (switch_named c.args.modes) c.args.s.now p (Some w) = search rules in
    let i : w.end ≤ length c.args.s.now = ends-inside h in
    search rules

pub returns-in_err-switches : goal.returns-in_err-switches
unfolding read_mode
returns-in_err-switches c =
    let rates = several-read read_rate (rate_named c.args.variables) c.args.s.now (omega arith) (λ p w i k. search rules) c.several.ensures in
    let switches = several-read read_switch (switch_named c.args.modes) c.args.s.now (omega arith) (λ p w i k. search rules) c.several-2.ensures in
    rw c.from_residual-in_err-switches.ensures
    (step-says (then-byte _ (omega arith) (then _ rates (ap view c.in_ok-rates.was) (λ t. then-byte _ (omega arith) (broke _ switches (ap view c.in_err-switches.was))))))

pub returns : goal.returns
unfolding read_mode mode_named
returns c =
    let rates = several-read read_rate (rate_named c.args.variables) c.args.s.now (omega arith) (λ p w i k. search rules) c.several.ensures in
    let switches = several-read read_switch (switch_named c.args.modes) c.args.s.now (omega arith) (λ p w i k. search rules) c.several-2.ensures in
    step-says (then-byte _ (omega arith) (then _ rates (ap view c.in_ok-rates.was)
    (λ t. then-byte _ (omega arith) (then _ switches (ap view c.in_ok-switches.was) (λ u. gives _ u.inside (ap₂ ◌&&◌ t.means u.means))))))
