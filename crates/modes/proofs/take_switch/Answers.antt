-- The mode stands at its place, its switch at the next one, and the switch's truth is the answer.
use mathlib.Core.Path.{sym, ap, ◌∙◌}
use mathlib.Core.Option.{some}
use Prim.Native.Nat.{ℕ, ◌<◌, ◌≤◌}
use native.Mathlib.Omega.{arith}
use lib.ListN.{get_or}
use Rattle.paper.specs.declared.answers.TurnedAway.TheVariants.{SwitchFalse}
use Rattle.effects.specs.declared.Untaken.TheVariants as Code
use Rattle.effects.specs.PaperNumbers.{Away, Stay}
use Rattle.effects.proofs.Told.{err_is, stops, stay-goes_on}
use Rattle.modes.specs.Modes.{mode_at}
use Rattle.modes.proofs.Standing.{parts, switch-bytes}
use Rattle.modes.proofs.Walks.{stands_at, asked_true, asked_false}
use Rattle.modes.proofs.Taking.{switch-there, no_switch, mode-now, no_mode, no-selector-left, no-switch-left, not-taken-left, taken-left}
use Rattle.modes.proofs.take_switch.Goals as goal

pub returns-then-modes-s : goal.returns-then-modes-s
returns-then-modes-s c = let a = c.args in record { leaves = λ ed. no-selector-left ed _ _ _ _ _ (no_mode a.p.now.bytes.now a.p.now.index.now a.modes.now a.s c.if-modes-s.true) }

pub bounds-es-count : goal.bounds-es-count
bounds-es-count c = let mode = stands_at c.mode_place-at.ensures (c.requires.stands c.args.s c.if-modes-s.false) in
    omega (arith, (parts mode).room, c.switches_at-count.ensures)

pub returns-then-from-k : goal.returns-then-from-k
returns-then-from-k c = let mode = stands_at c.mode_place-at.ensures (c.requires.stands c.args.s c.if-modes-s.false) in
    let current = mode-now c.args.p.now.bytes.now c.args.p.now.index.now c.args.modes.now c.args.s c.if-modes-s.false
    ∙ ap (λ (i : ℕ). some (mode_at c.args.p.now.bytes.now i)) (sym c.mode_place-at.ensures) in
    let n = c.switches_at-count in
    let few : get_or c.args.p.now.bytes.now n.result 0 ≤ c.args.k = omega arith in
    record { leaves = λ ed. no-switch-left ed _ _ _ _ _ _ current (no_switch mode n.result c.args.k n.ensures few) }

pub switch_at-q-requires : goal.switch_at-q-requires
switch_at-q-requires c = let mode = stands_at c.mode_place-at.ensures (c.requires.stands c.args.s c.if-modes-s.false) in
    (mode, c.switches_at-count.ensures, omega arith)

pub truth-requires : goal.truth-requires
truth-requires c = let mode = stands_at c.mode_place-at.ensures (c.requires.stands c.args.s c.if-modes-s.false) in
    let few : c.args.k < get_or c.args.p.now.bytes.now c.switches_at-count.result 0 = omega arith in
    let there = switch-there mode c.switches_at-count.result c.args.k c.switches_at-count.ensures few in
    let here = c.switch_at-q.ensures there.0 there.1 in
    record { switch = there.0; stands = here }

pub returns-in_err-truth : goal.returns-in_err-truth
returns-in_err-truth c = let mode = stands_at c.mode_place-at.ensures (c.requires.stands c.args.s c.if-modes-s.false) in
    let current = mode-now c.args.p.now.bytes.now c.args.p.now.index.now c.args.modes.now c.args.s c.if-modes-s.false
    ∙ ap (λ (i : ℕ). some (mode_at c.args.p.now.bytes.now i)) (sym c.mode_place-at.ensures) in
    let few : c.args.k < get_or c.args.p.now.bytes.now c.switches_at-count.result 0 = omega arith in
    let there = switch-there mode c.switches_at-count.result c.args.k c.switches_at-count.ensures few in
    let here = c.switch_at-q.ensures there.0 there.1 in
    rw (err_is _ _ c.from_residual.ensures.1) (record { leaves = λ ed. not-taken-left ed _ _ _ _ _ _ current there.0 there.1 _ ((c.in_err-truth.ensures Stay (Away 30)).answer ed there.0 here) (stops _) })

pub returns-then-not-branch : goal.returns-then-not-branch
returns-then-not-branch c = let mode = stands_at c.mode_place-at.ensures (c.requires.stands c.args.s c.if-modes-s.false) in
    let current = mode-now c.args.p.now.bytes.now c.args.p.now.index.now c.args.modes.now c.args.s c.if-modes-s.false
    ∙ ap (λ (i : ℕ). some (mode_at c.args.p.now.bytes.now i)) (sym c.mode_place-at.ensures) in
    let few : c.args.k < get_or c.args.p.now.bytes.now c.switches_at-count.result 0 = omega arith in
    let there = switch-there mode c.switches_at-count.result c.args.k c.switches_at-count.ensures few in
    let here = c.switch_at-q.ensures there.0 there.1 in
    let t = asked_false c.if-not-branch.true (c.in_ok-truth.ensures Stay (Away 30)) in
    record { leaves = λ ed. not-taken-left ed _ _ _ _ _ _ current there.0 there.1 _ (t.answer ed there.0 here) (stops (Code.Away SwitchFalse)) }

pub overflow_add-modes : goal.overflow_add-modes
overflow_add-modes c = let mode = stands_at c.mode_place-at.ensures (c.requires.stands c.args.s c.if-modes-s.false) in
    let few : c.args.k < get_or c.args.p.now.bytes.now c.switches_at-count.result 0 = omega arith in
    let there = switch-there mode c.switches_at-count.result c.args.k c.switches_at-count.ensures few in
    let here = c.switch_at-q.ensures there.0 there.1 in
    let x = switch-bytes here in omega (arith, x.long, x.inside)

pub bounds-es-q : goal.bounds-es-q
bounds-es-q c = let mode = stands_at c.mode_place-at.ensures (c.requires.stands c.args.s c.if-modes-s.false) in
    let few : c.args.k < get_or c.args.p.now.bytes.now c.switches_at-count.result 0 = omega arith in
    let there = switch-there mode c.switches_at-count.result c.args.k c.switches_at-count.ensures few in
    let here = c.switch_at-q.ensures there.0 there.1 in
    let x = switch-bytes here in omega (arith, x.long, x.inside)

pub returns : goal.returns
returns c = let mode = stands_at c.mode_place-at.ensures (c.requires.stands c.args.s c.if-modes-s.false) in
    let current = mode-now c.args.p.now.bytes.now c.args.p.now.index.now c.args.modes.now c.args.s c.if-modes-s.false
    ∙ ap (λ (i : ℕ). some (mode_at c.args.p.now.bytes.now i)) (sym c.mode_place-at.ensures) in
    let few : c.args.k < get_or c.args.p.now.bytes.now c.switches_at-count.result 0 = omega arith in
    let there = switch-there mode c.switches_at-count.result c.args.k c.switches_at-count.ensures few in
    let here = c.switch_at-q.ensures there.0 there.1 in
    let t = asked_true c.if-not-branch.false (c.in_ok-truth.ensures Stay (Away 30)) in
    record { leaves = λ ed. taken-left ed _ _ _ _ _ _ current there.0 there.1 _ (t.answer ed there.0 here) stay-goes_on (sym (switch-bytes here).target) }
