-- Each return by what the section's reader gives: broken is 6, read with a name missing 7, read with all names accepted.
use mathlib.Core.Path.{ap}
use native.Mathlib.Omega.{arith}
use borrow.Author.Tests.{not-true, not-false}
use Rattle.std.proofs.Common.{rules}
use Rattle.semantics.specs.Sections.{read_equation, equations_in}
use Rattle.semantics.specs.Plant.{equation_named}
use Rattle.codec.proofs.Reading.{taken, kept, over, none_kept}
use Rattle.plant.specs.Equations.{view}
use Rattle.plant.proofs.EquationParts.{several-read, broken_judged, named_judged, unnamed_judged, section-reads, section-empty, section-long}
use Rattle.plant.proofs.equations.check.Goals as goal

pub returns-then-s-lt1 : goal.returns-then-s-lt1
unfolding equations_in
returns-then-s-lt1 c = broken_judged _ _ (section-empty _ (omega arith))

pub returns-then-from-gt-EQUATIONS : goal.returns-then-from-gt-EQUATIONS
unfolding equations_in
returns-then-from-gt-EQUATIONS c = broken_judged _ _ (section-long _ (omega arith) (omega (arith, c.from.ensures)))

pub returns-then-all-s : goal.returns-then-all-s
unfolding equations_in
returns-then-all-s c =
    let all = several-read read_equation (equation_named c.args.variables) c.args.s.now (omega arith) (λ p w i k. search rules) c.several.ensures in
    broken_judged _ _ (over (taken (section-reads (omega arith) (omega (arith, c.from.ensures)) all) (ap view c.in-Some.is)) (omega arith))

pub returns-then-not-all : goal.returns-then-not-all
unfolding equations_in
returns-then-not-all c =
    let all = several-read read_equation (equation_named c.args.variables) c.args.s.now (omega arith) (λ p w i k. search rules) c.several.ensures in
    let t = taken (section-reads {s = c.args.s.now} (omega arith) (omega (arith, c.from.ensures)) all) (ap view c.in-Some.is) in
    unnamed_judged _ _ (kept t (omega arith)) t.means (not-true _ c.if-not-all.true)

pub returns : goal.returns
unfolding equations_in
returns c =
    let all = several-read read_equation (equation_named c.args.variables) c.args.s.now (omega arith) (λ p w i k. search rules) c.several.ensures in
    let t = taken (section-reads {s = c.args.s.now} (omega arith) (omega (arith, c.from.ensures)) all) (ap view c.in-Some.is) in
    named_judged _ _ (kept t (omega arith)) t.means (not-false _ c.if-not-all.false)

pub returns-in_default : goal.returns-in_default
unfolding equations_in
returns-in_default c =
    let all = several-read read_equation (equation_named c.args.variables) c.args.s.now (omega arith) (λ p w i k. search rules) c.several.ensures in
    broken_judged _ _ (none_kept (section-reads (omega arith) (omega (arith, c.from.ensures)) all) (ap view c.in_default.is))
