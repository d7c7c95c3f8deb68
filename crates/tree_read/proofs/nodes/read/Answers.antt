use mathlib.Core.Path.{◌≡◌, sym}
use Rattle.std.proofs.Common.{Some, None}
use Rattle.std.proofs.lemmas.Result.{err_from_is_err_and}
use native.Mathlib.Omega.{arith}
use Rattle.paper.specs.declared.refusals.Refusal.TheVariants.{NodeLayout}
use Rattle.edition.specs.Editions.{edition_of}
use Rattle.tree_read.proofs.NodeIndex.{none-told, all_told, no-section, too_few, too_many, fill_start, fill-next, fill-broken, fill-over, fill_end, ok-is}
use Rattle.tree_read.proofs.nodes.read.Goals as goal

pub returns-then-s-w-clause-answers : goal.returns-then-s-w-clause-answers
returns-then-s-w-clause-answers c = none-told _ _ (no-section _ c.args.s.now (omega arith))

pub returns-then-n-lt1-clause-answers : goal.returns-then-n-lt1-clause-answers
returns-then-n-lt1-clause-answers c = none-told _ _ (too_few _ c.args.s.now (omega arith) (omega arith))

pub returns-then-n-node_limit-clause-answers : goal.returns-then-n-node_limit-clause-answers
returns-then-n-node_limit-clause-answers c = none-told _ _ (too_many _ c.args.s.now (omega arith) (omega arith))

pub loop-i-init : goal.loop-i-init
loop-i-init c = fill_start _ _ c.width-w.ensures (omega arith) c.requires.0 c.requires.1 c.requires.2

pub returns-in_err-x-clause-answers : goal.returns-in_err-x-clause-answers
returns-in_err-x-clause-answers c = let p = err_from_is_err_and c.from_residual.result c.from_residual.ensures.1 in
    let o : c.node.result ≡ None = grind arith in
    let why : c.in_err-x.field-0.0 ≡ NodeLayout = grind arith in
    rw (p.1, p.2, why) (none-told _ _ (fill-broken _ _ _ _ _ _ _ c.loop-i.invariant c.number-n.ensures (omega arith) (omega arith) (omega arith)
    c.loop-i-test.true (rw o at c.node.ensures)))

pub loop-i-preserved : goal.loop-i-preserved
loop-i-preserved c = let o : c.node.result ≡ Some c.in_ok-x.x = grind arith in
    let f = rw o at c.node.ensures in
    fill-next _ c.args.s.now _ _ _ _ _ f.1 (omega (arith, (edition_of c.args.ed).entries_fit)) c.loop-i.invariant f.0

pub returns-then-p-s-clause-answers : goal.returns-then-p-s-clause-answers
returns-then-p-s-clause-answers c = none-told _ _ (fill-over _ _ _ _ _ _ _ c.loop-i.invariant c.number-n.ensures (omega arith) (omega arith) (omega arith) (omega arith) (omega arith))

pub returns-clause-answers : goal.returns-clause-answers
returns-clause-answers c = let f = fill_end _ _ _ _ _ _ _ c.loop-i.invariant c.number-n.ensures (omega arith) (omega arith) (omega arith) (omega arith) (omega arith) in all_told _ _ f.0 f.1

pub returns-clause-laid : goal.returns-clause-laid
returns-clause-laid c = λ n e. (let f = fill_end _ _ _ _ _ _ _ c.loop-i.invariant c.number-n.ensures (omega arith) (omega arith) (omega arith) (omega arith) (omega arith) in rw (sym (ok-is e)) f.2)
