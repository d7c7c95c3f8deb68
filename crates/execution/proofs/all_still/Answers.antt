use mathlib.Core.Path.{sym, ap, ◌∙◌}
use native.Mathlib.Omega.{arith}
use Rattle.effects.specs.Verdicts.{step_verdict}
use Rattle.effects.specs.Told.{told_step}
use Rattle.effects.proofs.Told.{err_is, stops, stay-goes_on}
use Rattle.codec.specs.Parts.{part_at}
use Rattle.program.specs.Rows.{start_row, end_row}
use Rattle.execution.proofs.Scans.{few-bounded, at_next, still-start, still-out, still-on, still-end}
use Rattle.execution.proofs.all_still.Goals as goal

pub member_from-n-requires : goal.member_from-n-requires
member_from-n-requires c = (omega arith, omega (arith, (few-bounded _ c.requires.few c.node_limit-end.ensures).small))

pub loop-n-init : goal.loop-n-init
loop-n-init c = let p = c.args.p.now in (
  at_next c.member_from-n.ensures,
  λ ed. still-start ed c.args.values.now (part_at p.bytes.now (start_row p.index.now) (end_row p.index.now)) _
      (few-bounded _ c.requires.few c.node_limit-end.ensures) c.member_from-n.ensures,
)

pub still-requires : goal.still-requires
still-requires c = let l = c.loop-n in (omega (arith, (few-bounded _ c.requires.few c.node_limit-end.ensures).small, c.loop-n-test.true), c.requires.cut.cut l.n (l.invariant.0.member c.loop-n-test.true))

pub returns-in_err-still : goal.returns-in_err-still
returns-in_err-still c = let l = c.loop-n in
    let p = c.args.p.now in
    ap told_step (err_is _ _ c.from_residual.ensures.1)
    ∙ still-out _ c.args.values.now (part_at p.bytes.now (start_row p.index.now) (end_row p.index.now)) _ (few-bounded _ c.requires.few c.node_limit-end.ensures) l.n c.loop-n-test.true l.invariant.0 _
    (c.in_err-still.ensures _) (stops _)
    ∙ sym (ap step_verdict (l.invariant.1 _))

pub overflow_add-n : goal.overflow_add-n
overflow_add-n c = omega (arith, c.loop-n-test.true)

pub member_from-n-requires-in-loop-n : goal.member_from-n-requires-in-loop-n
member_from-n-requires-in-loop-n c = (omega (arith, c.loop-n-test.true), omega (arith, (few-bounded _ c.requires.few c.node_limit-end.ensures).small))

pub loop-n-smaller : goal.loop-n-smaller
loop-n-smaller c = omega (arith, c.member_from-n-in-loop-n.ensures.next.from, c.loop-n-test.true)

pub loop-n-preserved : goal.loop-n-preserved
loop-n-preserved c = let l = c.loop-n in
    let p = c.args.p.now in (
      at_next c.member_from-n-in-loop-n.ensures,
      λ ed. l.invariant.1 ed ∙ still-on ed c.args.values.now (part_at p.bytes.now (start_row p.index.now) (end_row p.index.now)) _ (few-bounded _ c.requires.few c.node_limit-end.ensures) l.n
          c.loop-n-test.true l.invariant.0 _ (c.in_ok-still.ensures ed) c.member_from-n-in-loop-n.ensures stay-goes_on,
    )

pub returns : goal.returns
returns c = let p = c.args.p.now in
    still-end _ c.args.values.now (part_at p.bytes.now (start_row p.index.now) (end_row p.index.now)) _ (few-bounded _ c.requires.few c.node_limit-end.ensures) c.loop-n.n c.loop-n-test.false
    ∙ sym (ap step_verdict (c.loop-n.invariant.1 _))
