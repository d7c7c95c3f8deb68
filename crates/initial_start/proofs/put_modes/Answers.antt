use mathlib.Core.Path.{refl, ◌∙◌}
use native.Mathlib.Omega.{arith}
use Rattle.plant.proofs.EquationCases.{section-at}
use Rattle.initial_start.proofs.Modes.{written_start, here-fits, place-fits, mode-fits, past_fits, written-steady, written-case, written_as, written-end}
use Rattle.initial_start.proofs.put_modes.Goals as goal
use Rattle.initial_start.proofs.put_modes.Goals.{then-es-k-ne1, else-es-k-ne1}

pub bounds-es-0 : goal.bounds-es-0
bounds-es-0 c = (section-at c.args.es.now c.requires.1.read).some_byte

pub loop-init : goal.loop-init
loop-init c = (refl, λ t. written_start _ _ _ t)

pub overflow_add-k : goal.overflow_add-k
overflow_add-k c = omega (arith, here-fits (c.loop.invariant.1 c.requires.1) (omega arith))

pub bounds-es-k : goal.bounds-es-k
bounds-es-k c = here-fits (c.loop.invariant.1 c.requires.1) (omega arith)

pub overflow_add-k-then-es-k-ne1 : goal.overflow_add-k-then-es-k-ne1
overflow_add-k-then-es-k-ne1 c = omega (arith, mode-fits (c.loop.invariant.1 c.requires.1) (omega arith) c.if-es-k-ne1.true)

pub bounds-es-k-then-es-k-ne1 : goal.bounds-es-k-then-es-k-ne1
bounds-es-k-then-es-k-ne1 c = mode-fits (c.loop.invariant.1 c.requires.1) (omega arith) c.if-es-k-ne1.true

pub put1-at-requires : goal.put1-at-requires
put1-at-requires c = let l = c.loop in
    place-fits (l.invariant.1 c.requires.1) (omega arith) (let e = l.invariant.0 in let f = c.requires.0 in omega arith)

pub nat2-requires : goal.nat2-requires
nat2-requires c = omega (arith, here-fits (c.loop.invariant.1 c.requires.1) (omega arith))

pub overflow_add-p : goal.overflow_add-p
overflow_add-p c = omega (arith, past_fits (c.loop.invariant.1 c.requires.1) (omega arith) c.nat2.result c.nat2.ensures)

pub loop-preserved : goal.loop-preserved
loop-preserved c =
    let l = c.loop in
    let n = c.nat2 in (
      c.if-es-k-ne1.auto.d ∙ l.invariant.0,
      λ t. elim c.if-es-k-ne1.branch [
        | then-es-k-ne1 w ↦
            written_as w.at-is w.d-is (omega arith)
            (written-case (l.invariant.1 t) (omega arith) n.result n.ensures w.if-es-k-ne1.true (let f = c.requires.0 in omega arith) w.put1-at.ensures.0 w.put1-at.ensures.1)
        | else-es-k-ne1 w ↦ written_as w.at-is w.d-is (omega arith) (written-steady (l.invariant.1 t) (omega arith) n.result n.ensures w.if-es-k-ne1.false)
      ],
    )

pub returns : goal.returns
returns c = λ t. (let w = written-end (c.loop.invariant.1 t) (omega arith) in (w.place, w.wrote))
