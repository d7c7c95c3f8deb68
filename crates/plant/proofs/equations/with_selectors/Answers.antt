use mathlib.Core.Path.{refl, ap, ◌∙◌}
use lib.ListN.{set}
use native.Mathlib.Omega.{arith}
use Rattle.plant.proofs.EquationIndex.{minus_0}
use Rattle.plant.proofs.EquationCases.{section-at, noted-start, here-fits, past_fits, count_fits, case-fits, places-fit, modes-stand, noted-steady, noted-case, noted-as, noted-end}
use Rattle.plant.proofs.equations.with_selectors.Goals.{then-s-k-ne1, else-s-k-ne1}
use Rattle.plant.proofs.equations.with_selectors.Goals as goal

pub bounds-s-0 : goal.bounds-s-0
bounds-s-0 c = (section-at c.args.s.now c.requires.read).some_byte

pub loop-init : goal.loop-init
loop-init c = λ t. noted-as minus_0 refl refl refl (noted-start _ t)

pub overflow_add-k : goal.overflow_add-k
overflow_add-k c = omega (arith, here-fits (c.loop.invariant c.requires) (omega arith))

pub bounds-s-k : goal.bounds-s-k
bounds-s-k c = here-fits (c.loop.invariant c.requires) (omega arith)

pub overflow_add-n : goal.overflow_add-n
overflow_add-n c = omega (arith, case-fits (c.loop.invariant c.requires) (omega arith) c.if-s-k-ne1.true)

pub bounds-s-k-then-s-k-ne1 : goal.bounds-s-k-then-s-k-ne1
bounds-s-k-then-s-k-ne1 c = case-fits (c.loop.invariant c.requires) (omega arith) c.if-s-k-ne1.true

pub offset_bounds-modes-selectors : goal.offset_bounds-modes-selectors
offset_bounds-modes-selectors c = omega (arith, count_fits (c.loop.invariant c.requires) (omega arith))

pub bounds-modes-selectors : goal.bounds-modes-selectors
bounds-modes-selectors c = count_fits (c.loop.invariant c.requires) (omega arith)

pub overflow_add-k-then-s-k-ne1 : goal.overflow_add-k-then-s-k-ne1
overflow_add-k-then-s-k-ne1 c = omega (arith, case-fits (c.loop.invariant c.requires) (omega arith) c.if-s-k-ne1.true)

pub overflow_mul-selectors : goal.overflow_mul-selectors
overflow_mul-selectors c = omega (arith, count_fits (c.loop.invariant c.requires) (omega arith))

pub mode_places-requires : goal.mode_places-requires
mode_places-requires c = (places-fit (c.loop.invariant c.requires) (omega arith) c.if-s-k-ne1.true, modes-stand (c.loop.invariant c.requires) (omega arith) c.if-s-k-ne1.true)

pub overflow_add-selectors : goal.overflow_add-selectors
overflow_add-selectors c = omega (arith, count_fits (c.loop.invariant c.requires) (omega arith))

pub nat2-requires : goal.nat2-requires
nat2-requires c = omega (arith, here-fits (c.loop.invariant c.requires) (omega arith))

pub overflow_add-p : goal.overflow_add-p
overflow_add-p c = omega (arith, past_fits (c.loop.invariant c.requires) (omega arith) c.nat2.result c.nat2.ensures)

pub loop-preserved : goal.loop-preserved
loop-preserved c = λ t. elim c.if-s-k-ne1.branch [
  | then-s-k-ne1 w ↦
      noted-as (omega arith) w.selectors-is (w.modes-is ∙ ap (λ z. set c.loop.modes c.loop.selectors z) w.from.ensures) w.mode_offsets-is (noted-case (c.loop.invariant t) (omega arith) w.if-s-k-ne1.true c.nat2.result c.nat2.ensures w.mode_places.ensures)
  | else-s-k-ne1 w ↦ noted-as (omega arith) w.selectors-is w.modes-is w.mode_offsets-is (noted-steady (c.loop.invariant t) (omega arith) c.nat2.result c.nat2.ensures w.if-s-k-ne1.false)
]

pub returns : goal.returns
returns c = λ t e. noted-end (c.loop.invariant t) (omega arith) e
