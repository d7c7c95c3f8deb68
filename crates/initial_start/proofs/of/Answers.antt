-- Either the plant is refused (`nothing-given`), or it is read, and the two writes make its start (`given`).
-- What a write needs is the same in every edition, and is taken of the first.
use mathlib.Core.Path.{refl, sym, ap, ◌∙◌}
use native.Mathlib.Omega.{arith}
use Rattle.semantics.specs.Editions.{edition1}
use Rattle.paper.proofs.Answered.{was-refused}
use Rattle.plant.proofs.PlantJudged.{by-variables}
use Rattle.initial_start.specs.Held.{held}
use Rattle.initial_start.proofs.StartGiven.{nothing-given, stands, few, cut-length, given}
use Rattle.initial_start.proofs.of.Goals as goal

pub returns-in_default : goal.returns-in_default
returns-in_default c ed = c.none.ensures ∙ ap held (sym (nothing-given ed _ _ (by-variables ed _ c.args.es.now (c.in_default.ensures.judged ed))))

pub returns-in_default-read : goal.returns-in_default-read
returns-in_default-read c ed = c.none-in_default-read.ensures ∙ ap held (sym (nothing-given ed _ _ (was-refused _ _ (c.in_default-read.ensures ed))))

pub put_modes-length-requires : goal.put_modes-length-requires
put_modes-length-requires c = let v = c.in-Ok.ensures.judged edition1 in let p = c.in-Ok-read.ensures edition1 in
    let n = few edition1 _ _ v p in
    let l = cut-length edition1 _ _ v p in
    (omega (arith, c.put_values-at.ensures.0, c.put_values-at.auto.d), stands edition1 _ _ v p)

pub returns : goal.returns
returns c ed = given ed _ _ (c.in-Ok.ensures.judged ed) (c.in-Ok-read.ensures ed) c.put_values-at.ensures c.put_modes-length.ensures refl
