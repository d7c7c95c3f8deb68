use mathlib.Core.Path.{◌≡◌, refl, sym, ◌∙◌}
use mathlib.Core.List.{List}
use Prim.Native.Nat.{ℕ, ◌+◌, ◌<◌}
use native.Mathlib.Numerals.{add-one}
use native.Mathlib.Omega.{arith}
use lib.IntN.{ℤ, pos}
use lib.ListN.{length, get_or, set, take, length-set, length-drop}
use lib.Seq.{take_all, take-suc, take-suc-set}
use mir.Syntax.{w32}
use mir.ValLaws.{to_z-of_z}
use Rattle.program.specs.Rows.{steady_row}
use Rattle.program.proofs.Rows.{row_at}
use Rattle.program.proofs.Program.steady.Goals as goal

copied : (xs row : List ℤ) (v : ℕ) {z : ℤ} → v < length xs → v < length row → take v xs ≡ take v row → z ≡ get_or row v (pos 0) → take (v + 1) (set xs v z) ≡ take (v + 1) row
copied xs row v {z} h i e f = rw (add-one v, take-suc-set xs v z h, take-suc row v (pos 0) i, e, f) refl

row-long : (rs : List ℤ) → length rs ≡ 96 → length (steady_row rs) ≡ 32
row-long rs h = omega (arith, h, length-drop 64 rs)

pub loop-v-init : goal.loop-v-init
loop-v-init c = (refl, refl)

pub loop-v-preserved : goal.loop-v-preserved
loop-v-preserved c = let i = c.loop-v.invariant in
    let rs = c.args.self.now.ranges.now in
    let v = c.loop-v.v in (
      length-set c.loop-v.rates v _ ∙ i.0,
      copied c.loop-v.rates _ v (omega arith) (omega (arith, row-long rs (omega arith))) i.1 (to_z-of_z w32 _ (record { sfits = c.rates-1.given }) ∙ row_at 64 rs v (pos 0)),
    )

pub returns : goal.returns
returns c = let i = c.loop-v.invariant in
    sym (take_all c.loop-v.v c.loop-v.rates (omega arith)) ∙ i.1 ∙ take_all c.loop-v.v _ (omega (arith, row-long c.args.self.now.ranges.now (omega arith)))
