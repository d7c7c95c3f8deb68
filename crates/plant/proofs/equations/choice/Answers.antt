-- The reader of a CASE step by step: two bytes, the count between 1 and 8, the modes; where one breaks, all is broken.
use mathlib.Core.Path.{◌≡◌, ap, ◌∙◌}
use mathlib.Core.Bool.{◌&&◌}
use Prim.Native.Nat.{◌+◌}
use native.Mathlib.Omega.{arith}
use lib.Dec.{ltb}
use lib.ListN.{length, get_or}
use Rattle.std.proofs.Common.{rules}
use Rattle.std.proofs.lemmas.Grind.{common_steps}
use Rattle.semantics.specs.Sections.{read_mode, read_choice}
use Rattle.semantics.specs.Plant.{mode_named, equation_named}
use Rattle.semantics.specs.Bytes.{within}
use Rattle.codec.proofs.Reading.{then, broke, then-byte, no_byte, then-guard, no-guard, gives, either}
use Rattle.codec.proofs.Loops.{counted}
use Rattle.plant.specs.Equations.{view}
use Rattle.plant.proofs.EquationParts.{several-read}
use Rattle.plant.proofs.PaperNumbers.{step-says}
use Rattle.plant.proofs.equations.choice.Goals as goal

pub returns-then-s-at-lt2 : goal.returns-then-s-at-lt2
unfolding read_choice
returns-then-s-at-lt2 c = step-says (let s = c.args.s.now in let at = c.args.at in either at (length s) (λ l. then-byte _ l (no_byte _ (omega arith))) (λ l. no_byte _ l))

pub returns-then-not-contains : goal.returns-then-not-contains
unfolding read_choice within
returns-then-not-contains c =
    let one_to_eight : within 1 8 (get_or c.args.s.now (c.args.at + 1) 0) ≡ c.contains.result = grind (arith, common_steps, c.from.ensures) in
    step-says (then-byte _ (omega arith) (then-byte _ (omega arith) (no-guard _ _ (one_to_eight ∙ c.if-not-contains.true))))

pub returns-in_err-modes : goal.returns-in_err-modes
unfolding read_choice within
returns-in_err-modes c =
    let modes = several-read read_mode (mode_named c.args.variables (get_or c.args.s.now (c.args.at + 1) 0)) c.args.s.now (omega arith) (λ p w i k. search rules) c.several.ensures in
    let one_to_eight : within 1 8 (get_or c.args.s.now (c.args.at + 1) 0) ≡ c.contains.result = grind (arith, common_steps, c.from.ensures) in
    let two : c.args.at + 1 + 1 ≡ c.args.at + 2 = omega arith in
    rw c.from_residual.ensures
    (step-says (then-byte _ (omega arith) (then-byte _ (omega arith) (then-guard _ _ (one_to_eight ∙ c.if-not-contains.false) (rw two (broke _ modes (ap view c.in_err-modes.was)))))))

pub returns : goal.returns
unfolding read_choice within equation_named
returns c =
    let modes = several-read read_mode (mode_named c.args.variables (get_or c.args.s.now (c.args.at + 1) 0)) c.args.s.now (omega arith) (λ p w i k. search rules) c.several.ensures in
    let one_to_eight : within 1 8 (get_or c.args.s.now (c.args.at + 1) 0) ≡ c.contains.result = grind (arith, common_steps, c.from.ensures) in
    let two : c.args.at + 1 + 1 ≡ c.args.at + 2 = omega arith in
    step-says (then-byte _ (omega arith) (then-byte _ (omega arith) (then-guard _ _ (one_to_eight ∙ c.if-not-contains.false) (rw two (then _ modes (ap view c.in_ok-modes.was)
    (λ t. gives _ t.inside (rw (counted read_mode _ t) (ap (λ b. ltb (get_or c.args.s.now c.args.at 0) (get_or c.args.s.now (c.args.at + 1) 0) && b) t.means))))))))
