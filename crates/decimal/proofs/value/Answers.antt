use mathlib.Core.Path.{◌≡◌, refl, sym, ap, ◌∙◌}
use mathlib.Core.Option.{some}
use native.Mathlib.Omega.{arith}
use Prim.Native.Nat.{◌+◌}
use lib.ListN.{drop}
use Rattle.std.proofs.Common.{Some, None}
use Rattle.std.proofs.lemmas.Result.{err_from_is_err_and}
use Rattle.decimal.specs.Decimal.{value_from}
use Rattle.decimal.specs.declared.Misread.TheVariants.{TooLarge}
use Rattle.decimal.specs.Parsing.{parsed_of}
use Rattle.decimal.proofs.Digits.{digit_low, value-next, value-over, value-end}
use Rattle.decimal.proofs.Answers.{parsed-number, parsed-too-large, appended-none, appended-some}
use Rattle.decimal.proofs.value.Goals as goal

pub loop-b-init : goal.loop-b-init
loop-b-init c = (omega arith, refl)

pub overflow_sub-b : goal.overflow_sub-b
overflow_sub-b c = digit_low c.args.s.now c.loop-b.b-index c.requires (omega arith)

pub returns-in_err-n : goal.returns-in_err-n
returns-in_err-n c = let a = c.args in
    let p = err_from_is_err_and c.from_residual.result c.from_residual.ensures.1 in
    let o : c.appended.result ≡ None = grind arith in
    let why : c.in_err-n.field-0.0 ≡ TooLarge = grind arith in
    let over = appended-none _ _ (sym c.appended.ensures ∙ o) in
    rw (p.1, p.2, why) (parsed-too-large a.most _ (value-over a.s.now c.loop-b.b-index (omega arith) c.loop-b.n c.loop-b.invariant.1 (omega (arith, over, c.from-digit.ensures))))

pub loop-b-preserved : goal.loop-b-preserved
loop-b-preserved c = let o : c.appended.result ≡ Some c.in_ok-n.n = grind arith in
    let k = appended-some _ _ (sym c.appended.ensures ∙ o) in
    let d = c.from-digit.ensures in
    (omega (arith, k.0, k.1), c.loop-b.invariant.1 ∙ value-next c.args.s.now c.loop-b.b-index (omega arith) c.loop-b.n ∙ ap (λ m. value_from m (drop (c.loop-b.b-index + 1) c.args.s.now)) (omega (arith, k.1, d)))

pub returns : goal.returns
returns c = let a = c.args in
    parsed-number a.most c.loop-b.n c.loop-b.invariant.0 ∙ ap (λ n. parsed_of a.most (some n)) (sym (c.loop-b.invariant.1 ∙ value-end c.loop-b.n a.s.now c.loop-b.b-index (omega arith)))
