use mathlib.Core.Path.{◌≡◌, sym, ap, ◌∙◌}
use Prim.Native.Nat.{◌<◌}
use native.Mathlib.Omega.{arith}
use lib.ListN.{length}
use Rattle.std.proofs.lemmas.Grind.{common_steps}
use Rattle.decimal.specs.Parsing.{parsed_of}
use Rattle.decimal.proofs.Answers.{not-decimal}
use Rattle.decimal.proofs.Digits.{ascii-digits, nothing, no_digit, decimal-value}
use Rattle.decimal.proofs.read.Goals.{then-is_empty-via-then-is_empty, then-is_empty-via-else-is_empty+then-not-all_digits}
use Rattle.decimal.proofs.read.Goals as goal

pub returns-then-is_empty : goal.returns-then-is_empty
returns-then-is_empty c = elim c.then-is_empty.branch [
  | then-is_empty-via-then-is_empty w ↦ let h : length c.args.s.now ≡ 0 = grind (arith, common_steps) in not-decimal c.args.most (nothing _ h)
  | then-is_empty-via-else-is_empty+then-not-all_digits w ↦ not-decimal c.args.most (no_digit _ (sym (ascii-digits _) ∙ sym w.all_digits.ensures ∙ w.if-not-all_digits.true))
]

pub value-requires : goal.value-requires
value-requires c = sym (ascii-digits _) ∙ sym c.all_digits.ensures ∙ c.if-not-all_digits.false

pub returns : goal.returns
returns c = let h : 0 < length c.args.s.now = grind (arith, common_steps) in
    c.value.ensures ∙ ap (parsed_of c.args.most) (sym (decimal-value _ h (sym (ascii-digits _) ∙ sym c.all_digits.ensures ∙ c.if-not-all_digits.false)))
