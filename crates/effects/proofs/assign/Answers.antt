-- The number of the operand is asked, then stored; a fault of it is the answer.
use Rattle.std.proofs.Common.{rules}
use mathlib.Core.Path.{◌≡◌, sym, ap, ◌∙◌}
use mathlib.Core.List.{List, []}
use mathlib.Core.Option.{some}
use Prim.Native.Nat.{ℕ, ◌-◌}
use lib.IntN.{ℤ}
use lib.ListN.{length, take, drop}
use mir.Syntax.{w32}
use mir.ValLaws.{to_z-of_z}
use Rattle.semantics.specs.Editions.{Edition}
use Rattle.semantics.specs.Expressions.{number_in}
use Rattle.semantics.specs.Run.{assign}
use Rattle.semantics.specs.TableFile.{an_assignment, action_of_kind}
use Rattle.std.specs.Prelude as answers
use Rattle.expression.specs.declared.Side.{Side}
use Rattle.expression.specs.Answers.{number_answer, NumberSays}
use Rattle.effects.proofs.Told.{err_is}
use Rattle.effects.proofs.Acts.{operand-is, stored-as, assigned-number, assigned-fault, number-taken}
use Rattle.effects.proofs.assign.Goals as goal

-- what was asked is the number of the operand
asked : {n : answers.Option (answers.Result ℤ Side)} (vs : List ℤ) {e : List ℕ} (b : List ℕ) (ed : Edition) {v : ℕ} → NumberSays vs (number_in ed (length vs) (take (length b - 1) (drop 1 b))) n →
    action_of_kind an_assignment b ≡ some (assign v e) → n ≡ number_answer vs (number_in ed (length vs) e)
asked vs b ed s h = s.is ∙ ap (λ l. number_answer vs (number_in ed (length vs) l)) (operand-is b h).1

pub returns-in_err-z : goal.returns-in_err-z
returns-in_err-z c d = rw (err_is _ _ c.from_residual.ensures.1) (record {
  gives = λ ed v e h. assigned-fault _ _ _ _ ed e _ (asked c.args.values.now c.args.t.now ed (c.number_value.ensures ed) h) _ (sym c.in_err-z.ensures);
})

pub returns : goal.returns
returns c d = let z = c.in_ok-z.z in
    let k = to_z-of_z w32 z (search rules) in
    let t = c.args.t.now in
    record {
      gives = λ ed v e h.
          let n = asked c.args.values.now t ed (c.number_value.ensures ed) h in
          assigned-number _ _ _ _ ed e _ n z _ _ (number-taken [] c.args.values.now v d ed e _ n (sym c.in_ok-z.ensures)) (stored-as _ _ _ (c.from-v.ensures ∙ (operand-is t h).0) k (c.store.ensures d));
    }
