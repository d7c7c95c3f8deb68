-- A form of two leaves whose values are known.
use mathlib.Core.Path.{◌≡◌, ap, ◌∙◌}
use mathlib.Core.Bool.{Bool}
use mathlib.Core.List.{List}
use Prim.Native.Nat.{ℕ, ◌+◌, ◌-◌, ◌<◌}
use lib.IntN.{ℤ}
use lib.ListN.{length, get_or}
use Rattle.std.specs.Prelude.{Result, Ok}
use Rattle.semantics.specs.Editions.{Edition}
use Rattle.semantics.specs.Expressions.{Operation, Comparison, Connective, applied, compared, connected, result, value_of, holds, an_operation, a_comparison, a_connective, form_of}
use Rattle.expression.specs.Evaluation.{said, NumberAt, TruthAt}
use Rattle.expression.specs.declared.Side.{Side}
use Rattle.expression.proofs.Operands.{then-ok, both-ok}
use Rattle.expression.proofs.Steps.{step-operation, step-comparison, step-connective}

module _ (ed : Edition) (vs : List ℤ) (s : List ℕ) (p d : ℕ) (deep : d ≡ 0 → ⊥) (here : p < length s) where
  module _ {a b : ℤ} {m n : ℕ} where
    pub two-compared : (o : Comparison) → form_of (get_or s p 0) ≡ a_comparison o → NumberAt ed vs s (p + 1) (d - 1) (Ok a) m → NumberAt ed vs s m (d - 1) (Ok b) n → {t : Bool} → t ≡ compared o a b → TruthAt ed vs s p d (Ok t) n
    two-compared o e k l h = step-comparison ed vs s p d deep here o e k l (ap (λ t. Ok t) h ∙ both-ok (compared o) (value_of vs k.value) (value_of vs l.value) k.is l.is)

    pub two-operated : (o : Operation) → form_of (get_or s p 0) ≡ an_operation o → NumberAt ed vs s (p + 1) (d - 1) (Ok a) m → NumberAt ed vs s m (d - 1) (Ok b) n → {x : Result ℤ Side} → x ≡ said (result (applied o a b)) → NumberAt ed vs s p d x n
    two-operated o e k l h = step-operation ed vs s p d deep here o e k l (h ∙ then-ok result _ (both-ok (applied o) (value_of vs k.value) (value_of vs l.value) k.is l.is))

  pub two-joined : {a b : Bool} {m n : ℕ} (o : Connective) → form_of (get_or s p 0) ≡ a_connective o → TruthAt ed vs s (p + 1) (d - 1) (Ok a) m → TruthAt ed vs s m (d - 1) (Ok b) n → {t : Bool} → t ≡ connected o a b → TruthAt ed vs s p d (Ok t) n
  two-joined o e k l h = step-connective ed vs s p d deep here o e k l (ap (λ t. Ok t) h ∙ both-ok (connected o) (holds vs k.value) (holds vs l.value) k.is l.is)
