-- What a node does, by the table's kind of its action and the operand's bytes.
use Rattle.std.specs.Prelude.{◌≡◌, List, ℕ, ◌<◌, ℤ}
use Rattle.std.proofs.Math.Option.{some}
use Rattle.semantics.specs.Editions.{Edition}
use Rattle.semantics.specs.Sections.{Variable}
use Rattle.semantics.specs.Run.{Action, assign, switch, assigned, act}
use Rattle.semantics.specs.TableFile.{an_assignment, action_kind, action_of_kind}
use Rattle.effects.specs.Verdicts.{Left, Gives}
use Rattle.effects.specs.PaperNumbers.{Verdict}

-- an action of this kind with this operand, and the variable or selector that it names exists
pub record Performs (k : ℕ) (t : List ℕ) (variables selectors : ℕ) : Type 0 where
  pub action : Action
  pub is : action_of_kind (action_kind k) t ≡ some action
  pub assigns : (v : ℕ) (e : List ℕ) → action ≡ assign v e → v < variables
  pub switches : (s m : ℕ) → action ≡ switch s m → s < selectors

-- an assignment by its operand; d where it is done
pub record Assigns (t : List ℕ) (xs : List Variable) (d : Verdict) (vs : List ℤ) (r : Verdict) (vs' : List ℤ) : Type 0 where
  pub gives : (ed : Edition) (v : ℕ) (e : List ℕ) → action_of_kind an_assignment t ≡ some (assign v e) → Gives d vs (assigned ed xs vs v e) r vs'

-- what that action of node n does, on variables with these ranges
pub record Does (k : ℕ) (t : List ℕ) (xs : List Variable) (n : ℕ) (vs : List ℤ) (ms : List ℕ) (r : Verdict) (vs' : List ℤ) (ms' : List ℕ) : Type 0 where
  pub leaves : (ed : Edition) (a : Action) → action_of_kind (action_kind k) t ≡ some a → Left (act ed xs vs ms n a) vs ms r vs' ms'
