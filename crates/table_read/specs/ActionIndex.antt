-- The actions of a table by node: kind, and where the operand stands.
use Rattle.std.specs.Prelude.{◌≡◌, true, false, List, [], ◌∷◌, ℕ, zero, suc, ◌+◌, eqb, length, get_or, drop}
use Rattle.std.proofs.Math.Option.{Option, none, some}
use Rattle.semantics.specs.Editions.{Edition}
use Rattle.semantics.specs.Refusals.{accepted}
use Rattle.semantics.specs.Run.{Action}
use Rattle.semantics.specs.TableFile.{NodeAction, kind_number, read_action}
use Rattle.semantics.specs.Tables.{action_at, judge_actions}
use Rattle.paper.specs.Refusals.{answered}
use Rattle.codec.specs.Numbers.{wide, num_at}
use Rattle.codec.specs.Places.{places_from}
use Rattle.table_read.specs.declared.actions.Actions.{Actions}

-- the number of an action's kind; 0 where there is no action
unfoldable pub kind_code : Option Action → ℕ
kind_code none = 0
kind_code (some a) = kind_number a

unfoldable pub kind_at : List NodeAction → ℕ → ℕ
kind_at l n = kind_code (action_at l n)

-- a list of numbers by node says what the actions are: their kinds, and no kind where a node has none
pub record KindsSay (l : List NodeAction) (ks : List ℕ) : Type 0 where
  pub known : (n : ℕ) (a : Action) → action_at l n ≡ some a → kind_number a ≡ get_or ks n 0
  pub unknown : (n : ℕ) → action_at l n ≡ none → (a : Action) → kind_number a ≡ get_or ks n 0 → ⊥

-- the place of a node's action, where ps are the places of the actions
unfoldable pub place_at : List NodeAction → List ℕ → ℕ → Option ℕ
place_at [] ps n = none
place_at (a ∷ l) [] n = none
place_at (a ∷ l) (p ∷ ps) n = elim (eqb a.node n) [ true ↦ some p | false ↦ place_at l ps n ]

-- an action: its length, its node, its kind, the operand
unfoldable pub operand_start : Edition → Option ℕ → ℕ
operand_start ed none = 0
operand_start ed (some p) = p + wide ed + wide ed + 1

unfoldable pub operand_end : Edition → List ℕ → Option ℕ → ℕ
operand_end ed s none = 0
operand_end ed s (some p) = p + wide ed + num_at ed s p

-- what stands at the numbers from 0 on
unfoldable pub listed : ℕ → (ℕ → ℕ) → List ℕ
listed zero f = []
listed (suc k) f = f zero ∷ listed k (λ n. f (suc n))

-- as many as any edition has nodes
unfoldable pub by_node : (ℕ → ℕ) → List ℕ
by_node f = listed 256 f

abbrev pub node_of : NodeAction → ℕ
node_of a = a.node

-- where the accepted actions of the section s stand
unfoldable pub action_index : Edition → List ℕ → List NodeAction → Actions
action_index ed s l =
    let ps = places_from (length s) (read_action ed) (length l) (drop (wide ed) s) in
    record {
      count = length l;
      kinds = by_node (kind_at l);
      starts = by_node (λ n. operand_start ed (place_at l ps n));
      ends = by_node (λ n. operand_end ed s (place_at l ps n));
    }

-- x is the index of the section s, whose actions are accepted; operands are not looked at
abbrev pub Indexes : Edition → List ℕ → Actions → Type 0
Indexes ed s x = accepted x ≡ answered (action_index ed s) (judge_actions ed s)
