-- The actions of nodes by their index: acts has the kinds of the nodes' actions, starts and ends where the operands stand in the schedule section s.
-- The rows are those of the table file; only where their parts stand is said here.
use Rattle.std.specs.Prelude.{◌≡◌, List, [], ◌∷◌, ◌++◌, ℕ, zero, suc, ◌+◌, ◌*◌, ◌≤◌, ◌<◌, length, get_or}
use Rattle.std.proofs.Math.Option.{some}
use Rattle.semantics.specs.Bytes.{width_of}
use Rattle.semantics.specs.Editions.{Edition}
use Rattle.semantics.specs.Run.{Action}
use Rattle.semantics.specs.TableFile.{NodeAction, action_kind, action_of_kind, action_bytes, write_action_rows}
use Rattle.schedules.specs.Nodes.{listed}
use Rattle.codec.specs.Parts.{part_at}

-- the action of node n, of this kind and operand; none of kind 0
unfoldable pub action_here : ℕ → ℕ → List ℕ → List NodeAction
action_here n k b = listed n (action_of_kind (action_kind k) b) []

module _ (s acts starts ends : List ℕ) where
  -- those of the first n nodes
  unfoldable pub actions_to : ℕ → List NodeAction
  actions_to zero = []
  actions_to (suc n) = actions_to n ++ action_here n (get_or acts n 0) (part_at s starts ends n)

module _ (ed : Edition) (s acts starts ends : List ℕ) where
  -- the row of node n, and those of the first n nodes
  abbrev pub row_at_place : ℕ → List ℕ
  row_at_place n = write_action_rows ed (action_here n (get_or acts n 0) (part_at s starts ends n))

  abbrev pub rows_to : ℕ → List ℕ
  rows_to n = write_action_rows ed (actions_to s acts starts ends n)

-- the bytes of a row before its operand: length, node and kind
abbrev pub row_head : Edition → ℕ
row_head ed = 2 * width_of ed.width + 1

-- kind and operand are the bytes of an action, and no more than a row may hold
pub record Coded (k : ℕ) (b : List ℕ) : Type 0 where
  pub action : Action
  pub read : action_of_kind (action_kind k) b ≡ some action
  pub bytes : action_bytes action ≡ k ∷ b
  pub short : length (action_bytes action) ≤ 200

-- node n stands in the index, and its operand in the section
pub record OperandOf (s acts starts ends : List ℕ) (n : ℕ) : Type 0 where
  pub in_acts : n < length acts
  pub in_starts : n < length starts
  pub in_ends : n < length ends
  pub ordered : get_or starts n 0 ≤ get_or ends n 0
  pub inside : get_or ends n 0 ≤ length s
  pub coded : (get_or acts n 0 ≡ 0 → ⊥) → Coded (get_or acts n 0) (part_at s starts ends n)

-- so many nodes do
pub record Operands (ed : Edition) (s acts starts ends : List ℕ) (count : ℕ) : Type 0 where
  pub few : count ≤ ed.nodes
  pub each : (i : ℕ) → i < count → OperandOf s acts starts ends i

-- in some section
pub record Listed (ed : Edition) (acts starts ends : List ℕ) (count : ℕ) : Type 0 where
  pub section : List ℕ
  pub operands : Operands ed section acts starts ends count

-- how many of the first n nodes have an action, and how many bytes their rows take, whatever the operands are
pub record Measured (ed : Edition) (acts starts ends : List ℕ) (n count size : ℕ) : Type 0 where
  pub few : count ≤ n
  pub short : size ≤ n * 204
  pub counts : (s : List ℕ) → ((i : ℕ) → i < n → OperandOf s acts starts ends i) → count ≡ length (actions_to s acts starts ends n)
  pub sizes : (s : List ℕ) → ((i : ℕ) → i < n → OperandOf s acts starts ends i) → size ≡ length (rows_to ed s acts starts ends n)
