-- The kinds of the nodes' actions, by node.
use Rattle.std.specs.Prelude.{◌≡◌, List, ℕ, ◌≤◌, ◌<◌, length, get_or}
use Rattle.std.proofs.Math.Option.{none, some}
use Rattle.semantics.specs.TableFile.{kind_number}
use Rattle.schedules.specs.Nodes.{Node, no_kind, kind_of, action_of}
use Rattle.schedule_read.specs.Indexed.{Tells}

-- the number of the kind of a node's action in a table; 0 of a node without an action
unfoldable pub action_number : Node → ℕ
action_number x = elim (action_of x) [ none ↦ 0 | some a ↦ kind_number a ]

-- r is that of every node of kind k, whatever its payload; 0 where there is no such kind
pub record ActsAs (k r : ℕ) : Type 0 where
  pub made : (b : List ℕ) → Tells action_number k b r
  pub no_node : kind_of k ≡ no_kind → r ≡ 0

-- acts has it of the first nodes, by their kinds in the file, and 0 behind them
pub record ActionKinds (kinds : List ℕ) (count : ℕ) (acts : List ℕ) : Type 0 where
  pub full : length acts ≡ 256
  pub each : (n : ℕ) → n < count → ActsAs (get_or kinds n 0) (get_or acts n 0)
  pub behind : (n : ℕ) → count ≤ n → get_or acts n 0 ≡ 0
