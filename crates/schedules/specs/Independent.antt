-- Document 02, item 5, "Order of independent branches": what its sentences mention, each as a definition that can be worked out. IndependenceRules says them again.
use Rattle.std.specs.Prelude.{◌≡◌, Bool, true, false, ◌&&◌, ◌||◌, ℕ, suc, ◌*◌, length, take, drop, get_or, eqb}
use mathlib.Core.List.{List, [], ◌∷◌, ◌++◌, Memᴰ as Mem}
use Rattle.std.proofs.Math.Option.{none, some}
use Rattle.semantics.specs.Editions.{Edition}
use Rattle.semantics.specs.Expressions.{Number, constant, variable, operate, negation, number_in}
use Rattle.semantics.specs.Plant.{among, selectors}
use Rattle.semantics.specs.Events.{pick, event_in}
use Rattle.semantics.specs.Starts.{Start, start_in, fits_start}
use Rattle.semantics.specs.Records.{record_at}
use Rattle.semantics.specs.Calls.{Ran}
use Rattle.semantics.specs.Run.{assign, Situation, Answered, at, step, is_taken}
use Rattle.schedules.specs.Nodes.{node_action}
use Rattle.schedules.specs.Trees.{Tree, Forest, leaf, halt, loop, branch, seq, par, nil, cons}
use Rattle.schedules.specs.Residuals.{Residual, fresh, acting}
use Rattle.schedules.specs.Files.{Schedule, rule_control}

-- ---- "Let two acting assignments stand in different children of one PARALLEL": any PARALLEL above both
-- the numbers of a tree's nodes; a SEQUENCE and a PARALLEL never act, and their numbers are left aside
unfoldable mutual
  pub nodes_of : Tree → List ℕ
  nodes_of (leaf n) = n ∷ []
  nodes_of (halt n) = n ∷ []
  nodes_of (loop n t) = n ∷ nodes_of t
  nodes_of (branch n t u) = n ∷ (nodes_of t ++ nodes_of u)
  nodes_of (seq t ts) = nodes_of t ++ nodes_of_all ts
  nodes_of (par t ts) = nodes_of t ++ nodes_of_all ts

  pub nodes_of_all : Forest → List ℕ
  nodes_of_all nil = []
  nodes_of_all (cons t ts) = nodes_of t ++ nodes_of_all ts

-- a stands in one of these children and b in a later one
unfoldable pub stands_before : ℕ → ℕ → Forest → Bool
stands_before a b nil = false
stands_before a b (cons t ts) = (among a (nodes_of t) && among b (nodes_of_all ts)) || stands_before a b ts

-- one of them in one child and the other in another
unfoldable pub in_different : ℕ → ℕ → Forest → Bool
in_different a b ts = stands_before a b ts || stands_before b a ts

-- a and b stand in different children of a PARALLEL of this tree, or of one of these trees
unfoldable mutual
  pub different_children : ℕ → ℕ → Tree → Bool
  different_children a b (leaf n) = false
  different_children a b (halt n) = false
  different_children a b (loop n t) = different_children a b t
  different_children a b (branch n t u) = different_children a b t || different_children a b u
  different_children a b (seq t ts) = different_children a b t || any_different a b ts
  different_children a b (par t ts) = in_different a b (cons t ts) || (different_children a b t || any_different a b ts)

  pub any_different : ℕ → ℕ → Forest → Bool
  any_different a b nil = false
  any_different a b (cons t ts) = different_children a b t || any_different a b ts

-- ---- "in a schedule without CASE": "CASEs are selectors 0, 1, .. in order", and there is none
abbrev pub WithoutCase : Schedule → Type 0
WithoutCase s = selectors s.plant ≡ []

-- ---- "Let neither's variable occur in the other's statement."
-- in a number
unfoldable pub occurs : ℕ → Number → Bool
occurs v (constant z) = false
occurs v (variable w) = eqb w v
occurs v (operate o a b) = occurs v a || occurs v b
occurs v (negation a) = occurs v a

-- in the bytes of a number, so many variables being declared
unfoldable pub occurs_in : Edition → ℕ → ℕ → List ℕ → Bool
occurs_in ed variables v e = elim (number_in ed variables e) [ none ↦ false | some x ↦ occurs v x ]

-- in the statement that assigns the number e to the variable w: "A statement is its variable and its number" (the readings of document 02)
unfoldable pub in_statement : Edition → ℕ → ℕ → ℕ → List ℕ → Bool
in_statement ed variables v w e = eqb w v || occurs_in ed variables v e

module _ (ed : Edition) (s : Schedule) where
  abbrev step_by_rules : Situation Residual → List ℕ → Answered Residual
  step_by_rules x e = step ed s.plant (rule_control s) x e

  -- ---- "This is for every reachable state.": any events, from any start that 20 lets pass
  unfoldable pub left_by : Situation Residual → List (List ℕ) → Situation Residual
  left_by x [] = x
  left_by x (e ∷ es) = left_by (step_by_rules x e).left es

  abbrev pub begun : Start → Situation Residual
  begun st = at (fresh s.root) st.values st.modes

  pub record Reachable (x : Situation Residual) : Type 0 where
    pub start : List ℕ
    pub st : Start
    pub start_read : start_in s.plant start ≡ some st
    pub start_fits : fits_start s.plant st ≡ true
    pub events : List (List ℕ)
    pub reached : left_by (begun st) events ≡ x

  -- ---- "two acting assignments": the event picks node n, which acts and assigns the number e to the variable v
  pub record PicksAssignment (x : Situation Residual) (event : List ℕ) (n v : ℕ) (e : List ℕ) : Type 0 where
    pub is-pick : event_in ed event ≡ pick n
    pub place : Residual
    pub stands : x.place ≡ some place
    pub acts : Mem n (acting place)
    pub assigns : node_action s.nodes n ≡ assign v e

  pub record Independent (x : Situation Residual) (one other : List ℕ) : Type 0 where
    -- the two nodes, their variables and their numbers
    pub a : ℕ
    pub b : ℕ
    pub v : ℕ
    pub w : ℕ
    pub d : List ℕ
    pub e : List ℕ
    pub picks-a : PicksAssignment x one a v d
    pub picks-b : PicksAssignment x other b w e
    pub apart : different_children a b s.root ≡ true
    pub v-free : in_statement ed (length s.plant.variables) v w e ≡ false
    pub w-free : in_statement ed (length s.plant.variables) w v d ≡ false

  -- ---- "picking both is taken in one order exactly when it is in the other": 200 to 202
  -- the second of two events: what it is answered, and what it leaves
  unfoldable pub second : Situation Residual → List ℕ → List ℕ → Answered Residual
  second x e f = step_by_rules (step_by_rules x e).left f

  unfoldable pub both_taken : Situation Residual → List ℕ → List ℕ → Bool
  both_taken x e f = is_taken (step_by_rules x e).answer && is_taken (second x e f).answer

  pub record EitherOrder (x : Situation Residual) (e f : List ℕ) : Type 0 where
    pub taken : both_taken x e f ≡ both_taken x f e
    -- "where both are taken the acting nodes, values and last answer at the end are the same": all that the second leaves, and its answer
    pub same : both_taken x e f ≡ true → second x e f ≡ second x f e

-- ---- the same of the bytes that a run writes
-- a record's answer is its first byte
unfoldable pub record_taken : List ℕ → Bool
record_taken r = is_taken (get_or r 0 0)

-- record k and the next one are of events that were taken
unfoldable pub records_taken : ℕ → ℕ → List ℕ → Bool
records_taken size k bytes = record_taken (record_at size k bytes) && record_taken (record_at size (suc k) bytes)

-- what two runs return whose events k and suc k stand in the one order and in the other
pub record EitherOrderReturned (size k : ℕ) (one other : Ran) : Type 0 where
  pub refusal : one.refusal ≡ other.refusal
  pub taken : records_taken size k one.records ≡ records_taken size k other.records
  -- all records before the two
  pub before : take (k * size) one.records ≡ take (k * size) other.records
  -- where both are taken, the record of the second and all bytes behind it, and the counts
  pub behind : records_taken size k one.records ≡ true → drop (suc k * size) one.records ≡ drop (suc k * size) other.records
  pub counts : records_taken size k one.records ≡ true → one.counts ≡ other.counts
