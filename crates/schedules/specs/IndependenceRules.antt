-- Document 02, item 5, said again: relations from its sentences, with no test of Independent in them.
-- `different_children`, `WithoutCase`, `occurs`, `in_statement`, `Independent`, `Reachable`, and `both_taken` with `second` are shown to be just these.
use Rattle.std.specs.Prelude.{◌≡◌, ◌⊎◌, ℕ, suc, ◌≤◌}
use mathlib.Core.List.{List, [], ◌∷◌, Memᴰ as Mem}
use Rattle.std.proofs.Math.Option.{some}
use Rattle.std.proofs.Math.ListN.{get_elem?}
use Rattle.semantics.specs.Editions.{Edition}
use Rattle.semantics.specs.Expressions.{Number, Operation, variable, operate, negation, number_bytes}
use Rattle.semantics.specs.Sections.{Selector, choice}
use Rattle.semantics.specs.Starts.{Start}
use Rattle.semantics.specs.Writing.{StartLimits}
use Rattle.semantics.specs.Run.{assign, Situation, at}
use Rattle.semantics.specs.Rules.{SaysPick, Rule}
use Rattle.schedules.specs.Nodes.{Node}
use Rattle.schedules.specs.Doing.{Does}
use Rattle.schedules.specs.Trees.{Tree, Forest, loop, branch, seq, par, cons}
use Rattle.schedules.specs.Residuals.{Residual, fresh, acting_at}
use Rattle.schedules.specs.MoveRules.{Acts}
use Rattle.schedules.specs.Files.{Schedule, rule_control}

-- ---- "stand in different children of one PARALLEL"
-- which of these trees it is, from 0
pub data NthChild (t : Tree) : Forest → ℕ → Type 0 where
  nth_here : {ts : Forest} → NthChild t (cons t ts) 0
  nth_later : {u : Tree} {ts : Forest} {i : ℕ} → NthChild t ts i → NthChild t (cons u ts) (suc i)

-- t is this tree or a part of it
pub data Within (t : Tree) : Tree → Type 0 where
  itself : Within t t
  in_body : {n : ℕ} {u : Tree} → Within t u → Within t (loop n u)
  in_first : {n : ℕ} {u v : Tree} → Within t u → Within t (branch n u v)
  in_second : {n : ℕ} {u v : Tree} → Within t v → Within t (branch n u v)
  in_sequence : {u c : Tree} {us : Forest} {i : ℕ} → NthChild c (cons u us) i → Within t c → Within t (seq u us)
  in_parallel : {u c : Tree} {us : Forest} {i : ℕ} → NthChild c (cons u us) i → Within t c → Within t (par u us)

-- node n stands in this tree: a part of it is the node with all that is below it
pub record NodeIn (n : ℕ) (t : Tree) : Type 0 where
  pub own : Tree
  pub within : Within own t
  pub is_own : acting_at own ≡ n ∷ []

pub record DifferentChildren (a b : ℕ) (root : Tree) : Type 0 where
  -- the PARALLEL, its two children, and which they are
  pub first : Tree
  pub others : Forest
  pub somewhere : Within (par first others) root
  pub i : ℕ
  pub j : ℕ
  pub different : i ≡ j → ⊥
  pub one : Tree
  pub other : Tree
  pub is_one : NthChild one (cons first others) i
  pub is_other : NthChild other (cons first others) j
  pub a_in : NodeIn a one
  pub b_in : NodeIn b other

-- ---- "in a schedule without CASE"
abbrev pub NoCase : Schedule → Type 0
NoCase s = (c : Selector) → Mem (choice c) s.plant.equations → ⊥

-- ---- "Let neither's variable occur in the other's statement."
pub data Occurs (v : ℕ) : Number → Type 0 where
  is_variable : Occurs v (variable v)
  in_left : {o : Operation} {a b : Number} → Occurs v a → Occurs v (operate o a b)
  in_right : {o : Operation} {a b : Number} → Occurs v b → Occurs v (operate o a b)
  in_negation : {a : Number} → Occurs v a → Occurs v (negation a)

-- v is the variable that is assigned, or occurs in a number that has these bytes
abbrev pub InStatement : Edition → (v w : ℕ) → List ℕ → Type 0
InStatement ed v w e = (w ≡ v) ⊎ ((x : Number) × (number_bytes ed x ≡ e) × Occurs v x)

-- ---- "Taken is 200 to 202." (the readings of document 02)
pub record Taken (answer : ℕ) : Type 0 where
  pub from_200 : 200 ≤ answer
  pub to_202 : answer ≤ 202

module _ (ed : Edition) (s : Schedule) where
  abbrev pub ByRule : Situation Residual → List ℕ → ℕ → Situation Residual → Type 0
  ByRule = Rule ed s.plant (rule_control s)

  -- ---- "This is for every reachable state.", event by event and rule by rule
  pub data ReachedByRules : Situation Residual → Type 0 where
    from_start : {st : Start} → StartLimits s.plant st → ReachedByRules (at (fresh s.root) st.values st.modes)
    by-event : {x y : Situation Residual} {e : List ℕ} {a : ℕ} → ReachedByRules x → ByRule x e a y → ReachedByRules y

  -- ---- "two acting assignments": the event says to pick node n, it acts, and it is a RESET or REINITIAL of the variable v to the number e
  pub record PicksByRules (x : Situation Residual) (event : List ℕ) (n v : ℕ) (e : List ℕ) : Type 0 where
    pub says : SaysPick ed event n
    pub place : Residual
    pub stands : x.place ≡ some place
    pub acts : Acts n place
    pub node : Node
    pub is_node : get_elem? s.nodes n ≡ some node
    pub does : Does node (assign v e)

  pub record IndependentByRules (x : Situation Residual) (one other : List ℕ) : Type 0 where
    -- the two nodes, their variables and their numbers
    pub a : ℕ
    pub b : ℕ
    pub v : ℕ
    pub w : ℕ
    pub d : List ℕ
    pub e : List ℕ
    pub picks-a : PicksByRules x one a v d
    pub picks-b : PicksByRules x other b w e
    pub apart : DifferentChildren a b s.root
    pub v-free : InStatement ed v w e → ⊥
    pub w-free : InStatement ed w v d → ⊥

  -- ---- "picking both is taken": by the rules, with this answer to the second and this situation at the end
  pub record BothTaken (x : Situation Residual) (e f : List ℕ) (answer : ℕ) (end : Situation Residual) : Type 0 where
    pub between : Situation Residual
    pub first-answer : ℕ
    pub first : ByRule x e first-answer between
    pub first_taken : Taken first-answer
    pub second : ByRule between f answer end
    pub second-taken : Taken answer
