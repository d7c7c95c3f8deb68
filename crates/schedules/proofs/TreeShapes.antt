-- What a tree that is read from nodes has: its numbers run in preorder, and each node that acts has its action.
use mathlib.Core.Path.{◌≡◌}
use mathlib.Core.Bool.{Bool, true, false}
use mathlib.Core.List.{List}
use mathlib.Core.Option.{some}
use Prim.Native.Nat.{ℕ, suc, ◌≤◌, ◌<◌}
use Rattle.semantics.specs.Run.{Action, test, wait, assign, switch, stop, is_test}
use Rattle.semantics.specs.TableFile.{NodeAction}
use Rattle.semantics.specs.Tables.{action_at, action_or_stop}
use Rattle.schedules.specs.Trees.{Tree, Forest, leaf, halt, loop, branch, seq, par, nil, cons}

-- a tree whose numbers run, in preorder, from a up to b; the children of a SEQUENCE and a PARALLEL come after its own number
mutual
  pub data Spans : Tree → ℕ → ℕ → Type 0 where
    sp-leaf : {n a b : ℕ} → a ≤ n → n < b → Spans (leaf n) a b
    sp-halt : {n a b : ℕ} → a ≤ n → n < b → Spans (halt n) a b
    sp-loop : {n a b : ℕ} {t : Tree} → a ≤ n → Spans t (suc n) b → Spans (loop n t) a b
    sp-branch : {n a m b : ℕ} {t u : Tree} → a ≤ n → Spans t (suc n) m → Spans u m b → Spans (branch n t u) a b
    sp-seq : {a b : ℕ} {t : Tree} {ts : Forest} → SpansF (cons t ts) (suc a) b → Spans (seq t ts) a b
    sp-par : {a b : ℕ} {t : Tree} {ts : Forest} → SpansF (cons t ts) (suc a) b → Spans (par t ts) a b

  pub data SpansF : Forest → ℕ → ℕ → Type 0 where
    sp-nil : {a b : ℕ} → a ≤ b → SpansF nil a b
    sp-cons : {a m b : ℕ} {t : Tree} {ts : Forest} → Spans t a m → SpansF ts m b → SpansF (cons t ts) a b

unfoldable pub is_a_stop : Action → Bool
is_a_stop (test t) = false
is_a_stop (wait t) = false
is_a_stop (assign v e) = false
is_a_stop (switch s m) = false
is_a_stop stop = true

-- node n is among the actions, a test or not, a STOP or not
pub record Has (l : List NodeAction) (n : ℕ) (tests stops : Bool) : Type 0 where
  pub known : (a : Action) × (action_at l n ≡ some a)
  pub tests_same : is_test (action_or_stop l n) ≡ tests
  pub stops_same : is_a_stop (action_or_stop l n) ≡ stops

-- the nodes of a tree that act, each with an action of its kind
mutual
  pub data Kinds (l : List NodeAction) : Tree → Type 0 where
    k-leaf : {n : ℕ} → Has l n false false → Kinds l (leaf n)
    k-halt : {n : ℕ} → Has l n false true → Kinds l (halt n)
    k-loop : {n : ℕ} {t : Tree} → Has l n true false → Kinds l t → Kinds l (loop n t)
    k-branch : {n : ℕ} {t u : Tree} → Has l n true false → Kinds l t → Kinds l u → Kinds l (branch n t u)
    k-seq : {t : Tree} {ts : Forest} → KindsF l (cons t ts) → Kinds l (seq t ts)
    k-par : {t : Tree} {ts : Forest} → KindsF l (cons t ts) → Kinds l (par t ts)

  pub data KindsF (l : List NodeAction) : Forest → Type 0 where
    k-nil : KindsF l nil
    k-cons : {t : Tree} {ts : Forest} → Kinds l t → KindsF l ts → KindsF l (cons t ts)
