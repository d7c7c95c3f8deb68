-- 18 of the operands: they can be looked at node by node.
use mathlib.Core.Path.{◌≡◌, refl, sym, ap, ◌∙◌}
use mathlib.Core.Bool.{Bool, true, false}
use mathlib.Core.List.{List, [], ◌∷◌, map}
use mathlib.Core.Option.{Option, some}
use Prim.Native.Nat.{ℕ, suc, ◌≤◌, ◌<◌}
use native.Mathlib.Omega.{arith}
use borrow.Author.Tests.{eq-eqb, ne_eqb, leb-true, ltb-true}
use lib.Dec.{eqb, leb}
use Rattle.semantics.specs.Bytes.{every}
use Rattle.semantics.specs.Editions.{Edition}
use Rattle.semantics.specs.Run.{Action}
use Rattle.semantics.specs.TableFile.{NodeAction}
use Rattle.semantics.specs.Tables.{rising_from, action_nodes, action_at, node_exists, actions_numbered}
use Rattle.semantics.proofs.Facts.{All, all_nil, all_cons, all_map, every-all, all-every, true-not-false, none-not-some, some_is, and_left, and_right}
use Rattle.table_read.specs.ActionIndex.{node_of}

found_all : (low : ℕ) (l : List NodeAction) → rising_from low (map node_of l) ≡ true → All (λ a. (low ≤ a.node) × (action_at l a.node ≡ some a.action)) l
unfolding rising_from action_at
found_all low [] h = all_nil
found_all low (a ∷ l) h = go (leb low a.node) refl h (found_all (suc a.node) l)
  where
    later : (b : NodeAction) → low ≤ a.node → (suc a.node ≤ b.node) × (action_at l b.node ≡ some b.action) → (low ≤ b.node) × (action_at (a ∷ l) b.node ≡ some b.action)
    later b k h = let i = h.0 in (omega arith, rw (action_at, ne_eqb a.node b.node (λ e. omega arith)) h.1)

    go : (t : Bool) → leb low a.node ≡ t → elim t [ true ↦ rising_from (suc a.node) (map node_of l) | false ↦ false ] ≡ true → (rising_from (suc a.node) (map node_of l) ≡ true → All (λ b. (suc a.node ≤ b.node) × (action_at l b.node ≡ some b.action)) l) → All (λ b. (low ≤ b.node) × (action_at (a ∷ l) b.node ≡ some b.action)) (a ∷ l)
    go true e h f =
        let k = leb-true low a.node e in
        all_cons {x = a} (k, rw (action_at, eq-eqb a.node a.node refl) refl) (all_map (λ b. later b k) (f h))
    go false e h f = true-not-false (sym h)

both-all : {A : Type 0} {P Q R : A → Type 0} {l : List A} → ((x : A) → P x → Q x → R x) → All P l → All Q l → All R l
both-all f all_nil all_nil = all_nil
both-all f (all_cons {x = x} h p) (all_cons i q) = all_cons (f x h i) (both-all f p q)

-- a test of actions that each node's action passes, all of them pass
pub every-by-node : (ed : Edition) (fits : Action → Bool) (l : List NodeAction) → actions_numbered ed l ≡ true →
    ((n : ℕ) (a : Action) → n < ed.nodes → action_at l n ≡ some a → fits a ≡ true) → every (λ a. fits a.action) l ≡ true
unfolding actions_numbered action_nodes node_exists
every-by-node ed fits l h f =
    all-every (λ a. fits a.action) (both-all (λ x p q. f x.node x.action (ltb-true x.node ed.nodes q) p.1)
    (found_all 0 l (and_left (rising_from 0 (map node_of l)) (every (node_exists ed) l) h)) (every-all (node_exists ed) l (and_right (rising_from 0 (map node_of l)) (every (node_exists ed) l) h)))

-- and back
pub by-node-every : (fits : Action → Bool) (l : List NodeAction) (n : ℕ) {a : Action} → every (λ a. fits a.action) l ≡ true → action_at l n ≡ some a → fits a ≡ true
unfolding action_at
by-node-every fits l n {a} h k = go (every-all (λ a. fits a.action) l h) k
  where
    pick : (x : NodeAction) (l : List NodeAction) (t : Bool) → fits x.action ≡ true → (action_at l n ≡ some a → fits a ≡ true) → ◌≡◌ {A = Option Action} (elim t [ true ↦ some x.action | false ↦ action_at l n ]) (some a) → fits a ≡ true
    pick x l true h f k = ap fits (sym (some_is k)) ∙ h
    pick x l false h f k = f k

    go : {l : List NodeAction} → All (λ x. fits x.action ≡ true) l → action_at l n ≡ some a → fits a ≡ true
    go all_nil k = none-not-some k
    go (all_cons {x = x} {l = l} h p) k = pick x l (eqb x.node n) h (go p) k
