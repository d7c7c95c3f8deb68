-- What a tree that is read from nodes looks like: its numbers are those of the nodes, and each node that acts has its action listed.
use mathlib.Core.Path.{◌≡◌, refl, sym, ap, subst, ◌∙◌}
use mathlib.Core.List.{List, [], ◌∷◌, ◌++◌}
use mathlib.Core.Option.{Option, none, some}
use Prim.Native.Nat.{ℕ, suc, ◌+◌, ◌<◌}
use native.Mathlib.Nat.{le_refl}
use native.Mathlib.Omega.{arith}
use borrow.Author.Tests.{eq-eqb, ne_eqb}
use lib.ListN.{length, length-append}
use Rattle.semantics.specs.Run.{Action, is_test}
use Rattle.semantics.specs.TableFile.{NodeAction}
use Rattle.semantics.specs.Tables.{action_at, action_or_stop}
use Rattle.semantics.proofs.Facts.{none-not-some}
use Rattle.schedules.specs.Nodes.{Node, action_of, listed as listing, actions_from, actions_of}
use Rattle.schedules.specs.Trees.{Tree, Forest, tree_of}
use Rattle.schedules.specs.Preorder.{Written, WrittenAll, a_continue, a_reset, a_reinitial, a_switch, a_stop, a_while, an_if, a_sequence, a_parallel, no-tree, one_tree as next-tree}
use Rattle.schedules.proofs.OneTree.{one_tree}
use Rattle.schedules.proofs.TreeShapes.{Spans, SpansF, sp-leaf, sp-halt, sp-loop, sp-branch, sp-seq, sp-par, sp-nil, sp-cons, is_a_stop, Has, Kinds, KindsF, k-leaf, k-halt, k-loop, k-branch, k-seq, k-par, k-nil, k-cons}

-- ---- numbers
mutual
  spans : {t : Tree} {n b : ℕ} {ns : List Node} → Written t n ns → n + length ns ≡ b → Spans t n b
  spans {b = b} (a_continue {n = n}) e = sp-leaf {b = b} (le_refl n) (omega arith)
  spans {b = b} (a_reset {n = n}) e = sp-leaf {b = b} (le_refl n) (omega arith)
  spans {b = b} (a_reinitial {n = n}) e = sp-leaf {b = b} (le_refl n) (omega arith)
  spans {b = b} (a_switch {n = n}) e = sp-leaf {b = b} (le_refl n) (omega arith)
  spans {b = b} (a_stop {n = n}) e = sp-halt {b = b} (le_refl n) (omega arith)
  spans {b = b} (a_while {n = n} w) e = sp-loop (le_refl n) (spans {b = b} w (omega arith))
  spans {b = b} (an_if {n = n} {ms = ms} {ns = ns} {l = l} v w f) e =
      let k : length l ≡ length ms + length ns = ap length f ∙ length-append ms ns in
      sp-branch (le_refl n) (spans v refl) (spans {b = b} w (omega arith))
  spans {b = b} (a_sequence w f) e = sp-seq (all-spans {b = b} w (omega arith))
  spans {b = b} (a_parallel w f) e = sp-par (all-spans {b = b} w (omega arith))

  all-spans : {ts : Forest} {n b : ℕ} {ns : List Node} → WrittenAll ts n ns → n + length ns ≡ b → SpansF ts n b
  all-spans {n = n} {b = b} no-tree e = sp-nil {a = n} {b = b} (omega arith)
  all-spans {b = b} (next-tree {ms = ms} {ns = ns} {l = l} v w f) e =
      let k : length l ≡ length ms + length ns = ap length f ∙ length-append ms ns in
      sp-cons (spans v refl) (all-spans {b = b} w (omega arith))

pub written-spans : {t : Tree} {n : ℕ} {ns : List Node} → Written t n ns → Spans t n (n + length ns)
written-spans w = spans w refl

-- ---- kinds
-- the nodes from number n on have their actions in the list
pub data Listed (l : List NodeAction) : ℕ → List Node → Type 0 where
  l_nil : {n : ℕ} → Listed l n []
  l_cons : {n : ℕ} {x : Node} {xs : List Node} → ((y : Action) → action_of x ≡ some y → action_at l n ≡ some y) → Listed l (suc n) xs → Listed l n (x ∷ xs)

listed-parts : {l : List NodeAction} {n m : ℕ} (ms ns : List Node) → Listed l n (ms ++ ns) → n + length ms ≡ m → Listed l n ms × Listed l m ns
listed-parts {l} {n} {m} [] ns h e = (l_nil, subst (λ k. Listed l k ns) (omega arith) h)
listed-parts {m = m} (x ∷ ms) ns (l_cons p h) e = let q = listed-parts {m = m} ms ns h (omega arith) in (l_cons p q.0, q.1)

has : {l : List NodeAction} {n : ℕ} {y : Action} → action_at l n ≡ some y → Has l n (is_test y) (is_a_stop y)
unfolding action_or_stop
has {l} {n} {y} e =
    let f : action_or_stop l n ≡ y = rw (e, action_or_stop) refl in
    record { known = (y, e); tests_same = ap is_test f; stops_same = ap is_a_stop f }

mutual
  unfolding action_of is_test is_a_stop

  pub written-kinds : {l : List NodeAction} {t : Tree} {n : ℕ} {ns : List Node} → Written t n ns → Listed l n ns → Kinds l t
  written-kinds a_continue (l_cons h p) = k-leaf (has (h _ refl))
  written-kinds a_reset (l_cons h p) = k-leaf (has (h _ refl))
  written-kinds a_reinitial (l_cons h p) = k-leaf (has (h _ refl))
  written-kinds a_switch (l_cons h p) = k-leaf (has (h _ refl))
  written-kinds a_stop (l_cons h p) = k-halt (has (h _ refl))
  written-kinds (a_while w) (l_cons h p) = k-loop (has (h _ refl)) (written-kinds w p)
  written-kinds {l} (an_if {n = n} {ms = ms} {ns = ns} v w f) (l_cons h p) =
      let q = listed-parts ms ns (subst (Listed l (suc n)) f p) refl in
      k-branch (has (h _ refl)) (written-kinds v q.0) (written-kinds w q.1)
  written-kinds (a_sequence w f) (l_cons h p) = k-seq (all_kinds w p)
  written-kinds (a_parallel w f) (l_cons h p) = k-par (all_kinds w p)

  all_kinds : {l : List NodeAction} {ts : Forest} {n : ℕ} {ns : List Node} → WrittenAll ts n ns → Listed l n ns → KindsF l ts
  all_kinds no-tree p = k-nil
  all_kinds {l} (next-tree {n = n} {ms = ms} {ns = ns} v w f) p =
      let q = listed-parts ms ns (subst (Listed l n) f p) refl in
      k-cons (written-kinds v q.0) (all_kinds w q.1)

-- ---- the list that a schedule's nodes make
-- an action of a lower number hides none of these
listed-under : {l : List NodeAction} (a : NodeAction) {m : ℕ} {ns : List Node} → a.node < m → Listed l m ns → Listed (a ∷ l) m ns
unfolding action_at
listed-under a h l_nil = l_nil
listed-under a {m} h (l_cons p q) = l_cons {n = m} (λ y e. rw (ne_eqb a.node m (λ e. omega arith), action_at) (p y e)) (listed-under a (omega arith) q)

pub listed : (n : ℕ) (ns : List Node) → Listed (actions_from n ns) n ns
unfolding actions_from listing action_at
listed n [] = l_nil
listed n (x ∷ xs) = go (action_of x) refl (listed (suc n) xs)
  where
    go : (o : Option Action) → action_of x ≡ o → Listed (actions_from (suc n) xs) (suc n) xs → Listed (listing n o (actions_from (suc n) xs)) n (x ∷ xs)
    go none e p = l_cons (λ y f. none-not-some (sym e ∙ f)) p
    go (some z) e p = l_cons {n = n} (λ y f. rw (eq-eqb n n refl, action_at) (sym e ∙ f)) (listed-under (record { node = n; action = z }) (le_refl (suc n)) p)

pub root-shapes : (ns : List Node) {t : Tree} → tree_of ns ≡ some t → Spans t 0 (length ns) × Kinds (actions_of ns) t
unfolding actions_of
root-shapes ns {t} h =
    let w = (one_tree ns t).0 h in
    (spans {b = length ns} w (omega arith), written-kinds w (listed 0 ns))
