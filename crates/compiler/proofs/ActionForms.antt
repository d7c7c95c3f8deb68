-- The actions that kinds and operands of the index make are those of the nodes.
use mathlib.Core.Path.{◌≡◌, refl, sym, ap, ap₂, fun_ext, ◌∙◌}
use mathlib.Core.List.{List, [], ◌∷◌, ◌++◌}
use mathlib.Core.Option.{Option, none, some, bind}
use Prim.Native.Nat.{ℕ, zero, suc, ◌+◌, ◌≤◌, ◌<◌}
use native.Mathlib.Decide.{dec_lt}
use native.Mathlib.Nat.{zero-add}
use native.Mathlib.Omega.{arith}
use lib.Dec.{eqb}
use lib.ListN.{length, get_or, get_elem?, take}
use lib.Seq.{take_all, length-take-le}
use Rattle.semantics.specs.Bytes.{from_no_bytes, from_two_bytes, byte_and_rest}
use Rattle.semantics.specs.Editions.{Edition}
use Rattle.semantics.specs.Run.{Action, stop, is_test}
use Rattle.semantics.specs.TableFile.{NodeAction, TEST, action_bytes, kind_number, operand_bytes, action_kind, action_of_kind}
use Rattle.semantics.specs.Tables.{action_at, action_or_stop}
use Rattle.semantics.proofs.Facts.{none-not-some, some_is, at-exists, at_mem, all-mem}
use Rattle.schedules.specs.Nodes.{Node, sequence, parallel, Kind, a_sequence, a_parallel, a_while, an_if, a_continue, a_reset, a_reinitial, a_switch, a_stop, no_kind, node_of, nodes_in, action_of, listed, actions_from, actions_of}
use Rattle.schedules.specs.Compiling.{tests_of}
use Rattle.schedules.proofs.NodesRead.{nodes-counted}
use Rattle.schedules.proofs.Places.{take_next}
use Rattle.tree_read.specs.Index.{NodesAt}
use Rattle.schedule_read.specs.Actions.{action_number, ActionKinds}
use Rattle.schedule_read.proofs.NodeActions.{action-made, action-of-node, action-beyond}
use Rattle.schedule_read.proofs.Payloads.{counted}
use Rattle.numbering.specs.Meeting.{tests_in}
use Rattle.codec.specs.Parts.{part_at}
use Rattle.table_write.specs.ActionTable.{action_here, actions_to, Coded, Operands}

-- ---- a node's action, by the number of its kind and its operand bytes
data Formed (c : ℕ) (b : List ℕ) : Option Action → Type 0 where
  no_action : c ≡ 0 → Formed c b none
  an_action : {y : Action} → action_bytes y ≡ c ∷ b → eqb c TEST ≡ is_test y → Formed c b (some y)

formed : (j : Kind) (b : List ℕ) {x : Node} → node_of j b ≡ some x → Formed (action_number x) b (action_of x)
unfolding node_of action_of action_number action_bytes kind_number operand_bytes is_test byte_and_rest from_two_bytes from_no_bytes
formed a_sequence b e = rw (← (counted sequence b e).1) (no_action refl)
formed a_parallel b e = rw (← (counted parallel b e).1) (no_action refl)
formed a_while b e = rw (← some_is e) (an_action refl refl)
formed an_if b e = rw (← some_is e) (an_action refl refl)
formed a_continue b e = rw (← some_is e) (an_action refl refl)
formed a_reset [] e = none-not-some e
formed a_reset (v ∷ b) e = rw (← some_is e) (an_action refl refl)
formed a_reinitial [] e = none-not-some e
formed a_reinitial (v ∷ b) e = rw (← some_is e) (an_action refl refl)
formed a_switch [] e = none-not-some e
formed a_switch (c ∷ []) e = none-not-some e
formed a_switch (c ∷ m ∷ []) e = rw (← some_is e) (an_action refl refl)
formed a_switch (c ∷ m ∷ a ∷ b) e = none-not-some e
formed a_stop [] e = rw (← some_is e) (an_action refl refl)
formed a_stop (a ∷ b) e = none-not-some e
formed no_kind b e = none-not-some e

formed-coded : {c : ℕ} {b : List ℕ} {o : Option Action} → Formed c b o → action_of_kind (action_kind c) b ≡ o → ((y : Action) → o ≡ some y → length (action_bytes y) ≤ 200) → (c ≡ 0 → ⊥) → Coded c b
formed-coded (no_action e) r h z = absurd (z e)
formed-coded (an_action {y = y} f g) r h z = record { action = y; read = r; bytes = f; short = h y refl }

-- nodes without an action are no tests
formed-test : {c : ℕ} {b : List ℕ} {o : Option Action} → Formed c b o → eqb c TEST ≡ is_test (elim o [ none ↦ stop | some a ↦ a ])
unfolding is_test
formed-test (no_action e) = rw e refl
formed-test (an_action f g) = g

-- ---- the actions of more nodes
actions-append : (m : ℕ) (l k : List Node) → actions_from m (l ++ k) ≡ actions_from m l ++ actions_from (m + length l) k
unfolding actions_from listed
actions-append m [] k = let e : m + 0 ≡ m = omega arith in rw e refl
actions-append m (x ∷ l) k = go (action_of x) (actions-append (suc m) l k ∙ (let e : suc m + length l ≡ m + suc (length l) = omega arith in ap (λ (i : ℕ). actions_from (suc m) l ++ actions_from i k) e))
  where
    go : (o : Option Action) → actions_from (suc m) (l ++ k) ≡ actions_from (suc m) l ++ actions_from (m + suc (length l)) k →
        listed m o (actions_from (suc m) (l ++ k)) ≡ listed m o (actions_from (suc m) l) ++ actions_from (m + suc (length l)) k
    go none e = e
    go (some y) e = ap (λ (z : List NodeAction). record { node = m; action = y } ∷ z) e

actions-next : (ns : List Node) (n : ℕ) {x : Node} → get_elem? ns n ≡ some x → n ≤ length ns → actions_of (take (suc n) ns) ≡ actions_of (take n ns) ++ listed n (action_of x) []
unfolding actions_of actions_from
actions-next ns n {x} e h =
    ap (actions_from 0) (take_next ns n e) ∙ actions-append 0 (take n ns) (x ∷ [])
    ∙ ap (λ (i : ℕ). actions_from 0 (take n ns) ++ listed i (action_of x) []) (zero-add (length (take n ns)) ∙ length-take-le n ns h)

module _ {ed : Edition} {s kinds starts ends acts : List ℕ} {count : ℕ} {ns : List Node} (d : NodesAt ed s kinds starts ends count ns) (a : ActionKinds kinds count acts) where
  record Stood (n : ℕ) : Type 0 where
    node : Node
    is : get_elem? ns n ≡ some node
    form : Formed (get_or acts n 0) (part_at s starts ends n) (action_of node)
    read : action_of_kind (action_kind (get_or acts n 0)) (part_at s starts ends n) ≡ action_of node

  stood : (n : ℕ) → n < count → Stood n
  stood n h =
      let x = at-exists ns n (omega (arith, d.counted)) in
      let e = (d.entries n h).node ∙ x.1 in
      let k = ((a.each n h).made _).of x.0 e in
      record { node = x.0; is = x.1; form = rw k (formed _ _ e); read = rw k (action-made _ _ e) }

  actions-are : (n : ℕ) → n ≤ count → actions_to s acts starts ends n ≡ actions_of (take n ns)
  unfolding actions_to action_here actions_of actions_from
  actions-are zero h = refl
  actions-are (suc n) h =
      let x = stood n (omega arith) in
      ap₂ (λ (l : List NodeAction) (o : Option Action). l ++ listed n o []) (actions-are n (omega arith)) x.read ∙ sym (actions-next ns n x.is (omega (arith, d.counted)))

  -- "per node of kinds 3..9, reached or not, in rising order"
  pub actions-listed : actions_to s acts starts ends count ≡ actions_of ns
  actions-listed = actions-are count (omega arith) ∙ ap actions_of (take_all count ns (omega (arith, d.counted)))

  pub operands : nodes_in ed s ≡ some ns → Operands ed s acts starts ends count
  operands h = record {
    few = d.few;
    each = λ i q. let x = stood i q in record {
      in_acts = omega (arith, a.full, d.few, ed.entries_fit);
      in_starts = omega (arith, d.few, ed.entries_fit, d.starts_full);
      in_ends = omega (arith, d.few, ed.entries_fit, d.ends_full);
      ordered = (d.entries i q).ordered;
      inside = (d.entries i q).inside;
      coded = formed-coded x.form x.read (all-mem (nodes-counted ed s h).short-nodes (at_mem ns i x.is));
    };
  }

  -- by the kinds of the actions a node is a test just where it is one
  pub tests-are : tests_in acts ≡ tests_of ns
  unfolding tests_in tests_of action_or_stop is_test bind
  tests-are = fun_ext (λ n. go n (dec_lt n count))
    where
      go : (n : ℕ) → Dec (n < count) → eqb (get_or acts n 0) TEST ≡ is_test (elim (action_at (actions_of ns) n) [ none ↦ stop | some a ↦ a ])
      go n (yes h) =
          let x = stood n h in
          formed-test x.form ∙ ap (λ (o : Option Action). is_test (elim o [ none ↦ stop | some a ↦ a ])) (sym (action-of-node ns n ∙ ap (λ o. bind o action_of) x.is))
      go n (no h) =
          rw (a.behind n (omega arith), action-beyond d n (omega arith)) refl
