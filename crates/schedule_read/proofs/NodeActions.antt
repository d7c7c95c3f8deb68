-- The action of a node is what its kind, by the array of kinds, makes of its payload.
use mathlib.Core.Path.{◌≡◌, refl, sym, ap, subst, ◌∙◌}
use mathlib.Core.Bool.{true}
use mathlib.Core.List.{List, [], ◌∷◌, Memᴰ as Mem}
use mathlib.Core.Option.{Option, none, some, bind}
use Prim.Native.Nat.{ℕ, zero, suc, ◌+◌, ◌-◌, ◌≤◌, ◌<◌}
use native.Mathlib.Decide.{dec_lt}
use native.Mathlib.Nat.{zero-add}
use native.Mathlib.Omega.{arith}
use borrow.Author.Tests.{eq-eqb, ne_eqb}
use lib.ListN.{length, get_or, get_elem?, take, drop, set, replicate, length-set, length-replicate}
use lib.Seq.{get_or-set_same, get_or-set_other}
use Rattle.semantics.specs.Bytes.{from_no_bytes, from_two_bytes, byte_and_rest}
use Rattle.semantics.specs.Editions.{Edition}
use Rattle.semantics.specs.Run.{Action}
use Rattle.semantics.specs.TableFile.{TEST, WAIT, ASSIGN, SWITCH, STOP, kind_number, action_kind}
use Rattle.semantics.specs.TableFile as TableFile
use Rattle.semantics.specs.Tables.{action_at}
use Rattle.semantics.proofs.Facts.{none-not-some, some_is, at-exists}
use Rattle.schedules.specs.Nodes.{Node, sequence, parallel, reset, reinitial, switch_to, stop_all, Kind, a_sequence, a_parallel, a_while, an_if, a_continue, a_reset, a_reinitial, a_switch, a_stop, no_kind, kind_of, node_of, action_of, listed, actions_from, actions_of}
use Rattle.schedules.specs.Trees.{Tree, tree_of}
use Rattle.schedules.specs.Residuals.{Residual, acting}
use Rattle.schedules.proofs.ActingDetermines.{Of}
use Rattle.schedules.proofs.MovesFit.{move-fits}
use Rattle.schedules.proofs.ReadShapes.{root-shapes}
use Rattle.tree_read.specs.Index.{NodesAt}
use Rattle.schedule_read.specs.Actions.{action_number, ActsAs, ActionKinds}
use Rattle.codec.proofs.Padding.{repeated}
use Rattle.schedule_read.proofs.Payloads.{by_kind, headed, paired, counted, emptied}

-- ---- the list of actions, by number
below-first : (m n : ℕ) (ns : List Node) → n < m → action_at (actions_from m ns) n ≡ none
unfolding actions_from listed action_at
below-first m n [] h = refl
below-first m n (x ∷ ns) h = go (action_of x) (below-first (suc m) n ns (omega arith))
  where
    go : (o : Option Action) → action_at (actions_from (suc m) ns) n ≡ none → action_at (listed m o (actions_from (suc m) ns)) n ≡ none
    go none k = k
    go (some y) k = rw (ne_eqb m n (λ e. omega arith), action_at) k

at-number : (m i : ℕ) (ns : List Node) → action_at (actions_from m ns) (m + i) ≡ bind (get_elem? ns i) action_of
unfolding actions_from listed action_at bind
at-number m i [] = refl
at-number m zero (x ∷ ns) = go (action_of x)
  where
    go : (o : Option Action) → action_at (listed m o (actions_from (suc m) ns)) (m + 0) ≡ o
    go none = below-first (suc m) (m + 0) ns (omega arith)
    go (some y) = rw (eq-eqb m (m + 0) (omega arith), action_at) refl
at-number m (suc i) (x ∷ ns) =
    let e : m + suc i ≡ suc m + i = omega arith in
    go (action_of x) (ap (action_at (actions_from (suc m) ns)) e ∙ at-number (suc m) i ns)
  where
    go : (o : Option Action) → action_at (actions_from (suc m) ns) (m + suc i) ≡ bind (get_elem? ns i) action_of → action_at (listed m o (actions_from (suc m) ns)) (m + suc i) ≡ bind (get_elem? ns i) action_of
    go none k = k
    go (some y) k = rw (ne_eqb m (m + suc i) (λ e. omega arith), action_at) k

pub action-of-node : (ns : List Node) (i : ℕ) → action_at (actions_of ns) i ≡ bind (get_elem? ns i) action_of
unfolding actions_of
action-of-node ns i = ap (action_at (actions_from 0 ns)) (sym (zero-add i)) ∙ at-number 0 i ns

-- ---- a node, by its kind and payload
pub action-made : (k : Kind) (b : List ℕ) {x : Node} → node_of k b ≡ some x → TableFile.action_of_kind (action_kind (action_number x)) b ≡ action_of x
unfolding node_of action_of TableFile.action_of_kind action_kind action_number kind_number byte_and_rest from_two_bytes from_no_bytes
action-made a_sequence b e = rw (← (counted sequence b e).1) refl
action-made a_parallel b e = rw (← (counted parallel b e).1) refl
action-made a_while b e = rw (← some_is e) refl
action-made an_if b e = rw (← some_is e) refl
action-made a_continue b e = rw (← some_is e) refl
action-made a_reset [] e = none-not-some e
action-made a_reset (v ∷ b) e = rw (← some_is e) refl
action-made a_reinitial [] e = none-not-some e
action-made a_reinitial (v ∷ b) e = rw (← some_is e) refl
action-made a_switch [] e = none-not-some e
action-made a_switch (c ∷ []) e = none-not-some e
action-made a_switch (c ∷ m ∷ []) e = rw (← some_is e) refl
action-made a_switch (c ∷ m ∷ a ∷ b) e = none-not-some e
action-made a_stop [] e = rw (← some_is e) refl
action-made a_stop (a ∷ b) e = none-not-some e
action-made no_kind b e = none-not-some e

-- ---- the number of a kind of nodes, as the code answers it
unfoldable pub number_of : Kind → ℕ
number_of a_sequence = 0
number_of a_parallel = 0
number_of a_while = TEST
number_of an_if = TEST
number_of a_continue = WAIT
number_of a_reset = ASSIGN
number_of a_reinitial = ASSIGN
number_of a_switch = SWITCH
number_of a_stop = STOP
number_of no_kind = 0

number-made : (k : Kind) (b : List ℕ) {x : Node} → node_of k b ≡ some x → number_of k ≡ action_number x
unfolding node_of action_of number_of action_number kind_number
number-made a_sequence b e = ap action_number (counted sequence b e).1
number-made a_parallel b e = ap action_number (counted parallel b e).1
number-made a_while b e = ap action_number (some_is e)
number-made an_if b e = ap action_number (some_is e)
number-made a_continue b e = ap action_number (some_is e)
number-made a_reset b e = ap action_number (headed reset b e).is
number-made a_reinitial b e = ap action_number (headed reinitial b e).is
number-made a_switch b e = ap action_number (paired switch_to b e).is
number-made a_stop b e = ap action_number (emptied stop_all b e)
number-made no_kind b e = none-not-some e

pub acts-as : (k : ℕ) {r : ℕ} → r ≡ number_of (kind_of k) → ActsAs k r
unfolding number_of
acts-as k e = record { made = λ b. record { of = λ x h. e ∙ number-made (kind_of k) b h }; no_node = λ h. e ∙ ap number_of h }

-- a kind that no action has
pub no_action : (k : ℕ) → (k ≡ 3 → ⊥) → (k ≡ 4 → ⊥) → (k ≡ 5 → ⊥) → (k ≡ 6 → ⊥) → (k ≡ 7 → ⊥) → (k ≡ 8 → ⊥) → (k ≡ 9 → ⊥) → 0 ≡ number_of (kind_of k)
unfolding number_of
no_action k a b c d e f g =
    by_kind (λ j. 0 ≡ number_of j) k (λ i. refl) (λ i. refl) (λ i. absurd (a i)) (λ i. absurd (b i)) (λ i. absurd (c i)) (λ i. absurd (d i)) (λ i. absurd (e i)) (λ i. absurd (f i)) (λ i. absurd (g i)) refl

-- ---- the array of kinds
module _ (kinds : List ℕ) where
  pub kinds-start : ActionKinds kinds 0 (replicate 256 0)
  kinds-start = record { full = length-replicate {A = ℕ} 256 0; each = λ n h. absurd (omega arith); behind = λ n h. repeated 0 256 n }

  pub kinds-next : {acts : List ℕ} (i : ℕ) {v : ℕ} → i < 256 → ActionKinds kinds i acts → ActsAs (get_or kinds i 0) v → ActionKinds kinds (i + 1) (set acts i v)
  kinds-next {acts} i {v} l a h = record {
    full = length-set acts i v ∙ a.full;
    each = λ n k. go n k (dec_lt n i);
    behind = λ n k. get_or-set_other acts i n v 0 (λ e. omega arith) ∙ a.behind n (omega arith);
  }
    where
      go : (n : ℕ) → n < i + 1 → Dec (n < i) → ActsAs (get_or kinds n 0) (get_or (set acts i v) n 0)
      go n k (yes q) = subst (ActsAs (get_or kinds n 0)) (sym (get_or-set_other acts i n v 0 (λ e. omega arith))) (a.each n q)
      go n k (no q) = let e : n ≡ i = omega arith in rw (e, get_or-set_same acts i v 0 (omega (arith, a.full))) h

  pub kinds-end : {acts : List ℕ} (i count : ℕ) → i ≡ count → ActionKinds kinds i acts → ActionKinds kinds count acts
  kinds-end i count e a = rw e at a

-- what stands at a node that is there, and at any other number
module _ {ed : Edition} {s kinds starts ends : List ℕ} {count : ℕ} {ns : List Node} (d : NodesAt ed s kinds starts ends count ns) where
  pub action-by : (n : ℕ) {k : ℕ} → n < count → ActsAs (get_or kinds n 0) k →
      TableFile.action_of_kind (action_kind k) (take (get_or ends n 0 - get_or starts n 0) (drop (get_or starts n 0) s)) ≡ action_at (actions_of ns) n
  unfolding bind
  action-by n h a =
      let x = at-exists ns n (omega (arith, d.counted)) in
      let e = (d.entries n h).node ∙ x.1 in
      rw ((a.made _).of x.0 e) (action-made _ _ e) ∙ sym (action-of-node ns n ∙ ap (λ o. bind o action_of) x.1)

  pub action_is : {acts : List ℕ} → ActionKinds kinds count acts → (n : ℕ) → n < count →
      TableFile.action_of_kind (action_kind (get_or acts n 0)) (take (get_or ends n 0 - get_or starts n 0) (drop (get_or starts n 0) s)) ≡ action_at (actions_of ns) n
  action_is a n h = action-by n h (a.each n h)

  pub action-beyond : (n : ℕ) → count ≤ n → action_at (actions_of ns) n ≡ none
  unfolding bind
  action-beyond n h = action-of-node ns n ∙ ap (λ o. bind o action_of) (beyond ns n (omega (arith, d.counted)))
    where
      beyond : (l : List Node) (i : ℕ) → length l ≤ i → get_elem? l i ≡ none
      beyond [] i h = refl
      beyond (x ∷ l) zero h = absurd (omega arith)
      beyond (x ∷ l) (suc i) h = beyond l i (omega arith)

-- a node that acts in a residual of the tree has an action
pub acting-action : (ns : List Node) {t : Tree} {r : Residual} → tree_of ns ≡ some t → Of t r → (n : ℕ) → Mem n (acting r) → (a : Action) × (action_at (actions_of ns) n ≡ some a)
acting-action ns h o n m = (move-fits o (root-shapes ns h).1 n true m).known
