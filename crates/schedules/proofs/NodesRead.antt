-- What a list of nodes that is read says of its counts.
use mathlib.Core.Path.{◌≡◌, refl, sym, subst, ◌∙◌}
use mathlib.Core.Bool.{Bool, true, false, cond}
use mathlib.Core.List.{List, [], ◌∷◌}
use mathlib.Core.Option.{Option, none, some}
use Prim.Native.Nat.{ℕ, suc, ◌-◌, ◌≤◌}
use native.Mathlib.Nat.{le_refl}
use native.Mathlib.Omega.{arith}
use lib.Dec.{leb}
use lib.ListN.{length}
use Rattle.semantics.specs.Bytes.{read, within, byte, number, bytes, from_no_bytes, from_two_bytes, byte_and_rest}
use Rattle.semantics.specs.Editions.{Edition}
use Rattle.semantics.specs.Run.{Action}
use Rattle.semantics.specs.TableFile.{action_bytes, kind_number, operand_bytes}
use Rattle.semantics.proofs.Facts.{none-not-some, some_is, within_low, within-high, All}
use Rattle.semantics.proofs.Readers.{split, guarded, from_some, bytes_read, whole-read, times-read}
use Rattle.schedules.specs.Nodes.{Node, sequence, parallel, Kind, a_sequence, a_parallel, a_while, an_if, a_continue, a_reset, a_reinitial, a_switch, a_stop, no_kind, kind_of, child_count, node_of, read_node, read_nodes, nodes_in, action_of}

-- a node's action is written in at most n bytes
abbrev pub Short : ℕ → Node → Type 0
Short n x = (y : Action) → action_of x ≡ some y → length (action_bytes y) ≤ n

acts-short : {n : ℕ} {x z : Node} {y : Action} → ◌≡◌ {A = Option Node} (some z) (some x) → action_of z ≡ some y → length (action_bytes y) ≤ n → Short n x
acts-short {n} {x} {z} {y} e f h = subst (Short n) (some_is e) (λ u g. subst (λ a. length (action_bytes a) ≤ n) (some_is (sym f ∙ g)) h)

count-short : {n : ℕ} {x : Node} (f : ℕ → Node) → ((k : ℕ) → action_of (f k) ≡ none) → (b : List ℕ) → child_count f b ≡ some x → Short n x
unfolding child_count
count-short f h [] e = none-not-some e
count-short {n} {x} f h (k ∷ []) e = go (leb 1 k) e
  where
    go : (t : Bool) → cond t (some (f k)) none ≡ some x → Short n x
    go true e = subst (Short n) (some_is e) (λ y g. none-not-some (sym (h k) ∙ g))
    go false e = none-not-some e
count-short f h (k ∷ i ∷ b) e = none-not-some e

-- a kind and a payload make a node whose action is no longer
made-short : (k : Kind) (b : List ℕ) {x : Node} → node_of k b ≡ some x → Short (suc (length b)) x
unfolding node_of byte_and_rest from_two_bytes from_no_bytes action_of action_bytes kind_number operand_bytes
made-short a_sequence b e = count-short sequence (λ k. refl) b e
made-short a_parallel b e = count-short parallel (λ k. refl) b e
made-short a_while b e = acts-short e refl (le_refl (suc (length b)))
made-short an_if b e = acts-short e refl (le_refl (suc (length b)))
made-short a_continue b e = acts-short e refl (le_refl (suc (length b)))
made-short a_reset [] e = none-not-some e
made-short a_reset (v ∷ b) e = acts-short e refl (le_refl (suc (suc (length b))))
made-short a_reinitial [] e = none-not-some e
made-short a_reinitial (v ∷ b) e = acts-short e refl (le_refl (suc (suc (length b))))
made-short a_switch [] e = none-not-some e
made-short a_switch (s ∷ []) e = none-not-some e
made-short a_switch (s ∷ m ∷ []) e = acts-short e refl (le_refl 3)
made-short a_switch (s ∷ m ∷ i ∷ b) e = none-not-some e
made-short a_stop [] e = acts-short e refl (le_refl 1)
made-short a_stop (i ∷ b) e = none-not-some e
made-short no_kind b e = none-not-some e

module _ (ed : Edition) where
  -- a node's length is at most 200
  node-short : (x : Node) (s t : List ℕ) → read_node ed s ≡ read x t → Short 200 x
  unfolding read_node
  node-short x s t h =
      let i = split (number ed.width) _ h in
      let j = guarded (within 1 200 i.value) _ i.then in
      let k = split byte _ j.1 in
      let l = split (bytes (i.value - 1)) _ k.then in
      let low = within_low 1 200 i.value j.0 in
      let high = within-high 1 200 i.value j.0 in
      let n = (bytes_read (i.value - 1) k.rest l.first).0 in
      let w = made-short (kind_of k.value) l.value (from_some _ l.then).0 in
      λ y e. let m = w y e in omega arith

  pub record Counted (ns : List Node) : Type 0 where
    pub some-nodes : 1 ≤ length ns
    pub few-nodes : length ns ≤ ed.nodes
    pub short-nodes : All (Short 200) ns

  pub nodes-counted : (w : List ℕ) {ns : List Node} → nodes_in ed w ≡ some ns → Counted ns
  unfolding nodes_in read_nodes
  nodes-counted w {ns} h =
      let i = split (number ed.width) _ (whole-read (read_nodes ed) w h) in
      let j = guarded (within 1 ed.nodes i.value) _ i.then in
      let k = times-read {P = Short 200} (read_node ed) node-short i.value i.rest j.1 in
      let n = k.0 in
      let low = within_low 1 ed.nodes i.value j.0 in
      let high = within-high 1 ed.nodes i.value j.0 in
      record { some-nodes = omega arith; few-nodes = omega arith; short-nodes = k.1 }
