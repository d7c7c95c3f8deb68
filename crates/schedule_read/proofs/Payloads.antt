-- The node that a kind and a payload make, and a test of it.
use mathlib.Core.Path.{◌≡◌, refl, ap, ◌∙◌}
use mathlib.Core.Bool.{Bool, true, false, cond}
use mathlib.Core.List.{List, [], ◌∷◌}
use mathlib.Core.Option.{Option, none, some}
use Prim.Native.Nat.{ℕ, suc, ◌-◌, ◌≤◌}
use native.Mathlib.Omega.{arith}
use borrow.Author.Tests.{eqb-true}
use lib.Dec.{leb, eqb}
use lib.ListN.{length, get_or, take, drop}
use lib.Seq.{take_all}
use Rattle.semantics.specs.Bytes.{is_some, from_no_bytes, from_two_bytes, byte_and_rest}
use Rattle.semantics.specs.Editions.{Edition}
use Rattle.semantics.specs.Sections.{Selector, Equation}
use Rattle.semantics.proofs.Facts.{none-not-some, some_is}
use Rattle.schedules.specs.Nodes.{Node, sequence, parallel, while_do, if_else, continue_until, reset, reinitial, switch_to, stop_all, Kind, a_sequence, a_parallel, a_while, an_if, a_continue, a_reset, a_reinitial, a_switch, a_stop, no_kind, kind_of, child_count, node_of, node_reads, node_named, node_parted}
use Rattle.schedule_read.specs.Indexed.{Tells}

-- ---- a kind by its number
module _ (Q : Kind → Type 0) where
  pick : (t : Bool) (x y : Kind) → (t ≡ true → Q x) → Q y → Q (cond t x y)
  pick true x y f q = f refl
  pick false x y f q = q

  pub by_kind : (k : ℕ) → (k ≡ 1 → Q a_sequence) → (k ≡ 2 → Q a_parallel) → (k ≡ 3 → Q a_while) → (k ≡ 4 → Q an_if) → (k ≡ 5 → Q a_continue) → (k ≡ 6 → Q a_reset) → (k ≡ 7 → Q a_reinitial) → (k ≡ 8 → Q a_switch) → (k ≡ 9 → Q a_stop) → Q no_kind → Q (kind_of k)
  unfolding kind_of
  by_kind k f₁ f₂ f₃ f₄ f₅ f₆ f₇ f₈ f₉ q =
      pick (eqb k 1) _ _ (λ e. f₁ (eqb-true k 1 e)) (pick (eqb k 2) _ _ (λ e. f₂ (eqb-true k 2 e)) (pick (eqb k 3) _ _ (λ e. f₃ (eqb-true k 3 e))
      (pick (eqb k 4) _ _ (λ e. f₄ (eqb-true k 4 e)) (pick (eqb k 5) _ _ (λ e. f₅ (eqb-true k 5 e)) (pick (eqb k 6) _ _ (λ e. f₆ (eqb-true k 6 e))
      (pick (eqb k 7) _ _ (λ e. f₇ (eqb-true k 7 e)) (pick (eqb k 8) _ _ (λ e. f₈ (eqb-true k 8 e)) (pick (eqb k 9) _ _ (λ e. f₉ (eqb-true k 9 e)) q))))))))

-- a kind and a payload make some node
pub record Made (k : ℕ) (b : List ℕ) : Type 0 where
  pub node : Node
  pub is : node_of (kind_of k) b ≡ some node

pub made-of : (k : ℕ) (b : List ℕ) → is_some (node_of (kind_of k) b) ≡ true → Made k b
unfolding is_some
made-of k b e = go (node_of (kind_of k) b) refl e
  where
    go : (o : Option Node) → node_of (kind_of k) b ≡ o → is_some o ≡ true → Made k b
    go none i e = absurd (cc)
    go (some x) i e = record { node = x; is = i }

-- ---- the forms of a payload
pub record Headed (f : ℕ → List ℕ → Node) (b : List ℕ) (x : Node) : Type 0 where
  pub long : 1 ≤ length b
  pub is : f (get_or b 0 0) (drop 1 b) ≡ x

pub headed : (f : ℕ → List ℕ → Node) (b : List ℕ) {x : Node} → byte_and_rest f b ≡ some x → Headed f b x
unfolding byte_and_rest
headed f [] e = none-not-some e
headed f (a ∷ b) e = record { long = omega arith; is = some_is e }

pub record Paired (f : ℕ → ℕ → Node) (b : List ℕ) (x : Node) : Type 0 where
  pub long : length b ≡ 2
  pub is : f (get_or b 0 0) (get_or b 1 0) ≡ x

pub paired : (f : ℕ → ℕ → Node) (b : List ℕ) {x : Node} → from_two_bytes f b ≡ some x → Paired f b x
unfolding from_two_bytes
paired f [] e = none-not-some e
paired f (a ∷ []) e = none-not-some e
paired f (a ∷ c ∷ []) e = record { long = refl; is = some_is e }
paired f (a ∷ c ∷ d ∷ b) e = none-not-some e

pub counted : (f : ℕ → Node) (b : List ℕ) {x : Node} → child_count f b ≡ some x → (k : ℕ) × (f k ≡ x)
unfolding child_count
counted f [] e = none-not-some e
counted f (k ∷ []) {x} e = go (leb 1 k) e
  where
    go : (t : Bool) → cond t (some (f k)) none ≡ some x → (k : ℕ) × (f k ≡ x)
    go true e = (k, some_is e)
    go false e = none-not-some e
counted f (k ∷ i ∷ b) e = none-not-some e

pub emptied : (y : Node) (b : List ℕ) {x : Node} → from_no_bytes y b ≡ some x → y ≡ x
unfolding from_no_bytes
emptied y [] e = some_is e
emptied y (a ∷ b) e = none-not-some e

count-passes : (P : Node → Bool) (f : ℕ → Node) → ((n : ℕ) → true ≡ P (f n)) → (b : List ℕ) {x : Node} → child_count f b ≡ some x → true ≡ P x
count-passes P f h b e = let q = counted f b e in h q.0 ∙ ap P q.1

stop-passes : (P : Node → Bool) (y : Node) → true ≡ P y → (b : List ℕ) {x : Node} → from_no_bytes y b ≡ some x → true ≡ P x
stop-passes P y h b e = h ∙ ap P (emptied y b e)

-- ---- the nodes that a test looks at
module _ {k : ℕ} {b : List ℕ} where
  pub head-reset : k ≡ 6 → {x : Node} → node_of (kind_of k) b ≡ some x → Headed reset b x
  unfolding kind_of node_of
  head-reset e h = headed reset b (rw e at h)

  pub head-reinitial : k ≡ 7 → {x : Node} → node_of (kind_of k) b ≡ some x → Headed reinitial b x
  unfolding kind_of node_of
  head-reinitial e h = headed reinitial b (rw e at h)

  pub pair-switch : k ≡ 8 → {x : Node} → node_of (kind_of k) b ≡ some x → Paired switch_to b x
  unfolding kind_of node_of
  pair-switch e h = paired switch_to b (rw e at h)

  pub tells-while : (P : Node → Bool) {r : Bool} → k ≡ 3 → r ≡ P (while_do b) → Tells P k b r
  unfolding kind_of node_of
  tells-while P e h = record { of = λ x i. h ∙ ap P (some_is (rw e at i)) }

  pub tells-if : (P : Node → Bool) {r : Bool} → k ≡ 4 → r ≡ P (if_else b) → Tells P k b r
  unfolding kind_of node_of
  tells-if P e h = record { of = λ x i. h ∙ ap P (some_is (rw e at i)) }

  pub tells-continue : (P : Node → Bool) {r : Bool} → k ≡ 5 → r ≡ P (continue_until b) → Tells P k b r
  unfolding kind_of node_of
  tells-continue P e h = record { of = λ x i. h ∙ ap P (some_is (rw e at i)) }

  pub tells-reset : (P : Node → Bool) {r : Bool} → k ≡ 6 → r ≡ P (reset (get_or b 0 0) (drop 1 b)) → Tells P k b r
  tells-reset P e h = record { of = λ x i. h ∙ ap P (head-reset e i).is }

  pub tells-reinitial : (P : Node → Bool) {r : Bool} → k ≡ 7 → r ≡ P (reinitial (get_or b 0 0) (drop 1 b)) → Tells P k b r
  tells-reinitial P e h = record { of = λ x i. h ∙ ap P (head-reinitial e i).is }

  pub tells-switch : (P : Node → Bool) {r : Bool} → k ≡ 8 → r ≡ P (switch_to (get_or b 0 0) (get_or b 1 0)) → Tells P k b r
  tells-switch P e h = record { of = λ x i. h ∙ ap P (pair-switch e i).is }

  -- ---- those that it does not look at
  pub names-nothing : (variables : ℕ) (cs : List Selector) → (k ≡ 6 → ⊥) → (k ≡ 7 → ⊥) → (k ≡ 8 → ⊥) → Tells (node_named variables cs) k b true
  unfolding node_of node_named
  names-nothing variables cs f g h = record {
    of = λ x. by_kind (λ j. node_of j b ≡ some x → true ≡ node_named variables cs x) k
        (λ _. count-passes (node_named variables cs) sequence (λ n. refl) b) (λ _. count-passes (node_named variables cs) parallel (λ n. refl) b)
        (λ _ e. ap (node_named variables cs) (some_is e)) (λ _ e. ap (node_named variables cs) (some_is e)) (λ _ e. ap (node_named variables cs) (some_is e))
        (λ i. absurd (f i)) (λ i. absurd (g i)) (λ i. absurd (h i))
        (λ _. stop-passes (node_named variables cs) stop_all refl b) (λ e. none-not-some e);
  }

  pub assigns-nothing : (es : List Equation) → (k ≡ 6 → ⊥) → (k ≡ 7 → ⊥) → Tells (node_parted es) k b true
  unfolding node_of node_parted
  assigns-nothing es f g = record {
    of = λ x. by_kind (λ j. node_of j b ≡ some x → true ≡ node_parted es x) k
        (λ _. count-passes (node_parted es) sequence (λ n. refl) b) (λ _. count-passes (node_parted es) parallel (λ n. refl) b)
        (λ _ e. ap (node_parted es) (some_is e)) (λ _ e. ap (node_parted es) (some_is e)) (λ _ e. ap (node_parted es) (some_is e))
        (λ i. absurd (f i)) (λ i. absurd (g i)) (λ _ e. ap (node_parted es) (paired switch_to b e).is)
        (λ _. stop-passes (node_parted es) stop_all refl b) (λ e. none-not-some e);
  }

  pub reads_nothing : (ed : Edition) (variables : ℕ) → (k ≡ 3 → ⊥) → (k ≡ 4 → ⊥) → (k ≡ 5 → ⊥) → (k ≡ 6 → ⊥) → (k ≡ 7 → ⊥) → Tells (node_reads ed variables) k b true
  unfolding node_of node_reads
  reads_nothing ed variables c d f g h = record {
    of = λ x. by_kind (λ j. node_of j b ≡ some x → true ≡ node_reads ed variables x) k
        (λ _. count-passes (node_reads ed variables) sequence (λ n. refl) b) (λ _. count-passes (node_reads ed variables) parallel (λ n. refl) b)
        (λ i. absurd (c i)) (λ i. absurd (d i)) (λ i. absurd (f i)) (λ i. absurd (g i)) (λ i. absurd (h i))
        (λ _ e. ap (node_reads ed variables) (paired switch_to b e).is)
        (λ _. stop-passes (node_reads ed variables) stop_all refl b) (λ e. none-not-some e);
  }

-- all after the first byte, as code slices it out
pub rest_part : (b : List ℕ) → take (length b - 1) (drop 1 b) ≡ drop 1 b
rest_part [] = refl
rest_part (a ∷ b) = take_all (suc (length b) - 1) b (omega arith)
