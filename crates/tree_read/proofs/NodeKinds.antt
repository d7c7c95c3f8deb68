-- What a kind and a payload that make a node say of it: its kind's number, its child count, and that it can have its children.
use mathlib.Core.Path.{◌≡◌, refl, sym, subst}
use mathlib.Core.Bool.{Bool, true, false, cond}
use mathlib.Core.List.{List, [], ◌∷◌}
use mathlib.Core.Option.{Option, none, some}
use Prim.Native.Nat.{ℕ, ◌≤◌, ◌<◌}
use native.Mathlib.Omega.{arith}
use borrow.Author.Tests.{eqb-true, leb-true}
use lib.Dec.{leb, eqb}
use lib.ListN.{length, get_or}
use Rattle.semantics.specs.Bytes.{from_no_bytes, from_two_bytes, byte_and_rest}
use Rattle.semantics.proofs.Facts.{none-not-some, some_is}
use Rattle.schedules.specs.Nodes.{Node, sequence, parallel, while_do, if_else, continue_until, reset, reinitial, switch_to, stop_all, Kind, a_sequence, a_parallel, a_while, an_if, a_continue, a_reset, a_reinitial, a_switch, a_stop, no_kind, kind_of, child_count, node_of}
use Rattle.schedules.specs.Trees.{Tree, Forest, nil, cons, children, of_none, of_one, of_two, of_some, tree_from}
use Rattle.schedules.specs.Preorder.{forest_length}
use Rattle.tree_read.specs.Walks.{Parent}

-- the number of a node's kind in the file
unfoldable pub kind_number : Node → ℕ
kind_number (sequence k) = 1
kind_number (parallel k) = 2
kind_number (while_do t) = 3
kind_number (if_else t) = 4
kind_number (continue_until t) = 5
kind_number (reset v e) = 6
kind_number (reinitial v e) = 7
kind_number (switch_to s m) = 8
kind_number stop_all = 9

pub kind-from-1 : (x : Node) → 1 ≤ kind_number x
unfolding kind_number
kind-from-1 (sequence k) = omega arith
kind-from-1 (parallel k) = omega arith
kind-from-1 (while_do t) = omega arith
kind-from-1 (if_else t) = omega arith
kind-from-1 (continue_until t) = omega arith
kind-from-1 (reset v e) = omega arith
kind-from-1 (reinitial v e) = omega arith
kind-from-1 (switch_to s m) = omega arith
kind-from-1 stop_all = omega arith

-- ---- the kind of a number
data Numbered (k : ℕ) : Kind → Type 0 where
  n_sequence : k ≡ 1 → Numbered k a_sequence
  n_parallel : k ≡ 2 → Numbered k a_parallel
  n_while : k ≡ 3 → Numbered k a_while
  n_if : k ≡ 4 → Numbered k an_if
  n_continue : k ≡ 5 → Numbered k a_continue
  n_reset : k ≡ 6 → Numbered k a_reset
  n_reinitial : k ≡ 7 → Numbered k a_reinitial
  n_switch : k ≡ 8 → Numbered k a_switch
  n_stop : k ≡ 9 → Numbered k a_stop
  n_none : Numbered k no_kind

this-or : {k : ℕ} (m : ℕ) {a b : Kind} → (k ≡ m → Numbered k a) → Numbered k b → Numbered k (cond (eqb k m) a b)
this-or {k} m {a} {b} f g = go (eqb k m) refl
  where
    go : (t : Bool) → eqb k m ≡ t → Numbered k (cond t a b)
    go true e = f (eqb-true k m e)
    go false e = g

numbered : (k : ℕ) → Numbered k (kind_of k)
unfolding kind_of
numbered k =
    this-or 1 n_sequence (this-or 2 n_parallel (this-or 3 n_while (this-or 4 n_if (this-or 5 n_continue (this-or 6 n_reset
    (this-or 7 n_reinitial (this-or 8 n_switch (this-or 9 n_stop n_none))))))))

-- ---- a tree of a node's children
none_made : (t : Tree) (ts : Forest) → forest_length ts ≡ 0 → (u : Tree) × (of_none t ts ≡ some u)
unfolding forest_length of_none
none_made t nil h = (t, refl)
none_made t (cons u us) h = absurd (omega arith)

one-made : (f : Tree → Tree) (ts : Forest) → forest_length ts ≡ 1 → (u : Tree) × (of_one f ts ≡ some u)
unfolding forest_length of_one
one-made f nil h = absurd (omega arith)
one-made f (cons t nil) h = (f t, refl)
one-made f (cons t (cons u us)) h = absurd (omega arith)

two_made : (f : Tree → Tree → Tree) (ts : Forest) → forest_length ts ≡ 2 → (u : Tree) × (of_two f ts ≡ some u)
unfolding forest_length of_two
two_made f nil h = absurd (omega arith)
two_made f (cons t nil) h = absurd (omega arith)
two_made f (cons t (cons u nil)) h = (f t u, refl)
two_made f (cons t (cons u (cons v vs))) h = absurd (omega arith)

some-made : (f : Tree → Forest → Tree) {k : ℕ} (ts : Forest) → 1 ≤ k → forest_length ts ≡ k → (u : Tree) × (of_some f ts ≡ some u)
unfolding forest_length of_some
some-made f nil l h = absurd (omega arith)
some-made f (cons t ts) l h = (f t ts, refl)

-- ---- a node that a kind and a payload make
pub record Says (k : ℕ) (b : List ℕ) (x : Node) : Type 0 where
  pub number : k ≡ kind_number x
  pub begins : k ≤ 2 → 1 ≤ length b
  -- its children: as many as the first byte says, one, two, or none
  pub counted : k ≤ 2 → get_or b 0 0 ≡ children x
  pub one : k ≡ 3 → 1 ≡ children x
  pub two : k ≡ 4 → 2 ≡ children x
  pub no_child : 4 < k → 0 ≡ children x
  pub parent : Parent x

says-count : (f : ℕ → Node) (k : ℕ) (b : List ℕ) {x : Node} → k ≤ 2 → ((c : ℕ) → k ≡ kind_number (f c)) → ((c : ℕ) → children (f c) ≡ c) →
    ((c : ℕ) → 1 ≤ c → Parent (f c)) → child_count f b ≡ some x → Says k b x
unfolding child_count
says-count f k [] l g h p e = none-not-some e
says-count f k (c ∷ []) {x} l g h p e = go (leb 1 c) refl e
  where
    go : (t : Bool) → leb 1 c ≡ t → cond t (some (f c)) none ≡ some x → Says k (c ∷ []) x
    go true q e = subst (Says k (c ∷ [])) (some_is e) (record { number = g c; begins = λ l. omega arith; counted = λ l. sym (h c); one = λ q. absurd (omega arith); two = λ q. absurd (omega arith); no_child = λ q. absurd (omega arith); parent = p c (leb-true 1 c q) })
    go false q e = none-not-some e
says-count f k (c ∷ d ∷ b) l g h p e = none-not-some e

says-as : {k : ℕ} {b : List ℕ} {x y : Node} → ◌≡◌ {A = Option Node} (some y) (some x) → 2 < k → k ≡ kind_number y →
    (k ≡ 3 → 1 ≡ children y) → (k ≡ 4 → 2 ≡ children y) → (4 < k → 0 ≡ children y) → Parent y → Says k b x
says-as {k} {b} e h g o t n p = subst (Says k b) (some_is e)
    (record { number = g; begins = λ l. absurd (omega arith); counted = λ l. absurd (omega arith); one = o; two = t; no_child = n; parent = p })

-- a node that has no children
says-leaf : {k : ℕ} {b : List ℕ} {x y : Node} → ◌≡◌ {A = Option Node} (some y) (some x) → 4 < k → k ≡ kind_number y → children y ≡ 0 → Parent y → Says k b x
says-leaf {k} {b} e h g c p = says-as e (omega arith) g (λ q. absurd (omega arith)) (λ q. absurd (omega arith)) (λ q. sym c) p

says_of : (k : ℕ) (j : Kind) (b : List ℕ) {x : Node} → Numbered k j → node_of j b ≡ some x → Says k b x
unfolding node_of byte_and_rest from_two_bytes from_no_bytes kind_number children tree_from
says_of k j b (n_sequence h) e = says-count sequence k b (omega arith) (λ c. h) (λ c. refl) (λ c l n ts q. some-made _ ts l q) e
says_of k j b (n_parallel h) e = says-count parallel k b (omega arith) (λ c. h) (λ c. refl) (λ c l n ts q. some-made _ ts l q) e
says_of k j b (n_while h) e = says-as e (omega arith) h (λ q. refl) (λ q. absurd (omega arith)) (λ q. absurd (omega arith)) (λ n ts q. one-made _ ts q)
says_of k j b (n_if h) e = says-as e (omega arith) h (λ q. absurd (omega arith)) (λ q. refl) (λ q. absurd (omega arith)) (λ n ts q. two_made _ ts q)
says_of k j b (n_continue h) e = says-leaf e (omega arith) h refl (λ n ts q. none_made _ ts q)
says_of k j [] (n_reset h) e = none-not-some e
says_of k j (v ∷ b) (n_reset h) e = says-leaf e (omega arith) h refl (λ n ts q. none_made _ ts q)
says_of k j [] (n_reinitial h) e = none-not-some e
says_of k j (v ∷ b) (n_reinitial h) e = says-leaf e (omega arith) h refl (λ n ts q. none_made _ ts q)
says_of k j [] (n_switch h) e = none-not-some e
says_of k j (v ∷ []) (n_switch h) e = none-not-some e
says_of k j (v ∷ w ∷ []) (n_switch h) e = says-leaf e (omega arith) h refl (λ n ts q. none_made _ ts q)
says_of k j (v ∷ w ∷ u ∷ b) (n_switch h) e = none-not-some e
says_of k j [] (n_stop h) e = says-leaf e (omega arith) h refl (λ n ts q. none_made _ ts q)
says_of k j (v ∷ b) (n_stop h) e = none-not-some e
says_of k j b n_none e = none-not-some e

pub says : (k : ℕ) (b : List ℕ) {x : Node} → node_of (kind_of k) b ≡ some x → Says k b x
says k b e = says_of k (kind_of k) b (numbered k) e
