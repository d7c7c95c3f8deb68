-- The forms of a payload, and what a node that is read at a place says of its bytes.
use mathlib.Core.Path.{◌≡◌, refl, sym, ap, ◌∙◌}
use mathlib.Core.Bool.{Bool, true, false, cond, not}
use mathlib.Core.List.{List, [], ◌∷◌}
use mathlib.Core.Option.{Option, none, some}
use Prim.Native.Nat.{ℕ, suc, ◌+◌, ◌-◌, ◌≤◌, ◌<◌}
use native.Mathlib.Omega.{arith}
use borrow.Author.Tests.{le-leb, ne_eqb}
use lib.Dec.{leb, eqb}
use lib.ListN.{length, get_or, take, drop, length-drop}
use lib.Seq.{drop-drop}
use Rattle.semantics.specs.Bytes.{is_some, read, from, give, fail, guard, and_then, ◌>>=◌, byte, bytes, from_no_bytes, from_two_bytes, byte_and_rest}
use Rattle.semantics.specs.Editions.{Edition}
use Rattle.semantics.proofs.Facts.{within_both, within_low}
use Rattle.semantics.proofs.Readers.{guarded, from_some}
use Rattle.schedules.specs.Nodes.{Node, kind_of, child_count, node_of, read_node}
use Rattle.codec.specs.Numbers.{wide, num_at}
use Rattle.codec.specs.Reading.{Reads}
use Rattle.codec.proofs.Reading.{lost, drop-some, number-at, then-number, no_number, then-byte, no_byte, no_bytes, then-guard, no-guard, within-below, within-above, either}
use Rattle.codec.proofs.Known.{after-number, not-number, after-byte, not-past, after-bytes, not_short}
use Rattle.codec.proofs.Places.{Takes, takes-then, takes-number, takes-guard, takes-byte, takes-bytes, takes-from}
use Rattle.tree_read.specs.Index.{kind_at, start_at, end_at, found_at, was_read}
use Rattle.tree_read.specs.declared.nodes.Found.{Found}

-- ---- payloads
pub not-one : (f : ℕ → Node) (b : List ℕ) → (length b ≡ 1 → ⊥) → false ≡ is_some (child_count f b)
unfolding is_some child_count
not-one f [] h = refl
not-one f (a ∷ []) h = absurd (h refl)
not-one f (a ∷ b ∷ l) h = refl

pub one : (f : ℕ → Node) (b : List ℕ) → length b ≡ 1 → leb 1 (get_or b 0 0) ≡ is_some (child_count f b)
unfolding is_some child_count
one f [] h = absurd (omega arith)
one f (a ∷ []) h = go (leb 1 a)
  where
    go : (t : Bool) → t ≡ is_some (cond t (some (f a)) none)
    go true = refl
    go false = refl
one f (a ∷ b ∷ l) h = absurd (omega arith)

pub rest-form : {A : Type 0} (f : ℕ → List ℕ → A) (b : List ℕ) → not (eqb (length b) 0) ≡ is_some (byte_and_rest f b)
unfolding is_some byte_and_rest
rest-form f [] = refl
rest-form f (a ∷ l) = ap not (ne_eqb (suc (length l)) 0 (λ e. omega arith))

pub two-form : {A : Type 0} (f : ℕ → ℕ → A) (b : List ℕ) → eqb (length b) 2 ≡ is_some (from_two_bytes f b)
unfolding is_some from_two_bytes
two-form f [] = refl
two-form f (a ∷ []) = refl
two-form f (a ∷ b ∷ []) = refl
two-form f (a ∷ b ∷ c ∷ l) = ne_eqb (suc (suc (suc (length l)))) 2 (λ e. omega arith)

pub no-form : {A : Type 0} (x : A) (b : List ℕ) → eqb (length b) 0 ≡ is_some (from_no_bytes x b)
unfolding is_some from_no_bytes
no-form x [] = refl
no-form x (a ∷ l) = ne_eqb (suc (length l)) 0 (λ e. omega arith)

-- ---- a node at a place
abbrev Any : Node → Unit {0} → Type 0
Any n x = Unit {0}

unread : (ed : Edition) {s : List ℕ} {p : ℕ} → Reads (read_node ed) Any s p none → false ≡ was_read (read_node ed (drop p s))
unfolding was_read
unread ed k = rw (lost k refl) refl

made : (o : Option Node) (m : List ℕ) → was_read (from o m) ≡ is_some o
unfolding was_read is_some from give fail
made none m = refl
made (some x) m = refl

pub past_end : (ed : Edition) (s : List ℕ) (p : ℕ) → length s < p + wide ed → false ≡ was_read (read_node ed (drop p s))
unfolding read_node
past_end ed s p h = unread ed (no_number _ _ h)

module _ (ed : Edition) (s : List ℕ) (p : ℕ) (i : p + wide ed ≤ length s) where
  pub too_short : num_at ed s p < 1 → false ≡ was_read (read_node ed (drop p s))
  unfolding read_node
  too_short h = unread ed (then-number _ _ i (no-guard _ _ (within-below 1 200 _ h)))

  pub too_long : 200 < num_at ed s p → false ≡ was_read (read_node ed (drop p s))
  unfolding read_node
  too_long h = unread ed (then-number _ _ i (no-guard _ _ (within-above 1 200 _ h)))

  module _ (g : 1 ≤ num_at ed s p) (h : num_at ed s p ≤ 200) where
    pub cut_off : length s < p + wide ed + num_at ed s p → false ≡ was_read (read_node ed (drop p s))
    unfolding read_node
    cut_off j = unread ed (then-number _ _ i (then-guard _ _ (within_both 1 200 _ g h)
        (either (p + wide ed) (length s) (λ m. then-byte _ m (no_bytes _ _ (omega arith) (omega arith))) (λ m. no_byte _ m))))

    -- what is left is to make a node of the kind and the payload
    opened : p + wide ed + num_at ed s p ≤ length s → read_node ed (drop p s) ≡ from (node_of (kind_of (get_or s (p + wide ed) 0)) (take (num_at ed s p - 1) (drop (p + wide ed + 1) s))) (drop (p + wide ed + 1 + (num_at ed s p - 1)) s)
    unfolding read_node ◌>>=◌ and_then byte bytes guard
    opened j =
        let l : leb (num_at ed s p - 1) (length (drop (p + wide ed + 1) s)) ≡ true = le-leb (num_at ed s p - 1) (length (drop (p + wide ed + 1) s)) (omega (arith, length-drop (p + wide ed + 1) s)) in
        let k : p + wide ed < length s = omega arith in
        rw (number-at ed.width s p i, within_both 1 200 (num_at ed s p) g h, drop-some (p + wide ed) s, l, drop-drop) refl

    -- w and l are what code holds
    pub has-payload : {x : Bool} {w l : ℕ} → p + w + l ≤ length s → w ≡ wide ed → l ≡ num_at ed s p →
        x ≡ is_some (node_of (kind_of (get_or s (p + w) 0)) (take (p + w + l - (p + w + 1)) (drop (p + w + 1) s))) → x ≡ was_read (read_node ed (drop p s))
    has-payload {w = w} {l = l} j ew el e =
        let n : p + w + l - (p + w + 1) ≡ l - 1 = omega arith in
        (rw (n, ew, el) at e) ∙ sym (ap was_read (opened (omega arith)) ∙ made _ _)

-- what is laid of it; w and l are what code holds
pub found_is : (ed : Edition) (s : List ℕ) (p : ℕ) {w l : ℕ} → w ≡ wide ed → l ≡ num_at ed s p → ◌≡◌ {A = Found} (record { kind = get_or s (p + w) 0; start = p + w + 1; end = p + w + l }) (found_at ed s p)
unfolding kind_at start_at end_at
found_is ed s p ew el = rw (ew, el) refl

-- ---- a node that was read
pub record Was (ed : Edition) (s : List ℕ) (p : ℕ) (x : Node) (m : List ℕ) : Type 0 where
  pub low : 1 ≤ num_at ed s p
  pub inside : p + wide ed + num_at ed s p ≤ length s
  pub is : node_of (kind_of (get_or s (p + wide ed) 0)) (take (num_at ed s p - 1) (drop (p + wide ed + 1) s)) ≡ some x
  pub rest : m ≡ drop (p + wide ed + num_at ed s p) s

pub was : (ed : Edition) (s : List ℕ) (p : ℕ) {x : Node} {m : List ℕ} → read_node ed (drop p s) ≡ read x m → Was ed s p x m
unfolding read_node
was ed s p {x} {m} h = either (length s) (p + wide ed) (λ i. absurd (not-number _ s p _ i h)) (λ i.
    let a = guarded _ _ (after-number _ s p _ i h) in
    let low = within_low 1 200 _ a.0 in
    either (p + wide ed) (length s) (λ j.
    let b = after-byte _ s (p + wide ed) j a.1 in
    either (length s) (p + wide ed + 1 + (num_at ed s p - 1)) (λ k. absurd (not_short _ s (p + wide ed + 1) (num_at ed s p - 1) (omega arith) k b))
    (λ k.
    let d = from_some _ (after-bytes _ s (p + wide ed + 1) (num_at ed s p - 1) k b) in
    let f : p + wide ed + num_at ed s p ≡ p + wide ed + 1 + (num_at ed s p - 1) = omega arith in
    record { low = low; inside = omega arith; is = d.0; rest = rw f (sym d.1) }))
    (λ j. absurd (not-past _ s (p + wide ed) j a.1)))

pub takes-node : (ed : Edition) → Takes (read_node ed)
unfolding read_node
takes-node ed = takes-then (takes-number _) (λ l. takes-guard _ (takes-then takes-byte (λ k. takes-then (takes-bytes _) (λ b. takes-from _))))
