-- The loop that fills the index, and what the index says of each node.
use mathlib.Core.Path.{◌≡◌, refl, sym, ap, ◌∙◌, subst}
use mathlib.Core.Bool.{true, false}
use mathlib.Core.List.{List, [], map}
use mathlib.Core.Option.{Option, none, some}
use Prim.Native.Nat.{ℕ, ◌+◌, ◌-◌, ◌≤◌, ◌<◌}
use native.Mathlib.Omega.{arith}
use lib.ListN.{length, get_or, drop, set, replicate, length-map}
use Rattle.std.proofs.Common.{Result, Ok}
use Rattle.semantics.specs.Bytes.{Read, broken, read, and_then, ◌>>=◌, guard, fail, times, just, whole, within}
use Rattle.semantics.specs.Editions.{Edition}
use Rattle.semantics.specs.Refusals.{refused, accepted, need}
use Rattle.semantics.proofs.Facts.{true-not-false, within_both, within_low, within-high}
use Rattle.semantics.proofs.Readers.{guarded, whole-read}
use Rattle.paper.specs.Refusals.{answered}
use Rattle.schedules.specs.Nodes.{Node, read_node, read_nodes, nodes_in}
use Rattle.schedules.specs.Files.{judge_node_section}
use Rattle.codec.specs.Numbers.{wide, num_at}
use Rattle.codec.specs.Reading.{Took}
use Rattle.codec.specs.Padding.{pad}
use Rattle.codec.proofs.Reading.{drop_past, drop-some, number-front, no_front, within-below, within-above, either}
use Rattle.codec.proofs.Known.{not-lost, after_front, snoc-none, times-length}
use Rattle.codec.proofs.Loops.{loop-start, loop-next, counted}
use Rattle.codec.proofs.Places.{places-start, places-length, places-more, places_count, placed}
use Rattle.tree_read.specs.Index.{kind_at, start_at, end_at, node_places, no_nodes, nodes_as, index, nodes_read_in, nodes_of, found_at, was_read, NodeAt, NodesAt}
use Rattle.tree_read.specs.declared.nodes.Nodes.{Nodes}
use Rattle.tree_read.specs.declared.nodes.Found.{Found}
use Rattle.codec.proofs.Padding.{pad-none, pad-map-snoc, pad-map, length-pad}
use Rattle.tree_read.proofs.NodeForms.{was, takes-node}

abbrev Any : {A : Type 0} → A → Unit {0} → Type 0
Any a x = Unit {0}

-- ---- the answer, by what the reader of the section gives
pub nodes-none : (ed : Edition) (s : List ℕ) → nodes_in ed s ≡ none → nodes_of ed s ≡ no_nodes
unfolding nodes_of nodes_read_in need
nodes-none ed s e = ap (λ o. nodes_read_in ed s (need 9 o)) e

pub nodes-some : (ed : Edition) (s : List ℕ) {ns : List Node} → nodes_in ed s ≡ some ns → nodes_of ed s ≡ index ed s (length ns)
unfolding nodes_of nodes_read_in need
nodes-some ed s e = ap (λ o. nodes_read_in ed s (need 9 o)) e

pub no-section : (ed : Edition) (s : List ℕ) → length s < wide ed → nodes_in ed s ≡ none
unfolding nodes_in read_nodes whole just ◌>>=◌ and_then
no-section ed s h = rw (no_front ed.width s h) refl

module _ (ed : Edition) (s : List ℕ) (i : wide ed ≤ length s) where
  pub too_few : num_at ed s 0 < 1 → nodes_in ed s ≡ none
  unfolding nodes_in read_nodes whole just ◌>>=◌ and_then guard fail
  too_few h = rw (number-front ed.width s i, within-below 1 ed.nodes (num_at ed s 0) h) refl

  pub too_many : ed.nodes < num_at ed s 0 → nodes_in ed s ≡ none
  unfolding nodes_in read_nodes whole just ◌>>=◌ and_then guard fail
  too_many h = rw (number-front ed.width s i, within-above 1 ed.nodes (num_at ed s 0) h) refl

  section-is : 1 ≤ num_at ed s 0 → num_at ed s 0 ≤ ed.nodes → nodes_in ed s ≡ just (times (num_at ed s 0) (read_node ed) (drop (wide ed) s))
  unfolding nodes_in read_nodes whole ◌>>=◌ and_then guard
  section-is h k = rw (number-front ed.width s i, within_both 1 ed.nodes (num_at ed s 0) h k) refl

-- ---- the loop
-- i nodes were read, up to place p, and the arrays hold them
pub record Filled (ed : Edition) (s ks bs es : List ℕ) (i p : ℕ) : Type 0 where
  pub took : Took (times i (read_node ed)) Any s (wide ed) p tt
  pub kinds : ks ≡ pad 256 0 (map (kind_at ed s) (node_places ed s i))
  pub starts : bs ≡ pad 256 0 (map (start_at ed) (node_places ed s i))
  pub ends : es ≡ pad 256 0 (map (end_at ed s) (node_places ed s i))

-- each array, one more
module _ (ed : Edition) (s : List ℕ) where
  filled_none : (f : ℕ → ℕ) → replicate 256 0 ≡ pad 256 0 (map f (node_places ed s 0))
  unfolding node_places
  filled_none f = pad-none 256 0 ∙ ap (λ l. pad 256 0 (map f l)) (sym (places-start (length s) (read_node ed) (drop (wide ed) s)))

  module _ {i p q : ℕ} (t : Took (times i (read_node ed)) Any s (wide ed) p tt) (u : Took (read_node ed) Any s p q tt) where
    filled_more : {l : List ℕ} (f : ℕ → ℕ) → i < 256 → l ≡ pad 256 0 (map f (node_places ed s i)) → set l i (f p) ≡ pad 256 0 (map f (node_places ed s (i + 1)))
    unfolding node_places
    filled_more f h e =
        ap (λ l. set l i (f p)) e
        ∙ pad-map-snoc 256 0 f (node_places ed s i) i p (places_count (read_node ed) i t) h
        ∙ ap (λ l. pad 256 0 (map f l)) (sym (places-more (read_node ed) i t u))

-- w, l and n are what code holds: the bytes of a length, a length, the node count
pub fill_start : (ed : Edition) (s : List ℕ) {w : ℕ} {ks bs es : List ℕ} → w ≡ wide ed → w ≤ length s → ks ≡ replicate 256 0 → bs ≡ replicate 256 0 → es ≡ replicate 256 0 → Filled ed s ks bs es 0 w
fill_start ed s e h x y z = rw (e, x, y, z) (record {
  took = loop-start (read_node ed) Any Any s (wide ed) tt (omega arith);
  kinds = filled_none ed s (kind_at ed s);
  starts = filled_none ed s (start_at ed);
  ends = filled_none ed s (end_at ed s);
})

-- where a node stands
stands : (ed : Edition) (s : List ℕ) (p : ℕ) → true ≡ was_read (read_node ed (drop p s)) → (x : Node) × (m : List ℕ) × (read_node ed (drop p s) ≡ read x m)
unfolding was_read
stands ed s p e = go (read_node ed (drop p s)) refl e
  where
    go : (o : Read Node) → read_node ed (drop p s) ≡ o → true ≡ was_read o → (x : Node) × (m : List ℕ) × (read_node ed (drop p s) ≡ read x m)
    go broken k e = true-not-false e
    go (read x m) k e = (x, m, k)

taken : (ed : Edition) (s : List ℕ) (p : ℕ) → true ≡ was_read (read_node ed (drop p s)) → Took (read_node ed) Any s p (p + wide ed + num_at ed s p) tt
taken ed s p e =
    let k = stands ed s p e in
    let w = was ed s p k.2 in
    record { value = k.0; got = k.2 ∙ ap (read k.0) w.rest; inside = w.inside; means = tt }

pub fill-next : (ed : Edition) (s ks bs es : List ℕ) (i p : ℕ) {x : Found} → x ≡ found_at ed s p → i < 256 → Filled ed s ks bs es i p → true ≡ was_read (read_node ed (drop p s)) →
    Filled ed s (set ks i x.kind) (set bs i x.start) (set es i x.end) (i + 1) x.end
unfolding end_at
fill-next ed s ks bs es i p ex h f e =
    let u = taken ed s p e in
    rw ex (record {
      took = loop-next (read_node ed) Any Any s (wide ed) i f.took u (λ l a x y. tt);
      kinds = filled_more ed s f.took u (kind_at ed s) h f.kinds;
      starts = filled_more ed s f.took u (start_at ed) h f.starts;
      ends = filled_more ed s f.took u (end_at ed s) h f.ends;
    })

module _ (ed : Edition) (s ks bs es : List ℕ) (i p : ℕ) (f : Filled ed s ks bs es i p) {n : ℕ} (q : n ≡ num_at ed s 0) (a : wide ed ≤ length s) (b : 1 ≤ n) (c : n ≤ ed.nodes) where
  whole_is : nodes_in ed s ≡ just (times n (read_node ed) (drop (wide ed) s))
  whole_is = rw q (section-is ed s a (omega arith) (omega arith))

  pub fill-broken : i < n → false ≡ was_read (read_node ed (drop p s)) → nodes_in ed s ≡ none
  unfolding just was_read
  fill-broken j e = whole_is ∙ rw (snoc-none (read_node ed) i n (drop (wide ed) s) f.took.got (go (read_node ed (drop p s)) e) j) refl
    where
      go : (o : Read Node) → false ≡ was_read o → o ≡ broken
      go broken e = refl
      go (read x m) e = true-not-false (sym e)

  all_read : i ≡ n → times n (read_node ed) (drop (wide ed) s) ≡ read f.took.value (drop p s)
  all_read j = subst (λ k. times k (read_node ed) (drop (wide ed) s) ≡ read f.took.value (drop p s)) j f.took.got

  pub fill-over : i ≡ n → p < length s → nodes_in ed s ≡ none
  unfolding just
  fill-over j k = whole_is ∙ rw (all_read j, drop-some p s k) refl

  pub fill_end : i ≡ n → length s ≤ p → (n ≡ length f.took.value) × (nodes_in ed s ≡ some f.took.value) × (nodes_as n ks bs es ≡ nodes_of ed s)
  unfolding just index
  fill_end j k =
      let ns = f.took.value in
      let m : length ns ≡ i = counted (read_node ed) i f.took in
      let e : nodes_in ed s ≡ some ns = whole_is ∙ rw (all_read j, drop_past p s k) refl in
      (sym j ∙ sym m, e, rw (f.kinds, f.starts, f.ends, ← j, ← m) (sym (nodes-some ed s e)))

-- ---- what is answered
module _ (ed : Edition) (s : List ℕ) where
  pub none-told : nodes_in ed s ≡ none → refused 9 ≡ answered (λ (ns : List Node). length ns) (judge_node_section ed s)
  unfolding need
  none-told e = rw e refl

  pub all_told : {n : ℕ} {ns : List Node} → n ≡ length ns → nodes_in ed s ≡ some ns → accepted n ≡ answered (λ (ns : List Node). length ns) (judge_node_section ed s)
  unfolding need
  all_told i e = rw (e, i) refl

pub ok-is : {E : Type 0} {m n : ℕ} → ◌≡◌ {A = Result ℕ E} (Ok m) (Ok n) → m ≡ n
ok-is e = cc

-- ---- what the index says of each node
module _ (ed : Edition) (s : List ℕ) (n : ℕ) {ns : List Node} {m : List ℕ} (a : wide ed ≤ length s) (t : times n (read_node ed) (drop (wide ed) s) ≡ read ns m) (i : ℕ) (h : i < n) where
  place : ℕ
  place = get_or (node_places ed s n) i 0

  entry_of : (f : ℕ → ℕ) → get_or (pad 256 0 (map f (node_places ed s n))) i 0 ≡ f place
  unfolding node_places place
  entry_of f = pad-map 256 0 f (node_places ed s n) i (omega (arith, places-length (length s) (read_node ed) n (drop (wide ed) s) t))

  pub entry : NodeAt s (index ed s n).kinds (index ed s n).starts (index ed s n).ends ns i
  unfolding index node_places kind_at start_at end_at place
  entry =
      let p = placed (takes-node ed) s n i (wide ed) a t h in
      let w = was ed s place p.nth.got in
      let low = w.low in
      let inside = w.inside in
      let k : get_or (index ed s n).kinds i 0 ≡ get_or s (place + wide ed) 0 = entry_of (kind_at ed s) in
      let b : get_or (index ed s n).starts i 0 ≡ place + wide ed + 1 = entry_of (start_at ed) in
      let e : get_or (index ed s n).ends i 0 ≡ place + wide ed + num_at ed s place = entry_of (end_at ed s) in
      let l : place + wide ed + num_at ed s place - (place + wide ed + 1) ≡ num_at ed s place - 1 = omega arith in
      record {
        node = rw (k, b, e, l) (w.is ∙ sym p.nth.is);
        ordered = omega arith;
        inside = omega arith;
      }

-- a section that holds these nodes
pub record Section (ed : Edition) (s : List ℕ) (ns : List Node) : Type 0 where
  pub long : wide ed ≤ length s
  pub low : 1 ≤ length ns
  pub high : length ns ≤ ed.nodes
  pub got : times (length ns) (read_node ed) (drop (wide ed) s) ≡ read ns []

pub section : (ed : Edition) (s : List ℕ) {ns : List Node} → nodes_in ed s ≡ some ns → Section ed s ns
unfolding nodes_in read_nodes
section ed s {ns} h =
    let r = whole-read (read_nodes ed) s h in
    either (length s) (wide ed) (λ l. absurd (not-lost _ _ s (no_front ed.width s l) r)) (λ l.
    let g = guarded (within 1 ed.nodes (num_at ed s 0)) _ (after_front _ s ed.width l r) in
    let n : length ns ≡ num_at ed s 0 = times-length (read_node ed) (num_at ed s 0) (drop (wide ed) s) g.1 in
    let low = within_low 1 ed.nodes (num_at ed s 0) g.0 in
    let high = within-high 1 ed.nodes (num_at ed s 0) g.0 in
    record { long = l; low = omega arith; high = omega arith; got = rw n g.1 })

pub indexed : (ed : Edition) (s : List ℕ) {ns : List Node} → nodes_in ed s ≡ some ns →
    NodesAt ed s (nodes_of ed s).kinds (nodes_of ed s).starts (nodes_of ed s).ends (nodes_of ed s).count ns
unfolding node_places index
indexed ed s {ns} h = subst Stand (sym (nodes-some ed s h)) (go (section ed s h))
  where
    filled : (f : ℕ → ℕ) → Section ed s ns → length (pad 256 0 (map f (node_places ed s (length ns)))) ≡ 256
    filled f k =
        let n = places-length (length s) (read_node ed) (length ns) (drop (wide ed) s) k.got in
        let high = k.high in
        length-pad 256 0 _ (omega (arith, length-map (node_places ed s (length ns)) f, ed.entries_fit))

    Stand : Nodes → Type 0
    Stand r = NodesAt ed s r.kinds r.starts r.ends r.count ns

    go : Section ed s ns → Stand (index ed s (length ns))
    go k = record {
      counted = refl;
      few = k.high;
      kinds_full = filled (kind_at ed s) k;
      starts_full = filled (start_at ed) k;
      ends_full = filled (end_at ed s) k;
      entries = λ i b. entry ed s (length ns) k.long k.got i b;
    }

-- ---- what a call knows where a count was answered
pub nodes-accepted : (ed : Edition) (s : List ℕ) {n : ℕ} → accepted n ≡ answered (λ (ns : List Node). length ns) (judge_node_section ed s) → (ns : List Node) × (nodes_in ed s ≡ some ns)
unfolding need
nodes-accepted ed s {n} h = go (nodes_in ed s) refl h
  where
    go : (o : Option (List Node)) → nodes_in ed s ≡ o → accepted n ≡ answered (λ (ns : List Node). length ns) (need 9 o) → (ns : List Node) × (o ≡ some ns)
    go none e h = absurd (cc)
    go (some ns) e h = (ns, refl)

pub nodes-refused : (ed : Edition) (s : List ℕ) {n : ℕ} → refused n ≡ answered (λ (ns : List Node). length ns) (judge_node_section ed s) → (nodes_in ed s ≡ none) × (n ≡ 9)
unfolding need
nodes-refused ed s {n} h = go (nodes_in ed s) refl h
  where
    go : (o : Option (List Node)) → nodes_in ed s ≡ o → refused n ≡ answered (λ (ns : List Node). length ns) (need 9 o) → (o ≡ none) × (n ≡ 9)
    go none e h = (refl, cc)
    go (some ns) e h = absurd (cc)
