-- The order in which a PARALLEL's children are listed changes neither whether a schedule is accepted nor the length of its table.
use mathlib.Core.Path.{◌≡◌, refl, sym, ap, ap₂, ◌∙◌}
use mathlib.Core.Bool.{Bool, true, false, ◌&&◌}
use mathlib.Core.List.{List, [], ◌∷◌, ◌++◌, flat_map}
use mathlib.Core.Option.{Option, none, some}
use Prim.Native.Nat.{ℕ, suc, ◌+◌}
use native.Mathlib.Omega.{arith}
use borrow.Author.Tests.{leb-true}
use lib.Dec.{leb}
use lib.ListN.{length, length-append}
use Rattle.semantics.specs.Bytes.{every, width_of, out}
use Rattle.semantics.specs.Editions.{Edition}
use Rattle.semantics.specs.Refusals.{Judged, refused, accepted, ◌>>=◌, ◌>>◌, ensure, need}
use Rattle.semantics.specs.Plant.{judge_plant, selectors, switches_read}
use Rattle.semantics.specs.Run.{Action}
use Rattle.semantics.specs.TableFile.{location_limit, action_bytes, write_action, write_actions}
use Rattle.semantics.proofs.Judging as Judging
use Rattle.semantics.proofs.WrittenTables.{out-length}
use Rattle.schedules.specs.Nodes.{Node, node_named, node_parted, node_reads, action_of, listed, actions_from, actions_of}
use Rattle.schedules.specs.Trees.{Tree, tree_of}
use Rattle.schedules.specs.Files.{Schedule, judge_file_sections, judge_file, file_header, file_length}
use Rattle.schedules.specs.Compiling.{schedule_locations, table_of, judge_compile}
use Rattle.schedules.specs.Calls.{schedule_counts, read_schedule, size_told, size_counts, size, compile, compiled_into, file_comparisons}
use Rattle.schedules.specs.Sizes.{Size, size_of}
use Rattle.schedules.specs.TableSizes.{table_length_of}
use Rattle.schedules.specs.Reordered.{Reordered, SameButOrder}
use Rattle.schedules.proofs.Counting.{total}
use Rattle.schedules.proofs.FirstNumber.{compile-steps}
use Rattle.schedules.proofs.LocationCount.{few-locations}
use Rattle.schedules.proofs.TableLength.{table-of-length}
use Rattle.schedules.proofs.ReorderedTrees.{reordered-tree, reordered-none, reordered-total, reordered-length, reordered-every}
use Rattle.schedules.proofs.FirstNumber.{file-in-order, nodes-in-order}

-- ---- how long the actions are
module _ (ed : Edition) where
  -- the bytes that a node's action takes
  unfoldable length_for : Option Action → ℕ
  length_for none = 0
  length_for (some y) = width_of ed.width + (width_of ed.width + length (action_bytes y))

  action_length : Node → ℕ
  action_length x = length_for (action_of x)

  actions-length : (n : ℕ) (ns : List Node) → length (flat_map (write_action ed) (actions_from n ns)) ≡ total action_length ns
  unfolding actions_from flat_map total listed length_for action_length write_action
  actions-length n [] = refl
  actions-length n (x ∷ ns) = go (action_of x) (actions-length (suc n) ns)
    where
      go : (o : Option Action) → length (flat_map (write_action ed) (actions_from (suc n) ns)) ≡ total action_length ns →
          length (flat_map (write_action ed) (listed n o (actions_from (suc n) ns))) ≡ length_for o + total action_length ns
      go none e = let z : 0 + total action_length ns ≡ total action_length ns = omega arith in e ∙ sym z
      go (some y) e =
          let w = ed.width in
          let b = action_bytes y in
          let i = out-length w (width_of w + length b) in
          let j = out-length w n in
          let p = length-append (out w n) b in
          let q = length-append (out w (width_of w + length b)) (out w n ++ b) in
          let r = length-append (out w (width_of w + length b) ++ (out w n ++ b)) (flat_map (write_action ed) (actions_from (suc n) ns)) in
          omega arith

  all-actions-length : (ns : List Node) → length (write_actions ed (actions_of ns)) ≡ width_of ed.width + total action_length ns
  unfolding write_actions actions_of
  all-actions-length ns =
      let count = out ed.width (length (actions_of ns)) in
      length-append count (flat_map (write_action ed) (actions_of ns)) ∙ ap₂ ◌+◌ (out-length ed.width (length (actions_of ns))) (actions-length 0 ns)

  actions-same : {ns ms : List Node} → Reordered ns ms → length (write_actions ed (actions_of ns)) ≡ length (write_actions ed (actions_of ms))
  actions-same {ns} {ms} r = all-actions-length ns ∙ ap (λ n. width_of ed.width + n) (reordered-total action_length r) ∙ sym (all-actions-length ms)

-- ---- two calls that answer alike
data Alike {A B : Type 0} (R : A → B → Type 0) : Judged A → Judged B → Type 0 where
  both_refused : (n : ℕ) → Alike R (refused n) (refused n)
  both_accepted : {a : A} {b : B} → R a b → Alike R (accepted a) (accepted b)

module _ {A B : Type 0} {R : A → B → Type 0} where
  alike-ensure : (n : ℕ) (t : Bool) {u : Bool} {j : Judged A} {k : Judged B} → t ≡ u → (t ≡ true → Alike R j k) → Alike R (ensure n t >> j) (ensure n u >> k)
  unfolding ◌>>◌ ensure
  alike-ensure n true e h = rw (sym e) (h refl)
  alike-ensure n false e h = rw (sym e) (both_refused n)

module _ {A B C D : Type 0} {R : C → D → Type 0} where
  alike-need : (n : ℕ) {o : Option A} {p : Option B} {a : A} {b : B} (f : A → Judged C) (g : B → Judged D) → o ≡ some a → p ≡ some b → Alike R (f a) (g b) → Alike R (need n o >>= f) (need n p >>= g)
  alike-need n f g d e h = rw (Judging.go-need n f d, Judging.go-need n g e) h

  alike_then : {Q : A → B → Type 0} {j : Judged A} {k : Judged B} (f : A → Judged C) (g : B → Judged D) → Alike Q j k → ((a : A) (b : B) → Q a b → Alike R (f a) (g b)) → Alike R (j >>= f) (k >>= g)
  unfolding ◌>>=◌
  alike_then f g (both_refused n) h = both_refused n
  alike_then f g (both_accepted q) h = h _ _ q

module _ {A C D : Type 0} {R : C → D → Type 0} where
  alike_same : (j : Judged A) {k : Judged A} (f : A → Judged C) (g : A → Judged D) → j ≡ k → ((a : A) → Alike R (f a) (g a)) → Alike R (j >>= f) (k >>= g)
  unfolding ◌>>=◌
  alike_same (refused n) f g e h = rw (sym e) (both_refused n)
  alike_same (accepted a) f g e h = rw (sym e) (h a)

-- ---- two schedules that are the same but for the order
record AsLarge (ed : Edition) (s u : Schedule) : Type 0 where
  same_plant : s.plant ≡ u.plant
  same_count : length s.nodes ≡ length u.nodes
  same_size : size_of s.root ≡ size_of u.root
  few : leb (length (schedule_locations s)) location_limit ≡ leb (length (schedule_locations u)) location_limit
  long : leb (length (schedule_locations s)) location_limit ≡ true → length (table_of ed s) ≡ length (table_of ed u)

same_length : (ed : Edition) (s u : Schedule) → s.sections.variables ≡ u.sections.variables → s.sections.equations ≡ u.sections.equations → Reordered s.nodes u.nodes →
    size_of s.root ≡ size_of u.root → table_length_of ed s ≡ table_length_of ed u
unfolding table_length_of
same_length ed s u v e r z = rw (v, e, actions-same ed r, z) refl

reordered-large : (ed : Edition) (s u : Schedule) → s.plant ≡ u.plant → s.sections.variables ≡ u.sections.variables → s.sections.equations ≡ u.sections.equations →
    tree_of s.nodes ≡ some s.root → tree_of u.nodes ≡ some u.root → Reordered s.nodes u.nodes → size_of u.root ≡ size_of s.root → AsLarge ed s u
unfolding schedule_locations
reordered-large ed s u p v e h k r z =
    let few = few-locations s.nodes h ∙ ap (λ (a : Size). leb a.locations location_limit) (sym z) ∙ sym (few-locations u.nodes k) in
    record {
      same_plant = p;
      same_count = reordered-length r;
      same_size = sym z;
      few = few;
      long = λ t. table-of-length ed s h (leb-true (length (schedule_locations s)) location_limit t) ∙ same_length ed s u v e r (sym z)
          ∙ sym (table-of-length ed u k (leb-true (length (schedule_locations u)) location_limit (sym few ∙ t)));
    }

-- 10 applies to both or to neither
alike-tree : {A B : Type 0} {R : A → B → Type 0} (f : Tree → Judged A) (g : Tree → Judged B) (ns ms : List Node) → Reordered ns ms →
    ((t u : Tree) → tree_of ns ≡ some t → tree_of ms ≡ some u → size_of u ≡ size_of t → Alike R (f t) (g u)) → Alike R (need 10 (tree_of ns) >>= f) (need 10 (tree_of ms) >>= g)
unfolding need ◌>>=◌
alike-tree {R = R} f g ns ms r h = go (tree_of ns) refl
  where
    go : (o : Option Tree) → tree_of ns ≡ o → Alike R (need 10 (tree_of ns) >>= f) (need 10 (tree_of ms) >>= g)
    go none e = rw (e, reordered-none r e) (both_refused 10)
    go (some t) e = let p = reordered-tree r e in alike-need 10 f g e p.1 (h t p.0 e p.1 p.2)

as-judged : {A B : Type 0} {R : A → B → Type 0} {i j : Judged A} {k l : Judged B} → i ≡ j → k ≡ l → Alike R j l → Alike R i k
as-judged e f a = rw (e, f) a

module _ (ed : Edition) (file other : List ℕ) (s : SameButOrder ed file other) where
  judged-alike : Alike (AsLarge ed) (judge_file ed file) (judge_file ed other)
  unfolding judge_file_sections
  judged-alike = as-judged (file-in-order ed file) (file-in-order ed other) (
      alike-ensure 1 (file_header ed file) s.same_header (λ h1.
      alike-ensure 2 (file_length file) s.same_length (λ h2.
      alike-need 3 _ _ s.in_file s.in_other (
      alike_same (judge_plant ed s.parts.variables s.parts.equations) _ _ (ap₂ (judge_plant ed) s.same_variables s.same_equations) (λ p.
      alike-need 9 _ _ s.nodes_read s.other_read (
      alike-tree _ _ s.nodes s.other_nodes s.order (λ t u h k z.
      as-judged (nodes-in-order ed p s.nodes _) (nodes-in-order ed p s.other_nodes _) (
      alike-ensure 11 (every (node_named (length p.variables) (selectors p)) s.nodes) (reordered-every (node_named (length p.variables) (selectors p)) s.order) (λ h11.
      alike-ensure 34 (every (node_parted p.equations) s.nodes) (reordered-every (node_parted p.equations) s.order) (λ h34.
      alike-ensure 12 (every (node_reads ed (length p.variables)) s.nodes && switches_read ed p)
      (ap (λ b. b && switches_read ed p) (reordered-every (node_reads ed (length p.variables)) s.order)) (λ h12.
      both_accepted (reordered-large ed _ _ refl s.same_variables s.same_equations h k s.order z))))))))))))

  compiled-alike : (room : List ℕ) → Alike (λ (t u : List ℕ). length t ≡ length u) (judge_compile ed file room) (judge_compile ed other room)
  compiled-alike room = rw (compile-steps ed file room, compile-steps ed other room) (alike_then _ _ judged-alike (λ a b l.
      alike-ensure 13 (leb (length (schedule_locations a)) location_limit) l.few (λ h13.
      alike-ensure 14 (leb (length (table_of ed a)) (length room)) (ap (λ n. leb n (length room)) (l.long h13)) (λ h14.
      both_accepted (l.long h13)))))

alike-compiled : (n m : ℕ) (room : List ℕ) {j k : Judged (List ℕ)} → Alike (λ (t u : List ℕ). length t ≡ length u) j k →
    ((compiled_into n room j).refusal ≡ (compiled_into m room k).refusal) × ((compiled_into n room j).written ≡ (compiled_into m room k).written)
unfolding compiled_into
alike-compiled n m room (both_refused k) = (refl, refl)
alike-compiled n m room (both_accepted e) = (refl, e)

alike_read : {ed : Edition} {j k : Judged Schedule} → Alike (AsLarge ed) j k → schedule_counts j ≡ schedule_counts k
unfolding schedule_counts
alike_read (both_refused n) = refl
alike_read (both_accepted l) = rw (l.same_plant, l.same_count) refl

pub read-order : (ed : Edition) (file other : List ℕ) → SameButOrder ed file other → read_schedule ed file ≡ read_schedule ed other
unfolding read_schedule
read-order ed file other s = alike_read (judged-alike ed file other s)

alike_size : {ed : Edition} {j k : Judged Schedule} → Alike (AsLarge ed) j k → size_counts j ≡ size_counts k
unfolding size_counts
alike_size (both_refused n) = refl
alike_size (both_accepted l) = ap size_told l.same_size

pub size-order : (ed : Edition) (file other : List ℕ) → SameButOrder ed file other → size ed file ≡ size ed other
unfolding size
size-order ed file other s = alike_size (judged-alike ed file other s)

-- the same number, 0 or a refusal's, and a table of the same length
pub branch-order : (ed : Edition) (file other room : List ℕ) → SameButOrder ed file other →
    ((compile ed file room).refusal ≡ (compile ed other room).refusal) × ((compile ed file room).written ≡ (compile ed other room).written)
unfolding compile
branch-order ed file other room s = alike-compiled (file_comparisons (judge_file ed file)) (file_comparisons (judge_file ed other)) room (compiled-alike ed file other s room)
