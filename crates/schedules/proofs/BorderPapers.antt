-- Papers of the border: K8, and two files that differ in the order of a PARALLEL's children.
use mathlib.Core.Path.{◌≡◌, refl, sym, ap, ◌∙◌}
use mathlib.Core.Bool.{true}
use mathlib.Core.List.{List, [], ◌∷◌}
use Prim.Native.Nat.{ℕ, ◌≤◌}
use borrow.Author.Tests.{leb-true, le-leb}
use lib.Dec.{leb, lit≤, lit<}
use lib.ListN.{length}
use Rattle.semantics.specs.Editions.{Edition, edition1}
use Rattle.semantics.specs.Refusals.{accepted}
use Rattle.semantics.specs.TableFile.{location_limit}
use Rattle.semantics.proofs.Judging.{accepted-is}
use Rattle.schedules.specs.Nodes.{sequence, reset, continue_until}
use Rattle.schedules.specs.Trees.{leaf, seq, cons, nil}
use Rattle.schedules.specs.Preorder.{forest_length, a_sequence, a_reset, a_continue, no-tree, one_tree}
use Rattle.schedules.specs.Files.{Schedule, judge_file}
use Rattle.schedules.specs.Calls.{compile}
use Rattle.schedules.specs.Sizes.{size_of}
use Rattle.schedules.specs.TableSizes.{table_length_of}
use Rattle.schedules.specs.Reordered.{unchanged, swapped, SameButOrder}
use Rattle.schedules.specs.Examples.{ten_resets, resets_before, file_with, TakenWith, reset_first_file, reset_last_file}
use Rattle.schedules.proofs.Computes.{schedules}
use Rattle.schedules.proofs.LocationCount.{refused-13-by-size}
use Rattle.schedules.proofs.TableLength.{locations-by-size, taken-by-size}

-- ---- K8
-- a schedule that is read, of so many locations, is compiled to a table of so many, where there is room for its bytes
taken-with : (ed : Edition) (file room : List ℕ) {s : Schedule} → judge_file ed file ≡ accepted s →
    leb (size_of s.root).locations location_limit ≡ true → leb (table_length_of ed s) (length room) ≡ true → TakenWith ed file room (size_of s.root).locations
taken-with ed file room {s} h few fits =
    let t = (taken-by-size ed file room s h (leb-true (size_of s.root).locations location_limit few) (leb-true (table_length_of ed s) (length room) fits)).0 in
    let z = locations-by-size ed file room t in
    record { taken = t; back = z.back; table_read = z.table_read; as_many = z.locations ∙ ap (λ (s : Schedule). (size_of s.root).locations) (accepted-is (sym z.schedule_read ∙ h)) }

-- "PARALLEL of ten RESETs: 1,023."
pub K8-ten : (room : List ℕ) → 26745 ≤ length room → TakenWith edition1 (file_with ten_resets) room 1023
unfolding schedules
K8-ten room fits = taken-with edition1 (file_with ten_resets) room refl refl (le-leb 26745 (length room) fits)

-- "One RESET before it: 1,024, taken"
pub K8-one-before : (room : List ℕ) → 26760 ≤ length room → TakenWith edition1 (file_with (resets_before 1)) room 1024
unfolding schedules
K8-one-before room fits = taken-with edition1 (file_with (resets_before 1)) room refl refl (le-leb 26760 (length room) fits)

-- "two: 13."
pub K8-two-before : (room : List ℕ) → (compile edition1 (file_with (resets_before 2)) room).refusal ≡ 13
unfolding schedules
K8-two-before room = (refused-13-by-size edition1 (file_with (resets_before 2)) room).1 (_, refl, lit< tt)

-- ---- the order of a PARALLEL's children
pub reset-first-or-last : SameButOrder edition1 reset_first_file reset_last_file
unfolding schedules reset_first_file reset_last_file forest_length
reset-first-or-last = record {
  same_header = refl;
  same_length = refl;
  parts = _;
  other_parts = _;
  in_file = refl;
  in_other = refl;
  same_variables = refl;
  same_equations = refl;
  nodes = _;
  other_nodes = _;
  nodes_read = refl;
  other_read = refl;
  order = swapped unchanged (record {
    before = [];
    first = [];
    one = reset 0 seven ∷ [];
    other = sequence 2 ∷ reset 0 five ∷ continue_until (47 ∷ []) ∷ [];
    after = [];
    count = 2;
    first_trees = nil;
    first_written = no-tree;
    one_tree = (leaf 0, a_reset);
    other_tree = (seq (leaf 1) (cons (leaf 2) nil), a_sequence (one_tree a_reset (one_tree a_continue no-tree refl) refl) refl);
    both = lit≤ tt;
    here = refl;
    there = refl;
  });
}
  where
    seven : List ℕ
    seven = 1 ∷ 0 ∷ 0 ∷ 0 ∷ 7 ∷ []

    five : List ℕ
    five = 1 ∷ 0 ∷ 0 ∷ 0 ∷ 5 ∷ []
