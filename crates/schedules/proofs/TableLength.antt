-- The length of a schedule's table from the size of its tree; and a table that was compiled has that size.
use mathlib.Core.Path.{◌≡◌, refl, ap, ◌∙◌}
use mathlib.Core.Bool.{Bool}
use mathlib.Core.List.{List, [], ◌∷◌, ◌++◌, map, flat_map}
use mathlib.Core.Option.{some}
use Prim.Native.Nat.{ℕ, suc, ◌+◌, ◌*◌, ◌≤◌}
use native.Mathlib.Nat.{add-mul, suc-mul}
use native.Mathlib.Omega.{arith}
use borrow.Author.Tests.{leb-true, le-leb}
use lib.Dec.{leb}
use lib.ListN.{length, take, length-append, length-map}
use Rattle.semantics.specs.Bytes.{width_of, out, out2}
use Rattle.semantics.specs.Editions.{Edition}
use Rattle.semantics.specs.Refusals.{accepted}
use Rattle.semantics.specs.TableFile.{Entry, location_limit, write_entry, write_location, write_locations}
use Rattle.semantics.proofs.Judging as Judging
use Rattle.semantics.proofs.WrittenTables.{out-length, body-length, table-length}
use Rattle.schedules.specs.Nodes.{actions_of}
use Rattle.schedules.specs.Trees.{tree_of}
use Rattle.schedules.specs.Residuals.{Residual, acting}
use Rattle.schedules.specs.Files.{Schedule, judge_file}
use Rattle.schedules.specs.Compiling.{tests_of, schedule_locations, entry_of, entries_of, table_of, judge_compile}
use Rattle.schedules.specs.Calls.{compile, compiled_into, file_comparisons}
use Rattle.schedules.specs.Sizes.{size_of}
use Rattle.schedules.specs.TableSizes.{table_length_of, TableSized}
use Rattle.schedules.proofs.Counting.{total}
use Rattle.schedules.proofs.FirstNumber.{passed, compile-steps}
use Rattle.schedules.proofs.LocationCount.{entries_at, locations-counted, few-locations}
use Rattle.schedules.proofs.TableAgrees.{table_for}
use Rattle.schedules.proofs.Agreement.{of-written, table-judged}

module _ (ed : Edition) where
  entries-length : (es : List Entry) → length (flat_map (write_entry ed) es) ≡ length es * (width_of ed.width + 4)
  unfolding flat_map write_entry out2
  entries-length [] = omega arith
  entries-length (e ∷ es) =
      let w = ed.width in
      let i = out-length w e.node in
      let p = length-append (out w e.node) (out2 e.target ++ out2 e.other) in
      let q = length-append (write_entry ed e) (flat_map (write_entry ed) es) in
      let r = entries-length es in
      let s = suc-mul (length es) (width_of w + 4) in
      omega arith

  row-length : (tests : ℕ → Bool) (l : List Residual) (r : Residual) → length (write_location ed (entries_of tests l r)) ≡ suc (entries_at r * (width_of ed.width + 4))
  unfolding write_location entries_of
  row-length tests l r = ap suc (entries-length (map (entry_of tests l r) (acting r)) ∙ ap (λ n. n * (width_of ed.width + 4)) (length-map (acting r) (entry_of tests l r)))

  pub rows-length : (tests : ℕ → Bool) (l k : List Residual) → length (flat_map (write_location ed) (map (entries_of tests l) k)) ≡ length k + total entries_at k * (width_of ed.width + 4)
  unfolding flat_map total
  rows-length tests l [] = omega arith
  rows-length tests l (r ∷ k) =
      let i = row-length tests l r in
      let p = length-append (write_location ed (entries_of tests l r)) (flat_map (write_location ed) (map (entries_of tests l) k)) in
      let q = rows-length tests l k in
      let s = add-mul (entries_at r) (total entries_at k) (width_of ed.width + 4) in
      omega arith

  module _ (s : Schedule) (h : tree_of s.nodes ≡ some s.root) (few : length (schedule_locations s) ≤ location_limit) where
    sized : (length (schedule_locations s) ≡ (size_of s.root).locations) × (total entries_at (schedule_locations s) ≡ (size_of s.root).entries)
    unfolding schedule_locations
    sized = locations-counted s.nodes h few

    pub table-of-length : length (table_of ed s) ≡ table_length_of ed s
    unfolding table_of write_locations out2 table_length_of
    table-of-length =
        let vs = s.sections.variables in
        let es = s.sections.equations in
        let acts = actions_of s.nodes in
        let l = schedule_locations s in
        let locs = map (entries_of (tests_of s.nodes) l) l in
        let r : length (write_locations ed locs) ≡ 2 + length (flat_map (write_location ed) locs) = omega arith in
        summed (length vs) (length es) _ (table-length ed vs es acts locs) (body-length ed vs es acts locs) r (rows-length (tests_of s.nodes) l l) sized.0
        (ap (λ n. n * (width_of ed.width + 4)) sized.1)
      where
        summed : (v e a : ℕ) {t b l r n i m j : ℕ} → t ≡ 5 + b → b ≡ 10 + (v + (e + (a + l))) → l ≡ 2 + r → r ≡ n + m → n ≡ i → m ≡ j → t ≡ 17 + (v + (e + (a + (i + j))))
        summed v e a p q k w x y = omega arith

-- ---- the table that is read back
row-entries : (tests : ℕ → Bool) (l k : List Residual) → length (flat_map (λ (row : List Entry). row) (map (entries_of tests l) k)) ≡ total entries_at k
unfolding flat_map total entries_of
row-entries tests l [] = refl
row-entries tests l (r ∷ k) =
    let i = length-map (acting r) (entry_of tests l r) in
    let p = length-append (entries_of tests l r) (flat_map (λ (row : List Entry). row) (map (entries_of tests l) k)) in
    let q = row-entries tests l k in
    omega arith

table-sized : (ed : Edition) (file : List ℕ) (s : Schedule) → judge_file ed file ≡ accepted s → length (schedule_locations s) ≤ location_limit → TableSized ed file (table_of ed s)
unfolding table_for
table-sized ed file s h few =
    let l = schedule_locations s in
    let n = sized ed s (passed ed file s h).tree few in
    record {
      schedule = s;
      schedule_read = h;
      numbered = n.0;
      back = table_for s;
      table_read = table-judged ed file s h few;
      locations = length-map l (entries_of (tests_of s.nodes) l) ∙ n.0;
      entries = row-entries (tests_of s.nodes) l l ∙ n.1;
      bytes = table-of-length ed s (passed ed file s h).tree few;
    }

pub locations-by-size : (ed : Edition) (file room : List ℕ) → (compile ed file room).refusal ≡ 0 → TableSized ed file (take (compile ed file room).written (compile ed file room).table)
locations-by-size ed file room = of-written ed file room (TableSized ed file) (table-sized ed file)

-- a schedule of few enough locations is compiled where there is room for its table
pub taken-by-size : (ed : Edition) (file room : List ℕ) (s : Schedule) → judge_file ed file ≡ accepted s → (size_of s.root).locations ≤ location_limit → table_length_of ed s ≤ length room →
    ((compile ed file room).refusal ≡ 0) × ((compile ed file room).written ≡ table_length_of ed s)
unfolding compile compiled_into schedule_locations
taken-by-size ed file room s h few fits =
    let few13 = few-locations s.nodes (passed ed file s h).tree ∙ le-leb (size_of s.root).locations location_limit few in
    let long = table-of-length ed s (passed ed file s h).tree (leb-true (length (schedule_locations s)) location_limit few13) in
    let fits14 = ap (λ n. leb n (length room)) long ∙ le-leb (table_length_of ed s) (length room) fits in
    let j : judge_compile ed file room ≡ accepted (table_of ed s) = compile-steps ed file room ∙ Judging.go-then _ h ∙ Judging.go-ensure 13 _ few13 ∙ Judging.go-ensure 14 _ fits14 in
    (ap (λ j. (compiled_into (file_comparisons (judge_file ed file)) room j).refusal) j, ap (λ j. (compiled_into (file_comparisons (judge_file ed file)) room j).written) j ∙ long)
