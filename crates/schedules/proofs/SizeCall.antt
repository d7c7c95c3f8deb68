-- The call "size of a schedule", beside reading it, compiling it, and its table read back.
use mathlib.Core.Path.{◌≡◌, refl, sym, ap, subst, ◌∙◌}
use mathlib.Core.Bool.{Bool, true, false}
use mathlib.Core.List.{List, [], ◌∷◌, map, flatten}
use mathlib.Core.Logic.{◌↔◌}
use Prim.Native.Nat.{ℕ, ◌≤◌, ◌<◌}
use native.Mathlib.Omega.{arith}
use borrow.Author.Tests.{leb-true, leb-false, le-leb, lt-leb}
use lib.Dec.{leb}
use lib.ListN.{length, take, drop, length-append, length-map}
use lib.Seq.{take-append_seam}
use Rattle.semantics.specs.Bytes.{overwrite}
use Rattle.semantics.specs.Editions.{Edition}
use Rattle.semantics.specs.Refusals.{Judged, refused, accepted}
use Rattle.semantics.specs.TableFile.{location_limit}
use Rattle.semantics.specs.Tables.{Table, judge_table}
use Rattle.semantics.specs.Conditions.{Firsts, refuses}
use Rattle.schedules.specs.Residuals.{Residual, acting}
use Rattle.schedules.specs.Files.{Schedule, judge_file}
use Rattle.schedules.specs.Compiling.{tests_of, schedule_locations, entry_of, entries_of, judge_compile}
use Rattle.schedules.specs.Calls.{schedule_counts, read_schedule, Sized, too_many_for, cap, size_told, size_counts, size, compiled_into, file_comparisons, compile}
use Rattle.schedules.specs.Conditions.{compile_conditions}
use Rattle.schedules.specs.Sizes.{Size, size_of}
use Rattle.semantics.proofs.FirstNumber.{first-not}
use Rattle.schedules.proofs.FirstNumber.{passed, compile-first}
use Rattle.schedules.proofs.Counting.{total}
use Rattle.schedules.proofs.LocationCount.{entries_at, locations-counted, few-locations, refused-13-by-size}
use Rattle.schedules.proofs.TableAgrees.{table_for}
use Rattle.schedules.proofs.Agreement.{never-0, compile-taken, table-judged}

-- ---- what is told of a size
pub told-exact : (a : Size) → leb a.locations location_limit ≡ true → size_told a ≡ record { refusal = 0; locations = a.locations; entries = a.entries }
unfolding size_told cap too_many_for
told-exact a h = rw h refl

pub told_over : (a : Size) → leb a.locations location_limit ≡ false → size_told a ≡ record { refusal = 0; locations = 1025; entries = 0 }
unfolding size_told cap too_many_for
told_over a h = rw h refl

told-0 : (a : Size) → (size_told a).refusal ≡ 0
told-0 a = go (leb a.locations location_limit) refl
  where
    go : (b : Bool) → leb a.locations location_limit ≡ b → (size_told a).refusal ≡ 0
    go true e = ap (λ (x : Sized). x.refusal) (told-exact a e)
    go false e = ap (λ (x : Sized). x.refusal) (told_over a e)

told-1025 : (a : Size) → (size_told a).locations ≡ 1025 → location_limit < a.locations
told-1025 a z = go (leb a.locations location_limit) refl
  where
    go : (b : Bool) → leb a.locations location_limit ≡ b → location_limit < a.locations
    go true e = let h = leb-true a.locations location_limit e in let t = ap (λ (x : Sized). x.locations) (told-exact a e) in absurd (omega arith)
    go false e = leb-false a.locations location_limit e

-- ---- beside reading and compiling
counts-refused : (j : Judged Schedule) → ((size_counts j).refusal ≡ 0 → ⊥) → size_counts j ≡ record { refusal = (size_counts j).refusal; locations = 0; entries = 0 }
unfolding size_counts
counts-refused (refused n) h = refl
counts-refused (accepted s) h = absurd (h (told-0 (size_of s.root)))

-- refused, it gives nothing but the number
pub refused-size : (ed : Edition) (file : List ℕ) → ((size ed file).refusal ≡ 0 → ⊥) → size ed file ≡ record { refusal = (size ed file).refusal; locations = 0; entries = 0 }
unfolding size
refused-size ed file h = counts-refused (judge_file ed file) h

same-refusal : (j : Judged Schedule) → (size_counts j).refusal ≡ (schedule_counts j).refusal
unfolding size_counts schedule_counts
same-refusal (refused n) = refl
same-refusal (accepted s) = told-0 (size_of s.root)

-- the number is that of reading
pub size-refusal : (ed : Edition) (file : List ℕ) → (size ed file).refusal ≡ (read_schedule ed file).refusal
unfolding size read_schedule
size-refusal ed file = same-refusal (judge_file ed file)

pub size-accepted : (ed : Edition) (file : List ℕ) {s : Schedule} → judge_file ed file ≡ accepted s → size ed file ≡ size_told (size_of s.root)
unfolding size size_counts
size-accepted ed file e = rw e refl

-- 1,025 locations where compiling gives 13, whatever room is lent for the table, and nowhere else
pub size-13 : (ed : Edition) (file room : List ℕ) → ((compile ed file room).refusal ≡ 13) ↔ (((size ed file).refusal ≡ 0) × ((size ed file).locations ≡ 1025))
unfolding size size_counts
size-13 ed file room = (
  λ h. there ((refused-13-by-size ed file room).0 h),
  λ p. (refused-13-by-size ed file room).1 (back (judge_file ed file) refl p.1),
)
  where
    there : (s : Schedule) × (judge_file ed file ≡ accepted s) × (location_limit < (size_of s.root).locations) → ((size ed file).refusal ≡ 0) × ((size ed file).locations ≡ 1025)
    there p =
        let e = size-accepted ed file p.1 ∙ told_over (size_of p.0.root) (lt-leb (size_of p.0.root).locations location_limit p.2) in
        (ap (λ (x : Sized). x.refusal) e, ap (λ (x : Sized). x.locations) e)

    back : (j : Judged Schedule) → judge_file ed file ≡ j → (size_counts j).locations ≡ 1025 → (s : Schedule) × (judge_file ed file ≡ accepted s) × (location_limit < (size_of s.root).locations)
    back (refused n) e z = absurd (omega arith)
    back (accepted s) e z = (s, e, told-1025 (size_of s.root) z)

-- ---- the table's own numbers
entries-listed : (tests : ℕ → Bool) (l k : List Residual) → length (flatten (map (entries_of tests l) k)) ≡ total entries_at k
unfolding flatten total entries_of
entries-listed tests l [] = refl
entries-listed tests l (r ∷ k) =
    let a = length-append (entries_of tests l r) (flatten (map (entries_of tests l) k)) in
    let b = length-map (acting r) (entry_of tests l r) in
    let e = entries-listed tests l k in
    omega arith

table-size : (ed : Edition) (file : List ℕ) (s : Schedule) → judge_file ed file ≡ accepted s → length (schedule_locations s) ≤ location_limit →
    size ed file ≡ record { refusal = 0; locations = length (table_for s).locations; entries = length (flatten (table_for s).locations) }
unfolding table_for schedule_locations
table-size ed file s e few =
    let l = schedule_locations s in
    let tests = tests_of s.nodes in
    let tree = (passed ed file s e).tree in
    let c = locations-counted s.nodes tree few in
    size-accepted ed file e
    ∙ told-exact (size_of s.root) (sym (few-locations s.nodes tree) ∙ le-leb (length l) location_limit few)
    ∙ told (sym c.0 ∙ sym (length-map l (entries_of tests l))) (sym c.1 ∙ sym (entries-listed tests l l))
  where
    told : {m n i j : ℕ} → m ≡ n → i ≡ j → ◌≡◌ {A = Sized} (record { refusal = 0; locations = m; entries = i }) (record { refusal = 0; locations = n; entries = j })
    told p q = rw (p, q) refl

-- where compiling accepts: as many locations and entries as the table has that it wrote, read back
pub size-of-table : (ed : Edition) (file room : List ℕ) → (compile ed file room).refusal ≡ 0 →
    (t : Table) × (judge_table ed (take (compile ed file room).written (compile ed file room).table) ≡ accepted t) ×
    (size ed file ≡ record { refusal = 0; locations = length t.locations; entries = length (flatten t.locations) })
unfolding compile compiled_into overwrite
size-of-table ed file room = go (judge_compile ed file room) refl (compile-first ed file room)
  where
    go : (j : Judged (List ℕ)) → judge_compile ed file room ≡ j → Firsts j (compile_conditions ed file room) → (compiled_into (file_comparisons (judge_file ed file)) room j).refusal ≡ 0 →
        (t : Table) × (judge_table ed (take (compiled_into (file_comparisons (judge_file ed file)) room j).written (compiled_into (file_comparisons (judge_file ed file)) room j).table) ≡ accepted t) ×
        (size ed file ≡ record { refusal = 0; locations = length t.locations; entries = length (flatten t.locations) })
    go (refused n) e (refuses f) z = absurd (first-not (never-0 ed file room) f z)
    go (accepted t) e f z =
        let k = compile-taken ed file room e in
        let b = subst (λ (x : List ℕ). judge_table ed x ≡ accepted (table_for k.of)) k.is_table (table-judged ed file k.of k.of_file k.few) in
        (table_for k.of, rw (take-append_seam t (drop (length t) room)) b, table-size ed file k.of k.of_file k.few)
