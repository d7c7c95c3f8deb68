-- The comparisons of numbering, counted from the numbers of the targets and so from the table alone.
use mathlib.Core.Path.{◌≡◌, refl, sym, ap, subst, ◌∙◌}
use mathlib.Core.Bool.{Bool, true, false}
use mathlib.Core.Logic.{◌↔◌, inl, inr}
use mathlib.Core.List.Memᴰ
use mathlib.Core.List.Memᴰ.{head as first}
use mathlib.Core.List.Memᴰ.{tail as later}
use mathlib.Core.List.{List, [], ◌∷◌, ◌++◌, map, flat_map, Memᴰ as Mem}
use mathlib.Core.Option.{Option, none, some}
use Prim.Native.Nat.{ℕ, suc, ◌≤◌}
use native.Mathlib.Omega.{arith}
use borrow.Author.Tests.{lt-ltb, le-ltb}
use lib.ListN.{length, get_elem?, take, length-append}
use Rattle.semantics.specs.Editions.{Edition}
use Rattle.semantics.specs.Refusals.{accepted}
use Rattle.semantics.specs.Run.{Next, to, finished, halted, idle}
use Rattle.semantics.specs.TableFile.{FINISHED, HALTED, NONE, location_limit}
use Rattle.semantics.specs.Tables.{Table, judge_table}
use Rattle.semantics.specs.Writing.{Each, each_nil, each_cons}
use Rattle.semantics.proofs.Facts.{some_is, at-below, at_mem}
use Rattle.schedules.specs.Trees.{Tree}
use Rattle.schedules.specs.Residuals.{Residual, fresh, acting, move, same?}
use Rattle.schedules.specs.Numbering.{number_of, meet, residual_in, node_targets, targets, locations}
use Rattle.schedules.specs.Comparisons.{comparisons_from, target_locations, comparisons}
use Rattle.schedules.specs.Comparing.{ComparesAll, by_numbers, location_code, entry_codes, location_codes}
use Rattle.schedules.specs.Reached.{Moves}
use Rattle.schedules.specs.Files.{Schedule, judge_file}
use Rattle.schedules.specs.Compiling.{tests_of, schedule_locations, schedule_comparisons, target_code, entry_of, entries_of, rows_of, table_of}
use Rattle.schedules.specs.Calls.{Compiled, compile}
use Rattle.schedules.proofs.Places.{Distinct, at-append}
use Rattle.schedules.proofs.Numbered.{number_found, number-exists, number-none, number-at, meet-nil, meet-met, meet-unmet, meet-more}
use Rattle.schedules.proofs.Reached.{reached, closed-under}
use Rattle.schedules.proofs.Comparing.{compared-known, compared-new, compares-from, compares-all-is}
use Rattle.schedules.proofs.FirstNumber.{file-schedule}
use Rattle.schedules.proofs.TableAgrees.{table_for}
use Rattle.schedules.proofs.Agreement.{of-written, table-judged}
use Rattle.schedules.proofs.CallsHold.{written-table}

-- ---- one for each, in order
each_append : {A B : Type 0} {R : A → B → Type 0} {l m : List A} {k j : List B} → Each R l k → Each R m j → Each R (l ++ m) (k ++ j)
each_append each_nil f = f
each_append (each_cons h e) f = each_cons h (each_append e f)

each-flat : {A B C D : Type 0} {R : C → D → Type 0} (f : A → List C) (g : B → List D) {l : List A} {k : List B} → Each (λ a b. Each R (f a) (g b)) l k → Each R (flat_map f l) (flat_map g k)
unfolding flat_map
each-flat f g each_nil = each_nil
each-flat f g (each_cons h e) = each_append h (each-flat f g e)

each_map : {A B : Type 0} {R : A → B → Type 0} (h : A → B) (l : List A) → ((x : A) → Mem x l → R x (h x)) → Each R l (map h l)
each_map h [] f = each_nil
each_map h (x ∷ l) f = each_cons (f x (first refl)) (each_map h l (λ y m. f y (later m)))

at_end : {A : Type 0} (l : List A) (x : A) → get_elem? (l ++ (x ∷ [])) (length l) ≡ some x
at_end [] x = refl
at_end (y ∷ l) x = at_end l x

-- ---- of any targets: their numbers are their places among all that are numbered in the end
module _ {A : Type 0} (eq? : (x y : A) → Dec (x ≡ y)) (all : List A) (d : Distinct all) where
  one_place : (x : A) (j k : ℕ) → get_elem? all j ≡ some x → get_elem? all k ≡ some x → j ≡ k
  one_place x j k p q = some_is (sym (number-at eq? d j p) ∙ number-at eq? d k q)

  -- those met stand in front
  in-front : (met l : List A) → meet eq? met l ≡ all → (k : ℕ) (x : A) → get_elem? met k ≡ some x → get_elem? all k ≡ some x
  in-front met l e k x h = let p = meet-more eq? met l in subst (λ r. get_elem? r k ≡ some x) (sym p.1 ∙ e) (at-append met p.0 k h)

  compared-by-numbers : (met l : List A) (ks : List ℕ) → meet eq? met l ≡ all → Each (λ x k. get_elem? all k ≡ some x) l ks → comparisons_from eq? met l ≡ by_numbers (length met) ks
  unfolding comparisons_from by_numbers
  compared-by-numbers met [] [] e each_nil = refl
  compared-by-numbers met [] (k ∷ ks) e f = elim f [ ]
  compared-by-numbers met (x ∷ l) [] e f = elim f [ ]
  compared-by-numbers met (x ∷ l) (k ∷ ks) e (each_cons h i) = go (λ m f. compared-by-numbers m l ks f i) (number_of eq? x met) refl
    where
      go : ((m : List A) → meet eq? m l ≡ all → comparisons_from eq? m l ≡ by_numbers (length m) ks) → (o : Option ℕ) → number_of eq? x met ≡ o →
          comparisons_from eq? met (x ∷ l) ≡ by_numbers (length met) (k ∷ ks)
      go ih none z =
          let new = number-none eq? x met z in
          let m = met ++ (x ∷ []) in
          let f : meet eq? m l ≡ all = sym (meet-unmet eq? l new) ∙ e in
          let p = one_place x k (length met) h (in-front m l f (length met) x (at_end met x)) in
          let longer : length m ≡ suc (length met) = omega (arith, length-append met (x ∷ [])) in
          rw (meet-unmet eq? [] new, meet-nil eq? m, le-ltb k (length met) (omega arith)) (omega (arith, compared-new eq? x met z, ih m f ∙ ap (λ n. by_numbers n ks) longer))
      go ih (some j) z =
          let there = number_found eq? x met j z in
          let known = at_mem met j there in
          let f : meet eq? met l ≡ all = sym (meet-met eq? l known) ∙ e in
          let p = one_place x k j h (in-front met l f j x there) in
          rw (meet-met eq? [] known, meet-nil eq? met, lt-ltb k (length met) (omega (arith, at-below met j there))) (omega (arith, compared-known eq? x met j z, ih met f))

-- ---- of the rows of a table: an entry has the numbers of its node's targets
module _ (tests : ℕ → Bool) (l : List Residual) (few : length l ≤ location_limit) (closed : (r s : Residual) → Mem r l → Moves tests r s → Mem s l) where
  abbrev At : Residual → ℕ → Type 0
  At r k = get_elem? l k ≡ some r

  next-code : (x : Next Residual) → ((r : Residual) → x ≡ to r → Mem r l) → Each At (residual_in x) (location_code (target_code l x))
  unfolding residual_in location_code target_code FINISHED HALTED NONE
  next-code (to r) h =
      let k = number-exists same? (h r refl) in
      let q = number_found same? r l k.0 k.1 in
      rw (k.1, lt-ltb k.0 0xfffd (omega (arith, at-below l k.0 q))) (each_cons q each_nil)
  next-code finished h = each_nil
  next-code halted h = each_nil
  next-code idle h = each_nil

  node-codes : (r : Residual) → Mem r l → (n : ℕ) → Mem n (acting r) → Each At (node_targets tests r n) (entry_codes (entry_of tests l r n))
  unfolding node_targets entry_codes entry_of location_code HALTED NONE
  node-codes r m n i = each_append (next-code (move r n true) (λ s e. closed r s m (record { node = n; outcome = true; is_acting = i; can = inl refl; leads = e }))) (on_false (tests n) refl)
    where
      on_false : (b : Bool) → tests n ≡ b → Each At (elim b [ true ↦ residual_in (move r n false) | false ↦ [] ]) (location_code (elim b [ true ↦ target_code l (move r n false) | false ↦ NONE ]))
      on_false true e = next-code (move r n false) (λ s f. closed r s m (record { node = n; outcome = false; is_acting = i; can = inr e; leads = f }))
      on_false false e = each_nil

  row-codes : (r : Residual) → Mem r l → Each At (targets tests r) (flat_map entry_codes (entries_of tests l r))
  unfolding targets entries_of
  row-codes r m = each-flat (node_targets tests r) entry_codes (each_map (entry_of tests l r) (acting r) (node-codes r m))

  rows-codes : Each At (flat_map (targets tests) l) (location_codes (rows_of tests l))
  unfolding location_codes
  rows-codes = each-flat (targets tests) (flat_map entry_codes) (each_map (entries_of tests l) l row-codes)

module _ (tests : ℕ → Bool) (t : Tree) where
  pub compares-all : ComparesAll (fresh t ∷ []) (target_locations tests t) (comparisons tests t)
  unfolding comparisons
  compares-all = compares-from same? (fresh t ∷ []) (target_locations tests t)

  pub comparisons-is : (n : ℕ) → (comparisons tests t ≡ n) ↔ ComparesAll (fresh t ∷ []) (target_locations tests t) n
  unfolding comparisons
  comparisons-is n = compares-all-is same? (fresh t ∷ []) (target_locations tests t) n

  module _ (few : length (locations tests t) ≤ location_limit) where
    -- whatever list has the numbers of the targets
    pub comparisons-by-numbers : (ks : List ℕ) → Each (λ r k. get_elem? (locations tests t) k ≡ some r) (target_locations tests t) ks → comparisons tests t ≡ by_numbers 1 ks
    unfolding comparisons target_locations
    comparisons-by-numbers ks e =
        let r = reached tests t few in
        compared-by-numbers same? (locations tests t) r.distinct (fresh t ∷ []) (target_locations tests t) ks (sym (meet-unmet same? (target_locations tests t) Memᴰ.not-nil) ∙ r.order) e

    -- and the entries' codes are such a list
    pub targets-numbered : Each (λ r k. get_elem? (locations tests t) k ≡ some r) (target_locations tests t) (location_codes (rows_of tests (locations tests t)))
    unfolding target_locations
    targets-numbered = rows-codes tests (locations tests t) few (λ r s. closed-under tests t few)

-- ---- of the call, where compiling accepts
module _ (ed : Edition) (file room : List ℕ) (taken : (compile ed file room).refusal ≡ 0) where
  abbrev told : ℕ
  told = (compile ed file room).comparisons

  -- the comparisons of the schedule that was read
  pub comparisons-returned : (s : Schedule) → judge_file ed file ≡ accepted s → (compile ed file room).comparisons ≡ schedule_comparisons s
  comparisons-returned s h =
      let w = written-table ed file room taken in
      ap (λ (c : Compiled). c.comparisons) w.3 ∙ ap schedule_comparisons (some_is (sym w.1 ∙ file-schedule ed file h))

  -- these are the second statement's
  pub comparisons-made : (s : Schedule) → judge_file ed file ≡ accepted s →
      ComparesAll (fresh s.root ∷ []) (target_locations (tests_of s.nodes) s.root) (compile ed file room).comparisons
  unfolding schedule_comparisons
  comparisons-made s h = let tests = tests_of s.nodes in subst (ComparesAll _ (target_locations tests s.root)) (sym (comparisons-returned s h)) (compares-all tests s.root)

  -- and the bytes written, read back as a table, tell them
  pub comparisons-of-table : (t : Table) × (judge_table ed (take (compile ed file room).written (compile ed file room).table) ≡ accepted t) ×
      ((compile ed file room).comparisons ≡ by_numbers 1 (location_codes t.locations))
  unfolding table_for schedule_locations schedule_comparisons
  comparisons-of-table = of-written ed file room (λ x. (t : Table) × (judge_table ed x ≡ accepted t) × (told ≡ by_numbers 1 (location_codes t.locations))) holds taken
    where
      holds : (s : Schedule) → judge_file ed file ≡ accepted s → length (schedule_locations s) ≤ location_limit →
          (t : Table) × (judge_table ed (table_of ed s) ≡ accepted t) × (told ≡ by_numbers 1 (location_codes t.locations))
      holds s h few =
          let tests = tests_of s.nodes in
          (table_for s, table-judged ed file s h few, comparisons-returned s h ∙ comparisons-by-numbers tests s.root few _ (targets-numbered tests s.root few))
