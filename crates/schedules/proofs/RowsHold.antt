-- The rows of a compiled table hold each location's moves, an entry for each and no other.
use mathlib.Core.Path.{◌≡◌, refl, sym, ap, subst, ◌∙◌}
use mathlib.Core.Bool.{Bool, true, false}
use mathlib.Core.List.Memᴰ
use mathlib.Core.List.Memᴰ.{head as first}
use mathlib.Core.List.Memᴰ.{tail as later}
use mathlib.Core.List.{List, [], ◌∷◌, map, Memᴰ as Mem}
use mathlib.Core.Logic.{◌⊎◌, inl, inr}
use mathlib.Core.Option.{some}
use Prim.Native.Nat.{ℕ, zero, suc, ◌≤◌}
use lib.ListN.{length, get_elem?}
use Rattle.semantics.specs.Editions.{Edition}
use Rattle.semantics.specs.Run.{Next, to, finished, halted, idle}
use Rattle.semantics.specs.TableFile.{NONE, location_limit}
use Rattle.semantics.proofs.Facts.{none-not-some, some_is, at_mem}
use Rattle.schedules.specs.Residuals.{Residual, acting, move, same?}
use Rattle.schedules.specs.Files.{Schedule}
use Rattle.schedules.specs.Compiling.{tests_of, schedule_locations, target_code, entry_of, entries_of}
use Rattle.schedules.specs.Reached.{Stands, at_location, at_finish, at_halt, Edge, Row, Rows}
use Rattle.schedules.proofs.FirstNumber.{Passed}
use Rattle.schedules.proofs.Numbered.{number_found, number-exists}
use Rattle.schedules.proofs.MovesFit.{never-idle}
use Rattle.schedules.proofs.ResidualsKept.{acting-rise-from-0}
use Rattle.schedules.proofs.TableAgrees.{nodes-of}
use Rattle.schedules.proofs.TableAccepted.{of-root, spans, leads-in, as_many}

-- the code of a target that is a location, finished or halted
stands : (l : List Residual) (x : Next Residual) → ((s : Residual) → x ≡ to s → Mem s l) → (x ≡ idle → ⊥) → Stands l x (target_code l x)
unfolding target_code
stands l (to s) h f =
    let k = number-exists same? (h s refl) in
    rw k.1 (at_location (number_found same? s l k.0 k.1))
stands l finished h f = at_finish
stands l halted h f = at_halt
stands l idle h f = absurd (f refl)

-- an element of a mapped list
mapped : {A B : Type 0} (f : A → B) (k : List A) {y : B} → Mem y (map f k) → (x : A) × Mem x k × (y ≡ f x)
mapped f [] m = absurd (Memᴰ.not-nil m)
mapped {A} {B} f (x ∷ k) {y} m = go (Memᴰ.cases_cons m) (λ n. mapped f k n)
  where
    go : (y ≡ f x) ⊎ Mem y (map f k) → (Mem y (map f k) → (z : A) × Mem z k × (y ≡ f z)) → (z : A) × Mem z (x ∷ k) × (y ≡ f z)
    go (inl e) ih = (x, first refl, e)
    go (inr n) ih = let q = ih n in (q.0, later q.1, q.2)

at-mapped : {A B : Type 0} (f : A → B) (k : List A) (i : ℕ) {x : A} {y : B} → get_elem? k i ≡ some x → get_elem? (map f k) i ≡ some y → y ≡ f x
at-mapped f [] i h g = none-not-some h
at-mapped f (z ∷ k) zero h g = sym (some_is g) ∙ ap f (some_is h)
at-mapped f (z ∷ k) (suc i) h g = at-mapped f k i h g

on_test : (b : Bool) (x y : ℕ) → b ≡ true → elim b [ true ↦ x | false ↦ y ] ≡ x
on_test b x y h = rw h refl

not_test : (b : Bool) (x y : ℕ) → b ≡ false → elim b [ true ↦ x | false ↦ y ] ≡ y
not_test b x y h = rw h refl

module _ (ed : Edition) (file : List ℕ) (s : Schedule) (g : Passed ed file s) (fits : length (schedule_locations s) ≤ location_limit) where
  abbrev tests : ℕ → Bool
  tests = tests_of s.nodes

  abbrev l : List Residual
  l = schedule_locations s

  edge : (r : Residual) → Mem r l → (n : ℕ) → Mem n (acting r) → Edge tests l r (entry_of tests l r n)
  unfolding entry_of
  edge r m n i = record {
    on_true = stands l (move r n true) (λ u e. leads-in ed file s g fits m (record { node = n; outcome = true; is_acting = i; can = inl refl; leads = e })) (never-idle r n true i);
    on_false = λ t. subst (Stands l (move r n false)) (sym (on_test (tests n) _ NONE t)) (stands l (move r n false) (λ u e. leads-in ed file s g fits m (record { node = n; outcome = false; is_acting = i; can = inr t; leads = e })) (never-idle r n false i));
    no_other = λ t. not_test (tests n) (target_code l (move r n false)) NONE t;
  }

  row : (r : Residual) → Mem r l → Row tests l r (entries_of tests l r)
  unfolding entries_of
  row r m = record {
    nodes = nodes-of tests l r (acting r);
    rising = acting-rise-from-0 (of-root ed file s g fits r m) (spans ed file s g fits);
    edges = λ e n. let q = mapped (entry_of tests l r) (acting r) n in subst (Edge tests l r) (sym q.2) (edge r m q.0 q.1);
  }

  pub rows-hold : Rows tests l (map (entries_of tests l) l)
  rows-hold = record {
    as_many = as_many ed file s g fits;
    row = λ k r es i j. subst (Row tests l r) (sym (at-mapped (entries_of tests l) l k i j)) (row r (at_mem l k i));
  }
