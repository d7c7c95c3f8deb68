-- Two runs compared, test by test as the code does it.
use mathlib.Core.Path.{◌≡◌, refl, ap}
use mathlib.Core.Bool.{true, false, ◌&&◌}
use mathlib.Core.List.{List, [], ◌∷◌}
use Prim.Native.Nat.{ℕ, ◌≤◌}
use borrow.Author.Tests.{ne_eqb}
use lib.Dec.{eqb}
use lib.Pointwise.{pointwise}
use native.Mathlib.Omega.{arith}
use lib.ListN.{length, take, length-take}
use lib.Seq.{take_all}
use Rattle.std.proofs.Common.{Ok}
use Rattle.semantics.specs.Calls.{Ran}
use Rattle.schedules.specs.Exam.{equal_bytes, equal_counts, same_numbers, agreed}
use Rattle.records.specs.Reported.{told, ran_with}
use Rattle.records.specs.declared.Counts.{Counts}

-- what `==` of two slices tells
pub bytes-same : (a b : List ℕ) → pointwise eqb a b ≡ equal_bytes a b
unfolding equal_bytes
bytes-same [] [] = refl
bytes-same [] (y ∷ ys) = refl
bytes-same (x ∷ xs) [] = refl
bytes-same (x ∷ xs) (y ∷ ys) = ap (λ q. eqb x y && q) (bytes-same xs ys)

-- ---- the tests one after the other
pub refusals-differ : (n : ℕ) (r t : Ran) → (r.refusal ≡ t.refusal → ⊥) → false ≡ agreed n r t
unfolding agreed same_numbers
refusals-differ n r t h = rw (ne_eqb _ _ h) refl

module _ (n : ℕ) (r t : Counts) (a b : List ℕ) where
  pub counts-differ : equal_counts (told r) (told t) ≡ false → false ≡ agreed n (ran_with (Ok r) a) (ran_with (Ok t) b)
  unfolding agreed same_numbers ran_with
  counts-differ h = rw h refl

  -- the records are no longer than n
  pub numbers-same : length a ≤ n → length b ≤ n → equal_counts (told r) (told t) ≡ true → equal_bytes a b ≡ agreed n (ran_with (Ok r) a) (ran_with (Ok t) b)
  unfolding agreed same_numbers ran_with
  numbers-same i j h = rw (h, take_all n a i, take_all n b j) refl

pub front-most : (n : ℕ) (l : List ℕ) → length (take n l) ≤ n
front-most n l = simp length-take (omega arith)

-- records of which only the front is compared, and that front
pub front-agreed : (n : ℕ) (r t : Counts) (a b : List ℕ) → agreed n (ran_with (Ok r) (take n a)) (ran_with (Ok t) (take n b)) ≡ agreed n (ran_with (Ok r) a) (ran_with (Ok t) b)
unfolding agreed same_numbers ran_with
front-agreed n r t a b = rw (take_all n (take n a) (front-most n a), take_all n (take n b) (front-most n b)) refl
