-- Two runs compared: the comparison says that they agree where their numbers and bytes are the same.
use mathlib.Core.Path.{◌≡◌, refl, sym, ap, ap₂, ◌∙◌}
use mathlib.Core.Bool.{true}
use mathlib.Core.List.{List, [], ◌∷◌}
use Prim.Native.Nat.{ℕ}
use lib.ListN.{take}
use lib.Dec.{eqb}
use borrow.Author.Tests.{eqb-true, eq-eqb}
use Rattle.semantics.specs.Run.{Counts}
use Rattle.semantics.specs.Calls.{Ran}
use Rattle.semantics.proofs.Facts.{and_left, and_right, and_both, true-not-false}
use Rattle.schedules.specs.Exam.{equal_bytes, equal_counts, same_numbers, agreed}

pub same_true : (a b : List ℕ) → equal_bytes a b ≡ true → a ≡ b
unfolding equal_bytes
same_true [] [] h = refl
same_true [] (y ∷ ys) h = true-not-false (sym h)
same_true (x ∷ xs) [] h = true-not-false (sym h)
same_true (x ∷ xs) (y ∷ ys) h = ap₂ ◌∷◌ (eqb-true x y (and_left (eqb x y) (equal_bytes xs ys) h)) (same_true xs ys (and_right (eqb x y) (equal_bytes xs ys) h))

pub same_refl : (a : List ℕ) → equal_bytes a a ≡ true
unfolding equal_bytes
same_refl [] = refl
same_refl (x ∷ xs) = and_both (eq-eqb x x refl) (same_refl xs)

same-counts : (c : Counts) → equal_counts c c ≡ true
unfolding equal_counts
same-counts c = and_both (eq-eqb c.taken c.taken refl) (and_both (eq-eqb c.turned_away c.turned_away refl) (eq-eqb c.faulted c.faulted refl))

-- what the comparison of two runs looks at
pub record Same (n : ℕ) (r t : Ran) : Type 0 where
  pub refusal : r.refusal ≡ t.refusal
  pub counts : r.counts ≡ t.counts
  pub records : take n r.records ≡ take n t.records

pub agreed-true : (n : ℕ) (r t : Ran) → Same n r t → agreed n r t ≡ true
unfolding agreed same_numbers
agreed-true n r t s =
    and_both (and_both (eq-eqb _ _ s.refusal) (ap (λ c. equal_counts c t.counts) s.counts ∙ same-counts t.counts))
    (ap (λ l. equal_bytes l (take n t.records)) s.records ∙ same_refl (take n t.records))
