-- A call that refuses with the first sentence that holds: one law for each kind of line of a call's `do` block.
use mathlib.Core.Path.{◌≡◌, refl, sym, subst, ◌∙◌}
use mathlib.Core.Bool.{Bool, true, false}
use mathlib.Core.List.{List, [], ◌∷◌, ◌++◌}
use mathlib.Core.Logic.{◌↔◌, ◌⊎◌, inl, inr}
use mathlib.Core.Option.{Option, none, some}
use Prim.Native.Nat.{ℕ}
use Rattle.semantics.specs.Refusals.{Judged, refused, accepted, ◌>>=◌, ◌>>◌, ensure, need, with_one_number, refusal_of}
use Rattle.semantics.specs.Sentences.{Clause, ◌when◌, FirstHolds, holds_here, holds_further, AnyHolds, Fails}
use Rattle.semantics.proofs.Facts.{true-not-false, none-not-some, some_is}

-- what a call makes of its list
pub data Answers {A : Type 0} : Judged A → List Clause → Type 1 where
  answers_first : {n : ℕ} {l : List Clause} → FirstHolds n l → Answers (refused n) l
  answers_none : {a : A} {l : List Clause} → (AnyHolds l → ⊥) → Answers (accepted a) l

-- the call's number is that of the first sentence that holds, or 0 where none does
pub first_or_none : {A : Type 0} {j : Judged A} {l : List Clause} → Answers j l → FirstHolds (refusal_of j) l ⊎ ((refusal_of j ≡ 0) × (AnyHolds l → ⊥))
unfolding refusal_of
first_or_none (answers_first f) = inl f
first_or_none (answers_none k) = inr (refl, k)

-- ---- lists of sentences
pub any-first : {n : ℕ} {l : List Clause} → FirstHolds n l → AnyHolds l
any-first (holds_here e p) = inl p
any-first (holds_further h f) = inr (any-first f)

pub one-first : {m n : ℕ} {l : List Clause} → FirstHolds m l → FirstHolds n l → m ≡ n
one-first (holds_here e p) (holds_here f q) = sym e ∙ f
one-first (holds_here e p) (holds_further h g) = absurd (h p)
one-first (holds_further h f) (holds_here e p) = absurd (h p)
one-first (holds_further h f) (holds_further i g) = one-first f g

pub any_left : (k l : List Clause) → AnyHolds k → AnyHolds (k ++ l)
any_left [] l p = absurd p
any_left (c ∷ k) l (inl p) = inl p
any_left (c ∷ k) l (inr q) = inr (any_left k l q)

pub any-right : (k l : List Clause) → AnyHolds l → AnyHolds (k ++ l)
any-right [] l p = p
any-right (c ∷ k) l p = inr (any-right k l p)

pub none-of-both : (k l : List Clause) → (AnyHolds k → ⊥) → (AnyHolds l → ⊥) → AnyHolds (k ++ l) → ⊥
none-of-both [] l h i p = i p
none-of-both (c ∷ k) l h i (inl p) = h (inl p)
none-of-both (c ∷ k) l h i (inr q) = none-of-both k l (λ p. h (inr p)) i q

first-append : {n : ℕ} {k : List Clause} (l : List Clause) → FirstHolds n k → FirstHolds n (k ++ l)
first-append l (holds_here e p) = holds_here e p
first-append l (holds_further h f) = holds_further h (first-append l f)

none-append : {n : ℕ} (k : List Clause) {l : List Clause} → (AnyHolds k → ⊥) → FirstHolds n l → FirstHolds n (k ++ l)
none-append [] h f = f
none-append (c ∷ k) h f = holds_further (λ p. h (inl p)) (none-append k (λ p. h (inr p)) f)

-- a sentence that does not hold
passes : {A : Type 0} {n : ℕ} {P : Type 0} {j : Judged A} {l : List Clause} → (P → ⊥) → Answers j l → Answers j ((n when P) ∷ l)
passes h (answers_first f) = answers_first (holds_further h f)
passes {P = P} h (answers_none {l = l} k) = answers_none go
  where
    go : P ⊎ AnyHolds l → ⊥
    go (inl p) = h p
    go (inr q) = k q

-- ---- lines of a call
pub by-ensure : {A : Type 0} (n : ℕ) (t : Bool) {P : Type 0} {j : Judged A} {l : List Clause} → (t ≡ false → P) → (t ≡ true → P → ⊥) → (t ≡ true → Answers j l) → Answers (ensure n t >> j) ((n when P) ∷ l)
unfolding ensure ◌>>◌
by-ensure n true h i k = passes (i refl) (k refl)
by-ensure n false h i k = answers_first (holds_here refl (h refl))

pub by-need : {A B : Type 0} (n : ℕ) (o : Option B) {P : Type 0} {f : B → Judged A} {l : List Clause} → (((b : B) → o ≡ some b → ⊥) → P) → ((b : B) → o ≡ some b → P → ⊥) →
    ((b : B) → o ≡ some b → Answers (f b) l) → Answers (need n o >>= f) ((n when P) ∷ l)
unfolding need ◌>>=◌
by-need n none h i k = answers_first (holds_here refl (h (λ b e. none-not-some e)))
by-need n (some b) h i k = passes (i b refl) (k b refl)

-- one call's list, then the next one's
pub by-then : {A B : Type 0} {j : Judged A} {f : A → Judged B} {k l : List Clause} → Answers j k → ((a : A) → j ≡ accepted a → Answers (f a) l) → Answers (j >>= f) (k ++ l)
unfolding ◌>>=◌
by-then {l = l} (answers_first g) h = answers_first (first-append l g)
by-then {B = B} {f = f} {l = l} (answers_none {a = a} {l = k} c) h = go (h a refl)
  where
    go : {i : Judged B} → Answers i l → Answers i (k ++ l)
    go (answers_first g) = answers_first (none-append k c g)
    go (answers_none d) = answers_none (none-of-both k l c d)

-- one number for a whole list, then the rest
pub by_only : {A B : Type 0} (n : ℕ) {j : Judged A} {f : A → Judged B} {P : Type 0} {k l : List Clause} → Answers j k → (AnyHolds k → P) →
    ((a : A) → j ≡ accepted a → (AnyHolds k → ⊥) → Answers (f a) ((n when P) ∷ l)) → Answers (with_one_number n j >>= f) ((n when P) ∷ l)
unfolding with_one_number ◌>>=◌
by_only n (answers_first g) h f = answers_first (holds_here refl (h (any-first g)))
by_only n (answers_none {a = a} c) h f = f a refl c

pub by_end : {A : Type 0} (a : A) → Answers (accepted a) []
by_end a = answers_none (λ p. p)

-- a call that makes one more thing of what another accepted keeps its list
pub by_map : {A B : Type 0} {j : Judged A} (f : A → B) {k : List Clause} → Answers j k → Answers (j >>= λ a. accepted (f a)) k
unfolding ◌>>=◌
by_map f (answers_first g) = answers_first g
by_map f (answers_none c) = answers_none c

-- ---- sentences about a part that is there, the only one of its kind
module _ {A : Type 0} {There : A → Type 0} {a : A} (there : There a) (one : (x : A) → There x → a ≡ x) where
  -- what is asked of the part holds just where nothing fails
  pub not-failing : {Asked : A → Type 0} → Asked a → Fails There Asked → ⊥
  not-failing {Asked} h f = f.broken (subst Asked (one f.part f.there) h)

  pub failing : {Asked : A → Type 0} → (Asked a → ⊥) → Fails There Asked
  failing h = record { part = a; there = there; broken = h }

  -- a test of the part
  pub by-test : {B : Type 0} (n : ℕ) (t : Bool) {Asked : A → Type 0} {j : Judged B} {l : List Clause} → (t ≡ true) ↔ Asked a → (t ≡ true → Answers j l) →
      Answers (ensure n t >> j) ((n when Fails There Asked) ∷ l)
  by-test n t {Asked} same k = by-ensure n t (λ e. failing (λ h. true-not-false (sym (same.1 h) ∙ e))) (λ e. not-failing {Asked = Asked} (same.0 e)) k

  -- something that is read from the part
  pub by_read : {B C : Type 0} (n : ℕ) (o : Option B) {Written : A → B → Type 0} {f : B → Judged C} {l : List Clause} → ((b : B) → (o ≡ some b) ↔ Written a b) →
      ((b : B) → o ≡ some b → Answers (f b) l) → Answers (need n o >>= f) ((n when Fails There (λ x. (b : B) × Written x b)) ∷ l)
  by_read {B} n o {Written} same k =
      by-need n o (λ h. failing (λ w. h w.0 ((same w.0).1 w.1))) (λ b e. not-failing {Asked = λ x. (b : B) × Written x b} (b, (same b).0 e)) k

  -- something that is read from the part and tested
  pub by-read-test : {B C : Type 0} (n : ℕ) (o : Option B) (t : B → Bool) {Written : A → B → Type 0} {f : B → Judged C} {l : List Clause} →
      ((b : B) → ((o ≡ some b) × (t b ≡ true)) ↔ Written a b) →
      ((b : B) → o ≡ some b → t b ≡ true → Answers (f b) l) → Answers (need n o >>= λ b. ensure n (t b) >> f b) ((n when Fails There (λ x. (b : B) × Written x b)) ∷ l)
  unfolding need ◌>>=◌
  by-read-test {B} n none t {Written} same k = answers_first (holds_here refl (failing nothing))
    where
      nothing : ((b : B) × Written a b) → ⊥
      nothing w = none-not-some ((same w.0).1 w.1).0
  by-read-test {B} n (some b) t {Written} same k = by-ensure n (t b) (λ e. failing (λ w. no e w)) (λ e. not-failing {Asked = λ x. (b : B) × Written x b} (b, (same b).0 (refl, e))) (k b refl)
    where
      no : t b ≡ false → ((b : B) × Written a b) → ⊥
      no e w = let i = (same w.0).1 w.1 in true-not-false (sym i.1 ∙ subst (λ c. t c ≡ false) (some_is i.0) e)
