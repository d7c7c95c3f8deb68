-- The edition that a table's byte 0 tells, in the definitions of the calls: 15 where it has none, and an accepted table has one.
use mathlib.Core.Path.{◌≡◌, refl, sym, ap, ◌∙◌}
use mathlib.Core.Bool.{Bool, true, false, not, ◌&&◌}
use mathlib.Core.List.{List, [], ◌∷◌}
use mathlib.Core.Logic.{◌↔◌, ◌⊎◌, inl, inr}
use Prim.Native.Nat.{ℕ, ◌<◌}
use native.Mathlib.Omega.{arith}
use borrow.Author.Tests.{leb-false, lt-leb, eqb-true, eqb-false, ne_eqb, not-true}
use lib.Dec.{leb, eqb, lit<}
use lib.ListN.{length, get_or}
use Rattle.semantics.specs.Bytes.{All, be4, every}
use Rattle.semantics.specs.Editions.{edition_in, OfEdition, NoEdition}
use Rattle.semantics.specs.Refusals.{Judged, refusal_of}
use Rattle.semantics.specs.Tables.{Table, table_header, judge_table}
use Rattle.semantics.specs.Calls.{read_table_of}
use Rattle.semantics.specs.Conditions.{Condition, ◌if◌, here, further, one_clear, Firsts, refuses, accepts, is15, table_conditions}
use Rattle.semantics.specs.Refusals.{accepted}
use Rattle.semantics.specs.Sentences.{TableHead, HeadOfTable, five_bytes, Sentence15}
use Rattle.semantics.proofs.Facts.{true-not-false, and_left, and_right}
use Rattle.semantics.proofs.FirstNumber.{lacks, first-not, table-first, table-refusal}
use Rattle.semantics.proofs.TablePassed.{table-passed}
use Rattle.semantics.proofs.EditionBytes.{of-edition, version-right, version-wrong, no-version}

-- a call refuses with the first number of its list just where that one applies
pub head-number : {A : Type 0} {j : Judged A} {n : ℕ} {b : Bool} {l : List Condition} → Firsts j ((n if b) ∷ l) → All (λ (c : Condition). c.refusal ≡ n → ⊥) l → (n ≡ 0 → ⊥) →
    (refusal_of j ≡ n) ↔ (b ≡ true)
unfolding refusal_of
head-number (refuses (here e f)) h z = (λ i. e, λ i. sym f)
head-number (refuses (further e f)) h z = (λ i. absurd (first-not h f i), λ i. true-not-false (sym i ∙ e))
head-number (accepts (one_clear e k)) h z = (λ i. absurd (z (sym i)), λ i. true-not-false (sym i ∙ e))

-- a test of two parts that fails
pub both-fail : (a b : Bool) → (a && b) ≡ false → (a ≡ false) ⊎ (b ≡ false)
both-fail true b h = inr h
both-fail false b h = inl h

pub left-fails : (a b : Bool) → a ≡ false → (a && b) ≡ false
left-fails true b h = true-not-false h
left-fails false b h = refl

pub right-fails : (a b : Bool) → b ≡ false → (a && b) ≡ false
right-fails true b h = h
right-fails false b h = refl

-- an accepted table is of the edition that it is judged by
pub table-of-edition : (table : List ℕ) (t : Table) → judge_table (edition_in table) table ≡ accepted t → OfEdition table (edition_in table)
unfolding table_header
table-of-edition table t h = version-right table (and_left _ _ (and_right (leb 5 (length table)) _ (table-passed (edition_in table) table h).header))

-- what 15 says of bytes alone
abbrev pub Says15 : List ℕ → Type 0
Says15 t = (length t < 5) ⊎ (NoEdition t ⊎ (be4 (get_or t 1 0) (get_or t 2 0) (get_or t 3 0) (get_or t 4 0) ≡ length t → ⊥))

module _ (table : List ℕ) where
  says-15 : table_header (edition_in table) table ≡ false → Says15 table
  unfolding table_header
  says-15 h = long (both-fail (leb 5 (length table)) _ h)
    where
      version : (eqb (get_or table 0 0) (edition_in table).version ≡ false) ⊎ (eqb (be4 (get_or table 1 0) (get_or table 2 0) (get_or table 3 0) (get_or table 4 0)) (length table) ≡ false) → Says15 table
      version (inl k) = inr (inl (version-wrong table k))
      version (inr k) = inr (inr (eqb-false _ (length table) k))

      long : (leb 5 (length table) ≡ false) ⊎ ((eqb (get_or table 0 0) (edition_in table).version && eqb (be4 (get_or table 1 0) (get_or table 2 0) (get_or table 3 0) (get_or table 4 0)) (length table)) ≡ false) → Says15 table
      long (inl k) = inl (leb-false 5 (length table) k)
      long (inr k) = version (both-fail _ _ k)

  told-15 : Says15 table → table_header (edition_in table) table ≡ false
  unfolding table_header
  told-15 (inl k) = left-fails _ _ (lt-leb 5 (length table) k)
  told-15 (inr (inl n)) = right-fails (leb 5 (length table)) _ (left-fails _ _ (no-version table n))
  told-15 (inr (inr k)) = right-fails (leb 5 (length table)) _ (right-fails (eqb (get_or table 0 0) (edition_in table).version) _ (ne_eqb _ (length table) k))

  pub refused-15 : ((read_table_of (edition_in table) table).refusal ≡ 15) ↔ Says15 table
  unfolding read_table_of table_conditions is15 every
  refused-15 =
      let ed = edition_in table in
      let j = judge_table ed table in
      let n = head-number {j = j} (table-first ed table) (lacks 15 _ refl) (λ z. omega arith) in
      (λ h. says-15 (not-true _ (n.0 (sym (table-refusal j) ∙ h))), λ h. table-refusal j ∙ n.1 (ap not (told-15 h)))

-- the sentence of 15, which every call over a table has first, says just that
head-15 : (t : List ℕ) (h : TableHead) → HeadOfTable t h → h.version ≡ (edition_in t).version → h.length_field ≡ length t → Says15 t → ⊥
head-15 t h five_bytes e f (inl k) = omega arith
head-15 t h five_bytes e f (inr (inl n)) = n _ (of-edition _ _ e)
head-15 t h five_bytes e f (inr (inr k)) = k f

pub sentence-15 : (table : List ℕ) → Sentence15 (edition_in table) table ↔ Says15 table
sentence-15 table = (there table, λ says h p. head-15 table h p.is-head p.version p.own_length says)
  where
    there : (t : List ℕ) → Sentence15 (edition_in t) t → Says15 t
    there [] s = inl (lit< tt)
    there (v ∷ []) s = inl (lit< tt)
    there (v ∷ a ∷ []) s = inl (lit< tt)
    there (v ∷ a ∷ b ∷ []) s = inl (lit< tt)
    there (v ∷ a ∷ b ∷ c ∷ []) s = inl (lit< tt)
    there (v ∷ a ∷ b ∷ c ∷ d ∷ l) s = go (eqb v (edition_in (v ∷ a ∷ b ∷ c ∷ d ∷ l)).version) refl
      where
        go : (t : Bool) → eqb v (edition_in (v ∷ a ∷ b ∷ c ∷ d ∷ l)).version ≡ t → Says15 (v ∷ a ∷ b ∷ c ∷ d ∷ l)
        go true e = inr (inr (λ f. s _ (record { is-head = five_bytes; version = eqb-true v _ e; own_length = f })))
        go false e = inr (inl (version-wrong (v ∷ a ∷ b ∷ c ∷ d ∷ l) e))
