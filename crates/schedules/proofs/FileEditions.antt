-- The edition that a schedule file's byte 0 tells, in the definitions of the calls: 1 where it has none, an accepted file has one, and its table has the same.
use mathlib.Core.Path.{◌≡◌, refl, sym, ap, ◌∙◌}
use mathlib.Core.Bool.{false, not}
use mathlib.Core.List.{List, [], ◌∷◌}
use mathlib.Core.Logic.{◌↔◌, ◌⊎◌, inl, inr}
use Prim.Native.Nat.{ℕ, ◌<◌}
use native.Mathlib.Omega.{arith}
use borrow.Author.Tests.{leb-false, lt-leb, ne_eqb, not-true}
use lib.Dec.{leb, eqb, lit<}
use lib.ListN.{length, get_or, take}
use Rattle.semantics.specs.Bytes.{every}
use Rattle.semantics.specs.Editions.{edition_in, OfEdition, NoEdition}
use Rattle.semantics.specs.Refusals.{accepted}
use Rattle.semantics.specs.TableFile.{table_bytes}
use Rattle.semantics.specs.Calls.{table_run_of}
use Rattle.semantics.proofs.Facts.{and_right}
use Rattle.semantics.proofs.FirstNumber.{lacks}
use Rattle.semantics.proofs.EditionBytes.{of-edition, version-right, version-wrong, no-version, same-edition, edition-told}
use Rattle.semantics.proofs.EditionCalls.{head-number, both-fail, left-fails, right-fails}
use Rattle.schedules.specs.Files.{Schedule, file_header, judge_file}
use Rattle.schedules.specs.Compiling.{table_of}
use Rattle.schedules.specs.Calls.{read_schedule, rule_run_of, compile}
use Rattle.schedules.specs.Conditions.{is1, file_conditions}
use Rattle.schedules.specs.Sentences.{FileHead, HeadOfFile, three_bytes, Sentence1}
use Rattle.schedules.proofs.FirstNumber.{passed, file-first, schedule-refusal}
use Rattle.schedules.proofs.Agreement.{of-written, agreement}

-- an accepted file is of the edition that it is judged by
pub file-of-edition : (file : List ℕ) (s : Schedule) → judge_file (edition_in file) file ≡ accepted s → OfEdition file (edition_in file)
unfolding file_header
file-of-edition file s h = version-right file (and_right (leb 3 (length file)) _ (passed (edition_in file) file s h).header)

-- what 1 says of bytes alone
abbrev pub Says1 : List ℕ → Type 0
Says1 f = (length f < 3) ⊎ NoEdition f

module _ (file : List ℕ) where
  says-1 : file_header (edition_in file) file ≡ false → Says1 file
  unfolding file_header
  says-1 h = go (both-fail (leb 3 (length file)) _ h)
    where
      go : (leb 3 (length file) ≡ false) ⊎ (eqb (get_or file 0 0) (edition_in file).version ≡ false) → Says1 file
      go (inl k) = inl (leb-false 3 (length file) k)
      go (inr k) = inr (version-wrong file k)

  told-1 : Says1 file → file_header (edition_in file) file ≡ false
  unfolding file_header
  told-1 (inl k) = left-fails _ _ (lt-leb 3 (length file) k)
  told-1 (inr n) = right-fails (leb 3 (length file)) _ (no-version file n)

  pub refused-1 : ((read_schedule (edition_in file) file).refusal ≡ 1) ↔ Says1 file
  unfolding read_schedule file_conditions is1 every
  refused-1 =
      let ed = edition_in file in
      let j = judge_file ed file in
      let n = head-number {j = j} (file-first ed file) (lacks 1 _ refl) (λ z. omega arith) in
      (λ h. says-1 (not-true _ (n.0 (sym (schedule-refusal j) ∙ h))), λ h. schedule-refusal j ∙ n.1 (ap not (told-1 h)))

-- the sentence of 1, which every call over a file has first, says just that
head-1 : (f : List ℕ) (h : FileHead) → HeadOfFile f h → h.version ≡ (edition_in f).version → Says1 f → ⊥
head-1 f h three_bytes e (inl k) = omega arith
head-1 f h three_bytes e (inr n) = n _ (of-edition _ _ e)

pub sentence-1 : (file : List ℕ) → Sentence1 (edition_in file) file ↔ Says1 file
sentence-1 file = (there file, λ says h k e. head-1 file h k e says)
  where
    there : (f : List ℕ) → Sentence1 (edition_in f) f → Says1 f
    there [] s = inl (lit< tt)
    there (v ∷ []) s = inl (lit< tt)
    there (v ∷ a ∷ []) s = inl (lit< tt)
    there (v ∷ a ∷ b ∷ l) s = inr (version-wrong (v ∷ a ∷ b ∷ l) (ne_eqb v _ (s _ three_bytes)))

-- the table that compiling writes is of its file's edition
module _ (file room : List ℕ) (h : (compile (edition_in file) file room).refusal ≡ 0) where
  abbrev table : List ℕ
  table = take (compile (edition_in file) file room).written (compile (edition_in file) file room).table

  pub table-edition : OfEdition table (edition_in file)
  unfolding table_of table_bytes
  table-edition = of-written (edition_in file) file room (λ t. OfEdition t (edition_in file)) (λ s e k. same-edition file _) h

  pub same-edition-in : edition_in table ≡ edition_in file
  same-edition-in = edition-told table-edition

  pub same_bytes : (start events buffer : List ℕ) → rule_run_of (edition_in file) file start events buffer ≡ table_run_of (edition_in table) table start events buffer
  same_bytes start events buffer =
      (agreement (edition_in file) file room h).same start events buffer ∙ ap (λ e. table_run_of e table start events buffer) (sym same-edition-in)
