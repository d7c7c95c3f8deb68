-- Compiling, a law for each return.
use mathlib.Core.Path.{◌≡◌, refl, ◌∙◌}
use mathlib.Core.List.{List}
use Prim.Native.Nat.{ℕ, ◌≤◌, ◌<◌}
use native.Mathlib.Nat.{zero-add}
use lib.ListN.{length}
use borrow.Author.Tests.{le-leb, lt-leb}
use Rattle.std.proofs.Common.{Ok, Err}
use Rattle.semantics.specs.Editions.{Edition}
use Rattle.semantics.specs.Refusals.{refused, accepted, ◌>>=◌, ◌>>◌, ensure}
use Rattle.semantics.proofs.Judging.{go-then, go-ensure}
use Rattle.schedules.specs.Files.{judge_file}
use Rattle.schedules.specs.Compiling.{judge_table_of, judge_compile}
use Rattle.schedules.specs.Calls.{compiled_into, file_comparisons, compile}
use Rattle.codec.proofs.Writing.{wrote-front}
use Rattle.table_write.specs.Pieces.{Put}
use Rattle.paper.specs.Refusals.{number_of}
use Rattle.paper.specs.declared.refusals.Refusal.{Refusal}
use Rattle.compiler.specs.Answers.{told}

module _ (ed : Edition) (f room : List ℕ) where
  -- 1 to 13
  pub refused-too : {n : ℕ} → judge_table_of ed f ≡ refused n → judge_compile ed f room ≡ refused n
  unfolding judge_compile ◌>>=◌
  refused-too e = rw e refl

  -- 14
  pub too_short : {t : List ℕ} → judge_table_of ed f ≡ accepted t → length room < length t → judge_compile ed f room ≡ refused 14
  unfolding judge_compile ◌>>◌ ensure
  too_short {t} e l = go-then _ e ∙ rw (lt-leb (length t) (length room) l) refl

  pub long-enough : {t : List ℕ} → judge_table_of ed f ≡ accepted t → length t ≤ length room → judge_compile ed f room ≡ accepted t
  unfolding judge_compile
  long-enough {t} e l = go-then _ e ∙ go-ensure 14 _ (le-leb (length t) (length room) l)

pub compile-refused : (ed : Edition) (f room : List ℕ) (why : Refusal) → judge_compile ed f room ≡ refused (number_of why) → told (Err why) room ≡ compile ed f room
unfolding compile compiled_into
compile-refused ed f room why e = rw e refl

pub compile-done : (ed : Edition) (f room : List ℕ) {t e : List ℕ} {r k : ℕ} → judge_compile ed f room ≡ accepted t → Put room 0 t e r → k ≡ file_comparisons (judge_file ed f) →
    told (Ok (record { length = r; comparisons = k })) e ≡ compile ed f room
unfolding compile compiled_into
compile-done ed f room {t} h w c = rw (h, c, w.ends ∙ zero-add (length t), wrote-front w.writes) refl
