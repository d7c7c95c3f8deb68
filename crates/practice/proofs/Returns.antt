-- What the call returns, one law for each of its returns.
use Rattle.std.proofs.Common.{◌≡◌, ℕ, ◌*◌, ◌<◌, ◌≤◌, List, length, sym, refl, ◌∙◌, ap₂, le-leb}
use borrow.Author.Tests.{lt-leb}
use Rattle.semantics.specs.Bytes.{overwrite}
use Rattle.semantics.specs.Refusals.{◌>>◌, ensure}
use Rattle.semantics.specs.Practice.{practice_list, judge_practice, practised_into, practice}
use Rattle.semantics.proofs.PracticeCall.{list_length, practice-taken}
use Rattle.std.specs.Prelude.{Ok, Err}
use Rattle.paper.specs.declared.refusals.Refusal.TheVariants.{EventCount, EventRoom}
use Rattle.practice.specs.Answers.{practised}

pub too_many : (seed count : ℕ) (d : List ℕ) → 10000 < count → practised (Err EventCount) d ≡ practice seed count d
unfolding practice judge_practice practised_into ensure ◌>>◌
too_many seed count d h = rw (lt-leb count 10000 h) refl

pub too_short : (seed count : ℕ) (d : List ℕ) → count ≤ 10000 → length d < 3 * count → practised (Err EventRoom) d ≡ practice seed count d
unfolding practice judge_practice practised_into ensure ◌>>◌
too_short seed count d h k = rw (le-leb count 10000 h, lt-leb (3 * count) (length d) k) refl

pub taken : (seed count : ℕ) (d : List ℕ) {n : ℕ} {e : List ℕ} → count ≤ 10000 → 3 * count ≤ length d → n ≡ 3 * count → e ≡ overwrite (practice_list seed count) d →
    practised (Ok n) e ≡ practice seed count d
taken seed count d h k q w = ap₂ (λ (n : ℕ) (l : List ℕ). practised (Ok n) l) (q ∙ sym (list_length seed count)) w ∙ sym (practice-taken seed count d h k)
