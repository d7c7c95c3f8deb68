-- Document 02, item 1: the first events of four seeds, and the border of a count.
use mathlib.Core.Path.{◌≡◌, refl, ap, ◌∙◌}
use mathlib.Core.List.{List, [], ◌∷◌, flat_map}
use Prim.Native.Nat.{ℕ, ◌≤◌}
use native.Mathlib.Omega.{arith}
use lib.ListN.{length}
use lib.Dec.{lit≤}
use Rattle.semantics.specs.Bytes.{within, overwrite}
use Rattle.semantics.specs.Events.{tick, pick, take_switch}
use Rattle.semantics.specs.Refusals.{◌>>◌, ensure}
use Rattle.semantics.specs.Practice.{next_seed, event_of_seed, drawn, practice_list, judge_practice, practised_into, practice}
use Rattle.semantics.proofs.PracticeCall.{list_length, practice-taken}

pub seed-0 : drawn 0 12 ≡
    tick ∷ pick 7 ∷ take_switch 2 1 ∷ pick 42 ∷ pick 34 ∷ pick 31 ∷ pick 23 ∷ pick 35 ∷ pick 1 ∷ pick 20 ∷ take_switch 1 3 ∷ pick 60 ∷ []
unfolding drawn next_seed event_of_seed within
seed-0 = refl

pub seed-1 : drawn 1 12 ≡
    tick ∷ pick 30 ∷ pick 1 ∷ pick 52 ∷ tick ∷ pick 30 ∷ take_switch 0 6 ∷ pick 14 ∷ tick ∷ pick 35 ∷ pick 0 ∷ pick 44 ∷ []
unfolding drawn next_seed event_of_seed within
seed-1 = refl

pub seed-2147483648 : drawn 2147483648 12 ≡
    pick 60 ∷ take_switch 0 7 ∷ pick 17 ∷ tick ∷ take_switch 4 2 ∷ tick ∷ take_switch 2 7 ∷ tick ∷ tick ∷ tick ∷ pick 11 ∷ tick ∷ []
unfolding drawn next_seed event_of_seed within
seed-2147483648 = refl

pub seed-4294967295 : drawn 4294967295 12 ≡
    tick ∷ tick ∷ tick ∷ pick 33 ∷ pick 55 ∷ take_switch 3 7 ∷ take_switch 5 1 ∷ pick 57 ∷ take_switch 7 7 ∷ pick 6 ∷ pick 23 ∷ tick ∷ []
unfolding drawn next_seed event_of_seed within
seed-4294967295 = refl

pub practice-0 : (seed : ℕ) (buffer : List ℕ) → practice seed 0 buffer ≡ record { refusal = 0; written = 0; events = buffer }
unfolding practice_list drawn overwrite flat_map
practice-0 seed buffer = practice-taken seed 0 buffer (lit≤ tt) (omega arith)

pub practice-10000 : (seed : ℕ) (buffer : List ℕ) → 30000 ≤ length buffer →
    practice seed 10000 buffer ≡ record { refusal = 0; written = 30000; events = overwrite (practice_list seed 10000) buffer }
practice-10000 seed buffer h =
    practice-taken seed 10000 buffer (lit≤ tt) h ∙ ap (λ (n : ℕ). record { refusal = 0; written = n; events = overwrite (practice_list seed 10000) buffer }) (list_length seed 10000)

pub practice-10001 : (seed : ℕ) (buffer : List ℕ) → practice seed 10001 buffer ≡ record { refusal = 32; written = 0; events = buffer }
unfolding practice judge_practice practised_into ensure ◌>>◌
practice-10001 seed buffer = refl
