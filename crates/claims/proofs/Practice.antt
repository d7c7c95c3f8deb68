-- Document 02, item 1, as theorems about the definitions: what the list is, and what the call gives.
-- What a statement, or a group of them, rules out is named by two wrong products that it does not let by.
use mathlib.Core.Path.{◌≡◌}
use mathlib.Core.List.{List, [], ◌∷◌, map}
use mathlib.Core.Logic.{◌↔◌, ◌⊎◌}
use Prim.Native.Nat.{ℕ, ◌*◌, ◌≤◌, ◌<◌}
use lib.ListN.{length, take}
use Rattle.semantics.specs.Bytes.{All, overwrite}
use Rattle.semantics.specs.Editions.{edition1}
use Rattle.semantics.specs.Events.{tick, pick, take_switch, event_in}
use Rattle.semantics.specs.Plant.{Plant}
use Rattle.semantics.specs.Run.{Control, Situation, Answered, answers}
use Rattle.semantics.specs.Rules.{Standing, Sound}
use Rattle.semantics.specs.Records.{AtFront}
use Rattle.semantics.specs.Calls.{events_of}
use Rattle.semantics.specs.Sentences.{FirstHolds, AnyHolds}
use Rattle.semantics.specs.Practice.{drawn, practice_list, practice}
use Rattle.semantics.specs.Drawing.{Drawn, PracticeLimits, practice_clauses}
use Rattle.semantics.proofs.PracticeRules as Rules
use Rattle.semantics.proofs.PracticeCall as Call
use Rattle.semantics.proofs.PracticePapers as Papers

-- ---- "The list equals this rule for every seed": it is what the sentences of `Drawn` draw, and nothing else is.
-- Ruled out: a generator that reads its bits from the seed before the draw; one that takes the selector from the lower three bits.
pub practice-rule : (seed count : ℕ) (l : List ℕ) → (practice_list seed count ≡ l) ↔ Drawn seed count l
practice-rule = Rules.practice-rule

-- "writes that many events", of 3 bytes each.
-- Ruled out: a list that ends with its first tick; events of two bytes.
pub practice-length : (seed count : ℕ) → length (practice_list seed count) ≡ 3 * count
practice-length = Call.list_length

-- "from one seed a shorter list is the front of a longer one": of the lists, and of what two calls write.
-- Ruled out: a seed that is mixed with the count; a list that is drawn from its end.
pub practice-front : (seed m n : ℕ) → m ≤ n → practice_list seed m ≡ take (3 * m) (practice_list seed n)
practice-front = Call.list-front

pub practice-front-written : (seed m n : ℕ) (a b : List ℕ) → m ≤ n → (practice seed m a).refusal ≡ 0 → (practice seed n b).refusal ≡ 0 →
    take (practice seed m a).written (practice seed m a).events ≡ take (practice seed m a).written (practice seed n b).events
practice-front-written = Call.practice-front

-- the events that a run cuts from the list are those that were drawn, in their order, and each names a node below 64 or a selector and a switch below 8.
-- Ruled out: the two bits as the event's first byte, so that a pick of 2 reads as a switch; a tick that keeps its six bits.
pub practice-read : (seed count : ℕ) → (map (event_in edition1) (events_of edition1 (practice_list seed count)) ≡ drawn seed count) × All PracticeLimits (drawn seed count)
practice-read seed count = (Call.list_read seed count, Call.all-limits seed count)

-- no event of it is answered 24, in a run of any accepted schedule or table (`sound-rules`, `sound-table`), from its start or any situation that it comes to.
-- Ruled out: an event whose kind is 3; a pick with a third byte that is not 0.
pub practice-never-24 : {S : Type 0} (p : Plant) (c : Control S) → Sound p c → (s : Situation S) → Standing c s → (seed count : ℕ) →
    All (λ (o : Answered S). o.answer ≡ 24 → ⊥) (answers edition1 p c s (events_of edition1 (practice_list seed count)))
practice-never-24 = Call.never-24

-- ---- the call: "It refuses with 32 a count above 10,000, and then with 33 a buffer under 3 times the count."
-- Ruled out: 33 for a count of 10,001 without a buffer; 32 for a count of 10,000.
pub first-number-practice : (seed count : ℕ) (buffer : List ℕ) →
    FirstHolds (practice seed count buffer).refusal (practice_clauses count buffer) ⊎ (((practice seed count buffer).refusal ≡ 0) × (AnyHolds (practice_clauses count buffer) → ⊥))
first-number-practice = Call.first-number

-- demand 1: "A refused call returns .. length and counts zero and every lent buffer unwritten."
-- Ruled out: a list cut at the buffer's end; a length returned with 33, to tell how much room there must be.
pub refused-practice : (seed count : ℕ) (buffer : List ℕ) → ((practice seed count buffer).refusal ≡ 0 → ⊥) →
    practice seed count buffer ≡ record { refusal = (practice seed count buffer).refusal; written = 0; events = buffer }
refused-practice = Call.refused-practice

-- any other call returns the list's length in bytes, and writes the list at the front; the bytes behind it stay.
-- Ruled out: a length in events; a buffer that is cleared behind the list.
pub practice-written : (seed count : ℕ) (buffer : List ℕ) → (practice seed count buffer).refusal ≡ 0 →
    ((practice seed count buffer).written ≡ 3 * count) × AtFront (practice_list seed count) buffer (practice seed count buffer).events
practice-written = Call.practice-written

-- what it writes is what the sentences of `Drawn` draw.
-- Ruled out: a list from another seed than was asked for; one that begins with the first draw left out.
pub practice-drawn : (seed count : ℕ) (buffer : List ℕ) → (practice seed count buffer).refusal ≡ 0 → Drawn seed count (take (3 * count) (practice seed count buffer).events)
practice-drawn = Call.practice-drawn

-- every element of the list is a byte, and so is all that the call leaves in a buffer of bytes.
-- Ruled out: a node that is all of the seed but its top two bits; an unused byte that holds the seed's other 24.
pub bytes-only-list : (seed count : ℕ) → All (λ b. b < 256) (practice_list seed count)
bytes-only-list = Call.list-bytes

pub bytes-only-practice : (seed count : ℕ) (buffer : List ℕ) → All (λ b. b < 256) buffer → All (λ b. b < 256) (practice seed count buffer).events
bytes-only-practice = Call.practice-bytes

-- ---- papers: the first twelve events of four seeds
pub seed-0 : drawn 0 12 ≡
    tick ∷ pick 7 ∷ take_switch 2 1 ∷ pick 42 ∷ pick 34 ∷ pick 31 ∷ pick 23 ∷ pick 35 ∷ pick 1 ∷ pick 20 ∷ take_switch 1 3 ∷ pick 60 ∷ []
seed-0 = Papers.seed-0

pub seed-1 : drawn 1 12 ≡
    tick ∷ pick 30 ∷ pick 1 ∷ pick 52 ∷ tick ∷ pick 30 ∷ take_switch 0 6 ∷ pick 14 ∷ tick ∷ pick 35 ∷ pick 0 ∷ pick 44 ∷ []
seed-1 = Papers.seed-1

pub seed-2147483648 : drawn 2147483648 12 ≡
    pick 60 ∷ take_switch 0 7 ∷ pick 17 ∷ tick ∷ take_switch 4 2 ∷ tick ∷ take_switch 2 7 ∷ tick ∷ tick ∷ tick ∷ pick 11 ∷ tick ∷ []
seed-2147483648 = Papers.seed-2147483648

pub seed-4294967295 : drawn 4294967295 12 ≡
    tick ∷ tick ∷ tick ∷ pick 33 ∷ pick 55 ∷ take_switch 3 7 ∷ take_switch 5 1 ∷ pick 57 ∷ take_switch 7 7 ∷ pick 6 ∷ pick 23 ∷ tick ∷ []
seed-4294967295 = Papers.seed-4294967295

-- a count of 0 needs no buffer and writes nothing, 10,000 is taken, and 10,001 is refused with 32 whatever is lent.
pub practice-0 : (seed : ℕ) (buffer : List ℕ) → practice seed 0 buffer ≡ record { refusal = 0; written = 0; events = buffer }
practice-0 = Papers.practice-0

pub practice-10000 : (seed : ℕ) (buffer : List ℕ) → 30000 ≤ length buffer →
    practice seed 10000 buffer ≡ record { refusal = 0; written = 30000; events = overwrite (practice_list seed 10000) buffer }
practice-10000 = Papers.practice-10000

pub practice-10001 : (seed : ℕ) (buffer : List ℕ) → practice seed 10001 buffer ≡ record { refusal = 32; written = 0; events = buffer }
practice-10001 = Papers.practice-10001
