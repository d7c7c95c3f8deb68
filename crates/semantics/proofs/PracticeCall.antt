-- Of the list and the call of document 02's item 1: how long the list is, that a shorter one is its front, that it is bytes and whole events,
-- and the first number that applies.
use mathlib.Core.Path.{◌≡◌, refl, sym, ap, ap₂, subst, ◌∙◌}
use mathlib.Core.List.{List, [], ◌∷◌, ◌++◌, append_assoc, map, flat_map, flatten}
use mathlib.Core.Logic.{◌⊎◌}
use Prim.Native.Nat.{ℕ, zero, suc, ◌*◌, ◌≤◌, ◌<◌}
use native.Mathlib.Omega.{arith}
use borrow.Author.Tests.{leb-true, leb-false, le-leb}
use lib.ListN.{length, take, length-append}
use lib.Seq.{take-take}
use lib.Dec.{lit<, leb, eqb}
use Rattle.semantics.specs.Bytes.{within, overwrite}
use Rattle.semantics.specs.Editions.{edition1}
use Rattle.semantics.specs.Events.{Event, tick, pick, take_switch, senseless, event_in}
use Rattle.semantics.specs.Refusals.{Judged, refused, accepted, ◌>>◌, ensure, refusal_of}
use Rattle.semantics.specs.Plant.{Plant}
use Rattle.semantics.specs.Run.{Control, Situation, Answered, answers, step}
use Rattle.semantics.specs.Rules.{SaysTick, SaysPick, SaysSwitch, Standing, Sound}
use Rattle.semantics.specs.Rules.{Sentence, is-over, is-senseless, is-idle, is-missing, is-busy, is-checked-pick, is-checked-tick, is-early, is_false, is-due}
use Rattle.semantics.specs.Records.{AtFront}
use Rattle.semantics.specs.Calls.{events_of}
use Rattle.semantics.specs.Sentences.{FirstHolds, AnyHolds}
use Rattle.semantics.specs.Practice.{next_seed, bits, event_of_seed, bytes_of_event, drawn, practice_list, Practised, practice_limit, judge_practice, practised_into, practice}
use Rattle.semantics.specs.Drawing.{Drawn, PracticeLimits, tick_limits, pick_limits, switch_limits, practice_clauses}
use Rattle.semantics.proofs.Facts.{All, all_nil, all_cons, all_append, all-flat, all_map, by_cases}
use Rattle.semantics.proofs.WrittenSources.{all_drop}
use Rattle.semantics.proofs.RecordForms.{overwritten}
use Rattle.semantics.proofs.SentenceSteps.{Answers, answers_none, by-ensure, first_or_none}
use Rattle.semantics.proofs.EventDecoding.{decoded-tick, decoded-pick, decoded-switch}
use Rattle.semantics.proofs.EventsCut.{events-cut}
use Rattle.semantics.proofs.FirstAnswer.{first-answer}
use Rattle.semantics.proofs.StepRules.{rule-of, rule-standing}
use Rattle.semantics.proofs.Judging.{passed-ensure, accepted-is}
use Rattle.semantics.proofs.PracticeRules.{event-three, tick-says, pick-says, switch-says, list-drawn}

-- ---- length
pub list_length : (seed n : ℕ) → length (practice_list seed n) ≡ 3 * n
unfolding practice_list drawn flat_map
list_length seed zero = refl
list_length seed (suc n) =
    let e = event_of_seed (next_seed seed) in
    let a = length-append (bytes_of_event e) (practice_list (next_seed seed) n) in
    let b = event-three e in
    let c = list_length (next_seed seed) n in omega arith

-- ---- a shorter list is the front of a longer one
take-event : (e : Event) (k : ℕ) (l : List ℕ) → take (suc (suc (suc k))) (bytes_of_event e ++ l) ≡ bytes_of_event e ++ take k l
unfolding bytes_of_event
take-event tick k l = refl
take-event (pick n) k l = refl
take-event (take_switch s j) k l = refl
take-event senseless k l = refl

pub list-front : (seed m n : ℕ) → m ≤ n → practice_list seed m ≡ take (3 * m) (practice_list seed n)
unfolding practice_list drawn flat_map
list-front seed zero n h = refl
list-front seed (suc m) zero h = absurd (omega arith)
list-front seed (suc m) (suc n) h =
    let e = event_of_seed (next_seed seed) in
    let k : 3 * suc m ≡ suc (suc (suc (3 * m))) = omega arith in
    ap (λ (l : List ℕ). bytes_of_event e ++ l) (list-front (next_seed seed) m n (omega arith))
    ∙ sym (take-event e (3 * m) (practice_list (next_seed seed) n))
    ∙ ap (λ (i : ℕ). take i (bytes_of_event e ++ practice_list (next_seed seed) n)) (sym k)

-- ---- one draw more
-- the seed after so many draws
unfoldable pub seed_after : ℕ → ℕ → ℕ
seed_after seed zero = seed
seed_after seed (suc n) = seed_after (next_seed seed) n

pub seed-more : (seed n : ℕ) → seed_after seed (suc n) ≡ next_seed (seed_after seed n)
unfolding seed_after
seed-more seed zero = refl
seed-more seed (suc n) = seed-more (next_seed seed) n

append-nil : (l : List ℕ) → l ++ [] ≡ l
append-nil [] = refl
append-nil (x ∷ l) = ap (λ (s : List ℕ). x ∷ s) (append-nil l)

pub list-more : (seed n : ℕ) → practice_list seed (suc n) ≡ practice_list seed n ++ bytes_of_event (event_of_seed (next_seed (seed_after seed n)))
unfolding practice_list drawn flat_map seed_after
list-more seed zero = append-nil (bytes_of_event (event_of_seed (next_seed seed)))
list-more seed (suc n) =
    let e = bytes_of_event (event_of_seed (next_seed seed)) in
    ap (λ (l : List ℕ). e ++ l) (list-more (next_seed seed) n)
    ∙ sym (append_assoc e (practice_list (next_seed seed) n) (bytes_of_event (event_of_seed (next_seed (seed_after (next_seed seed) n)))))

-- ---- each event is one that a drill may ask
limits_of : (seed : ℕ) → PracticeLimits (event_of_seed seed)
unfolding event_of_seed
limits_of seed = by_cases (eqb (bits 30 2 seed) 0) (λ e. rw e tick_limits)
    (λ e. by_cases (within 1 2 (bits 30 2 seed)) (λ f. rw (e, f) (pick_limits {n = bits 24 6 seed} (omega arith)))
    (λ f. rw (e, f) (switch_limits {s = bits 27 3 seed} {k = bits 24 3 seed} (omega arith) (omega arith))))

pub all-limits : (seed n : ℕ) → All PracticeLimits (drawn seed n)
unfolding drawn
all-limits seed zero = all_nil
all-limits seed (suc n) = all_cons (limits_of (next_seed seed)) (all-limits (next_seed seed) n)

limit-bytes : (e : Event) → PracticeLimits e → All (λ (b : ℕ). b < 256) (bytes_of_event e)
unfolding bytes_of_event
limit-bytes e tick_limits = all_cons (lit< tt) (all_cons (lit< tt) (all_cons (lit< tt) all_nil))
limit-bytes e (pick_limits {n = n} h) = all_cons (lit< tt) (all_cons {x = n} (omega arith) (all_cons (lit< tt) all_nil))
limit-bytes e (switch_limits {s = s} {k = k} h i) = all_cons (lit< tt) (all_cons {x = s} (omega arith) (all_cons {x = k} (omega arith) all_nil))

pub list-bytes : (seed n : ℕ) → All (λ (b : ℕ). b < 256) (practice_list seed n)
unfolding practice_list
list-bytes seed n = all-flat bytes_of_event (all_map limit-bytes (all-limits seed n))

-- ---- and is read as it was drawn
flat-map : (l : List Event) → flat_map bytes_of_event l ≡ flatten (map bytes_of_event l)
unfolding flat_map flatten
flat-map [] = refl
flat-map (e ∷ l) = ap (λ (s : List ℕ). bytes_of_event e ++ s) (flat-map l)

three-each : (l : List Event) → All (λ (e : List ℕ). length e ≡ edition1.event_bytes) (map bytes_of_event l)
three-each [] = all_nil
three-each (e ∷ l) = all_cons (event-three e) (three-each l)

pub list-events : (seed n : ℕ) → events_of edition1 (practice_list seed n) ≡ map bytes_of_event (drawn seed n)
unfolding practice_list
list-events seed n = ap (events_of edition1) (flat-map (drawn seed n)) ∙ events-cut edition1 (map bytes_of_event (drawn seed n)) (three-each (drawn seed n))

read_back : (e : Event) → PracticeLimits e → event_in edition1 (bytes_of_event e) ≡ e
read_back e tick_limits = decoded-tick edition1 tick-says
read_back e (pick_limits {n = n} h) = decoded-pick edition1 (pick-says n)
read_back e (switch_limits {s = s} {k = k} h i) = decoded-switch edition1 (switch-says s k)

all_read : {l : List Event} → All PracticeLimits l → map (event_in edition1) (map bytes_of_event l) ≡ l
all_read all_nil = refl
all_read (all_cons {x = e} h p) = ap₂ (λ (x : Event) (y : List Event). x ∷ y) (read_back e h) (all_read p)

pub list_read : (seed n : ℕ) → map (event_in edition1) (events_of edition1 (practice_list seed n)) ≡ drawn seed n
list_read seed n = ap (map (event_in edition1)) (list-events seed n) ∙ all_read (all-limits seed n)

-- ---- no event of it is answered 24
module _ {S : Type 0} (p : Plant) (c : Control S) where
  says-event : {n : ℕ} {s : Situation S} {e : List ℕ} (m : Event) → PracticeLimits m → e ≡ bytes_of_event m → n ≡ 24 → Sentence edition1 p c n s e → ⊥
  says-event m tick_limits q k (is-senseless f g h) = f (subst (SaysTick edition1) (sym q) tick-says)
  says-event m (pick_limits {n = n} i) q k (is-senseless f g h) = g n (subst (λ (e : List ℕ). SaysPick edition1 e n) (sym q) (pick-says n))
  says-event m (switch_limits {s = s} {k = j} i l) q k (is-senseless f g h) = h s j (subst (λ (e : List ℕ). SaysSwitch edition1 e s j) (sym q) (switch-says s j))
  says-event m d q k is-over = absurd (omega arith)
  says-event m d q k (is-idle v f) = absurd (omega arith)
  says-event m d q k (is-missing v f) = absurd (omega arith)
  says-event m d q k (is-busy v w f) = absurd (omega arith)
  says-event m d q k (is-checked-pick v w) = absurd (omega arith)
  says-event m d q k (is-checked-tick v w) = absurd (omega arith)
  says-event m d q k (is-early v w h) = absurd (omega arith)
  says-event m d q k (is_false v g h) = absurd (omega arith)
  says-event m d q k (is-due v w h) = absurd (omega arith)

  none-24 : Sound p c → (s : Situation S) → Standing c s → {l : List Event} → All PracticeLimits l →
      All (λ (o : Answered S). o.answer ≡ 24 → ⊥) (answers edition1 p c s (map bytes_of_event l))
  unfolding answers within
  none-24 sound s stand all_nil = all_nil
  none-24 sound s stand (all_cons {x = m} d ds) =
      all_cons (λ q. says-event m d refl refl ((first-answer edition1 p c sound s stand (bytes_of_event m) 24).0 (q, refl)).applies)
      (none-24 sound (step edition1 p c s (bytes_of_event m)).left (rule-standing edition1 p c stand (rule-of edition1 p c sound s stand (bytes_of_event m))) ds)

  pub never-24 : Sound p c → (s : Situation S) → Standing c s → (seed n : ℕ) →
      All (λ (o : Answered S). o.answer ≡ 24 → ⊥) (answers edition1 p c s (events_of edition1 (practice_list seed n)))
  never-24 sound s stand seed n = rw (list-events seed n) (none-24 sound s stand (all-limits seed n))

-- ---- the call
judged-refusal : (buffer : List ℕ) (j : Judged (List ℕ)) → (practised_into buffer j).refusal ≡ refusal_of j
unfolding practised_into refusal_of
judged-refusal buffer (refused n) = refl
judged-refusal buffer (accepted l) = refl

practice-answers : (seed count : ℕ) (buffer : List ℕ) → Answers (judge_practice seed count buffer) (practice_clauses count buffer)
unfolding judge_practice
practice-answers seed count buffer =
    by-ensure 32 (leb count practice_limit) (λ e. leb-false count 10000 e) (λ e h. let k = leb-true count 10000 e in absurd (omega arith))
    (λ _. by-ensure 33 (leb (3 * count) (length buffer)) (λ e. leb-false (3 * count) (length buffer) e) (λ e h. let k = leb-true (3 * count) (length buffer) e in absurd (omega arith))
    (λ _. answers_none (λ n. n)))

pub first-number : (seed count : ℕ) (buffer : List ℕ) →
    FirstHolds (practice seed count buffer).refusal (practice_clauses count buffer) ⊎ (((practice seed count buffer).refusal ≡ 0) × (AnyHolds (practice_clauses count buffer) → ⊥))
unfolding practice
first-number seed count buffer = rw (judged-refusal buffer (judge_practice seed count buffer)) (first_or_none (practice-answers seed count buffer))

into-refused : (buffer : List ℕ) (j : Judged (List ℕ)) → ((practised_into buffer j).refusal ≡ 0 → ⊥) →
    practised_into buffer j ≡ record { refusal = (practised_into buffer j).refusal; written = 0; events = buffer }
unfolding practised_into
into-refused buffer (refused n) h = refl
into-refused buffer (accepted l) h = absurd (h refl)

pub refused-practice : (seed count : ℕ) (buffer : List ℕ) → ((practice seed count buffer).refusal ≡ 0 → ⊥) →
    practice seed count buffer ≡ record { refusal = (practice seed count buffer).refusal; written = 0; events = buffer }
unfolding practice
refused-practice seed count buffer = into-refused buffer (judge_practice seed count buffer)

-- where both conditions are met
pub practice-taken : (seed count : ℕ) (buffer : List ℕ) → count ≤ 10000 → 3 * count ≤ length buffer →
    practice seed count buffer ≡ record { refusal = 0; written = length (practice_list seed count); events = overwrite (practice_list seed count) buffer }
unfolding practice judge_practice practised_into ensure ◌>>◌
practice-taken seed count buffer h k = rw (le-leb count 10000 h, le-leb (3 * count) (length buffer) k) refl

-- a call that is not refused has both
into-accepted : (buffer : List ℕ) (seed count : ℕ) → (practice seed count buffer).refusal ≡ 0 → (count ≤ 10000) × (3 * count ≤ length buffer)
unfolding practice judge_practice practised_into ensure ◌>>◌
into-accepted buffer seed count h = by_cases (leb count practice_limit)
    (λ e. by_cases (leb (3 * count) (length buffer)) (λ f. (leb-true count 10000 e, leb-true (3 * count) (length buffer) f))
    (λ f. absurd (let k : 33 ≡ 0 = sym (rw (e, f) refl) ∙ h in omega arith)))
    (λ e. absurd (let k : 32 ≡ 0 = sym (rw e refl) ∙ h in omega arith))

pub practice-written : (seed count : ℕ) (buffer : List ℕ) → (practice seed count buffer).refusal ≡ 0 →
    ((practice seed count buffer).written ≡ 3 * count) × AtFront (practice_list seed count) buffer (practice seed count buffer).events
practice-written seed count buffer h =
    let k = into-accepted buffer seed count h in
    let t = practice-taken seed count buffer k.0 k.1 in
    let n = list_length seed count in
    (ap (λ (r : Practised). r.written) t ∙ n, rw t (overwritten (practice_list seed count) buffer (omega arith)))

-- what is written is what the sentences draw
pub practice-drawn : (seed count : ℕ) (buffer : List ℕ) → (practice seed count buffer).refusal ≡ 0 → Drawn seed count (take (3 * count) (practice seed count buffer).events)
practice-drawn seed count buffer h =
    let w = (practice-written seed count buffer h).1.front in
    subst (Drawn seed count) (sym w ∙ ap (λ (i : ℕ). take i (practice seed count buffer).events) (list_length seed count)) (list-drawn seed count)

-- the written front of a shorter list is that of a longer one
pub practice-front : (seed m n : ℕ) (a b : List ℕ) → m ≤ n → (practice seed m a).refusal ≡ 0 → (practice seed n b).refusal ≡ 0 →
    take (practice seed m a).written (practice seed m a).events ≡ take (practice seed m a).written (practice seed n b).events
practice-front seed m n a b h j k =
    let x = practice-written seed m a j in
    let y = (practice-written seed n b k).1.front in
    let lm = list_length seed m in
    let ln = list_length seed n in
    ap (λ (i : ℕ). take i (practice seed m a).events) (x.0 ∙ sym lm) ∙ x.1.front
    ∙ list-front seed m n h ∙ ap (take (3 * m)) (sym y) ∙ take-take (3 * m) (length (practice_list seed n)) (practice seed n b).events (omega arith)
    ∙ ap (λ (i : ℕ). take i (practice seed n b).events) (sym x.0)

list-accepted : (seed count : ℕ) (buffer : List ℕ) {l : List ℕ} → judge_practice seed count buffer ≡ accepted l → practice_list seed count ≡ l
unfolding judge_practice
list-accepted seed count buffer e = accepted-is (passed-ensure 33 (leb (3 * count) (length buffer)) _ (passed-ensure 32 (leb count practice_limit) _ e).1).1

pub practice-bytes : (seed count : ℕ) (buffer : List ℕ) → All (λ (b : ℕ). b < 256) buffer → All (λ (b : ℕ). b < 256) (practice seed count buffer).events
unfolding practice practised_into overwrite
practice-bytes seed count buffer h = go (judge_practice seed count buffer) refl
  where
    go : (j : Judged (List ℕ)) → judge_practice seed count buffer ≡ j → All (λ (b : ℕ). b < 256) (practised_into buffer j).events
    go (refused n) e = h
    go (accepted l) e = all_append (subst (All (λ (b : ℕ). b < 256)) (list-accepted seed count buffer e) (list-bytes seed count)) (all_drop (length l) h)
