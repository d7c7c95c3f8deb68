-- A run's loop: from its start, event by event, to what its call reports.
use mathlib.Core.Path.{◌≡◌, refl, sym, ap, ap₂, ◌∙◌}
use mathlib.Core.Bool.{true}
use mathlib.Core.List.{List, [], ◌∷◌, ◌++◌, map, flat_map, append_assoc, append-nil}
use mathlib.Core.Option.{Option}
use Prim.Native.Nat.{ℕ, suc, ◌+◌, ◌-◌, ◌*◌, ◌^◌, ◌≤◌, ◌<◌}
use native.Mathlib.Nat.{zero-add, sub-zero, suc-mul, zero-mul, mul-le-mul_right, div-le_self}
use native.Mathlib.Numerals.{add-one}
use native.Mathlib.Omega.{arith}
use lib.IntN.{ℤ}
use lib.ListN.{length, take, drop, length-append}
use lib.Seq.{drop-drop}
use Rattle.semantics.specs.Editions.{Edition}
use Rattle.semantics.specs.Refusals.{accepted}
use Rattle.semantics.specs.Plant.{Plant}
use Rattle.semantics.specs.Starts.{Start}
use Rattle.semantics.specs.Events.{event_in, events_in}
use Rattle.semantics.specs.Run.{Control, Situation, Answered, at, step_on, step, answers, set_number, acting_set, record_bytes, record_of, answers_in, no_counts, counts_from}
use Rattle.semantics.specs.Calls as Calls
use Rattle.semantics.specs.Calls.{event_count, record_length_of, record_size, room_for_records, Program, run_from, outcome_of, report}
use Rattle.semantics.proofs.RunCounts.{record_length}
use Rattle.codec.specs.Writing.{Wrote}
use Rattle.codec.proofs.Writing.{put_front, wrote_none, put-more, wrote_as, wrote-length, wrote-front}
use Rattle.codec.proofs.Strides.{ahead-whole, ahead-next}
use Rattle.nodeset.specs.Sets.{members}
use Rattle.event.specs.Decoded.{event_of, Decodes}
use Rattle.event.specs.declared.Event.{Event}
use Rattle.records.specs.Booking.{Room}
use Rattle.records.specs.Reported.{told, ran_with}
use Rattle.execution.specs.Ready.{Fits}
use Rattle.execution.specs.Runs.{leaves, Reports, RunSoFar}
use Rattle.records.specs.declared.Counts.{Counts}
use Rattle.records.proofs.Books.{counts-none, Booked, counts-room}
use Rattle.records.proofs.Records.{room_for}
use Rattle.execution.proofs.Outcomes.{record_is}

-- ---- one more at the end
module _ {A B : Type 0} (f : A → B) where
  map_snoc : (l : List A) (x : A) → map f (l ++ (x ∷ [])) ≡ map f l ++ (f x ∷ [])
  map_snoc [] x = refl
  map_snoc (y ∷ l) x = ap (λ t. f y ∷ t) (map_snoc l x)

flat-snoc : {A : Type 0} (f : A → List ℕ) (l : List A) (x : A) → flat_map f (l ++ (x ∷ [])) ≡ flat_map f l ++ f x
unfolding flat_map
flat-snoc f [] x = append-nil (f x)
flat-snoc f (y ∷ l) x = ap (λ t. f y ++ t) (flat-snoc f l x) ∙ sym (append_assoc (f y) (flat_map f l) (f x))

-- ---- the next event
events-next : (s : List ℕ) (w n k p : ℕ) → k < n → events_in w (n - k) (drop p s) ≡ take w (drop p s) ∷ events_in w (n - (k + 1)) (drop (p + w) s)
unfolding events_in
events-next s w n k p h =
    let e : n - k ≡ suc (n - (k + 1)) = omega arith in
    ap (λ j. events_in w j (drop p s)) e ∙ ap (λ (t : List ℕ). take w (drop p s) ∷ events_in w (n - (k + 1)) t) (drop-drop w p s)

-- ---- sizes
size_fits : (ed : Edition) (p : Plant) {vs : List ℤ} {ms : List ℕ} → Fits p vs ms → record_length_of ed (length vs) (length ms) ≡ record_size ed p
unfolding record_size
size_fits ed p f = ap₂ (λ (a b : ℕ). record_length_of ed a b) f.values f.modes

one_more : (k r : ℕ) → (k + 1) * r ≡ k * r + r
one_more k r = ap (λ j. j * r) (add-one k) ∙ suc-mul k r

-- ---- answers
answers-cons : {S : Type 0} (ed : Edition) (p : Plant) (c : Control S) (st : Situation S) (e : List ℕ) (es : List (List ℕ)) {o : Answered S} → step_on ed p c st (event_in ed e) ≡ o → answers ed p c st (e ∷ es) ≡ o ∷ answers ed p c o.left es
unfolding answers step
answers-cons ed p c st e es h = ap (λ (o : Answered _). o ∷ answers ed p c o.left es) h

no-events : {S : Type 0} (ed : Edition) (p : Plant) (c : Control S) (st : Situation S) (w : ℕ) (s : List ℕ) {j : ℕ} → j ≡ 0 → answers ed p c st (events_in w j s) ≡ []
unfolding answers events_in
no-events ed p c st w s e = rw e refl

-- ---- what is reported
module _ {S : Type 0} (ed : Edition) {c : Control S} {l : List (Answered S)} {d₀ : List ℕ} {cs : Counts} {d : List ℕ} where
  reports-by : told cs ≡ counts_from (answers_in l) → Wrote d₀ 0 (flat_map (record_of ed c) l) d → Reports ed c l d₀ cs d
  unfolding ran_with report outcome_of
  reports-by e w = let f = wrote-front w in record { is = λ i. record { refusal = 0; counts = e i; records = f i } }

  counted : Reports ed c l d₀ cs d → told cs ≡ counts_from (answers_in l)
  unfolding ran_with report outcome_of
  counted r = ap (λ (x : Calls.Ran). x.counts) r.is

  wrote : Reports ed c l d₀ cs d → Wrote d₀ 0 (flat_map (record_of ed c) l) d
  unfolding ran_with report outcome_of
  wrote r = record { is = ap (λ (x : Calls.Ran). x.records) r.is ∙ sym (put_front d₀ _) }

-- ---- a run
module _ {S : Type 0} (ed : Edition) (g : Program S) (st₀ : Start) (events d₀ : List ℕ) where
  pub run-start : {cs : Counts} → told cs ≡ no_counts → Fits g.plant st₀.values st₀.modes → RunSoFar ed g st₀ events d₀ 0 0 0 (at g.control.start st₀.values st₀.modes) cs d₀
  unfolding run_from outcome_of flat_map event_count
  run-start e f = record {
    said = [];
    rest = ap (λ j. answers ed g.plant g.control (at g.control.start st₀.values st₀.modes) (events_in ed.event_bytes j events)) (sym (sub-zero (event_count ed events)));
    ahead = rw (sub-zero (event_count ed events)) (ahead-whole ed.event_bytes (length events));
    many = refl;
    few = omega arith;
    reports = reports-by ed (e ∙ counts-none) (wrote_none d₀ 0);
    size = sym (zero-mul (record_size ed g.plant));
    place = sym (zero-mul (record_size ed g.plant));
    fits = f;
  }

  module _ {k p i : ℕ} {st : Situation S} {cs : Counts} {d : List ℕ} (x : RunSoFar ed g st₀ events d₀ k p i st cs d) where
    -- the counts may each be one more
    pub run-counts : k < event_count ed events → length events < 2 ^ 64 → Room cs
    unfolding event_count
    run-counts h m = counts-room (answers_in x.said) (counted ed x.reports) (omega (arith, h, div-le_self (length events) ed.event_bytes, said-length x.said, x.many))
      where
        said-length : (l : List (Answered S)) → length (answers_in l) ≡ length l
        said-length [] = refl
        said-length (o ∷ l) = ap suc (said-length l)

    module _ (room : room_for_records ed g.plant events d₀ ≡ true) where
      -- the lent buffer keeps its length
      pub run_length : length d ≡ length d₀
      unfolding outcome_of
      run_length =
          let r = record_size ed g.plant in
          let a : k * r ≤ event_count ed events * r = mul-le-mul_right r x.few in
          wrote-length (wrote ed x.reports) (omega (arith, x.size, room_for ed g.plant events d₀ room))

      -- 22 has left room for the next record
      pub run_room : k < event_count ed events → {vs : List ℤ} {ms : List ℕ} → Fits g.plant vs ms → i + record_length_of ed (length vs) (length ms) ≤ length d
      unfolding event_count
      run_room h {vs} {ms} f =
          let r = record_size ed g.plant in
          let a : (k + 1) * r ≤ event_count ed events * r = mul-le-mul_right r (omega arith) in
          let b = one_more k r in
          let c : event_count ed events * r ≤ length d₀ = room_for ed g.plant events d₀ room in
          omega (arith, size_fits ed g.plant f, x.place, run_length)

    -- an event more: its step, its record and its count
    pub run-next : k < event_count ed events → (answer : ℕ) (place : Option S) (vs : List ℤ) (ms ws : List ℕ) {e : Event} {i' : ℕ} {cs' : Counts} {d' : List ℕ}
        → Decodes ed (take ed.event_bytes (drop p events)) e
        → step_on ed g.plant g.control st (event_of e) ≡ leaves answer place vs ms
        → acting_set g.control place ≡ set_number (members ws)
        → Fits g.plant vs ms
        → Wrote d i (record_bytes ed answer (set_number (members ws)) vs ms) d'
        → i' ≡ i + record_length_of ed (length vs) (length ms)
        → Booked cs answer cs'
        → RunSoFar ed g st₀ events d₀ (k + 1) (p + ed.event_bytes) i' (record { place = place; values = vs; modes = ms }) cs' d'
    unfolding event_count outcome_of
    run-next h answer place vs ms ws is e s f w q b =
        let o : Answered S = leaves answer place vs ms in
        let r = record_size ed g.plant in
        let one = record_length ed g.plant g.control o f.values f.modes in
        let more = flat-snoc (record_of ed g.control) x.said o in
        record {
          said = x.said ++ (o ∷ []);
          rest = x.rest ∙ ap (λ l. x.said ++ l) (answered o (ap (step_on ed g.plant g.control st) (sym is.is) ∙ e)) ∙ sym (append_assoc x.said (o ∷ []) _);
          ahead = ahead-next h x.ahead;
          many = length-append x.said (o ∷ []) ∙ ap (λ j. j + 1) x.many;
          few = omega arith;
          reports =
              reports-by ed
              (b (answers_in x.said) (counted ed x.reports) ∙ ap counts_from (sym (map_snoc (λ (o : Answered S). o.answer) x.said o)))
              (wrote_as (sym more) (put-more (wrote ed x.reports) (wrote_as (record_is ed g.control o ws s) w) (omega arith) (x.place ∙ sym x.size ∙ sym (zero-add _))));
          size = ap length more ∙ length-append (flat_map (record_of ed g.control) x.said) (record_of ed g.control o) ∙ ap₂ (λ (a b : ℕ). a + b) x.size one ∙ sym (one_more k r);
          place = q ∙ ap₂ (λ (a b : ℕ). a + b) x.place (size_fits ed g.plant f) ∙ sym (one_more k r);
          fits = f;
        }
      where
        answered : (o : Answered S) → step_on ed g.plant g.control st (event_in ed (take ed.event_bytes (drop p events))) ≡ o →
            answers ed g.plant g.control st (events_in ed.event_bytes (event_count ed events - k) (drop p events)) ≡
            o ∷ answers ed g.plant g.control o.left (events_in ed.event_bytes (event_count ed events - (k + 1)) (drop (p + ed.event_bytes) events))
        answered o e = ap (answers ed g.plant g.control st) (events-next events ed.event_bytes (event_count ed events) k p h) ∙ answers-cons ed g.plant g.control st (take ed.event_bytes (drop p events)) _ e

    -- what the call reports once all events are answered
    pub run_end : k ≡ event_count ed events → Reports ed g.control (run_from ed g st₀ events) d₀ cs d
    unfolding event_count
    run_end e =
        let z : event_count ed events - k ≡ 0 = omega arith in
        let all : x.said ≡ run_from ed g st₀ events = sym (x.rest ∙ ap (λ l. x.said ++ l) (no-events ed g.plant g.control st ed.event_bytes (drop p events) z) ∙ append-nil x.said) in
        record { is = x.reports.is ∙ ap (λ l. report d₀ (accepted (outcome_of ed g.control l))) all }
