-- What a judged event makes of the run: its answer, and what it leaves.
use mathlib.Core.Path.{◌≡◌, refl, sym, ap, ◌∙◌}
use mathlib.Core.Bool.{Bool, true}
use mathlib.Core.List.{List, []}
use mathlib.Core.Option.{Option, none, some}
use Prim.Native.Nat.{ℕ}
use lib.IntN.{ℤ}
use Rattle.semantics.specs.Editions.{Edition}
use Rattle.semantics.specs.Plant.{Plant, among}
use Rattle.semantics.specs.Events.{Event}
use Rattle.semantics.specs.Run as Run
use Rattle.semantics.specs.Run.{Done, Control, judge, at, over, fault_answer, turned_away_by, arrive, follow, settle, step_on, set_number, acting_set}
use Rattle.semantics.specs.Calls.{Program}
use Rattle.semantics.proofs.Facts.{true-not-false}
use Rattle.nodeset.specs.Sets.{mem, members, empty_set, Words}
use Rattle.nodeset.proofs.Members.{among-set, members-empty}
use Rattle.nodeset.proofs.Membership.{words-empty}
use Rattle.event.specs.Decoded.{event_of}
use Rattle.event.specs.declared.Event as Decoded
use Rattle.effects.specs.Verdicts.{Left}
use Rattle.program.specs.Lent.{Lent}
use Rattle.execution.specs.Ready.{Ready, Fits}
use Rattle.execution.specs.Runs.{Shows, at_place, at_end, Arrives, Steps}
use Rattle.effects.specs.PaperNumbers.{Verdict, Away, Above, Below, Stay, Move}
use Rattle.execution.proofs.Keeping.{fits_kept}
use Rattle.execution.proofs.Outcomes.{Untaken, heard-away, heard-above, heard-below, heard-stay, heard-move}

-- ---- the set that a record shows
module _ {S : Type 0} (c : Control S) (ws : List ℕ) where
  pub set_at : (x : S) → members ws ≡ c.acting x → acting_set c (some x) ≡ set_number (members ws)
  unfolding acting_set
  set_at x e = ap set_number (sym e)

  pub set-over : members ws ≡ [] → acting_set c none ≡ set_number (members ws)
  unfolding acting_set set_number
  set-over e = sym (ap set_number e)

-- ---- 23
pub stepped-over : {S : Type 0} (ed : Edition) (p : Plant) (c : Control S) (vs : List ℤ) (ms : List ℕ) (e : Event) → step_on ed p c (over vs ms) e ≡ record { answer = 23; left = over vs ms }
unfolding turned_away_by
stepped-over ed p c vs ms e = refl

-- ---- an event of a run that stands at x, by the answer of `judge`
module _ {S : Type 0} (ed : Edition) (p : Plant) (c : Control S) (x : S) (ws : List ℕ) (acts : members ws ≡ c.acting x) (vs : List ℤ) (ms : List ℕ) (e : Event) (vs' : List ℤ) (ms' : List ℕ) {r : Verdict} (l : Left (judge ed p c.action (members ws) vs ms e) vs ms r vs' ms') where
  settled : {v : Run.Verdict Done} → judge ed p c.action (members ws) vs ms e ≡ v → step_on ed p c (at x vs ms) e ≡ settle c x (at x vs ms) v
  settled h = ap (λ a. settle c x (at x vs ms) (judge ed p c.action a vs ms e)) (sym acts) ∙ ap (settle c x (at x vs ms)) h

  pub stepped-away : {n : ℕ} → r ≡ Away n → step_on ed p c (at x vs ms) e ≡ record { answer = n; left = at x vs' ms' }
  unfolding settle turned_away_by
  stepped-away h = let u = heard-away _ vs ms vs' ms' l h in settled u.judged ∙ rw (u.values, u.modes) refl

  pub stepped-above : r ≡ Above → step_on ed p c (at x vs ms) e ≡ record { answer = 203; left = over vs' ms' }
  unfolding settle fault_answer
  stepped-above h = let u = heard-above _ vs ms vs' ms' l h in settled u.judged ∙ rw (u.values, u.modes) refl

  pub stepped-below : r ≡ Below → step_on ed p c (at x vs ms) e ≡ record { answer = 204; left = over vs' ms' }
  unfolding settle fault_answer
  stepped-below h = let u = heard-below _ vs ms vs' ms' l h in settled u.judged ∙ rw (u.values, u.modes) refl

  pub stepped-stay : r ≡ Stay → step_on ed p c (at x vs ms) e ≡ record { answer = 200; left = at x vs' ms' }
  unfolding settle follow arrive
  stepped-stay h = settled (heard-stay _ vs ms vs' ms' l h)

  module _ {n : ℕ} {b : Bool} (h : r ≡ Move n b) where
    pub stepped-move : step_on ed p c (at x vs ms) e ≡ arrive (at x vs ms) (c.next x n b) vs' ms'
    unfolding settle follow
    stepped-move = settled (heard-move _ vs ms vs' ms' l h)

-- ---- the step of an event, by the answer of `judge`
module _ {S : Type 0} (ed : Edition) (g : Program S) (stands : Option S → Type 0) (x : S) (ws : List ℕ) (acts : members ws ≡ g.control.acting x) (vs : List ℤ) (ms : List ℕ) (e : Decoded.Event) (vs' : List ℤ) (ms' : List ℕ) {r : Verdict}
    (l : Left (judge ed g.plant g.control.action (members ws) vs ms (event_of e)) vs ms r vs' ms') where
  pub settled-away : {n : ℕ} → r ≡ Away n → stands (some x) → Steps ed g stands (some x) vs ms e n vs' ms'
  settled-away h s = record { place = some x; is = stepped-away ed g.plant g.control x ws acts vs ms (event_of e) vs' ms' l h; stands = s }

  pub settled-above : r ≡ Above → stands none → Steps ed g stands (some x) vs ms e 203 vs' ms'
  settled-above h s = record { place = none; is = stepped-above ed g.plant g.control x ws acts vs ms (event_of e) vs' ms' l h; stands = s }

  pub settled-below : r ≡ Below → stands none → Steps ed g stands (some x) vs ms e 204 vs' ms'
  settled-below h s = record { place = none; is = stepped-below ed g.plant g.control x ws acts vs ms (event_of e) vs' ms' l h; stands = s }

  pub settled-stay : r ≡ Stay → stands (some x) → Steps ed g stands (some x) vs ms e 200 vs' ms'
  settled-stay h s = record { place = some x; is = stepped-stay ed g.plant g.control x ws acts vs ms (event_of e) vs' ms' l h; stands = s }

  pub settled-move : {a n : ℕ} {b : Bool} → r ≡ Move n b → Arrives stands (g.control.next x n b) a → Steps ed g stands (some x) vs ms e a vs' ms'
  settled-move h k = record { place = k.place; is = stepped-move ed g.plant g.control x ws acts vs ms (event_of e) vs' ms' l h ∙ k.is (at x vs ms) vs' ms'; stands = k.stands }

-- 23
pub settled-over : {S : Type 0} (ed : Edition) (g : Program S) {stands : Option S → Type 0} {o : Option S} (vs : List ℤ) (ms : List ℕ) (e : Decoded.Event) → o ≡ none → stands none → Steps ed g stands o vs ms e 23 vs ms
settled-over ed g vs ms e q s = rw q (record { place = none; is = stepped-over ed g.plant g.control vs ms (event_of e); stands = s })

-- ---- where a run stands
module _ {S : Type 0} {c : Control S} {Place : S → Type 0} {ws : List ℕ} where
  -- the set that a record shows
  pub shown : {o : Option S} → Shows c Place ws o → acting_set c o ≡ set_number (members ws)
  shown (at_place {x = x} h e w) = set_at c ws x e
  shown (at_end e w) = set-over c ws e

  pub shown-words : {o : Option S} → Shows c Place ws o → Words ws
  shown-words (at_place h e w) = w
  shown-words (at_end e w) = w

  -- every member acts at a place
  pub shown-member : {o : Option S} → Shows c Place ws o → (n : ℕ) → mem ws n ≡ true → (x : S) × ((o ≡ some x) × Place x × (among n (c.acting x) ≡ true))
  unfolding among
  shown-member (at_place {x = x} h e w) n m = (x, (refl, h, ap (among n) (sym e) ∙ among-set w n ∙ m))
  shown-member (at_end e w) n m = true-not-false (sym m ∙ sym (among-set w n) ∙ ap (among n) e)

-- the place, where the run is not over
pub record AtPlace {S : Type 0} (c : Control S) (Place : S → Type 0) (ws : List ℕ) (o : Option S) : Type 0 where
  pub place : S
  pub is : o ≡ some place
  pub here : Place place
  pub acts : members ws ≡ c.acting place
  pub words : Words ws

pub not-over : {S : Type 0} {c : Control S} {Place : S → Type 0} {ws : List ℕ} {o : Option S} → Shows c Place ws o → (o ≡ none → ⊥) → AtPlace c Place ws o
not-over (at_place {x = x} h e w) f = record { place = x; is = refl; here = h; acts = e; words = w }
not-over (at_end e w) f = absurd (f refl)

pub stands_over : {S : Type 0} {c : Control S} {Place : S → Type 0} {ws : List ℕ} → ws ≡ empty_set → Shows c Place ws none
stands_over e = at_end (ap members e ∙ members-empty) (rw e words-empty)

-- ---- what is left fits again
pub fits-left : (ed : Edition) (p : Plant) (action : ℕ → Run.Action) (l : Lent) (ws : List ℕ) (vs : List ℤ) (ms : List ℕ) → Ready ed p action l ws vs ms → (e : Event) {vs' : List ℤ} {ms' : List ℕ} {r : Verdict} → Left (judge ed p action (members ws) vs ms e) vs ms r vs' ms' → Fits p vs' ms'
fits-left ed p action l ws vs ms q e {vs'} {ms'} {r} g = go r refl
  where
    kept : {v : Run.Verdict Done} → Untaken (judge ed p action (members ws) vs ms e) v vs ms vs' ms' → Fits p vs' ms'
    kept u = rw (u.values, u.modes) q.fits

    go : (v : Verdict) → r ≡ v → Fits p vs' ms'
    go (Away n) h = kept (heard-away _ vs ms vs' ms' g h)
    go Above h = kept (heard-above _ vs ms vs' ms' g h)
    go Below h = kept (heard-below _ vs ms vs' ms' g h)
    go Stay h = fits_kept ed p action l ws vs ms q e _ (heard-stay _ vs ms vs' ms' g h)
    go (Move n b) h = fits_kept ed p action l ws vs ms q e _ (heard-move _ vs ms vs' ms' g h)
