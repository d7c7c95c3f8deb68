-- One event of a run of a table, part by part.
use mathlib.Core.Path.{◌≡◌, refl, sym, ap, ◌∙◌, subst}
use mathlib.Core.Bool.{Bool}
use mathlib.Core.List.{List}
use mathlib.Core.Option.{Option, none, some}
use Prim.Native.Nat.{ℕ, ◌<◌}
use native.Mathlib.Omega.{arith}
use borrow.Author.Tests.{eq-eqb, ne_eqb}
use lib.IntN.{ℤ}
use lib.ListN.{length, get_or}
use Rattle.std.specs.Prelude.{Some, None, Result, Ok, Err}
use Rattle.std.specs.Prelude as code
use Rattle.semantics.specs.Editions.{Edition}
use Rattle.semantics.specs.Plant.{among}
use Rattle.semantics.specs.Run.{Next, to, finished, halted, arrive}
use Rattle.semantics.specs.TableFile.{FINISHED, HALTED, NONE}
use Rattle.semantics.specs.Tables.{Table, action_or_stop, going_to, entry_target, next_of_entry, entries_at, table_control}
use Rattle.semantics.specs.TableRuns.{Coded, coded_location, coded_finished, coded_halted}
use Rattle.semantics.specs.Calls.{program_of_table}
use Rattle.semantics.proofs.Facts.{mem-among}
use Rattle.semantics.proofs.Verdicts.{judged-possible}
use Rattle.paper.specs.Answers.{turned_number, answer_number}
use Rattle.paper.specs.declared.answers.TurnedAway.{TurnedAway}
use Rattle.paper.specs.declared.answers.Answer.{Answer}
use Rattle.nodeset.specs.Sets.{members, empty_set}
use Rattle.nodeset.proofs.Members.{among-set}
use Rattle.program.specs.Lent.{Lent}
use Rattle.table_read.specs.Lent.{TableLent}
use Rattle.event.specs.Decoded.{event_of}
use Rattle.event.specs.declared.Event.{Event}
use Rattle.effects.specs.PaperNumbers.{Verdict, Away, Above, Below, Stay, Move}
use Rattle.effects.specs.Told.{untaken, told}
use Rattle.effects.specs.declared.Untaken.{Untaken}
use Rattle.effects.specs.declared.Untaken.TheVariants as Code
use Rattle.effects.specs.declared.Mover.{Mover}
use Rattle.execution.specs.Ready.{Fits, Ready, Judges}
use Rattle.execution.specs.Ready as Judged
use Rattle.execution.specs.Runs.{at_place, at_end, Shows, Arrives, Steps}
use Rattle.execution.proofs.Outcomes.{heard-move}
use Rattle.execution.proofs.Stepping.{stands_over, settled-over, fits-left}
use Rattle.table_step.specs.Entries.{Located, Gathered, Found}
use Rattle.table_step.specs.Situations.{place_of, StandsFor, Here, Startable, Movable, Moving, Settled, Promised}
use Rattle.table_step.specs.declared.steps.Standing.{Standing}
use Rattle.table_step.proofs.EntryTurns.{listed_here, located_here, acting-action, acting-leads}

-- ---- where a run stands
pub stands-end : (t : Table) {at : Standing} → at.place ≡ None → at.acting.words ≡ empty_set → StandsFor t at none
stands-end t p e = record { place = p; shows = stands_over e }

pub stands-here : (ed : Edition) {t : Table} {l : Lent} {x : ℕ} {at : Standing} → Here ed t l x at.acting.words → at.place ≡ Some x → StandsFor t at (some x)
unfolding table_control
stands-here ed {at = at} h e = record { place = e; shows = at_place h.below h.stands at.acting.fit }

-- ---- what a result tells, by its parts
module _ {r : Result (code.Option Mover) Untaken} where
  untaken_is : {w : Untaken} (v : Untaken) → r ≡ Err w → w ≡ v → told r ≡ untaken v
  untaken_is v e i = ap told (e ∙ ap (λ w. Err w) i)

  pub told-away : {w : Untaken} {why : TurnedAway} → r ≡ Err w → w ≡ Code.Away why → told r ≡ Away (turned_number why)
  told-away {why = why} e i = untaken_is (Code.Away why) e i

  pub told-above : {w : Untaken} → r ≡ Err w → w ≡ Code.Above → told r ≡ Above
  told-above e i = untaken_is Code.Above e i

  pub told-below : {w : Untaken} → r ≡ Err w → w ≡ Code.Below → told r ≡ Below
  told-below e i = untaken_is Code.Below e i

  pub told-stay : {o : code.Option Mover} → r ≡ Ok o → o ≡ None → told r ≡ Stay
  told-stay e i = ap told (e ∙ ap (λ o. Ok o) i)

  pub told-move : {o : code.Option Mover} {m : Mover} → r ≡ Ok o → o ≡ Some m → told r ≡ Move m.node m.outcome
  told-move e i = ap told (e ∙ ap (λ o. Ok o) i)

-- ---- where a move leads
going-finished : (y : ℕ) → y ≡ FINISHED → going_to y ≡ finished
unfolding going_to
going-finished y e = rw (eq-eqb y FINISHED e) refl

going-halted : (y : ℕ) → y ≡ HALTED → going_to y ≡ halted
unfolding going_to FINISHED HALTED
going-halted y e = rw e refl

going_on : (y n : ℕ) → y < n → n < 65533 → going_to y ≡ to y
unfolding going_to FINISHED HALTED NONE
going_on y n h k = rw (ne_eqb y 65534 (λ e. omega arith), ne_eqb y 65533 (λ e. omega arith), ne_eqb y 65535 (λ e. omega arith)) refl

-- what was gathered at the place that the index has
pub gathered-at : (ed : Edition) {s ws : List ℕ} {p q : ℕ} → p ≡ q → Gathered ed s p ws → Gathered ed s q ws
gathered-at ed {s} {ws} e g = subst (λ p. Gathered ed s p ws) e g

-- ---- the start
module _ (ed : Edition) {l : Lent} where
  pub row_first : Startable ed l → 0 < 1024
  row_first k = omega arith

  pub located-first : {p : ℕ} → p ≡ get_or l.locations 0 0 → Startable ed l → Located ed l.bytes p
  located-first e k = rw e (located_here ed k.lent k.lent.some_location)

  pub stands-first : (t : Table) → TableLent ed t l → {at : Standing} → at.place ≡ Some 0 → {p : ℕ} → p ≡ get_or l.locations 0 0 → Gathered ed l.bytes p at.acting.words →
      StandsFor t at (some (table_control t).start)
  unfolding table_control
  stands-first t d {at} e i g =
      let h = gathered-at ed i g in
      stands-here ed (record { lent = d; below = d.some_location; stands = h.are (entries_at t 0) (listed_here ed d d.some_location) }) e

-- ---- the places of a move
module _ (ed : Edition) {l : Lent} {x : ℕ} {v : Verdict} where
  -- the place of location x
  pub row_here : Moving ed l x v → x < 1024
  row_here m = (m.movable.lent.locations.at x m.movable.below).row

  pub located-at : {p : ℕ} → p ≡ get_or l.locations x 0 → Moving ed l x v → Located ed l.bytes p
  located-at e m = rw e (located_here ed m.movable.lent m.movable.below)

-- what was found at the place that the index has
pub found_at : (ed : Edition) {s : List ℕ} {p q n : ℕ} {b : Bool} {y : ℕ} → p ≡ q → Found ed s p n b y → Found ed s q n b y
found_at ed {s} {n = n} {b} {y} e f = subst (λ p. Found ed s p n b y) e f

-- ---- a move to y
module _ (ed : Edition) {l : Lent} {x n : ℕ} {b : Bool} {y : ℕ} (f : Found ed l.bytes (get_or l.locations x 0) n b y) where
  module _ (t : Table) (m : Movable ed t l x (Move n b)) where
    target_is : y ≡ entry_target (entries_at t x) n b
    target_is = f.is (entries_at t x) (listed_here ed m.lent m.below)

    next-goes : (table_control t).next x n b ≡ going_to y
    unfolding table_control next_of_entry
    next-goes = ap going_to (sym target_is)

    goes_on : (y ≡ 65534 → ⊥) → (y ≡ 65533 → ⊥) → y < length t.locations
    goes_on d h = go target_is (m.leads n b refl).1
      where
        go : {z : Next ℕ} {k : ℕ} → y ≡ k → Coded (length t.locations) z k → y < length t.locations
        go e (coded_location i) = omega (arith, e)
        go e coded_finished = absurd (d e)
        go e coded_halted = absurd (h e)

    module _ {at : Standing} where
      pub moved-to-end : y ≡ 65534 → at.place ≡ None → at.acting.words ≡ empty_set → Arrives (StandsFor t at) ((table_control t).next x n b) 201
      unfolding arrive FINISHED
      moved-to-end e p i = record { place = none; is = λ s vs ms. ap (λ z. arrive s z vs ms) (next-goes ∙ going-finished y e); stands = stands-end t p i }

      pub moved-to-halt : y ≡ 65533 → at.place ≡ None → at.acting.words ≡ empty_set → Arrives (StandsFor t at) ((table_control t).next x n b) 202
      unfolding arrive HALTED
      moved-to-halt e p i = record { place = none; is = λ s vs ms. ap (λ z. arrive s z vs ms) (next-goes ∙ going-halted y e); stands = stands-end t p i }

      pub moved_on : (y ≡ 65534 → ⊥) → (y ≡ 65533 → ⊥) → at.place ≡ Some y → Gathered ed l.bytes (get_or l.locations y 0) at.acting.words → Arrives (StandsFor t at) ((table_control t).next x n b) 200
      unfolding arrive
      moved_on d h p g =
          let i = goes_on d h in
          let few = m.lent.locations.few in
          record {
            place = some y;
            is = λ s vs ms. ap (λ z. arrive s z vs ms) (next-goes ∙ going_on y (length t.locations) i (omega arith));
            stands = stands-here ed (record { lent = m.lent; below = i; stands = g.are (entries_at t y) (listed_here ed m.lent i) }) p;
          }

  pub row_next : Moving ed l x (Move n b) → (y ≡ 65534 → ⊥) → (y ≡ 65533 → ⊥) → y < 1024
  row_next m d h = (m.movable.lent.locations.at y (goes_on m.table m.movable d h)).row

  pub located-next : {p : ℕ} → p ≡ get_or l.locations y 0 → Moving ed l x (Move n b) → (y ≡ 65534 → ⊥) → (y ≡ 65533 → ⊥) → Located ed l.bytes p
  located-next e m d h = rw e (located_here ed m.movable.lent (goes_on m.table m.movable d h))

-- the acting nodes are those of the control
pub acts-here : (ed : Edition) {t : Table} {l : Lent} {x : ℕ} {ws : List ℕ} → Here ed t l x ws → members ws ≡ (table_control t).acting x
unfolding table_control
acts-here ed h = h.stands

pub moving-as : (ed : Edition) {l : Lent} {x : ℕ} {v w : Verdict} → v ≡ w → Moving ed l x v → Moving ed l x w
moving-as ed {l} {x} e m = subst (Moving ed l x) e m

pub movable-as : (ed : Edition) {t : Table} {l : Lent} {x : ℕ} {v w : Verdict} → v ≡ w → Movable ed t l x v → Movable ed t l x w
movable-as ed {t} {l} {x} e m = subst (Movable ed t l x) e m

-- ---- an event
over-here : (t : Table) {at : Standing} {o : Option ℕ} → StandsFor t at o → at.place ≡ None → o ≡ none
over-here t {at} {o} g e = go o g.place
  where
    go : (o : Option ℕ) → at.place ≡ place_of o → o ≡ none
    go none p = refl
    go (some y) p = cc

module _ (ed : Edition) {l : Lent} (at : Standing) where
  here-at : (t : Table) {o : Option ℕ} {x : ℕ} → TableLent ed t l → StandsFor t at o → at.place ≡ Some x → (o ≡ some x) × Here ed t l x at.acting.words
  unfolding table_control
  here-at t {o} {x} d g e = go g.place g.shows
    where
      go : {o : Option ℕ} → at.place ≡ place_of o → Shows (table_control t) (λ y. y < length t.locations) at.acting.words o → (o ≡ some x) × Here ed t l x at.acting.words
      go p (at_place {x = y} h a w) = let i : x ≡ y = cc in (ap some (sym i), rw i (record { lent = d; below = h; stands = a }))
      go p (at_end a w) = cc

module _ (ed : Edition) {l : Lent} (at : Standing) {x : ℕ} {vs : List ℤ} {ms : List ℕ} where
  -- what judging asks
  ready : (t : Table) → TableLent ed t l → Here ed t l x at.acting.words → Fits t.plant vs ms → Ready ed t.plant (table_control t).action l at.acting.words vs ms
  unfolding table_control
  ready t d h f = record {
    plant = d.plant;
    words = at.acting.fit;
    nodes = λ n m. d.nodes n (action_or_stop t.actions n) (acting-action ed (h.lent.locations.at x h.below).promised n (ap (among n) (sym h.stands) ∙ among-set at.acting.fit n ∙ m));
    fits = f;
  }

  pub judging : Promised ed l at vs ms → at.place ≡ Some x → Judged.Promised ed l at.acting.words vs ms
  judging p e = record { plant = p.table.plant; action = (table_control p.table).action; ready = ready p.table p.lent (here-at ed at p.table p.lent p.stands e).1 p.fits }

  -- a node that moves acts, and does what it can
  movable-here : (t : Table) (e : Event) {v : Verdict} {vs' : List ℤ} {ms' : List ℕ} → TableLent ed t l → Here ed t l x at.acting.words → Fits t.plant vs ms → Judges ed l at.acting.words e vs ms v vs' ms' → Movable ed t l x v
  unfolding table_control
  movable-here t e {v} {vs'} {ms'} d h f k = record {
    lent = d;
    below = h.below;
    leads = λ n b i.
        let m = judged-possible ed _ _ _ _ _ (event_of e) _ n b (heard-move _ vs ms vs' ms' (k _ _ (ready t d h f)) i) refl in
        acting-leads ed (h.lent.locations.at x h.below).promised n b (ap (among n) (sym h.stands) ∙ mem-among n (members at.acting.words) m.0) m.1;
  }

  pub moving : (e : Event) {v : Verdict} {vs' : List ℤ} {ms' : List ℕ} → Promised ed l at vs ms → at.place ≡ Some x → Judges ed l at.acting.words e vs ms v vs' ms' → Moving ed l x v
  moving e p i k = let h = (here-at ed at p.table p.lent p.stands i).1 in record { table = p.table; movable = movable-here p.table e p.lent h p.fits k }

  -- the whole event
  module _ (t : Table) (o : Option ℕ) (d : TableLent ed t l) (g : StandsFor t at o) (f : Fits t.plant vs ms) (e : Event) where
    pub step-at : {v : Verdict} {vs' : List ℤ} {ms' : List ℕ} (a : Answer) (at' : Standing) → at.place ≡ Some x → Judges ed l at.acting.words e vs ms v vs' ms' → Settled ed l x at v a at'
        → Steps ed (program_of_table t) (StandsFor t at') o vs ms e (answer_number a) vs' ms' × Fits t.plant vs' ms'
    step-at {v} {vs'} {ms'} a at' i k m =
        let q = here-at ed at t d g i in
        let y = ready t d q.1 f in
        let left = k t.plant (table_control t).action y in (
          subst (λ (o : Option ℕ). Steps ed (program_of_table t) (StandsFor t at') o vs ms e (answer_number a) vs' ms') (sym q.0) (m t (movable-here t e d q.1 f k) q.1 i vs ms e vs' ms' left),
          fits-left ed t.plant (table_control t).action l at.acting.words vs ms y (event_of e) left,
        )

pub step-over : (ed : Edition) {at : Standing} {vs : List ℤ} {ms : List ℕ} (t : Table) (o : Option ℕ) → StandsFor t at o → Fits t.plant vs ms → (e : Event) → at.place ≡ None →
    Steps ed (program_of_table t) (StandsFor t at) o vs ms e 23 vs ms × Fits t.plant vs ms
step-over ed {at = at} {vs} {ms} t o g f e h = let q = over-here t g h in (settled-over ed (program_of_table t) vs ms e q (subst (StandsFor t at) q g), f)
