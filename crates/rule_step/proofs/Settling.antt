-- One event of a run by the rules, part by part.
use mathlib.Core.Path.{◌≡◌, refl, sym, ap, ◌∙◌, subst}
use mathlib.Core.Bool.{Bool}
use mathlib.Core.List.{List, []}
use mathlib.Core.Option.{Option, none, some}
use Prim.Native.Nat.{ℕ}
use native.Mathlib.Omega.{arith}
use lib.IntN.{ℤ}
use Rattle.semantics.specs.Editions.{Edition}
use Rattle.semantics.specs.Plant.{among}
use Rattle.semantics.specs.Run.{arrive}
use Rattle.semantics.proofs.Facts.{mem-among}
use Rattle.semantics.proofs.Verdicts.{judged-possible}
use Rattle.schedules.specs.Residuals.{Residual}
use Rattle.schedules.specs.Files.{Schedule, rule_control}
use Rattle.schedules.specs.Calls.{program_of}
use Rattle.schedules.proofs.ActingDetermines.{NonEmpty, non_empty, some-acts}
use Rattle.nodeset.specs.Sets.{members, Words}
use Rattle.nodeset.specs.declared.NodeSet.{NodeSet}
use Rattle.nodeset.proofs.Members.{among-set}
use Rattle.moves.specs.MoveContracts.{Charted, Advanced}
use Rattle.moves.specs.declared.Moves.{Moves}
use Rattle.moves.specs.declared.How.{How}
use Rattle.moves.specs.declared.How.TheVariants.{To, Finished, Halted}
use Rattle.moves.proofs.Callers.{standing, led_on, led-to-finish, led-to-halt}
use Rattle.program.specs.Lent.{Lent}
use Rattle.schedule_read.specs.Lent.{ScheduleLent}
use Rattle.event.specs.Decoded.{event_of}
use Rattle.event.specs.declared.Event.{Event}
use Rattle.effects.specs.PaperNumbers.{Verdict}
use Rattle.execution.specs.Ready.{Fits, Ready, Judges}
use Rattle.execution.specs.Ready as Judged
use Rattle.execution.specs.Runs.{at_place, at_end, Arrives, Steps}
use Rattle.execution.proofs.Outcomes.{heard-move}
use Rattle.execution.proofs.Stepping.{not-over, settled-over, fits-left}
use Rattle.rule_step.specs.Situations.{StandsFor, Here, Movable, Settled, Promised}

-- ---- where a run stands
pub stands_at : (s : Schedule) {m : Moves} {ws : List ℕ} {r : Residual} → Here m s.root ws r → StandsFor s ws (some r)
unfolding rule_control
stands_at s h = at_place h.of h.stands h.words

pub acts-here : (s : Schedule) {m : Moves} {ws : List ℕ} {r : Residual} → Here m s.root ws r → members ws ≡ (rule_control s).acting r
unfolding rule_control
acts-here s h = h.stands

pub answered : (ed : Edition) (s : Schedule) {a b : ℕ} {ws : List ℕ} {o : Option Residual} {vs vs' : List ℤ} {ms ms' : List ℕ} {e : Event} → a ≡ b → Steps ed (program_of s) (StandsFor s ws) o vs ms e b vs' ms' → Steps ed (program_of s) (StandsFor s ws) o vs ms e a vs' ms'
answered ed s q k = rw q k

-- ---- a move
module _ {m : Moves} {ws : List ℕ} {n : ℕ} {b : Bool} {how : How} {ws' : List ℕ} (d : Advanced m ws n b how ws') (w : Words ws') (s : Schedule) (r : Residual) (h : Here m s.root ws r) where
  pub moved_on : how ≡ To → Arrives (StandsFor s ws') ((rule_control s).next r n b) 200
  unfolding arrive rule_control
  moved_on q =
      let l = led_on d h.charted h.of h.stands q in
      record { place = some l.residual; is = λ s vs ms. ap (λ x. arrive s x vs ms) l.leads; stands = at_place l.of l.acts w }

  pub moved-to-end : how ≡ Finished → Arrives (StandsFor s ws') ((rule_control s).next r n b) 201
  unfolding arrive rule_control
  moved-to-end q = let l = led-to-finish d h.charted h.of h.stands q in record { place = none; is = λ s vs ms. ap (λ x. arrive s x vs ms) l.0; stands = at_end l.1 w }

  pub moved-to-halt : how ≡ Halted → Arrives (StandsFor s ws') ((rule_control s).next r n b) 202
  unfolding arrive rule_control
  moved-to-halt q = let l = led-to-halt d h.charted h.of h.stands q in record { place = none; is = λ s vs ms. ap (λ x. arrive s x vs ms) l.0; stands = at_end l.1 w }

-- ---- an event
-- the run is over just where no node acts: in every residual some node does
none_over : (s : Schedule) {ws : List ℕ} {o : Option Residual} → StandsFor s ws o → members ws ≡ [] → o ≡ none
unfolding rule_control
none_over s (at_place {x = x} h e w) f = absurd (no (some-acts h) (sym e ∙ f))
  where
    no : {l : List ℕ} → NonEmpty l → l ≡ [] → ⊥
    no non_empty q = let z : ◌≡◌ {A = ℕ} 0 1 = cc in omega arith
none_over s (at_end e w) f = refl

some-going : (s : Schedule) {ws : List ℕ} {o : Option Residual} → StandsFor s ws o → (members ws ≡ [] → ⊥) → o ≡ none → ⊥
some-going s (at_place h e w) f q = let z : ◌≡◌ {A = ℕ} 0 1 = cc in omega arith
some-going s (at_end e w) f q = f e

module _ {m : Moves} {ws : List ℕ} where
  here-at : (s : Schedule) {o : Option Residual} → Charted m s.root → StandsFor s ws o → (members ws ≡ [] → ⊥) → (r : Residual) × ((o ≡ some r) × Here m s.root ws r)
  unfolding rule_control
  here-at s i g f = let q = not-over g (some-going s g f) in (q.place, (q.is, record { charted = i; of = q.here; stands = q.acts; words = q.words }))

module _ (ed : Edition) {l : Lent} {m : Moves} {ws : List ℕ} {vs : List ℤ} {ms : List ℕ} where
  -- what judging asks
  ready : (s : Schedule) {r : Residual} → ScheduleLent ed s l → Here m s.root ws r → Fits s.plant vs ms → Ready ed s.plant (rule_control s).action l ws vs ms
  unfolding rule_control
  ready s {r} d h f = record {
    plant = d.plant;
    words = h.words;
    nodes = λ n m. d.nodes r h.of n (ap (among n) (sym h.stands) ∙ among-set h.words n ∙ m);
    fits = f;
  }

  pub judging : Promised ed l m ws vs ms → (members ws ≡ [] → ⊥) → Judged.Promised ed l ws vs ms
  judging p f = record { plant = p.schedule.plant; action = (rule_control p.schedule).action; ready = ready p.schedule p.lent (here-at p.schedule p.charted p.stands f).1.1 p.fits }

  -- the whole event
  module _ (s : Schedule) (o : Option Residual) (d : ScheduleLent ed s l) (i : Charted m s.root) (g : StandsFor s ws o) (f : Fits s.plant vs ms) (e : Event) where
    pub step-over : members ws ≡ [] → Steps ed (program_of s) (StandsFor s ws) o vs ms e 23 vs ms × Fits s.plant vs ms
    step-over h = let q = none_over s g h in (settled-over ed (program_of s) vs ms e q (subst (StandsFor s ws) q g), f)

    pub step-at : {v : Verdict} {vs' : List ℤ} {ms' : List ℕ} {a : ℕ} {ws' : List ℕ} → (members ws ≡ [] → ⊥) → Judges ed l ws e vs ms v vs' ms' → Settled ed m v ws a ws' → Steps ed (program_of s) (StandsFor s ws') o vs ms e a vs' ms' × Fits s.plant vs' ms'
    step-at {v} {vs'} {ms'} {a} {ws'} h k m =
        let q = here-at s i g h in
        let r = ready s d q.1.1 f in
        let left = k s.plant (rule_control s).action r in (
          subst (λ (o : Option Residual). Steps ed (program_of s) (StandsFor s ws') o vs ms e a vs' ms') (sym q.1.0) (m s q.0 q.1.1 vs ms e vs' ms' left),
          fits-left ed s.plant (rule_control s).action l ws vs ms r (event_of e) left,
        )

-- a node that moves acts
pub movable : (ed : Edition) {l : Lent} {m : Moves} (a : NodeSet) {vs : List ℤ} {ms : List ℕ} (e : Event) {v : Verdict} {vs' : List ℤ} {ms' : List ℕ} → Promised ed l m a.words vs ms → (members a.words ≡ [] → ⊥) → Judges ed l a.words e vs ms v vs' ms' → Movable m a v
movable ed a {vs} {ms} e {v} {vs'} {ms'} p f k =
    let h = (here-at p.schedule p.charted p.stands f).1.1 in
    let left = k _ _ (judging ed p f).ready in
    record {
      standing = λ n b i.
          let q = judged-possible ed _ _ _ _ _ (event_of e) _ n b (heard-move _ vs ms vs' ms' left i) refl in
          standing {s = a} p.charted h.of h.stands (sym (among-set a.fit n) ∙ mem-among n (members a.words) q.0);
    }
