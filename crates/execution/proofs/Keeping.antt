-- A taken event leaves values and modes that fit the plant again.
use mathlib.Core.Path.{◌≡◌, refl, sym, ap, ◌∙◌, subst}
use mathlib.Core.Bool.{Bool, true, false}
use mathlib.Core.List.{List, [], ◌∷◌}
use mathlib.Core.Option.{Option, none, some}
use Prim.Native.Nat.{ℕ, zero, suc, ◌<◌}
use native.Mathlib.Omega.{arith}
use borrow.Author.Tests.{ltb-true, lt-ltb}
use lib.Dec.{ltb}
use lib.IntN.{ℤ}
use lib.ListN.{length, get_elem?, set, length-set}
use Rattle.semantics.specs.Editions.{Edition}
use Rattle.semantics.specs.Expressions.{Value, ok, fault, value_of_truth}
use Rattle.semantics.specs.Sections.{Switch, Mode, Selector}
use Rattle.semantics.specs.Plant.{Plant, among, switch_named, selectors, mode_exists_in, current_modes, rate_of, advance}
use Rattle.semantics.specs.Starts.{modes_fit}
use Rattle.semantics.specs.Events.{Event, tick, pick, take_switch, senseless}
use Rattle.semantics.specs.Run as Run
use Rattle.semantics.specs.Run.{Action, test, wait, assign, switch, stop, away, faulty, pass, ◌>>=◌, ◌>>◌, allow, find, valued, Done, assigned, act, judge, judge_tick, judge_pick, judge_switch}
use Rattle.semantics.proofs.Facts.{true-not-false, some_is, and_both, at-below, at_mem, every-all, all-mem}
use Rattle.semantics.specs.Tables.{operand_fits}
use Rattle.semantics.proofs.Verdicts.{advance-length, assigned-is}
use Rattle.nodeset.specs.Sets.{mem, members}
use Rattle.nodeset.proofs.Members.{among-members, members-below}
use Rattle.modes.specs.Modes.{mode_at, place_at}
use Rattle.program.specs.Lent.{Lent}
use Rattle.execution.specs.Ready.{Ready, Fits}
use Rattle.modes.proofs.Taking.{modes-length, mode-now}
use Rattle.execution.proofs.Lending.{here, fit-head, modes-current, mode-named, mode-targets-named}

-- ---- a mode that is set
fit-set : (cs : List Selector) (ms : List ℕ) (s m : ℕ) {c : Selector} → modes_fit cs ms ≡ true → length ms ≡ length cs → get_elem? cs s ≡ some c → m < length c.modes → modes_fit cs (set ms s m) ≡ true
unfolding modes_fit
fit-set [] ms s m h l e i = refl
fit-set (x ∷ cs) [] s m h l e i = absurd (omega arith)
fit-set (x ∷ cs) (k ∷ ms) zero m {c} h l e i = and_both (lt-ltb m (length x.modes) (subst (λ (y : Selector). m < length y.modes) (sym (some_is e)) i)) (fit-head x cs k ms h).1
fit-set (x ∷ cs) (k ∷ ms) (suc s) m h l e i = let q = fit-head x cs k ms h in and_both (lt-ltb k (length x.modes) q.0) (fit-set cs ms s m q.1 (omega arith) e i)

-- ---- what every taken event has
pub record Keeps (p : Plant) (v : Run.Verdict Done) : Type 0 where
  pub kept : (d : Done) → v ≡ pass d → Fits p d.values d.modes

module _ {p : Plant} where
  keeps-away : {n : ℕ} → Keeps p (away n)
  keeps-away = record { kept = λ d e. let z : ◌≡◌ {A = ℕ} 0 1 = cc in absurd (omega arith) }

  keeps-pass : {d : Done} → Fits p d.values d.modes → Keeps p (pass d)
  keeps-pass {d} f = record { kept = λ x e. let k : d ≡ x = cc in subst (λ (y : Done). Fits p y.values y.modes) k f }

  keeps_then : {A : Type 0} (u : Run.Verdict A) {w : Run.Verdict Done} → ((a : A) → u ≡ pass a → Keeps p w) → Keeps p (u >> w)
  unfolding ◌>>◌
  keeps_then (away n) k = keeps-away
  keeps_then (faulty s) k = record { kept = λ d e. let z : ◌≡◌ {A = ℕ} 0 1 = cc in absurd (omega arith) }
  keeps_then (pass a) k = k a refl

  keeps-bind : {A : Type 0} (u : Run.Verdict A) (f : A → Run.Verdict Done) → ((a : A) → u ≡ pass a → Keeps p (f a)) → Keeps p (u >>= f)
  unfolding ◌>>=◌
  keeps-bind (away n) f k = keeps-away
  keeps-bind (faulty s) f k = record { kept = λ d e. let z : ◌≡◌ {A = ℕ} 0 1 = cc in absurd (omega arith) }
  keeps-bind (pass a) f k = k a refl

allowed : (n : ℕ) (b : Bool) {a : Unit {0}} → allow n b ≡ pass a → b ≡ true
unfolding allow
allowed n true e = refl
allowed n false e = let z : ◌≡◌ {A = ℕ} 0 1 = cc in absurd (omega arith)

found : {A : Type 0} (n : ℕ) (o : Option A) {a : A} → find n o ≡ pass a → o ≡ some a
unfolding find
found n none e = let z : ◌≡◌ {A = ℕ} 0 1 = cc in absurd (omega arith)
found n (some x) e = let k = pass-is e in ap some k
  where
    pass-is : {A : Type 0} {x y : A} → pass x ≡ pass y → x ≡ y
    pass-is h = cc

good : {A : Type 0} (v : Value A) {a : A} → valued v ≡ pass a → v ≡ ok a
unfolding valued
good (ok x) e = let k = pass-is e in ap ok k
  where
    pass-is : {A : Type 0} {x y : A} → pass x ≡ pass y → x ≡ y
    pass-is h = cc
good (fault s) e = let z : ◌≡◌ {A = ℕ} 0 1 = cc in absurd (omega arith)

-- a mode that exists
record Exists (cs : List Selector) (s m : ℕ) : Type 0 where
  selector : Selector
  is : get_elem? cs s ≡ some selector
  small : m < length selector.modes

exists-of : (cs : List Selector) (s m : ℕ) → mode_exists_in cs s m ≡ true → Exists cs s m
unfolding mode_exists_in
exists-of cs s m h = go (get_elem? cs s) refl h
  where
    go : (o : Option Selector) → get_elem? cs s ≡ o → elim o [ none ↦ false | some c ↦ ltb m (length c.modes) ] ≡ true → Exists cs s m
    go none e h = true-not-false (sym h)
    go (some c) e h = record { selector = c; is = e; small = ltb-true m (length c.modes) h }

module _ (p : Plant) (vs : List ℤ) (ms : List ℕ) (f : Fits p vs ms) where
  set-mode : (s m : ℕ) → Exists (selectors p) s m → Fits p vs (set ms s m)
  set-mode s m x = record { values = f.values; modes = length-set ms s m ∙ f.modes; exist = fit-set (selectors p) ms s m f.exist f.modes x.is x.small }

  set_value : (v : ℕ) (y : ℤ) → Fits p (set vs v y) ms
  set_value v y = record { values = length-set vs v y ∙ f.values; modes = f.modes; exist = f.exist }

  act-keeps : (ed : Edition) (n : ℕ) (a : Action) → operand_fits ed (length p.variables) (selectors p) a ≡ true → Keeps p (act ed p.variables vs ms n a)
  unfolding act operand_fits
  act-keeps ed n (test t) h = keeps-bind (valued (value_of_truth ed vs t)) _ (λ b _. keeps-pass f)
  act-keeps ed n (wait t) h = keeps-bind (valued (value_of_truth ed vs t)) _ (λ b _. keeps_then (allow 29 b) (λ _ _. keeps-pass f))
  act-keeps ed n (assign v e) h = keeps-bind (valued (assigned ed p.variables vs v e)) _ (λ ys i.
      let x = assigned-is ed p.variables vs v e (good (assigned ed p.variables vs v e) i) in
      keeps-pass (rw x.is (set_value v x.value)))
  act-keeps ed n (switch s m) h = keeps-pass (set-mode s m (exists-of (selectors p) s m h))
  act-keeps ed n stop h = keeps-pass f

  tick-keeps : (ed : Edition) (action : ℕ → Action) (acting : List ℕ) → Keeps p (judge_tick ed p action acting vs ms)
  unfolding judge_tick
  tick-keeps ed action acting = keeps_then (allow 27 _) (λ _ _. keeps_then _ (λ _ _. keeps_then _ (λ _ _. keeps-bind (valued (advance p.variables (rate_of p ms) vs)) _ (λ ys e.
      keeps-pass (record { values = advance-length p ms vs ys (good (advance p.variables (rate_of p ms) vs) e) ∙ f.values; modes = f.modes; exist = f.exist })))))

module _ (ed : Edition) (p : Plant) (action : ℕ → Action) (l : Lent) (ws : List ℕ) (vs : List ℤ) (ms : List ℕ) (q : Ready ed p action l ws vs ms) where
  acts : (n : ℕ) → among n (members ws) ≡ true → mem ws n ≡ true
  acts n e = elim (native.Mathlib.Decide.dec_lt n 256) [ yes h ↦ sym (among-members ws n h) ∙ e | no h ↦ true-not-false (sym e ∙ members-below ws n (omega arith)) ]

  pick-keeps : (n : ℕ) → Keeps p (judge_pick ed p action (members ws) vs ms n)
  unfolding judge_pick
  pick-keeps n = keeps_then (allow 25 (among n (members ws))) (λ _ e. keeps_then _ (λ _ _. act-keeps p vs ms q.fits ed n (action n) (q.nodes n (acts n (allowed 25 (among n (members ws)) e))).fits))

  -- a switch's target is a mode of its selector
  target-exists : (s k : ℕ) (m : Mode) (w : Switch) → get_elem? (current_modes p ms) s ≡ some m → get_elem? m.switches k ≡ some w → Exists (selectors p) s w.target
  unfolding switch_named
  target-exists s k m w e g =
      let f = q.fits in
      let eqn = modes-current p l q.plant vs ms f in
      let i = inside-modes s (at-below (current_modes p ms) s e) in
      let x = here p l q.plant vs ms f s i in
      let mode-is : mode_at l.bytes (place_at l.places ms s) ≡ m = some_is (sym (mode-now l.bytes l.places ms s i) ∙ ap (λ z. get_elem? z s) eqn ∙ e) in
      let n = mode-targets-named _ _ _ (mode-named p l q.plant vs ms f s i) in
      let targets = every-all (switch_named (length x.selector.modes)) (mode_at l.bytes (place_at l.places ms s)).switches n in
      record { selector = x.selector; is = x.is; small = ltb-true w.target (length x.selector.modes) (all-mem targets (at_mem (mode_at l.bytes (place_at l.places ms s)).switches k (ap (λ (z : Mode). get_elem? z.switches k) mode-is ∙ g))) }
    where
      inside-modes : (s : ℕ) → s < length (current_modes p ms) → s < length ms
      inside-modes s h = let j = ap length (sym (modes-current p l q.plant vs ms q.fits)) in omega (arith, modes-length l.bytes l.places 0 ms)

  switch-keeps : (s k : ℕ) → Keeps p (judge_switch ed (current_modes p ms) vs ms s k)
  unfolding judge_switch
  switch-keeps s k =
      keeps-bind (find 26 (get_elem? (current_modes p ms) s)) _ (λ m e. keeps-bind (find 26 (get_elem? m.switches k)) _ (λ w g. keeps-bind (valued (value_of_truth ed vs w.truth)) _ (λ b _. keeps_then (allow 30 b) (λ _ _.
      keeps-pass (set-mode p vs ms q.fits s w.target (target-exists s k m w (found 26 _ e) (found 26 _ g)))))))

  -- the next event is judged on what this one left
  pub fits_kept : (e : Event) (d : Done) → judge ed p action (members ws) vs ms e ≡ pass d → Fits p d.values d.modes
  unfolding judge
  fits_kept tick d h = (tick-keeps p vs ms q.fits ed action (members ws)).kept d h
  fits_kept (pick n) d h = (pick-keeps n).kept d h
  fits_kept (take_switch s k) d h = (switch-keeps s k).kept d h
  fits_kept senseless d h = (keeps-away {p = p}).kept d h
