-- Sentences 23 to 31 in order: an event is turned away with n just where sentence n holds, none before it does,
-- and past 28 the switch check has not faulted.
use mathlib.Core.Path.{◌≡◌, refl, sym, ap, subst, ◌∙◌}
use mathlib.Core.Bool.{true}
use mathlib.Core.List.{List, Memᴰ as Mem}
use mathlib.Core.Logic.{◌↔◌}
use Prim.Native.Nat.{ℕ, ◌≤◌, ◌<◌}
use native.Mathlib.Omega.{arith}
use lib.Dec.{lit<, lit≤}
use lib.IntN.{ℤ}
use Rattle.semantics.specs.Bytes.{within}
use Rattle.semantics.specs.Editions.{Edition}
use Rattle.semantics.specs.Expressions.{Side}
use Rattle.semantics.specs.Sections.{Switch}
use Rattle.semantics.specs.Plant.{Plant, among}
use Rattle.semantics.specs.Events.{tick, pick, take_switch}
use Rattle.semantics.specs.Run.{wait, Next, Control, Situation, Answered, at, over, step}
use Rattle.semantics.specs.Rules.{SaysTick, SaysPick, SaysSwitch, Found, nothing, found_true, found_fault, Waits, Goes, goes_on, finishes, Rule, when-over, when-senseless, pick-idle, pick-switch-true, pick-test, pick-wait, pick-wait-false, pick-assign, pick-switch, pick-stop, switch-missing, switch-taken, switch-false, tick-busy, tick-switch-true, tick-wait-true, tick-taken, fault-above, fault-below, Sentence, is-over, is-senseless, is-idle, is-missing, is-busy, is-checked-pick, is-checked-tick, is-early, is_false, is-due, CheckFaults, pick-check, tick-check, Decides, CurrentSwitch, Checks, Standing, Sound}
use Rattle.semantics.proofs.Facts.{true-not-false, by_cases, among-mem, mem-among, within-high}
use Rattle.semantics.proofs.EventDecoding.{decoded-tick, decoded-pick, decoded-switch}
use Rattle.semantics.proofs.StepParts.{found_as, walk-found, Waiting, all_wait, one_acts, waiting, waits-not-acts}
use Rattle.semantics.proofs.Currents.{check-walk, found-check}
use Rattle.semantics.proofs.StepRules.{step_of, rule-of}

-- ---- an event says one thing
tick-no-pick : {C : Type 0} {n : ℕ} → tick ≡ pick n → C
tick-no-pick h = let z : ◌≡◌ {A = ℕ} 0 1 = cc in absurd (omega arith)

tick-no-switch : {C : Type 0} {s k : ℕ} → tick ≡ take_switch s k → C
tick-no-switch h = let z : ◌≡◌ {A = ℕ} 0 1 = cc in absurd (omega arith)

pick-no-switch : {C : Type 0} {n s k : ℕ} → pick n ≡ take_switch s k → C
pick-no-switch h = let z : ◌≡◌ {A = ℕ} 0 1 = cc in absurd (omega arith)

pick_is : {m n : ℕ} → pick m ≡ pick n → m ≡ n
pick_is h = cc

switch-selector : {s k t l : ℕ} → take_switch s k ≡ take_switch t l → s ≡ t
switch-selector h = cc

switch-number : {s k t l : ℕ} → take_switch s k ≡ take_switch t l → k ≡ l
switch-number h = cc

module _ {ed : Edition} {e : List ℕ} where
  tick-not-pick : {C : Type 0} {n : ℕ} → SaysTick ed e → SaysPick ed e n → C
  tick-not-pick v w = tick-no-pick (sym (decoded-tick ed v) ∙ decoded-pick ed w)

  tick-not-switch : {C : Type 0} {s k : ℕ} → SaysTick ed e → SaysSwitch ed e s k → C
  tick-not-switch v w = tick-no-switch (sym (decoded-tick ed v) ∙ decoded-switch ed w)

  pick-not-switch : {C : Type 0} {n s k : ℕ} → SaysPick ed e n → SaysSwitch ed e s k → C
  pick-not-switch v w = pick-no-switch (sym (decoded-pick ed v) ∙ decoded-switch ed w)

  one_pick : {m n : ℕ} → SaysPick ed e m → SaysPick ed e n → m ≡ n
  one_pick v w = pick_is (sym (decoded-pick ed v) ∙ decoded-pick ed w)

  one-selector : {s k t l : ℕ} → SaysSwitch ed e s k → SaysSwitch ed e t l → s ≡ t
  one-selector v w = switch-selector (sym (decoded-switch ed v) ∙ decoded-switch ed w)

  one_number : {s k t l : ℕ} → SaysSwitch ed e s k → SaysSwitch ed e t l → k ≡ l
  one_number v w = switch-number (sym (decoded-switch ed v) ∙ decoded-switch ed w)

-- ---- the switch check stops at one thing
quiet-no-truth : {C : Type 0} {ed : Edition} {vs : List ℤ} {p : Plant} {ms : List ℕ} → Checks ed vs (CurrentSwitch p ms) nothing → Checks ed vs (CurrentSwitch p ms) found_true → C
unfolding found_as
quiet-no-truth w k = let e = sym (walk-found (check-walk w) 28) ∙ walk-found (check-walk k) 28 in let z : ◌≡◌ {A = ℕ} 0 1 = cc in absurd (omega arith)

quiet-no-fault : {C : Type 0} {ed : Edition} {vs : List ℤ} {p : Plant} {ms : List ℕ} {side : Side} → Checks ed vs (CurrentSwitch p ms) nothing → Checks ed vs (CurrentSwitch p ms) (found_fault side) → C
unfolding found_as
quiet-no-fault w k = let e = sym (walk-found (check-walk w) 28) ∙ walk-found (check-walk k) 28 in let z : ◌≡◌ {A = ℕ} 0 1 = cc in absurd (omega arith)

-- ---- what is taken or faults is not turned away
taken-not-away : {C : Type 0} (n : ℕ) → 31 < n → within 23 31 n ≡ true → C
taken-not-away n l h = let k = within-high 23 31 n h in absurd (omega arith)

goes-not-away : {C S : Type 0} {vs : List ℤ} {ms : List ℕ} {x : Next S} {a : ℕ} {t : Situation S} → Goes vs ms x a t → within 23 31 a ≡ true → C
goes-not-away goes_on h = taken-not-away 200 (lit< tt) h
goes-not-away finishes h = taken-not-away 201 (lit< tt) h

module _ {S : Type 0} (ed : Edition) (p : Plant) (c : Control S) where
  -- ---- what a sentence says of a pick, of a tick and of a switch event
  data OfPick (x : S) (vs : List ℤ) (ms : List ℕ) (n : ℕ) : ℕ → Type 0 where
    of-idle : (Mem n (c.acting x) → ⊥) → OfPick x vs ms n 25
    of-checked-pick : Checks ed vs (CurrentSwitch p ms) found_true → OfPick x vs ms n 28
    of-early : OfPick x vs ms n 29

  data OfTick (x : S) (vs : List ℤ) (ms : List ℕ) : ℕ → Type 0 where
    of-busy : {n : ℕ} → Mem n (c.acting x) → ((t : List ℕ) → c.action n ≡ wait t → ⊥) → OfTick x vs ms 27
    of-checked-tick : Checks ed vs (CurrentSwitch p ms) found_true → OfTick x vs ms 28
    of-due : OfTick x vs ms 31

  data OfSwitch (ms : List ℕ) (s k : ℕ) : ℕ → Type 0 where
    of-missing : ((w : Switch) → CurrentSwitch p ms s k w → ⊥) → OfSwitch ms s k 26
    of-false : OfSwitch ms s k 30

  of-pick : {m n : ℕ} {x : S} {vs : List ℤ} {ms e : List ℕ} → SaysPick ed e n → Sentence ed p c m (at x vs ms) e → OfPick x vs ms n m
  of-pick w (is-senseless f g h) = absurd (g _ w)
  of-pick w (is-idle v f) = of-idle (rw (one_pick v w) at f)
  of-pick w (is-missing v f) = pick-not-switch w v
  of-pick w (is-busy v k f) = tick-not-pick v w
  of-pick w (is-checked-pick v k) = of-checked-pick k
  of-pick w (is-checked-tick v k) = tick-not-pick v w
  of-pick w (is-early v q h) = of-early
  of-pick w (is_false v g h) = pick-not-switch w v
  of-pick w (is-due v q h) = tick-not-pick v w

  of-tick : {m : ℕ} {x : S} {vs : List ℤ} {ms e : List ℕ} → SaysTick ed e → Sentence ed p c m (at x vs ms) e → OfTick x vs ms m
  of-tick w (is-senseless f g h) = absurd (f w)
  of-tick w (is-idle v f) = tick-not-pick w v
  of-tick w (is-missing v f) = tick-not-switch w v
  of-tick w (is-busy v k f) = of-busy k f
  of-tick w (is-checked-pick v k) = tick-not-pick w v
  of-tick w (is-checked-tick v k) = of-checked-tick k
  of-tick w (is-early v q h) = tick-not-pick w v
  of-tick w (is_false v g h) = tick-not-switch w v
  of-tick w (is-due v q h) = of-due

  of-switch : {m s k : ℕ} {x : S} {vs : List ℤ} {ms e : List ℕ} → SaysSwitch ed e s k → Sentence ed p c m (at x vs ms) e → OfSwitch ms s k m
  of-switch w (is-senseless f g h) = absurd (h _ _ w)
  of-switch w (is-idle v f) = pick-not-switch v w
  of-switch w (is-missing v f) = of-missing (rw (one-selector v w, one_number v w) at f)
  of-switch w (is-busy v k f) = tick-not-switch v w
  of-switch w (is-checked-pick v k) = pick-not-switch v w
  of-switch w (is-checked-tick v k) = tick-not-switch v w
  of-switch w (is-early v q h) = pick-not-switch v w
  of-switch w (is_false v g h) = of-false
  of-switch w (is-due v q h) = tick-not-switch v w

  -- ---- no sentence before the answer
  from-24 : {m : ℕ} {x : S} {vs : List ℤ} {ms e : List ℕ} → Sentence ed p c m (at x vs ms) e → 24 ≤ m
  from-24 (is-senseless f g h) = lit≤ tt
  from-24 (is-idle v f) = lit≤ tt
  from-24 (is-missing v f) = lit≤ tt
  from-24 (is-busy v k f) = lit≤ tt
  from-24 (is-checked-pick v k) = lit≤ tt
  from-24 (is-checked-tick v k) = lit≤ tt
  from-24 (is-early v q h) = lit≤ tt
  from-24 (is_false v g h) = lit≤ tt
  from-24 (is-due v q h) = lit≤ tt

  from-23 : {m : ℕ} {vs : List ℤ} {ms e : List ℕ} → Sentence ed p c m (over vs ms) e → 23 ≤ m
  from-23 is-over = lit≤ tt

  switch-26 : {ms : List ℕ} {m s k : ℕ} → OfSwitch ms s k m → 26 ≤ m
  switch-26 (of-missing f) = lit≤ tt
  switch-26 of-false = lit≤ tt

  switch-30 : {ms : List ℕ} {m s k : ℕ} {w : Switch} → CurrentSwitch p ms s k w → OfSwitch ms s k m → 30 ≤ m
  switch-30 g (of-missing f) = absurd (f _ g)
  switch-30 g of-false = lit≤ tt

  module _ {x : S} {vs : List ℤ} {ms : List ℕ} where
    pick-25 : {m n : ℕ} → OfPick x vs ms n m → 25 ≤ m
    pick-25 (of-idle f) = lit≤ tt
    pick-25 (of-checked-pick k) = lit≤ tt
    pick-25 of-early = lit≤ tt

    pick-28 : {m n : ℕ} → Mem n (c.acting x) → OfPick x vs ms n m → 28 ≤ m
    pick-28 a (of-idle f) = absurd (f a)
    pick-28 a (of-checked-pick k) = lit≤ tt
    pick-28 a of-early = lit≤ tt

    pick-29 : {m n : ℕ} → Mem n (c.acting x) → Checks ed vs (CurrentSwitch p ms) nothing → OfPick x vs ms n m → 29 ≤ m
    pick-29 a q (of-idle f) = absurd (f a)
    pick-29 a q (of-checked-pick k) = quiet-no-truth q k
    pick-29 a q of-early = lit≤ tt

    tick-27 : {m : ℕ} → OfTick x vs ms m → 27 ≤ m
    tick-27 (of-busy k f) = lit≤ tt
    tick-27 (of-checked-tick k) = lit≤ tt
    tick-27 of-due = lit≤ tt

    tick-28 : {m : ℕ} {ts : List (List ℕ)} → Waits c.action (c.acting x) ts → OfTick x vs ms m → 28 ≤ m
    tick-28 a (of-busy k f) = absurd (waits-not-acts a k f)
    tick-28 a (of-checked-tick k) = lit≤ tt
    tick-28 a of-due = lit≤ tt

    tick-31 : {m : ℕ} {ts : List (List ℕ)} → Waits c.action (c.acting x) ts → Checks ed vs (CurrentSwitch p ms) nothing → OfTick x vs ms m → 31 ≤ m
    tick-31 a q (of-busy k f) = absurd (waits-not-acts a k f)
    tick-31 a q (of-checked-tick k) = quiet-no-truth q k
    tick-31 a q of-due = lit≤ tt

    quiet-unfaulted : {e : List ℕ} → Checks ed vs (CurrentSwitch p ms) nothing → CheckFaults ed p c (at x vs ms) e → ⊥
    quiet-unfaulted q (pick-check v k) = quiet-no-fault q k
    quiet-unfaulted q (tick-check v k) = quiet-no-fault q k

    switch-unfaulted : {e : List ℕ} {s k : ℕ} → SaysSwitch ed e s k → CheckFaults ed p c (at x vs ms) e → ⊥
    switch-unfaulted w (pick-check v k) = pick-not-switch v w
    switch-unfaulted w (tick-check v k) = tick-not-switch v w

  -- ---- a rule that turns away: its sentence is the first
  -- up to 28 nothing is asked of the switch check
  first-early : {s : Situation S} {e : List ℕ} {n : ℕ} → n ≤ 28 → Sentence ed p c n s e → ((m : ℕ) → Sentence ed p c m s e → n ≤ m) → Decides ed p c s e n
  first-early {n = n} b q f = record { applies = q; least = λ m l k. clash m l (f m k); unfaulted = λ l. absurd (omega arith) }
    where
      clash : (m : ℕ) → m < n → n ≤ m → ⊥
      clash m l k = omega arith

  first-late : {s : Situation S} {e : List ℕ} {n : ℕ} → Sentence ed p c n s e → ((m : ℕ) → Sentence ed p c m s e → n ≤ m) → (CheckFaults ed p c s e → ⊥) → Decides ed p c s e n
  first-late {n = n} q f g = record { applies = q; least = λ m l k. clash m l (f m k); unfaulted = λ l. g }
    where
      clash : (m : ℕ) → m < n → n ≤ m → ⊥
      clash m l k = omega arith

  first-of-rule : {s t : Situation S} {e : List ℕ} {a : ℕ} → Rule ed p c s e a t → within 23 31 a ≡ true → Decides ed p c s e a
  first-of-rule when-over r = first-early (lit≤ tt) is-over (λ m k. from-23 k)
  first-of-rule (when-senseless f g h) r = first-early (lit≤ tt) (is-senseless f g h) (λ m k. from-24 k)
  first-of-rule (pick-idle w f) r = first-early (lit≤ tt) (is-idle w f) (λ m k. pick-25 (of-pick w k))
  first-of-rule (pick-switch-true w m k) r = first-early (lit≤ tt) (is-checked-pick w k) (λ n i. pick-28 m (of-pick w i))
  first-of-rule (pick-test w m k a h g) r = goes-not-away g r
  first-of-rule (pick-wait w m k a h g) r = goes-not-away g r
  first-of-rule (pick-wait-false w m k a h) r = first-late (is-early w a h) (λ n i. pick-29 m k (of-pick w i)) (quiet-unfaulted k)
  first-of-rule (pick-assign w m k a h d i g) r = goes-not-away g r
  first-of-rule (pick-switch w m k a g) r = goes-not-away g r
  first-of-rule (pick-stop w m k a) r = taken-not-away 202 (lit< tt) r
  first-of-rule (switch-missing w f) r = first-early (lit≤ tt) (is-missing w f) (λ m i. switch-26 (of-switch w i))
  first-of-rule (switch-taken w h g) r = taken-not-away 200 (lit< tt) r
  first-of-rule (switch-false w h g) r = first-late (is_false w h g) (λ m k. switch-30 h (of-switch w k)) (switch-unfaulted w)
  first-of-rule (tick-busy w m f) r = first-early (lit≤ tt) (is-busy w m f) (λ n i. tick-27 (of-tick w i))
  first-of-rule (tick-switch-true w q k) r = first-early (lit≤ tt) (is-checked-tick w k) (λ m i. tick-28 q (of-tick w i))
  first-of-rule (tick-wait-true w q k l) r = first-late (is-due w q l) (λ m i. tick-31 q k (of-tick w i)) (quiet-unfaulted k)
  first-of-rule (tick-taken w q k l h i) r = taken-not-away 200 (lit< tt) r
  first-of-rule (fault-above f) r = taken-not-away 203 (lit< tt) r
  first-of-rule (fault-below f) r = taken-not-away 204 (lit< tt) r

  -- ---- the first sentence that holds has its rule
  acts : {x : S} {vs : List ℤ} {ms e : List ℕ} {n : ℕ} → SaysPick ed e n → (Sentence ed p c 25 (at x vs ms) e → ⊥) → Mem n (c.acting x)
  acts {x} {n = n} w f = by_cases (among n (c.acting x)) (λ h. among-mem n (c.acting x) h)
      (λ h. absurd (f (is-idle w (λ m. true-not-false (sym (mem-among n (c.acting x) m) ∙ h)))))

  quiet : (vs : List ℤ) (ms : List ℕ) → (Checks ed vs (CurrentSwitch p ms) found_true → ⊥) → ((side : Side) → Checks ed vs (CurrentSwitch p ms) (found_fault side) → ⊥) → Checks ed vs (CurrentSwitch p ms) nothing
  quiet vs ms f g = let w = found-check ed p vs ms in go w.0 w.1
    where
      go : (d : Found) → Checks ed vs (CurrentSwitch p ms) d → Checks ed vs (CurrentSwitch p ms) nothing
      go nothing w = w
      go found_true w = absurd (f w)
      go (found_fault side) w = absurd (g side w)

  checked-tick : {x : S} {vs : List ℤ} {ms e : List ℕ} → SaysTick ed e → Checks ed vs (CurrentSwitch p ms) found_true → (Sentence ed p c 27 (at x vs ms) e → ⊥) →
      Waiting c.action (c.acting x) → Rule ed p c (at x vs ms) e 28 (at x vs ms)
  checked-tick w k f (all_wait q) = tick-switch-true w q k
  checked-tick w k f (one_acts m g) = absurd (f (is-busy w m g))

  rule-of-first : {s : Situation S} {e : List ℕ} {n : ℕ} → Sentence ed p c n s e → ((m : ℕ) → m < n → Sentence ed p c m s e → ⊥) → (28 < n → CheckFaults ed p c s e → ⊥) →
      Rule ed p c s e n s
  rule-of-first is-over l u = when-over
  rule-of-first (is-senseless f g h) l u = when-senseless f g h
  rule-of-first (is-idle w f) l u = pick-idle w f
  rule-of-first (is-missing w f) l u = switch-missing w f
  rule-of-first (is-busy w k f) l u = tick-busy w k f
  rule-of-first (is-checked-pick w k) l u = pick-switch-true w (acts w (l 25 (lit< tt))) k
  rule-of-first (is-checked-tick {x = x} w k) l u = checked-tick w k (l 27 (lit< tt)) (waiting c.action (c.acting x))
  rule-of-first (is-early {vs = vs} {ms} w q h) l u =
      let k = quiet vs ms (λ k. l 28 (lit< tt) (is-checked-pick w k)) (λ side k. u (lit< tt) (pick-check w k)) in
      pick-wait-false w (acts w (l 25 (lit< tt))) k q h
  rule-of-first (is_false w g h) l u = switch-false w g h
  rule-of-first (is-due {vs = vs} {ms} w q h) l u =
      let k = quiet vs ms (λ k. l 28 (lit< tt) (is-checked-tick w k)) (λ side k. u (lit< tt) (tick-check w k)) in
      tick-wait-true w q k h

  sentence-within : {s : Situation S} {e : List ℕ} {n : ℕ} → Sentence ed p c n s e → within 23 31 n ≡ true
  unfolding within
  sentence-within is-over = refl
  sentence-within (is-senseless f g h) = refl
  sentence-within (is-idle w f) = refl
  sentence-within (is-missing w f) = refl
  sentence-within (is-busy w k f) = refl
  sentence-within (is-checked-pick w k) = refl
  sentence-within (is-checked-tick w k) = refl
  sentence-within (is-early w q h) = refl
  sentence-within (is_false w g h) = refl
  sentence-within (is-due w q h) = refl

  -- an event is turned away with n just where n's sentence is the first that holds
  pub first-answer : Sound p c → (s : Situation S) → Standing c s → (e : List ℕ) (n : ℕ) → (((step ed p c s e).answer ≡ n) × (within 23 31 n ≡ true)) ↔ Decides ed p c s e n
  first-answer sound s stand e n = (there, back)
    where
      there : ((step ed p c s e).answer ≡ n) × (within 23 31 n ≡ true) → Decides ed p c s e n
      there h = subst (λ n. Decides ed p c s e n) h.0 (first-of-rule (rule-of ed p c sound s stand e) (rw h.0 h.1))

      back : Decides ed p c s e n → ((step ed p c s e).answer ≡ n) × (within 23 31 n ≡ true)
      back f = (ap (λ (o : Answered S). o.answer) (step_of ed p c sound stand (rule-of-first f.applies f.least f.unfaulted)), sentence-within f.applies)
