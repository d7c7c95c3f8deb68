-- What an event's bytes say is what `event_in` reads from them.
use mathlib.Core.Path.{◌≡◌, refl, sym, ap, subst, ◌∙◌}
use mathlib.Core.Bool.{Bool, true, false, cond}
use mathlib.Core.List.{List, [], ◌∷◌, ◌++◌}
use mathlib.Core.Option.{Option, none, some}
use Prim.Native.Nat.{ℕ}
use native.Mathlib.Omega.{arith}
use borrow.Author.Tests.{eqb-true}
use lib.Dec.{eqb}
use Rattle.semantics.specs.Bytes.{every, be2, Width, one_byte, two_bytes, Read, broken, read, and_then, ◌>>=◌, give, fail, byte, nat2, number, just, whole}
use Rattle.semantics.specs.Editions.{Edition}
use Rattle.semantics.specs.Events.{Event, tick, pick, take_switch, senseless, EventKind, a_tick, a_pick, a_switch, no_kind, event_kind, unused, read_event_body, read_event, event_in}
use Rattle.semantics.specs.Rules.{Zeros, no_zeros, one_zero, Names, by_one, by_two, SaysTick, SaysPick, SaysSwitch}
use Rattle.semantics.proofs.Facts.{true-not-false}
use Rattle.semantics.proofs.Readers.{broken-not-read, read-value, split, given, given-rest, byte-read, whole-read}

-- ---- unused bytes
pub zeros-every : {l : List ℕ} → Zeros l → every (λ b. eqb b 0) l ≡ true
unfolding every
zeros-every no_zeros = refl
zeros-every (one_zero z) = zeros-every z

pub every-zeros : (l : List ℕ) → every (λ b. eqb b 0) l ≡ true → Zeros l
unfolding every
every-zeros [] h = no_zeros
every-zeros (b ∷ l) h = go (eqb b 0) refl h (every-zeros l)
  where
    go : (t : Bool) → eqb b 0 ≡ t → elim t [ true ↦ every (λ b. eqb b 0) l | false ↦ false ] ≡ true → (every (λ b. eqb b 0) l ≡ true → Zeros l) → Zeros (b ∷ l)
    go true e h ih = rw (eqb-true b 0 e) (one_zero (ih h))
    go false e h ih = true-not-false (sym h)

unused-read : (m : Event) {n : Event} (s t : List ℕ) → unused m s ≡ read n t → (m ≡ n) × Zeros s
unfolding unused
unused-read m {n} s t h = go (every (λ b. eqb b 0) s) refl h
  where
    go : (q : Bool) → every (λ b. eqb b 0) s ≡ q → cond {A = Read Event} q (read m []) broken ≡ read n t → (m ≡ n) × Zeros s
    go true e h = (read-value h, every-zeros s e)
    go false e h = broken-not-read h

unused-zeros : (m : Event) {s : List ℕ} → Zeros s → unused m s ≡ read m []
unfolding unused
unused-zeros m z = rw (zeros-every z) refl

-- ---- an event's bytes are read as what they say
event-is : (ed : Edition) (e : List ℕ) {m : Event} → read_event ed e ≡ read m [] → event_in ed e ≡ m
unfolding event_in whole just
event-is ed e h = ap {B = Event} (λ r. elim (just {A = Event} r) [ none ↦ senseless | some n ↦ n ]) h

pub decoded-tick : (ed : Edition) {e : List ℕ} → SaysTick ed e → event_in ed e ≡ tick
unfolding read_event byte ◌>>=◌ and_then read_event_body event_kind
decoded-tick ed {e} h = event-is ed e (rw h.bytes (unused-zeros tick h.zeros))

pub decoded-switch : (ed : Edition) {e : List ℕ} {s k : ℕ} → SaysSwitch ed e s k → event_in ed e ≡ take_switch s k
unfolding read_event byte ◌>>=◌ and_then read_event_body event_kind
decoded-switch ed {e} {s} {k} h = event-is ed e (rw h.bytes (unused-zeros (take_switch s k) h.zeros))

number-named : {w : Width} {name : List ℕ} {n : ℕ} → Names w name n → (s : List ℕ) → number w (name ++ s) ≡ read n s
unfolding number nat2 byte ◌>>=◌ and_then give be2
number-named by_one s = refl
number-named by_two s = refl

pub decoded-pick : (ed : Edition) {e : List ℕ} {n : ℕ} → SaysPick ed e n → event_in ed e ≡ pick n
unfolding read_event byte ◌>>=◌ and_then read_event_body event_kind
decoded-pick ed {e} {n} h = event-is ed e (rw h.bytes (ap (λ r. and_then r (λ n. unused (pick n))) (number-named h.names h.unused) ∙ unused-zeros (pick n) h.zeros))

-- ---- and say what is read from them
pub data Said (ed : Edition) (e : List ℕ) : Event → Type 0 where
  says_tick : SaysTick ed e → Said ed e tick
  says_pick : {n : ℕ} → SaysPick ed e n → Said ed e (pick n)
  says_switch : {s k : ℕ} → SaysSwitch ed e s k → Said ed e (take_switch s k)
  says_nothing : (SaysTick ed e → ⊥) → ((n : ℕ) → SaysPick ed e n → ⊥) → ((s k : ℕ) → SaysSwitch ed e s k → ⊥) → Said ed e senseless

-- the byte of each kind
data Kind (k : ℕ) : EventKind → Type 0 where
  zero_tick : k ≡ 0 → Kind k a_tick
  one_pick : k ≡ 1 → Kind k a_pick
  two_switch : k ≡ 2 → Kind k a_switch
  other : Kind k no_kind

kind-of : (k : ℕ) → Kind k (event_kind k)
unfolding event_kind
kind-of k = go (eqb k 0) (eqb k 1) (eqb k 2) refl refl refl
  where
    go : (a b c : Bool) → eqb k 0 ≡ a → eqb k 1 ≡ b → eqb k 2 ≡ c → Kind k (cond a a_tick (cond b a_pick (cond c a_switch no_kind)))
    go true b c d e f = zero_tick (eqb-true k 0 d)
    go false true c d e f = one_pick (eqb-true k 1 e)
    go false false true d e f = two_switch (eqb-true k 2 f)
    go false false false d e f = other

two-front : {a b : ℕ} {s t u v : List ℕ} → s ≡ a ∷ t → t ≡ b ∷ u → u ≡ v → s ≡ a ∷ b ∷ v
two-front h k l = cc

same-front : {a b : ℕ} {s t : List ℕ} → a ≡ b → s ≡ t → a ∷ s ≡ b ∷ t
same-front h k = cc

named : (w : Width) (s t : List ℕ) {n : ℕ} → number w s ≡ read n t → (name : List ℕ) × (s ≡ name ++ t) × Names w name n
unfolding number nat2 be2
named one_byte s t {n} h = (n ∷ [], byte-read s h, by_one)
named two_bytes s t h =
    let p = split byte _ h in
    let q = split byte _ p.then in
    let n = be2 p.value q.value in (
      p.value ∷ q.value ∷ [],
      two-front (byte-read s p.first) (byte-read p.rest q.first) (given-rest n q.rest q.then),
      subst (λ n. Names two_bytes (p.value ∷ q.value ∷ []) n) (given n q.rest q.then) by_two,
    )

event-read : (ed : Edition) (k : ℕ) (s : List ℕ) (m : Event) {q : EventKind} → Kind k q → read_event_body ed q s ≡ read m [] → Said ed (k ∷ s) m
unfolding read_event_body fail
event-read ed k s m (zero_tick e) h =
    let u = unused-read tick s [] h in
    subst (λ m. Said ed (k ∷ s) m) u.0 (says_tick (record { unused = s; bytes = ap (λ k. k ∷ s) e; zeros = u.1 }))
event-read ed k s m (one_pick e) h =
    let p = split (number ed.width) _ h in
    let n = named ed.width s p.rest p.first in
    let u = unused-read (pick p.value) p.rest [] p.then in
    subst (λ m. Said ed (k ∷ s) m) u.0 (says_pick (record { name = n.0; unused = p.rest; bytes = same-front e n.1; names = n.2; zeros = u.1 }))
event-read ed k s m (two_switch e) h =
    let p = split byte _ h in
    let q = split byte _ p.then in
    let u = unused-read (take_switch p.value q.value) q.rest [] q.then in
    subst (λ m. Said ed (k ∷ s) m) u.0 (says_switch (record { unused = q.rest; bytes = same-front e (two-front (byte-read s p.first) (byte-read p.rest q.first) refl); zeros = u.1 }))
event-read ed k s m other h = broken-not-read h

-- an event that says something is not senseless
tick-makes-sense : {C : Type 0} → senseless ≡ tick → C
tick-makes-sense h = let z : ◌≡◌ {A = ℕ} 0 1 = cc in absurd (omega arith)

pick-makes-sense : {C : Type 0} {n : ℕ} → senseless ≡ pick n → C
pick-makes-sense h = let z : ◌≡◌ {A = ℕ} 0 1 = cc in absurd (omega arith)

switch-makes-sense : {C : Type 0} {s k : ℕ} → senseless ≡ take_switch s k → C
switch-makes-sense h = let z : ◌≡◌ {A = ℕ} 0 1 = cc in absurd (omega arith)

nothing_said : (ed : Edition) (e : List ℕ) → event_in ed e ≡ senseless → Said ed e senseless
nothing_said ed e h = says_nothing
    (λ w. tick-makes-sense (sym h ∙ decoded-tick ed w))
    (λ n w. pick-makes-sense (sym h ∙ decoded-pick ed w))
    (λ s k w. switch-makes-sense (sym h ∙ decoded-switch ed w))

pub said_of : (ed : Edition) (e : List ℕ) → Said ed e (event_in ed e)
unfolding event_in read_event
said_of ed e = go (whole (read_event ed) e) refl
  where
    go : (o : Option Event) → whole (read_event ed) e ≡ o → Said ed e (elim o [ none ↦ senseless | some m ↦ m ])
    go none h = nothing_said ed e (ap {B = Event} (λ o. elim o [ none ↦ senseless | some m ↦ m ]) h)
    go (some m) h =
        let p = split byte _ (whole-read (read_event ed) e h) in
        rw (byte-read e p.first) (event-read ed p.value p.rest m (kind-of p.value) p.then)
