-- Which event some bytes are.
use mathlib.Core.Path.{◌≡◌, refl, sym, ap, ◌∙◌}
use mathlib.Core.Bool.{Bool, true, false, cond}
use mathlib.Core.List.{List, [], ◌∷◌}
use mathlib.Core.Option.{none, some}
use Prim.Native.Nat.{ℕ, ◌+◌, ◌-◌, ◌≤◌}
use native.Mathlib.Omega.{arith}
use borrow.Author.Tests.{ne_eqb}
use lib.ListN.{length, get_or, take, drop, length-drop}
use lib.Seq.{take_all}
use lib.Dec.{eqb}
use Rattle.std.specs.Prelude.{◌&&◌, ◌==◌}
use Rattle.std.specs.List.{list_all}
use Rattle.semantics.specs.Bytes.{every, Read, broken, read, ◌>>=◌, and_then, byte, number, fail, just, whole}
use Rattle.semantics.specs.Editions.{Edition}
use Rattle.semantics.specs.Events as Events
use Rattle.semantics.specs.Events.{tick, pick, take_switch, senseless, EventKind, no_kind, event_kind, unused, read_event_body, read_event, event_in}
use Rattle.semantics.proofs.Facts.{none-not-some}
use Rattle.edition.proofs.Widths.{width-high}
use Rattle.codec.specs.Numbers.{num_at, wide}
use Rattle.codec.proofs.Reading.{number-at}
use Rattle.event.specs.PaperNumbers.{paper_event}
use Rattle.event.specs.Decoded.{event_of, all_zero, where_zero, Decodes}
use Rattle.event.specs.declared.Event.{Event}
use Rattle.event.specs.declared.Event.TheVariants.{Tick, Pick, Switch, Senseless}

-- ---- the numbers
number_of : (r : Event) → paper_event r ≡ some 24 → event_of r ≡ senseless
unfolding paper_event
number_of Tick h = none-not-some h
number_of (Pick n) h = none-not-some h
number_of (Switch s k) h = none-not-some h
number_of Senseless h = refl

numbered_of : (r : Event) → event_of r ≡ senseless → paper_event r ≡ some 24
unfolding paper_event
numbered_of Tick h = absurd (let z : ◌≡◌ {A = ℕ} 0 1 = cc in omega arith)
numbered_of (Pick n) h = absurd (let z : ◌≡◌ {A = ℕ} 0 1 = cc in omega arith)
numbered_of (Switch s k) h = absurd (let z : ◌≡◌ {A = ℕ} 0 1 = cc in omega arith)
numbered_of Senseless h = refl

pub decodes : {ed : Edition} {s : List ℕ} {r : Event} → event_of r ≡ event_in ed s → Decodes ed s r
decodes {r = r} e = record { is = e; number = λ h. sym e ∙ number_of r h; numbered = λ h. numbered_of r (e ∙ h) }

-- ---- an event whose unused bytes are 0, or not
abbrev made : Events.Event → Bool → Events.Event
made e t = elim (just (cond {A = Read Events.Event} t (read e []) broken)) [ none ↦ senseless | some m ↦ m ]

made_of : (t : Bool) (e : Event) → event_of (where_zero t e) ≡ made (event_of e) t
unfolding just
made_of true e = refl
made_of false e = refl

-- ---- the event, by the first byte
no-kind-of : (a : ℕ) → (a ≡ 0 → ⊥) → (a ≡ 1 → ⊥) → (a ≡ 2 → ⊥) → event_kind a ≡ no_kind
unfolding event_kind
no-kind-of a e f g = rw (ne_eqb a 0 e, ne_eqb a 1 f, ne_eqb a 2 g) refl

module _ (ed : Edition) where
  tick-in : (s : List ℕ) → 3 ≤ length s → get_or s 0 0 ≡ 0 → event_in ed s ≡ made tick (all_zero (drop 1 s))
  unfolding event_in read_event read_event_body event_kind unused ◌>>=◌ and_then byte whole
  tick-in [] h e = absurd (omega arith)
  tick-in (a ∷ s) h e = rw e refl

  pick-in : (s : List ℕ) → 3 ≤ length s → get_or s 0 0 ≡ 1 → event_in ed s ≡ made (pick (num_at ed s 1)) (all_zero (drop (1 + wide ed) s))
  unfolding event_in read_event read_event_body event_kind unused ◌>>=◌ and_then byte whole
  pick-in [] h e = absurd (omega arith)
  pick-in (a ∷ s) h e = kind e ∙ ap picked (number-at ed.width (a ∷ s) 1 (omega (arith, width-high ed.width)))
    where
      picked : Read ℕ → Events.Event
      picked o = elim (just (and_then o (λ n. unused (pick n)))) [ none ↦ senseless | some m ↦ m ]

      kind : a ≡ 1 → event_in ed (a ∷ s) ≡ picked (number ed.width s)
      kind e = rw e refl

  switch-in : (s : List ℕ) → 3 ≤ length s → get_or s 0 0 ≡ 2 → event_in ed s ≡ made (take_switch (get_or s 1 0) (get_or s 2 0)) (all_zero (drop 3 s))
  unfolding event_in read_event read_event_body event_kind unused ◌>>=◌ and_then byte whole
  switch-in [] h e = absurd (omega arith)
  switch-in (a ∷ []) h e = absurd (omega arith)
  switch-in (a ∷ b ∷ []) h e = absurd (omega arith)
  switch-in (a ∷ b ∷ c ∷ s) h e = rw e refl

  none_in : (s : List ℕ) → 3 ≤ length s → (get_or s 0 0 ≡ 0 → ⊥) → (get_or s 0 0 ≡ 1 → ⊥) → (get_or s 0 0 ≡ 2 → ⊥) → event_in ed s ≡ senseless
  unfolding event_in read_event read_event_body ◌>>=◌ and_then byte fail just whole
  none_in [] h e f g = absurd (omega arith)
  none_in (a ∷ s) h e f g = ap (λ (k : EventKind). elim (just (read_event_body ed k s)) [ none ↦ senseless | some m ↦ m ]) (no-kind-of a e f g)

-- ---- unused bytes, by std's test
pub zeros : (s : List ℕ) → list_all (λ b. b == 0) s ≡ all_zero s
unfolding every
zeros [] = refl
zeros (b ∷ s) = go (eqb b 0) (zeros s)
  where
    go : (t : Bool) {r q : Bool} → r ≡ q → (t && r) ≡ elim t [ true ↦ q | false ↦ false ]
    go true e = e
    go false e = refl

module _ (s : List ℕ) {b : Bool} (h : b ≡ list_all (λ b. b == 0) s) (e : Event) where
  pub kept : b ≡ true → e ≡ where_zero (all_zero s) e
  kept k = rw (sym (zeros s) ∙ sym h ∙ k) refl

  pub turned : b ≡ false → Senseless ≡ where_zero (all_zero s) e
  turned k = rw (sym (zeros s) ∙ sym h ∙ k) refl

-- what `&s[k..]` lends
behind : (s : List ℕ) (k : ℕ) (e : Event) {r : Event} → r ≡ where_zero (all_zero (take (length s - k) (drop k s))) e → r ≡ where_zero (all_zero (drop k s)) e
behind s k e {r} h = h ∙ ap (λ t. where_zero (all_zero t) e) (take_all (length s - k) (drop k s) (omega (arith, length-drop k s)))

-- ---- what the code gives
module _ (ed : Edition) (s : List ℕ) (h : 3 ≤ length s) {r : Event} where
  pub ticks : get_or s 0 0 ≡ 0 → r ≡ where_zero (all_zero (take (length s - 1) (drop 1 s))) Tick → Decodes ed s r
  ticks e k = decodes (ap event_of (behind s 1 Tick k) ∙ made_of (all_zero (drop 1 s)) Tick ∙ sym (tick-in ed s h e))

  pub picks : {w n : ℕ} → get_or s 0 0 ≡ 1 → w ≡ wide ed → n ≡ num_at ed s 1 → r ≡ where_zero (all_zero (take (length s - (1 + w)) (drop (1 + w) s))) (Pick n) → Decodes ed s r
  picks {w} {n} e f g k = decodes (ap event_of (behind s (1 + w) (Pick n) k) ∙ made_of (all_zero (drop (1 + w) s)) (Pick n) ∙ rw (f, g) (sym (pick-in ed s h e)))

  pub switches : {b c : ℕ} → get_or s 0 0 ≡ 2 → b ≡ get_or s 1 0 → c ≡ get_or s 2 0 → r ≡ where_zero (all_zero (take (length s - 3) (drop 3 s))) (Switch b c) → Decodes ed s r
  switches {b} {c} e f g k = decodes (ap event_of (behind s 3 (Switch b c) k) ∙ made_of (all_zero (drop 3 s)) (Switch b c) ∙ rw (f, g) (sym (switch-in ed s h e)))

  pub nothing : (get_or s 0 0 ≡ 0 → ⊥) → (get_or s 0 0 ≡ 1 → ⊥) → (get_or s 0 0 ≡ 2 → ⊥) → r ≡ Senseless → Decodes ed s r
  nothing e f g k = decodes (ap event_of k ∙ sym (none_in ed s h e f g))

-- a list of bytes that are those
pub decodes-as : {ed : Edition} {s t : List ℕ} {r : Event} → s ≡ t → Decodes ed t r → Decodes ed s r
decodes-as e d = rw e d
