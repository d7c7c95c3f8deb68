-- The list of a seed and a count is just what the sentences of document 02's item 1 draw.
use mathlib.Core.Path.{◌≡◌, refl, sym, ap, ap₂, subst, ◌∙◌}
use mathlib.Core.List.{List, [], ◌∷◌, ◌++◌, flat_map}
use mathlib.Core.Logic.{◌↔◌}
use Prim.Native.Nat.{ℕ, zero, suc, ◌+◌, ◌*◌, ◌/◌, ◌%◌, ◌<◌}
use native.Mathlib.Omega.{arith}
use lib.ListN.{length}
use Rattle.semantics.specs.Bytes.{within, one_byte}
use Rattle.semantics.specs.Editions.{edition1}
use Rattle.semantics.specs.Events.{Event, tick, pick, take_switch, senseless}
use Rattle.semantics.specs.Rules.{Zeros, no_zeros, one_zero, Names, by_one, SaysTick, SaysPick, SaysSwitch}
use Rattle.semantics.specs.Practice.{next_seed, bits, event_of_seed, bytes_of_event, drawn, practice_list}
use Rattle.semantics.specs.Drawing.{Replaces, Bits, Makes, makes_tick, makes_pick_1, makes_pick_2, makes_switch, Drawn, none_drawn, one_drawn}

-- ---- a draw
pub seed-small : (seed : ℕ) → next_seed seed < 4294967296
unfolding next_seed
seed-small seed = omega arith

pub next-replaces : (seed : ℕ) → Replaces seed (next_seed seed)
unfolding next_seed
next-replaces seed = record { times = (1664525 * seed + 1013904223) / 4294967296; sum = omega arith; small = omega arith }

replaces-next : {seed next : ℕ} → Replaces seed next → next ≡ next_seed seed
unfolding next_seed
replaces-next {seed} {next} r = let s = r.sum in let k = r.small in omega arith

-- ---- a seed's bits
-- the top eight bits, taken apart
top-eight : (q : ℕ) → q < 256 → q ≡ 64 * (q / 64 % 4) + (8 * (q / 8 % 8) + q % 8)
top-eight q h = omega arith

pub bits_of : (seed : ℕ) → seed < 4294967296 → Bits seed (bits 30 2 seed) (bits 27 3 seed) (bits 24 3 seed)
bits_of seed h =
    let q = seed / 16777216 in
    let a : bits 30 2 seed ≡ q / 64 % 4 = omega arith in
    let b : bits 27 3 seed ≡ q / 8 % 8 = omega arith in
    let k = top-eight q (omega arith) in
    record { others = seed % 16777216; is = omega (arith, a, b, k); top_two = omega arith; upper_three = omega arith; lower_three = omega arith; others_small = omega arith }

bits_are : {seed t a b : ℕ} → Bits seed t a b → (bits 30 2 seed ≡ t) × (bits 24 6 seed ≡ 8 * a + b) × (bits 27 3 seed ≡ a) × (bits 24 3 seed ≡ b)
bits_are {seed} {t} {a} {b} r =
    let e = r.is in
    let h = r.top_two in
    let i = r.upper_three in
    let j = r.lower_three in
    let k = r.others_small in (omega arith, omega arith, omega arith, omega arith)

-- ---- the event of a draw, by the bits
event-tick : {seed a b : ℕ} → Bits seed 0 a b → event_of_seed seed ≡ tick
unfolding event_of_seed
event-tick r = rw (bits_are r).0 refl

event-pick-1 : {seed a b : ℕ} → Bits seed 1 a b → event_of_seed seed ≡ pick (8 * a + b)
unfolding event_of_seed within
event-pick-1 r = rw (bits_are r).0 (ap pick (bits_are r).1)

event-pick-2 : {seed a b : ℕ} → Bits seed 2 a b → event_of_seed seed ≡ pick (8 * a + b)
unfolding event_of_seed within
event-pick-2 r = rw (bits_are r).0 (ap pick (bits_are r).1)

event-switch : {seed a b : ℕ} → Bits seed 3 a b → event_of_seed seed ≡ take_switch a b
unfolding event_of_seed within
event-switch r = rw (bits_are r).0 (ap₂ take_switch (bits_are r).2 (bits_are r).3)

-- ---- an event's three bytes
pub event-three : (e : Event) → length (bytes_of_event e) ≡ 3
unfolding bytes_of_event
event-three tick = refl
event-three (pick n) = refl
event-three (take_switch s k) = refl
event-three senseless = refl

pub tick-says : SaysTick edition1 (bytes_of_event tick)
unfolding bytes_of_event
tick-says = record { unused = 0 ∷ 0 ∷ []; bytes = refl; zeros = one_zero (one_zero no_zeros) }

pub pick-says : (n : ℕ) → SaysPick edition1 (bytes_of_event (pick n)) n
unfolding bytes_of_event
pick-says n = record { name = n ∷ []; unused = 0 ∷ []; bytes = refl; names = by_one; zeros = one_zero no_zeros }

pub switch-says : (s k : ℕ) → SaysSwitch edition1 (bytes_of_event (take_switch s k)) s k
unfolding bytes_of_event
switch-says s k = record { unused = []; bytes = refl; zeros = no_zeros }

no_more : {l : List ℕ} → Zeros l → length l ≡ 0 → l ≡ []
no_more no_zeros e = refl
no_more (one_zero z) e = absurd (omega arith)

one_more : {l : List ℕ} → Zeros l → length l ≡ 1 → l ≡ 0 ∷ []
one_more no_zeros e = absurd (omega arith)
one_more (one_zero {l = l} z) e = ap (λ (s : List ℕ). 0 ∷ s) (no_more z (omega arith))

two-more : {l : List ℕ} → Zeros l → length l ≡ 2 → l ≡ 0 ∷ 0 ∷ []
two-more no_zeros e = absurd (omega arith)
two-more (one_zero {l = l} z) e = ap (λ (s : List ℕ). 0 ∷ s) (one_more z (omega arith))

named : {name : List ℕ} {n : ℕ} → Names one_byte name n → name ≡ n ∷ []
named by_one = refl

tick-bytes : {e : List ℕ} → SaysTick edition1 e → length e ≡ 3 → e ≡ bytes_of_event tick
unfolding bytes_of_event
tick-bytes v k = let l = sym (ap length v.bytes) ∙ k in v.bytes ∙ ap (λ (s : List ℕ). 0 ∷ s) (two-more v.zeros (omega arith))

pick-bytes : {e : List ℕ} {n : ℕ} → SaysPick edition1 e n → length e ≡ 3 → e ≡ bytes_of_event (pick n)
unfolding bytes_of_event
pick-bytes {e} {n} v k =
    let q : e ≡ 1 ∷ n ∷ v.unused = v.bytes ∙ ap (λ (s : List ℕ). 1 ∷ (s ++ v.unused)) (named v.names) in
    let l = sym (ap length q) ∙ k in q ∙ ap (λ (s : List ℕ). 1 ∷ n ∷ s) (one_more v.zeros (omega arith))

switch-bytes : {e : List ℕ} {s k : ℕ} → SaysSwitch edition1 e s k → length e ≡ 3 → e ≡ bytes_of_event (take_switch s k)
unfolding bytes_of_event
switch-bytes {e} {s} {k} v q = let l = sym (ap length v.bytes) ∙ q in v.bytes ∙ ap (λ (u : List ℕ). 2 ∷ s ∷ k ∷ u) (no_more v.zeros (omega arith))

-- ---- a seed makes just its event
made_by : {seed a b : ℕ} (t : ℕ) → Bits seed t a b → Makes seed (bytes_of_event (event_of_seed seed))
made_by zero r = rw (event-tick r) (makes_tick r tick-says)
made_by (suc zero) r = rw (event-pick-1 r) (makes_pick_1 r (pick-says _))
made_by (suc (suc zero)) r = rw (event-pick-2 r) (makes_pick_2 r (pick-says _))
made_by (suc (suc (suc zero))) r = rw (event-switch r) (makes_switch r (switch-says _ _))
made_by (suc (suc (suc (suc t)))) r = let h = r.top_two in absurd (omega arith)

pub made : (seed : ℕ) → seed < 4294967296 → Makes seed (bytes_of_event (event_of_seed seed))
made seed h = made_by (bits 30 2 seed) (bits_of seed h)

makes_one : {seed : ℕ} {e : List ℕ} → Makes seed e → length e ≡ 3 → e ≡ bytes_of_event (event_of_seed seed)
makes_one (makes_tick r v) k = tick-bytes v k ∙ ap bytes_of_event (sym (event-tick r))
makes_one (makes_pick_1 r v) k = pick-bytes v k ∙ ap bytes_of_event (sym (event-pick-1 r))
makes_one (makes_pick_2 r v) k = pick-bytes v k ∙ ap bytes_of_event (sym (event-pick-2 r))
makes_one (makes_switch r v) k = switch-bytes v k ∙ ap bytes_of_event (sym (event-switch r))

-- ---- the list
pub list-drawn : (seed n : ℕ) → Drawn seed n (practice_list seed n)
unfolding practice_list drawn flat_map
list-drawn seed zero = none_drawn
list-drawn seed (suc n) = one_drawn (next-replaces seed) (made (next_seed seed) (seed-small seed)) (event-three (event_of_seed (next_seed seed))) (list-drawn (next_seed seed) n)

drawn-list : {seed n : ℕ} {l : List ℕ} → Drawn seed n l → practice_list seed n ≡ l
unfolding practice_list drawn flat_map
drawn-list none_drawn = refl
drawn-list (one_drawn {seed = seed} {next = next} {n = n} {e = e} {l = l} r m k d) =
    ap (λ (s : ℕ). bytes_of_event (event_of_seed s) ++ practice_list s n) (sym (replaces-next r)) ∙ ap₂ (λ (x y : List ℕ). x ++ y) (sym (makes_one m k)) (drawn-list d)

pub practice-rule : (seed count : ℕ) (l : List ℕ) → (practice_list seed count ≡ l) ↔ Drawn seed count l
practice-rule seed count l = ((λ e. subst (Drawn seed count) e (list-drawn seed count)), (λ d. drawn-list d))
