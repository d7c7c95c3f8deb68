-- The bytes of a seed's event, as the code tells its bits; and the list, one event further.
use Rattle.std.proofs.Common.{◌≡◌, ℕ, ◌+◌, ◌/◌, ◌%◌, ◌<◌, ◌≤◌, [], ◌∷◌, ◌++◌, sym, refl, ap, ◌∙◌, ap₂, add-one, arith, eq-eqb, ne_eqb}
use Rattle.semantics.specs.Bytes.{within}
use Rattle.semantics.specs.Practice.{next_seed, bits, event_of_seed, bytes_of_event, practice_list}
use Rattle.semantics.proofs.Facts.{within_both}
use Rattle.semantics.proofs.PracticeCall.{seed_after, seed-more, list-more}

-- the event by the top two bits and the next six
pub event-tick : (seed : ℕ) → seed < 4294967296 → seed / 1073741824 ≡ 0 → 0 ∷ 0 ∷ 0 ∷ [] ≡ bytes_of_event (event_of_seed seed)
unfolding event_of_seed bytes_of_event
event-tick seed h e = let z : bits 30 2 seed ≡ 0 = omega arith in rw (eq-eqb (bits 30 2 seed) 0 z) refl

pub event-pick : (seed six : ℕ) → seed < 4294967296 → 0 < seed / 1073741824 → seed / 1073741824 < 3 → six ≡ seed / 16777216 % 64 →
    1 ∷ six ∷ 0 ∷ [] ≡ bytes_of_event (event_of_seed seed)
unfolding event_of_seed bytes_of_event
event-pick seed six h j k e =
    let t : bits 30 2 seed ≡ seed / 1073741824 = omega arith in
    rw (ne_eqb (bits 30 2 seed) 0 (λ z. absurd (omega (arith, z, t))), within_both 1 2 (bits 30 2 seed) (omega (arith, t)) (omega (arith, t))) (ap (λ (n : ℕ). 1 ∷ n ∷ 0 ∷ []) e)

pub event-switch : (seed six : ℕ) → seed < 4294967296 → 3 ≤ seed / 1073741824 → six ≡ seed / 16777216 % 64 → 2 ∷ six / 8 ∷ six % 8 ∷ [] ≡ bytes_of_event (event_of_seed seed)
unfolding event_of_seed bytes_of_event within
event-switch seed six h j e =
    let t : bits 30 2 seed ≡ 3 = omega arith in
    let a : six / 8 ≡ bits 27 3 seed = omega arith in
    let b : six % 8 ≡ bits 24 3 seed = omega arith in
    rw t (ap₂ (λ (x y : ℕ). 2 ∷ x ∷ y ∷ []) a b)

-- the seed and the list after one more draw
pub seed-next : (seed n : ℕ) {g h : ℕ} → h ≡ next_seed g → g ≡ seed_after seed n → h ≡ seed_after seed (n + 1)
seed-next seed n e k = e ∙ ap next_seed k ∙ sym (seed-more seed n) ∙ ap (seed_after seed) (sym (add-one n))

pub list-next : (seed n : ℕ) {h : ℕ} → h ≡ seed_after seed (n + 1) → practice_list seed n ++ bytes_of_event (event_of_seed h) ≡ practice_list seed (n + 1)
list-next seed n e =
    ap (λ (s : ℕ). practice_list seed n ++ bytes_of_event (event_of_seed s)) (e ∙ ap (seed_after seed) (add-one n) ∙ seed-more seed n)
    ∙ sym (list-more seed n) ∙ ap (practice_list seed) (sym (add-one n))
