-- Answers booked one by one are counted.
use mathlib.Core.Path.{◌≡◌, refl, sym, ap, ap₂, ◌∙◌}
use mathlib.Core.Bool.{Bool, true, false}
use mathlib.Core.List.{List, [], ◌∷◌, ◌++◌}
use Prim.Native.Nat.{ℕ, zero, suc, ◌+◌, ◌^◌, ◌≤◌, ◌<◌}
use native.Mathlib.Omega.{arith}
use lib.ListN.{length}
use Rattle.semantics.specs.Bytes.{within}
use Rattle.semantics.specs.Run as Run
use Rattle.semantics.specs.Run.{is_taken, is_turned_away, is_faulted, how_many, no_counts, counts_from}
use Rattle.records.specs.Booking.{Room}
use Rattle.records.specs.Reported.{told}
use Rattle.records.specs.declared.Counts.{Counts}

-- ---- one more at the end of the list
module _ (f : ℕ → Bool) where
  more : (l : List ℕ) (a : ℕ) → how_many f (l ++ (a ∷ [])) ≡ how_many f l + how_many f (a ∷ [])
  unfolding how_many
  more [] a = omega arith
  more (x ∷ l) a = go (f x) _ _ _ (more l a)
    where
      go : (b : Bool) (m n k : ℕ) → m ≡ n + k → ◌≡◌ {A = ℕ} (elim b [ true ↦ suc m | false ↦ m ]) (elim b [ true ↦ suc n | false ↦ n ] + k)
      go true m n k h = omega arith
      go false m n k h = h

  at_most : (l : List ℕ) → how_many f l ≤ length l
  unfolding how_many
  at_most [] = omega arith
  at_most (x ∷ l) = go (f x) (at_most l)
    where
      go : (b : Bool) → how_many f l ≤ length l → elim b [ true ↦ suc (how_many f l) | false ↦ how_many f l ] ≤ suc (length l)
      go true h = omega arith
      go false h = omega arith

-- no answer is counted yet
pub counts-none : no_counts ≡ counts_from []
unfolding counts_from how_many
counts-none = refl

-- the counts r are those of c with one answer more, whatever the answers were
abbrev pub Booked : Counts → ℕ → Counts → Type 0
Booked c a r = (l : List ℕ) → told c ≡ counts_from l → told r ≡ counts_from (l ++ (a ∷ []))

-- the record that the code makes
pub booked-within : (c : Counts) (a : ℕ) {t u v : ℕ} →
    t ≡ how_many (within 200 202) (a ∷ []) → u ≡ how_many (within 23 31) (a ∷ []) → v ≡ how_many (within 203 204) (a ∷ []) →
    Booked c a (record { taken = c.taken + t; turned_away = c.turned_away + u; faulted = c.faulted + v })
unfolding counts_from how_many is_taken is_turned_away is_faulted
booked-within c a {t} {u} {v} p q r l e =
    let x : c.taken ≡ how_many is_taken l = ap (λ (n : Run.Counts). n.taken) e in
    let y : c.turned_away ≡ how_many is_turned_away l = ap (λ (n : Run.Counts). n.turned_away) e in
    let z : c.faulted ≡ how_many is_faulted l = ap (λ (n : Run.Counts). n.faulted) e in
    let i : c.taken + t ≡ how_many is_taken (l ++ (a ∷ [])) = ap₂ (λ (m n : ℕ). m + n) x p ∙ sym (more is_taken l a) in
    let j : c.turned_away + u ≡ how_many is_turned_away (l ++ (a ∷ [])) = ap₂ (λ (m n : ℕ). m + n) y q ∙ sym (more is_turned_away l a) in
    let k : c.faulted + v ≡ how_many is_faulted (l ++ (a ∷ [])) = ap₂ (λ (m n : ℕ). m + n) z r ∙ sym (more is_faulted l a) in
    cc

module _ {c : Counts} (l : List ℕ) (e : told c ≡ counts_from l) where
  -- a run of so many events has room for its counts
  pub counts-room : length l + 1 < 2 ^ 64 → Room c
  unfolding counts_from
  counts-room h = record {
    taken = omega (arith, ap (λ (n : Run.Counts). n.taken) e, at_most is_taken l);
    turned_away = omega (arith, ap (λ (n : Run.Counts). n.turned_away) e, at_most is_turned_away l);
    faulted = omega (arith, ap (λ (n : Run.Counts). n.faulted) e, at_most is_faulted l);
  }

-- ---- any counts are those of some answers, so `Booked` leaves one r
some-answers : (t u v : ℕ) → (l : List ℕ) × (◌≡◌ {A = Run.Counts} (record { taken = t; turned_away = u; faulted = v }) (counts_from l))
unfolding counts_from how_many is_taken is_turned_away is_faulted within
some-answers zero zero zero = ([], refl)
some-answers (suc t) u v = let p = some-answers t u v in (200 ∷ p.0, ap (λ (c : Run.Counts). record { taken = suc c.taken; turned_away = c.turned_away; faulted = c.faulted }) p.1)
some-answers zero (suc u) v = let p = some-answers zero u v in (23 ∷ p.0, ap (λ (c : Run.Counts). record { taken = c.taken; turned_away = suc c.turned_away; faulted = c.faulted }) p.1)
some-answers zero zero (suc v) = let p = some-answers zero zero v in (203 ∷ p.0, ap (λ (c : Run.Counts). record { taken = c.taken; turned_away = c.turned_away; faulted = suc c.faulted }) p.1)

pub booked-alone : (c : Counts) (a : ℕ) {r s : Counts} → Booked c a r → Booked c a s → told r ≡ told s
booked-alone c a p q = let l = some-answers c.taken c.turned_away c.faulted in p l.0 l.1 ∙ sym (q l.0 l.1)
