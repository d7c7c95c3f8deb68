-- A switch event on the current modes.
use mathlib.Core.Path.{◌≡◌, refl, sym, ap, ◌∙◌}
use mathlib.Core.Bool.{Bool, true, false}
use mathlib.Core.List.{List, [], ◌∷◌}
use mathlib.Core.Option.{none, some}
use Prim.Native.Nat.{ℕ, zero, suc, ◌+◌, ◌*◌, ◌-◌, ◌≤◌, ◌<◌}
use native.Mathlib.Omega.{arith}
use lib.IntN.{ℤ}
use lib.ListN.{length, get_or, set, take, drop, get_elem?}
use Rattle.semantics.specs.Editions.{Edition}
use Rattle.semantics.specs.Expressions.{Value, ok, fault, above, below, value_of_truth}
use Rattle.semantics.specs.Sections.{Switch, Mode, read_switch}
use Rattle.semantics.specs.Run.{pass, ◌>>=◌, ◌>>◌, allow, find, valued, nobody, judge_switch}
use Rattle.semantics.proofs.Facts.{true-not-false, at-exists}
use Rattle.codec.proofs.Known.{times-length, past_end}
use Rattle.effects.specs.Verdicts.{is_going_on, truth_verdict, Left}
use Rattle.effects.proofs.PaperNumbers.{left-away, left-above, left_below, left-stay}
use Rattle.program.specs.Lent.{Stands}
use Rattle.modes.specs.Modes.{mode_at, Asked, modes_from, place_at}
use Rattle.effects.specs.PaperNumbers.{Verdict, Away, Stay}
use Rattle.modes.proofs.Standing.{parts, switch-bytes}

-- ---- which switch it is
module _ {es : List ℕ} {at : ℕ} {m : Mode} (s : Stands es at m) (c k : ℕ) (e : c ≡ at + 1 + 5 * get_or es at 0) where
  counted : length m.switches ≡ get_or es c 0
  counted = let a = (parts s).switches in rw e (times-length read_switch (get_or es (at + 1 + 5 * get_or es at 0) 0) (drop (at + 1 + 5 * get_or es at 0 + 1) es) a.got)

  pub switch-there : k < get_or es c 0 → (w : Switch) × (get_elem? m.switches k ≡ some w)
  switch-there h = let n = counted in at-exists m.switches k (omega arith)

  pub no_switch : get_or es c 0 ≤ k → get_elem? m.switches k ≡ none
  no_switch h = let n = counted in past_end m.switches k (omega arith)

pub modes-length : (es places : List ℕ) (j : ℕ) (ms : List ℕ) → length (modes_from es places j ms) ≡ length ms
unfolding modes_from
modes-length es places j [] = refl
modes-length es places j (m ∷ ms) = ap suc (modes-length es places (suc j) ms)

modes_at : (es places : List ℕ) (j : ℕ) (ms : List ℕ) (i : ℕ) → i < length ms → get_elem? (modes_from es places j ms) i ≡ some (mode_at es (get_or places (8 * (j + i) + get_or ms i 0) 0))
unfolding modes_from
modes_at es places j [] i h = absurd (omega arith)
modes_at es places j (m ∷ ms) zero h = let e : j ≡ j + 0 = omega arith in ap (λ (n : ℕ). some (mode_at es (get_or places (8 * n + m) 0))) e
modes_at es places j (m ∷ ms) (suc i) h =
    let e : suc j + i ≡ j + suc i = omega arith in
    modes_at es places (suc j) ms i (omega arith) ∙ ap (λ (n : ℕ). some (mode_at es (get_or places (8 * n + get_or ms i 0) 0))) e

module _ (es places ms : List ℕ) (s : ℕ) where
  pub mode-now : s < length ms → get_elem? (modes_from es places 0 ms) s ≡ some (mode_at es (place_at places ms s))
  mode-now h = let e : 0 + s ≡ s = omega arith in modes_at es places 0 ms s h ∙ ap (λ (n : ℕ). some (mode_at es (get_or places (8 * n + get_or ms s 0) 0))) e

  pub no_mode : length ms ≤ s → get_elem? (modes_from es places 0 ms) s ≡ none
  no_mode h = past_end (modes_from es places 0 ms) s (omega (arith, modes-length es places 0 ms))

-- ---- what it does
module _ (ed : Edition) (modes : List Mode) (vs : List ℤ) (ms : List ℕ) (s k : ℕ) where
  pub no-selector-left : get_elem? modes s ≡ none → Left (judge_switch ed modes vs ms s k) vs ms (Away 26) vs ms
  unfolding judge_switch find ◌>>=◌
  no-selector-left e = rw e (left-away refl refl)

  module _ (m : Mode) (e : get_elem? modes s ≡ some m) where
    pub no-switch-left : get_elem? m.switches k ≡ none → Left (judge_switch ed modes vs ms s k) vs ms (Away 26) vs ms
    unfolding judge_switch find ◌>>=◌
    no-switch-left f = rw (e, f) (left-away refl refl)

    module _ (w : Switch) (f : get_elem? m.switches k ≡ some w) (r : Verdict) (g : r ≡ truth_verdict Stay (Away 30) (value_of_truth ed vs w.truth)) where
      pub not-taken-left : is_going_on r ≡ false → Left (judge_switch ed modes vs ms s k) vs ms r vs ms
      unfolding judge_switch find ◌>>=◌ ◌>>◌ valued allow truth_verdict is_going_on
      not-taken-left h = rw (e, f) (go (value_of_truth ed vs w.truth) g)
        where
          go : (u : Value Bool) → r ≡ truth_verdict Stay (Away 30) u → Left (valued u >>= (λ b. allow 30 b >> pass (record { moved = nobody; values = vs; modes = set ms s w.target }))) vs ms r vs ms
          go (ok true) g = true-not-false (sym (ap is_going_on g) ∙ h)
          go (ok false) g = left-away g refl
          go (fault above) g = left-above g refl
          go (fault below) g = left_below g refl

      pub taken-left : is_going_on r ≡ true → {t : ℕ} → t ≡ w.target → Left (judge_switch ed modes vs ms s k) vs ms r vs (set ms s t)
      unfolding judge_switch find ◌>>=◌ ◌>>◌ valued allow truth_verdict is_going_on
      taken-left h {t} q = rw (e, f) (go (value_of_truth ed vs w.truth) g)
        where
          go : (u : Value Bool) → r ≡ truth_verdict Stay (Away 30) u → Left (valued u >>= (λ b. allow 30 b >> pass (record { moved = nobody; values = vs; modes = set ms s w.target }))) vs ms r vs (set ms s t)
          go (ok true) g = left-stay g (ap (λ (n : ℕ). pass (record { moved = nobody; values = vs; modes = set ms s n })) (sym q))
          go (ok false) g = true-not-false (sym h ∙ ap is_going_on g)
          go (fault above) g = true-not-false (sym h ∙ ap is_going_on g)
          go (fault below) g = true-not-false (sym h ∙ ap is_going_on g)

-- ---- a switch's truth, asked by the bytes from two past its place to its end
pub asked-at : {vs : List ℤ} {es : List ℕ} {q b : ℕ} {yes no r : Verdict} → b ≡ get_or es q 0
    → ((ed : Edition) → r ≡ truth_verdict yes no (value_of_truth ed vs (take (q + 1 + b - (q + 2)) (drop (q + 2) es)))) → Asked es q vs yes no r
asked-at {vs} {es} {q} {b} {yes} {no} e h = record {
  answer = λ ed w s.
      let n : q + 1 + b - (q + 2) ≡ get_or es q 0 - 1 = omega arith in
      h ed ∙ ap (λ t. truth_verdict yes no (value_of_truth ed vs t)) (ap (λ j. take j (drop (q + 2) es)) n ∙ sym (switch-bytes s).truth);
}
