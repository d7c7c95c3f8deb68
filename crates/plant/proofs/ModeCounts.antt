-- Selectors by their mode counts, and those of a plant that was read.
use mathlib.Core.Path.{◌≡◌, sym, ap, ◌∙◌}
use mathlib.Core.Bool.{Bool, false}
use mathlib.Core.List.{List, map}
use mathlib.Core.Option.{Option, none, some}
use Prim.Native.Nat.{ℕ, ◌≤◌, ◌<◌}
use native.Mathlib.Omega.{arith}
use lib.Dec.{ltb}
use lib.ListN.{length, get_or, length-map}
use Rattle.semantics.specs.Editions.{Edition}
use Rattle.semantics.specs.Refusals.{accepted}
use Rattle.semantics.specs.Sections.{Selector}
use Rattle.semantics.specs.Plant.{Plant, selectors, mode_exists_in, judge_plant}
use Rattle.semantics.proofs.Facts.{at-exists}
use Rattle.codec.proofs.Known.{past_end}
use Rattle.codec.proofs.Padding.{length-pad}
use Rattle.plant.specs.Equations.{mode_count_of}
use Rattle.plant.specs.ModeCounts.{ModesAt}
use Rattle.plant.specs.PlantRead.{accepted_plant}
use Rattle.plant.specs.declared.sections.PlantRead.{PlantRead}
use Rattle.plant.proofs.EquationLaws.{few_selectors, mode-count-at}
use Rattle.plant.proofs.PlantLaws.{passed-all, selectors-of, modes-of}

judged : (m : ℕ) → Option Selector → Bool
judged m o = elim o [ none ↦ false | some c ↦ ltb m (length c.modes) ]

module _ {counts : List ℕ} {n : ℕ} {cs : List Selector} (d : ModesAt counts n cs) (c m : ℕ) where
  pub no-selector : n ≤ c → false ≡ mode_exists_in cs c m
  unfolding mode_exists_in judged
  no-selector h = sym (ap (judged m) (past_end cs c (omega (arith, d.counted))))

  pub selector : c < n → ltb m (get_or counts c 0) ≡ mode_exists_in cs c m
  unfolding mode_exists_in judged
  selector h =
      let x = at-exists cs c (omega (arith, d.counted)) in
      ap (ltb m) (d.entries c x.1) ∙ sym (ap (judged m) x.1)

module _ (ed : Edition) (vs es : List ℕ) {p : Plant} (h : judge_plant ed vs es ≡ accepted p) {x : PlantRead} (q : x ≡ accepted_plant p) where
  pub modes-held : ModesAt x.modes x.selectors (selectors p)
  unfolding selectors
  modes-held = record { counted = sym (selectors-of p q); entries = λ j g. ap (λ l. get_or l j 0) (modes-of p q) ∙ mode-count-at p.equations j g }

  pub modes-full : length x.modes ≡ 16
  unfolding selectors
  modes-full = ap length (modes-of p q) ∙ length-pad 16 0 (map mode_count_of (selectors p)) (omega (arith, few_selectors es (passed-all ed vs es h).equations, length-map (selectors p) mode_count_of))

  pub modes-room : x.selectors ≤ length x.modes
  unfolding selectors
  modes-room = omega (arith, selectors-of p q, few_selectors es (passed-all ed vs es h).equations, modes-full)
