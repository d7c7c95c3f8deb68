-- Which variables are driven, by an array of marks.
use mathlib.Core.Path.{◌≡◌, sym, ap, ◌∙◌}
use mathlib.Core.Bool.{false}
use mathlib.Core.List.{List, flat_map}
use Prim.Native.Nat.{ℕ, ◌≤◌}
use native.Mathlib.Omega.{arith}
use lib.ListN.{length, get_or, get_or-eq_default}
use Rattle.semantics.specs.Editions.{Edition}
use Rattle.semantics.specs.Refusals.{accepted}
use Rattle.semantics.specs.Plant.{Plant, among, drives, is_driven_in, judge_plant}
use Rattle.semantics.proofs.Facts.{by_cases}
use Rattle.codec.proofs.Reading.{either}
use Rattle.plant.specs.Driven.{DrivenAt}
use Rattle.plant.specs.PlantRead.{accepted_plant}
use Rattle.plant.specs.declared.sections.PlantRead.{PlantRead}
use Rattle.plant.proofs.ByVariable.{each-length, each_at}
use Rattle.plant.proofs.EquationsOnce.{small-equations}
use Rattle.plant.proofs.PlantLaws.{passed-all, variables-high, driven-of}

module _ (ed : Edition) (vs es : List ℕ) {p : Plant} (h : judge_plant ed vs es ≡ accepted p) {x : PlantRead} (q : x ≡ accepted_plant p) where
  pub marks-length : length x.driven ≡ 32
  marks-length = ap length (driven-of p q) ∙ each-length (is_driven_in p.equations) 0 32

  -- 7 keeps the variables that equations name below 32
  not_above : (v : ℕ) → 32 ≤ v → is_driven_in p.equations v ≡ false
  unfolding is_driven_in
  not_above v i =
      let s = small-equations (length p.variables) (variables-high ed vs es h) p.equations (passed-all ed vs es h).named in
      by_cases (among v (flat_map drives p.equations)) (λ e. absurd (let b = s.below v e in omega arith)) (λ e. e)

  pub driven-held : DrivenAt x.driven p.equations
  driven-held = record {
    at = λ v. either v 32 (λ i. ap (λ l. get_or l v false) (driven-of p q) ∙ each_at (is_driven_in p.equations) false 32 v i)
        (λ i. get_or-eq_default x.driven false (omega (arith, marks-length)) ∙ sym (not_above v i));
  }
