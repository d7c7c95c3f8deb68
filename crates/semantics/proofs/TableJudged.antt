-- The judging of a table with all its numbers in one list: the named parts taken in, by the laws of Judging.
use mathlib.Core.Path.{◌≡◌, ap, ◌∙◌}
use mathlib.Core.List.{List}
use Prim.Native.Nat.{ℕ}
use lib.ListN.{drop}
use Rattle.semantics.specs.Editions.{Edition}
use Rattle.semantics.specs.Refusals.{Judged, accepted, ◌>>=◌, ◌>>◌, ensure, need, with_one_number}
use Rattle.semantics.specs.Plant.{judge_plant, switches_read}
use Rattle.semantics.specs.TableFile.{TableSections, table_sections_in, actions_in, locations_in}
use Rattle.semantics.specs.Tables.{Table, table_header, actions_numbered, operands_fit, actions_fit, locations_fit_in, judge_actions, judge_locations, judge_table_sections, judge_table_layout, judge_table}
use Rattle.semantics.proofs.Judging.{then_same, ensure-then, fitting-then, ensure-both}

module _ (ed : Edition) where
  abbrev pub judge_in_order : TableSections → Judged Table
  judge_in_order parts = do
    p ← with_one_number 17 (judge_plant ed parts.variables parts.equations)
    ensure 17 (switches_read ed p)
    acts ← need 18 (actions_in ed parts.actions)
    ensure 18 (actions_fit ed p acts)
    locs ← need 19 (locations_in ed parts.locations)
    ensure 19 (locations_fit_in acts locs)
    accepted (record { plant = p; actions = acts; locations = locs })

  pub sections-in-order : (parts : TableSections) → judge_table_sections ed parts ≡ judge_in_order parts
  unfolding judge_table_sections judge_actions judge_locations actions_fit
  sections-in-order parts =
      then_same (with_one_number 17 (judge_plant ed parts.variables parts.equations)) (λ p. ap (λ j. ensure 17 (switches_read ed p) >> j) (
      fitting-then 18 (actions_in ed parts.actions) (actions_numbered ed) _ ∙
      then_same (need 18 (actions_in ed parts.actions)) (λ acts.
      ap (λ j. ensure 18 (actions_numbered ed acts) >> (ensure 18 (operands_fit ed p acts) >> j)) (fitting-then 19 (locations_in ed parts.locations) (locations_fit_in acts) _) ∙
      ensure-both 18 (actions_numbered ed acts) (operands_fit ed p acts) _)))

  pub table-in-order : (t : List ℕ) → judge_table ed t ≡ (ensure 15 (table_header ed t) >> (need 16 (table_sections_in (drop 5 t)) >>= judge_in_order))
  unfolding judge_table judge_table_layout
  table-in-order t = ensure-then 15 _ _ (judge_table_sections ed) ∙ ap (λ j. ensure 15 (table_header ed t) >> j) (then_same (need 16 (table_sections_in (drop 5 t))) sections-in-order)
