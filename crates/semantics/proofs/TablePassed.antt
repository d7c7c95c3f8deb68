-- An accepted table: its parts, and the conditions that they passed.
use mathlib.Core.Path.{◌≡◌, ◌∙◌, sym, subst}
use mathlib.Core.Bool.{true}
use mathlib.Core.List.{List}
use mathlib.Core.Option.{some}
use Prim.Native.Nat.{ℕ}
use lib.ListN.{drop}
use Rattle.semantics.specs.Editions.{Edition}
use Rattle.semantics.specs.Refusals.{accepted, with_one_number}
use Rattle.semantics.specs.Plant.{judge_plant, switches_read}
use Rattle.semantics.specs.TableFile.{TableSections, table_sections_in, actions_in, locations_in}
use Rattle.semantics.specs.Tables.{Table, judge_table, table_header, actions_fit, locations_fit_in}
use Rattle.semantics.proofs.TableJudged.{table-in-order}
use Rattle.semantics.proofs.Judging.{accepted-is, passed-need, passed-ensure, passed_then, passed-only}

pub record TablePassed (ed : Edition) (table : List ℕ) (t : Table) : Type 0 where
  pub header : table_header ed table ≡ true
  pub parts : TableSections
  pub is_parts : table_sections_in (drop 5 table) ≡ some parts
  pub plant : judge_plant ed parts.variables parts.equations ≡ accepted t.plant
  pub switches : switches_read ed t.plant ≡ true
  pub acts : actions_in ed parts.actions ≡ some t.actions
  pub acts_fit : actions_fit ed t.plant t.actions ≡ true
  pub locs : locations_in ed parts.locations ≡ some t.locations
  pub locs_fit : locations_fit_in t.actions t.locations ≡ true

pub table-passed : (ed : Edition) (table : List ℕ) {t : Table} → judge_table ed table ≡ accepted t → TablePassed ed table t
table-passed ed table h =
    let a = passed-ensure 15 _ _ (sym (table-in-order ed table) ∙ h) in
    let b = passed-need 16 (table_sections_in (drop 5 table)) _ a.1 in
    let c = passed_then (with_one_number 17 (judge_plant ed b.0.variables b.0.equations)) _ b.2 in
    let d = passed-ensure 17 _ _ c.2 in
    let g = passed-need 18 (actions_in ed b.0.actions) _ d.1 in
    let i = passed-ensure 18 _ _ g.2 in
    let k = passed-need 19 (locations_in ed b.0.locations) _ i.1 in
    let l = passed-ensure 19 _ _ k.2 in
    subst (TablePassed ed table) (accepted-is l.1) (record {
      header = a.0;
      parts = b.0;
      is_parts = b.1;
      plant = passed-only 17 _ c.1;
      switches = d.0;
      acts = g.1;
      acts_fit = i.0;
      locs = k.1;
      locs_fit = l.0;
    })
