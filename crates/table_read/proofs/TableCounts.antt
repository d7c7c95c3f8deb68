-- The counts that the call returns.
use mathlib.Core.Path.{◌≡◌, refl, sym, ap, ◌∙◌}
use mathlib.Core.List.{List}
use Prim.Native.Nat.{ℕ}
use Rattle.std.specs.Prelude.{Result, Ok, Err}
use Rattle.std.specs.Result.{IsErrAnd}
use Rattle.semantics.specs.Editions.{Edition}
use Rattle.semantics.specs.Refusals.{refused, accepted}
use Rattle.semantics.specs.Tables.{Table, judge_table}
use Rattle.semantics.specs.Calls as Calls
use Rattle.semantics.specs.Calls.{table_counts_of, read_table_of}
use Rattle.paper.specs.Refusals.{number_of, answered}
use Rattle.paper.specs.declared.refusals.Refusal.{Refusal}
use Rattle.paper.proofs.Answered.{was-refused, was-accepted}
use Rattle.plant.specs.PlantRead.{accepted_plant}
use Rattle.table_read.specs.declared.call.TableIndex.{TableIndex}
use Rattle.table_read.specs.declared.call.TableRead.{TableRead}
use Rattle.table_read.specs.ActionIndex.{action_index}
use Rattle.table_read.specs.LocationIndex.{location_index}
use Rattle.table_read.specs.TableIndex.{told, index_of, table_index}

abbrev counts_from : TableIndex → Calls.TableRead
counts_from x = record { refusal = 0; variables = x.plant.variables; selectors = x.plant.selectors; actions = x.actions.count; locations = x.locations.count }

module _ (ed : Edition) (t : List ℕ) where
  pub no-counts : (r : Result TableRead Refusal) (why : Refusal) → IsErrAnd r (λ w. w ≡ why) → refused (number_of why) ≡ answered (table_index ed t) (judge_table ed t) → told r ≡ read_table_of ed t
  unfolding told read_table_of table_counts_of
  no-counts (Ok x) why is h = absurd is
  no-counts (Err w) why is h = rw is (sym (ap table_counts_of (was-refused (table_index ed t) _ h)))

  counts-of : (tb : Table) → counts_from (table_index ed t tb) ≡ table_counts_of (accepted tb)
  unfolding table_counts_of table_index index_of accepted_plant action_index location_index
  counts-of tb = refl

  pub counts-are : {x : TableIndex} → accepted x ≡ answered (table_index ed t) (judge_table ed t) →
      told (Ok (record { variables = x.plant.variables; selectors = x.plant.selectors; actions = x.actions.count; locations = x.locations.count })) ≡ read_table_of ed t
  unfolding told read_table_of
  counts-are h = let a = was-accepted (table_index ed t) _ h in ap counts_from a.is ∙ counts-of a.value ∙ sym (ap table_counts_of a.judged)
