-- What the claims say of a run that is taken on, by the rules or by a table.
use Rattle.std.specs.Prelude.{◌≡◌, ℕ}
use mathlib.Core.List.{List, flat_map}
use Rattle.std.proofs.Math.Option.{some}
use Rattle.semantics.specs.Bytes.{overwrite}
use Rattle.semantics.specs.Editions.{Edition}
use Rattle.semantics.specs.Plant.{Plant}
use Rattle.semantics.specs.Starts.{Start, start_in}
use Rattle.semantics.specs.Run.{Control, Answered, at, record_of, answers_in, counts_from}
use Rattle.semantics.specs.Rules.{Derives}
use Rattle.semantics.specs.Records.{AtFront}
use Rattle.semantics.specs.Counting.{Counted}
use Rattle.semantics.specs.Calls.{Ran, events_of}

-- what a run that is taken on returns: what the rules derive from the start, event by event, and nothing else
pub record RunHolds {S : Type 0} (ed : Edition) (p : Plant) (c : Control S) (start events buffer : List ℕ) (r : Ran) : Type 0 where
  pub st : Start
  pub start_read : start_in p start ≡ some st
  pub said : List (Answered S)
  pub derived : Derives ed p c (at c.start st.values st.modes) (events_of ed events) said
  pub result : r ≡ record {
    refusal = 0;
    counts = counts_from (answers_in said);
    records = overwrite (flat_map (record_of ed c) said) buffer;
  }
  -- the same of the records and the counts without `overwrite`, `counts_from` and their tests
  pub written : AtFront (flat_map (record_of ed c) said) buffer r.records
  pub counted : Counted (answers_in said) r.counts.taken r.counts.turned_away r.counts.faulted
