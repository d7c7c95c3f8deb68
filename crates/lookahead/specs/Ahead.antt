-- The answers to three events at the start of a run of a table.
use Rattle.std.specs.Prelude.{List, ℕ}
use Rattle.semantics.specs.Editions.{Edition}
use Rattle.semantics.specs.Refusals.{Judged, accepted, ◌>>=◌}
use Rattle.semantics.specs.Starts.{Start}
use Rattle.semantics.specs.Run.{Situation, Answered, at, step_on}
use Rattle.semantics.specs.Tables.{Table, judge_table, table_control}
use Rattle.semantics.specs.Calls.{judge_start}
use Rattle.paper.specs.Answers.{answer_number}
use Rattle.event.specs.Decoded.{event_of}
use Rattle.event.specs.declared.Event.{Event}
use Rattle.lookahead.specs.declared.Answers.{Answers}

-- one event of a run of the table
abbrev pub step_of_table : Edition → Table → Situation ℕ → Event → Answered ℕ
step_of_table ed t s e = step_on ed t.plant (table_control t) s (event_of e)

-- three answers
pub record Three : Type 0 where
  pub first : ℕ
  pub second : ℕ
  pub third : ℕ

-- those of the code, by their numbers
abbrev pub numbers_of : Answers → Three
numbers_of r = record { first = answer_number r.first; second = answer_number r.second; third = answer_number r.third }

-- each event on the situation that the one before left
unfoldable pub answers_from : Edition → Table → Start → Event → Event → Event → Three
answers_from ed t st a b c =
    let x = step_of_table ed t (at (table_control t).start st.values st.modes) a in
    let y = step_of_table ed t x.left b in
    let z = step_of_table ed t y.left c in
    record { first = x.answer; second = y.answer; third = z.answer }

-- 15 to 19, then 20, then the events
unfoldable pub three_answers : Edition → (table start : List ℕ) → Event → Event → Event → Judged Three
three_answers ed table start a b c = do
  t ← judge_table ed table
  st ← judge_start t.plant start
  accepted (answers_from ed t st a b c)
