-- What an answer of `judge` tells its caller.
use mathlib.Core.Path.{◌≡◌, refl, sym, ap, ◌∙◌}
use mathlib.Core.Bool.{Bool}
use mathlib.Core.List.{List, []}
use Prim.Native.Nat.{ℕ}
use native.Mathlib.Omega.{arith}
use lib.IntN.{ℤ}
use Rattle.semantics.specs.Editions.{Edition}
use Rattle.semantics.specs.Expressions.{above, below}
use Rattle.semantics.specs.Run as Run
use Rattle.semantics.specs.Run.{stop, finished, away, faulty, pass, nobody, mover, Done, Control, Answered, at, turned_away_by, settle, set_number, acting_set, record_bytes, record_of}
use Rattle.nodeset.specs.Sets.{members}
use Rattle.effects.specs.Verdicts.{judged_as, NeverIdle, Left}
use Rattle.effects.specs.PaperNumbers.{Verdict, Away, Above, Below, Stay, Move}

-- the event is not taken: values and modes are as they were
pub record Untaken (j v : Run.Verdict Done) (vs : List ℤ) (ms : List ℕ) (vs' : List ℤ) (ms' : List ℕ) : Type 0 where
  pub judged : j ≡ v
  pub values : vs' ≡ vs
  pub modes : ms' ≡ ms

-- a run of one place, to read what an event leaves
abbrev placed : Control ℕ
placed = record { start = 0; acting = λ x. []; action = λ n. stop; next = λ x n b. finished }

leading : NeverIdle placed
leading x n b e = let z : ◌≡◌ {A = ℕ} 0 1 = cc in omega arith

module _ (j : Run.Verdict Done) (vs : List ℤ) (ms : List ℕ) (vs' : List ℤ) (ms' : List ℕ) {r : Verdict} (l : Left j vs ms r vs' ms') where
  heard : {v : Verdict} → r ≡ v → j ≡ judged_as v vs' ms'
  heard e = l.judged ∙ ap (λ v. judged_as v vs' ms') e

  untaken : {v : Run.Verdict Done} → j ≡ v → (settle placed 0 (at 0 vs ms) v).left.values ≡ vs → (settle placed 0 (at 0 vs ms) v).left.modes ≡ ms → Untaken j v vs ms vs' ms'
  untaken e f g = record {
    judged = e;
    values = sym (l.values placed leading 0) ∙ ap (λ v. (settle placed 0 (at 0 vs ms) v).left.values) e ∙ f;
    modes = sym (l.modes placed leading 0) ∙ ap (λ v. (settle placed 0 (at 0 vs ms) v).left.modes) e ∙ g;
  }

  -- by the answer
  pub heard-away : {n : ℕ} → r ≡ Away n → Untaken j (away n) vs ms vs' ms'
  unfolding judged_as settle turned_away_by
  heard-away e = untaken (heard e) refl refl

  pub heard-above : r ≡ Above → Untaken j (faulty above) vs ms vs' ms'
  unfolding judged_as settle
  heard-above e = untaken (heard e) refl refl

  pub heard-below : r ≡ Below → Untaken j (faulty below) vs ms vs' ms'
  unfolding judged_as settle
  heard-below e = untaken (heard e) refl refl

  pub heard-stay : r ≡ Stay → j ≡ pass (record { moved = nobody; values = vs'; modes = ms' })
  unfolding judged_as
  heard-stay e = heard e

  pub heard-move : {n : ℕ} {b : Bool} → r ≡ Move n b → j ≡ pass (record { moved = mover n b; values = vs'; modes = ms' })
  unfolding judged_as
  heard-move e = heard e

-- what `put_record` writes is the record, where the set is that of the acting nodes
pub record_is : {S : Type 0} (ed : Edition) (c : Control S) (o : Answered S) (ws : List ℕ) → acting_set c o.left.place ≡ set_number (members ws) → record_bytes ed o.answer (set_number (members ws)) o.left.values o.left.modes ≡ record_of ed c o
unfolding record_of
record_is ed c o ws e = ap (λ n. record_bytes ed o.answer n o.left.values o.left.modes) (sym e)
