-- 20 to 22 taken apart: what an admitted run has passed, and nothing else.
use mathlib.Core.Path.{◌≡◌, subst, ◌∙◌}
use mathlib.Core.Bool.{true}
use mathlib.Core.List.{List}
use mathlib.Core.Option.{some}
use Prim.Native.Nat.{ℕ}
use Rattle.semantics.specs.Editions.{Edition}
use Rattle.semantics.specs.Refusals.{accepted}
use Rattle.semantics.specs.Plant.{Plant}
use Rattle.semantics.specs.Starts.{Start, start_in, fits_start}
use Rattle.semantics.specs.Calls.{whole_events, room_for_records, judge_start, judge_admission}
use Rattle.semantics.proofs.Judging.{accepted-is, passed_then, passed-need, passed-ensure, go-then, go-need, go-ensure}

-- 20
pub record Starts (p : Plant) (start : List ℕ) (st : Start) : Type 0 where
  pub is_read : start_in p start ≡ some st
  pub fits : fits_start p st ≡ true

pub start-passed : (p : Plant) (start : List ℕ) {st : Start} → judge_start p start ≡ accepted st → Starts p start st
unfolding judge_start
start-passed p start h =
    let a = passed-need 20 (start_in p start) _ h in
    let b = passed-ensure 20 _ _ a.2 in
    subst (Starts p start) (accepted-is b.1) (record { is_read = a.1; fits = b.0 })

pub start-judged : (p : Plant) (start : List ℕ) {st : Start} → Starts p start st → judge_start p start ≡ accepted st
unfolding judge_start
start-judged p start s = go-need 20 _ s.is_read ∙ go-ensure 20 _ s.fits

-- 20 to 22
module _ (ed : Edition) (p : Plant) (start events buffer : List ℕ) where
  pub record Admits (st : Start) : Type 0 where
    pub starts : Starts p start st
    pub whole : whole_events ed.event_bytes events ≡ true
    pub room : room_for_records ed p events buffer ≡ true

  pub admission-passed : {st : Start} → judge_admission ed p start events buffer ≡ accepted st → Admits st
  unfolding judge_admission
  admission-passed h =
      let a = passed_then (judge_start p start) _ h in
      let b = passed-ensure 21 _ _ a.2 in
      let c = passed-ensure 22 _ _ b.1 in
      subst Admits (accepted-is c.1) (record { starts = start-passed p start a.1; whole = b.0; room = c.0 })

  pub admission-judged : {st : Start} → Admits st → judge_admission ed p start events buffer ≡ accepted st
  unfolding judge_admission
  admission-judged a = go-then _ (start-judged p start a.starts) ∙ go-ensure 21 _ a.whole ∙ go-ensure 22 _ a.room
