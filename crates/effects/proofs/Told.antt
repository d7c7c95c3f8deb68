-- What a result tells, by what it is.
use mathlib.Core.Path.{◌≡◌, refl, sym, ap, ◌∙◌}
use mathlib.Core.Bool.{Bool, true, false}
use Rattle.std.specs.Prelude.{Result, Ok, Err, Option, Some, None}
use Rattle.std.specs.Result.{IsErrAnd}
use Rattle.semantics.proofs.Facts.{true-not-false}
use Rattle.effects.specs.PaperNumbers.{Verdict, Stay, Move}
use Rattle.effects.specs.Verdicts.{is_going_on}
use Rattle.effects.specs.Told.{untaken, told_step, told_truth, told}
use Rattle.effects.specs.declared.Mover.{Mover}
use Rattle.effects.specs.declared.Untaken.{Untaken}
use Rattle.effects.specs.declared.Untaken.TheVariants as Code

-- what `?` passes on
pub err_is : {A : Type 0} (r : Result A Untaken) (why : Untaken) → IsErrAnd r (λ w. w ≡ why) → r ≡ Err why
err_is (Ok x) why h = absurd h
err_is (Err w) why h = ap (λ w. Err w) h

-- ---- whether the event goes on
pub stops : (why : Untaken) → is_going_on (untaken why) ≡ false
unfolding is_going_on
stops (Code.Away w) = refl
stops Code.Above = refl
stops Code.Below = refl

pub step-stops : {r : Result (Unit {0}) Untaken} {why : Untaken} → r ≡ Err why → is_going_on (told_step r) ≡ false
step-stops {why = why} e = ap (λ r. is_going_on (told_step r)) e ∙ stops why

pub step-goes_on : {r : Result (Unit {0}) Untaken} {u : Unit {0}} → r ≡ Ok u → is_going_on (told_step r) ≡ true
unfolding is_going_on
step-goes_on e = ap (λ r. is_going_on (told_step r)) e

-- of a truth that may fault
pub truth-stops : (y n : Verdict) {r : Result Bool Untaken} {why : Untaken} → r ≡ Err why → is_going_on (told_truth y n r) ≡ false
truth-stops y n {why = why} e = ap (λ r. is_going_on (told_truth y n r)) e ∙ stops why

pub stay-goes_on : is_going_on Stay ≡ true
unfolding is_going_on
stay-goes_on = refl

pub stays-not : {r : Result (Unit {0}) Untaken} {why : Untaken} {A : Type 0} → r ≡ Err why → is_going_on (told_step r) ≡ true → A
stays-not e g = true-not-false (sym g ∙ step-stops e)

-- ---- an event
module _ {r : Result (Option Mover) Untaken} where
  pub told-untaken : {w v : Untaken} → r ≡ Err w → w ≡ v → told r ≡ untaken v
  told-untaken e i = ap told (e ∙ ap (λ w. Err w) i)

  pub told-stay : {o : Option Mover} → r ≡ Ok o → o ≡ None → told r ≡ Stay
  told-stay e i = ap told (e ∙ ap (λ o. Ok o) i)

  pub told-move : {o : Option Mover} {m : Mover} → r ≡ Ok o → o ≡ Some m → told r ≡ Move m.node m.outcome
  told-move e i = ap told (e ∙ ap (λ o. Ok o) i)
