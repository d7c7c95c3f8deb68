-- What `?` passes on of a refusal.
use mathlib.Core.Path.{◌≡◌}
use Rattle.std.specs.Prelude.{Result, Ok, Err}
use Rattle.std.specs.Result.{IsErrAnd}
use Rattle.semantics.specs.Refusals.{Judged, refused}
use Rattle.paper.specs.declared.refusals.Refusal.{Refusal}
use Rattle.paper.specs.Refusals.{number_of, judged_of, answered}
use Rattle.paper.proofs.Answered.{refuses-with}

pub passed_on : {A B : Type 0} (f : A → B) (r : Result B Refusal) (why : Refusal) {j : Judged A} → IsErrAnd r (λ w. w ≡ why) → j ≡ refused (number_of why) → judged_of r ≡ answered f j
passed_on f (Ok x) why is e = absurd is
passed_on f (Err w) why is e = rw is (refuses-with f e)
