-- A variable section that 4 or 5 refuses.
use mathlib.Core.Path.{◌≡◌, refl}
use mathlib.Core.Bool.{false}
use mathlib.Core.List.{List}
use mathlib.Core.Option.{none, some}
use Prim.Native.Nat.{ℕ}
use Rattle.semantics.specs.Bytes.{every}
use Rattle.semantics.specs.Editions.{Edition}
use Rattle.semantics.specs.Refusals.{refused, need, ensure, ◌>>=◌, ◌>>◌}
use Rattle.semantics.specs.Sections.{Variable, variables_in}
use Rattle.semantics.specs.Plant.{ordered, judge_variables}

pub refused-4 : (ed : Edition) (s : List ℕ) → variables_in ed s ≡ none → judge_variables ed s ≡ refused 4
unfolding judge_variables need ◌>>=◌
refused-4 ed s h = rw h refl

pub refused-5 : (ed : Edition) (s : List ℕ) {vs : List Variable} → variables_in ed s ≡ some vs → every ordered vs ≡ false → judge_variables ed s ≡ refused 5
unfolding judge_variables need ensure ◌>>=◌ ◌>>◌
refused-5 ed s h o = rw (h, o) refl
