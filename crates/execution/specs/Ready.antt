-- What a runner promises of what it lends for one event.
use Rattle.std.specs.Prelude.{◌≡◌, true, List, ℕ, ℤ, length}
use Rattle.semantics.specs.Editions.{Edition}
use Rattle.semantics.specs.Plant.{Plant, selectors}
use Rattle.semantics.specs.Starts.{modes_fit}
use Rattle.semantics.specs.Run.{Action, judge}
use Rattle.nodeset.specs.Sets.{mem, members, Words}
use Rattle.program.specs.Lent.{Lent, PlantLent, NodeLent}
use Rattle.event.specs.Decoded.{event_of}
use Rattle.event.specs.declared.Event.{Event}
use Rattle.effects.specs.Verdicts.{Left}
use Rattle.effects.specs.PaperNumbers.{Verdict}

-- a value for each variable, and an existing mode for each selector
pub record Fits (p : Plant) (vs : List ℤ) (ms : List ℕ) : Type 0 where
  pub values : length vs ≡ length p.variables
  pub modes : length ms ≡ length (selectors p)
  pub exist : modes_fit (selectors p) ms ≡ true

-- acting is the set of the nodes that act
pub record Ready (ed : Edition) (p : Plant) (action : ℕ → Action) (l : Lent) (acting : List ℕ) (vs : List ℤ) (ms : List ℕ) : Type 0 where
  pub plant : PlantLent p l
  pub words : Words acting
  pub nodes : (n : ℕ) → mem acting n ≡ true → NodeLent ed p (action n) l n
  pub fits : Fits p vs ms

-- there are such a plant and such actions
pub record Promised (ed : Edition) (l : Lent) (acting : List ℕ) (vs : List ℤ) (ms : List ℕ) : Type 0 where
  pub plant : Plant
  pub action : ℕ → Action
  pub ready : Ready ed plant action l acting vs ms

-- what an event makes of values and modes, whatever plant and actions are lent so
abbrev pub Judges : Edition → Lent → List ℕ → Event → List ℤ → List ℕ → Verdict → List ℤ → List ℕ → Type 0
Judges ed l acting e vs ms r vs' ms' = (p : Plant) (f : ℕ → Action) → Ready ed p f l acting vs ms → Left (judge ed p f (members acting) vs ms (event_of e)) vs ms r vs' ms'
