-- Document 01, "When a file, table or event is turned away": "A call returns the first that applies."
use Rattle.std.specs.Prelude.{ℕ, Result, Ok, Err}
use Rattle.semantics.specs.Refusals.{Judged, refused, accepted}
use Rattle.paper.specs.declared.refusals.Refusal.{Refusal}
use Rattle.paper.specs.declared.refusals.Refusal.TheVariants.{Header, FileLength, FileSections, VariableLayout, ValueOrder, EquationLayout, EquationName, DrivenTwice}
use Rattle.paper.specs.declared.refusals.Refusal.TheVariants.{NodeLayout, NoTree, NodeName, Parting, Expression, Locations, TableRoom}
use Rattle.paper.specs.declared.refusals.Refusal.TheVariants.{TableHeader, TableSections, TablePlant, TableActions, TableLocations}
use Rattle.paper.specs.declared.refusals.Refusal.TheVariants.{Start, EventLength, RecordRoom, EventCount, EventRoom}

-- the number of a refusal in the printed list
abbrev pub number_of : Refusal → ℕ
number_of Header = 1
number_of FileLength = 2
number_of FileSections = 3
number_of VariableLayout = 4
number_of ValueOrder = 5
number_of EquationLayout = 6
number_of EquationName = 7
number_of DrivenTwice = 8
number_of NodeLayout = 9
number_of NoTree = 10
number_of NodeName = 11
number_of Parting = 34
number_of Expression = 12
number_of Locations = 13
number_of TableRoom = 14
number_of TableHeader = 15
number_of TableSections = 16
number_of TablePlant = 17
number_of TableActions = 18
number_of TableLocations = 19
number_of Start = 20
number_of EventLength = 21
number_of RecordRoom = 22
number_of EventCount = 32
number_of EventRoom = 33

-- what a call answers, as what is judged
abbrev pub judged_of : {A : Type 0} → Result A Refusal → Judged A
judged_of (Ok a) = accepted a
judged_of (Err why) = refused (number_of why)

-- what is judged, with what the code has of it in its place
abbrev pub answered : {A B : Type 0} → (A → B) → Judged A → Judged B
answered f (refused n) = refused n
answered f (accepted a) = accepted (f a)
