pub mod Computes
-- papers
pub mod Papers
pub mod ActingOrder
pub mod Traps
pub mod SidePapers
pub mod AcceptedKinds
pub mod CasePaper
pub mod SeniorPapers
-- trees and residuals
pub mod TreeShapes
pub mod OneTree
pub mod ReadShapes
pub mod ActingDetermines
pub mod ResidualsKept
pub mod MovesFit
pub mod MovesByRule
-- numbering
pub mod Places
pub mod Numbered
pub mod Reached
pub mod Comparing
-- calls
pub mod FirstNumber
-- the table of a schedule
pub mod NodesRead
pub mod ActionDone
pub mod ActionsListed
pub mod NodeActions
pub mod TableAgrees
pub mod ScheduleSound
pub mod TableAccepted
pub mod RowsHold
pub mod Agreement
pub mod Demand2
pub mod FileEditions
pub mod Cuts
pub mod FirstArrivals
pub mod NodesDo
pub mod CallsHold
pub mod ComparisonNumbers
pub mod WrittenBytes
pub mod RunRecords
pub mod RuleLists
-- the number of locations, and the order of a PARALLEL's children
pub mod ByPencil
pub mod Counting
pub mod Reachable
pub mod Reaching
pub mod LocationCount
pub mod TableLength
pub mod ActionLength
pub mod SizeCall
pub mod PreorderSizes
pub mod ReorderedTrees
pub mod AnyOrder
pub mod BranchOrder
pub mod AlikeTrees
pub mod SwappedNumbers
pub mod TreeStack
pub mod SwappedTrees
pub mod LikeResiduals
pub mod AlikeMoves
pub mod ReorderedRuns
pub mod ReorderedCalls
pub mod BorderPapers
-- bytes read just where they are a written form
pub mod FileForms
pub mod FilesProper
pub mod FileSentences
pub mod EveryStart
-- examining
pub mod SameRuns
pub mod ExamHolds
pub mod WritingPapers
pub mod ExchangedBytes
-- RESET and REINITIAL
pub mod ExchangedKinds
pub mod Number34
-- order of independent branches
pub mod NodesApart
pub mod ActingApart
pub mod MovesCommute
pub mod IndependentOrder
pub mod IndependentPicks
pub mod IndependentRecords
pub mod IndependenceTold
pub mod ReachedTold
pub mod IndependentRules
pub mod BranchPapers
