-- nodes
mod NodeForms
pub mod NodeIndex
pub mod NodeKinds
-- the tree
pub mod ChildCounts
mod LaidSteps
mod WalkSteps
pub mod WholeTree
pub mod LaidTree
pub mod OneAnswer
