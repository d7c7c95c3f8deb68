-- actions
pub mod ActionForms
-- the call
pub mod Indexes
pub mod Planning
pub mod Written
pub mod CallStages
-- the size of a schedule
pub mod SizeStages
