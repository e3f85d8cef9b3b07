pub mod StoreState
pub mod Stands
pub mod Staging
pub mod Retained
pub mod Noted
pub mod Forgotten
pub mod StagingLaws
pub mod Watching
