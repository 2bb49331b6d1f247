-- What a run does.
pub mod Aligning
pub mod Conducted
pub mod Counted
pub mod Crew
pub mod Ended
pub mod Headline
pub mod OneRun
pub mod Opened
pub mod Ran
pub mod Rate
pub mod Run
pub mod Served
pub mod Shares
pub mod Wanted
