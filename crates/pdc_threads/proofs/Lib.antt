mod Counting
mod Endings
mod Headlines
mod Meetings
mod Outcomes
