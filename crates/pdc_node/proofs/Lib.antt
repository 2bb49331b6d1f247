mod Answers
mod Lives
mod Passed
