mod InForce
mod Heard
mod Placed
mod ByLayout
mod Claims
mod Lives
mod Passed
mod Worked
