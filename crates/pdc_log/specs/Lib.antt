-- The log of a running core: the steps of its one life, as who has the lock has them, and as its callers have seen them.
pub mod Among
pub mod Log
pub mod Rules
