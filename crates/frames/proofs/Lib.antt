mod Rings
mod Requests
mod OneBell
mod Piles
mod Soonest
mod Queues
mod Gaps
pub mod Governing
mod CallByCall
