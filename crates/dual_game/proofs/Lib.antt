mod Alike
pub mod Avoiding
pub mod Counted
mod Decided
mod FullTree
mod Grouped
mod InOrder
mod Lifting
mod MadeRows
mod Meeting
pub mod OneAutomaton
mod OneForm
pub mod OneList
pub mod OneWhole
pub mod OneWinner
mod Places
mod Reached
pub mod SameGames
mod SameMachine
mod Shadow
mod Shared
pub mod Tried
mod Valuations
mod Weaker
mod WholeGame
