pub mod ChoiceLaws
pub mod CloseLaws
pub mod CubeLaws
pub mod PathLaws
pub mod ProductLaws
pub mod RunLaws
pub mod TableLaws
