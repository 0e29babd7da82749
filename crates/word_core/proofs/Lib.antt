pub mod BitLaws
pub mod CubeHalves
pub mod GapHalves
pub mod LassoLetters
pub mod StateLists
pub mod TreeLabels
