pub mod LogTexts
pub mod PairText
pub mod Pieces
pub mod Places
pub mod Summary
pub mod Text
