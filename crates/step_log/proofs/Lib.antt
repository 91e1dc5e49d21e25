mod DigitValues
mod FieldReads
mod FirstPlace
mod HexDigits
pub mod Laws
mod Lines
mod Meanings
mod Numbers
mod Printed
mod Quick
mod Splits
mod Texts
