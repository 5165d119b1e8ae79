mod Digits
pub mod FirstLine
mod FirstParts
mod FewWords
mod FirstWord
mod Plain
mod Told
mod Valid
mod Written
