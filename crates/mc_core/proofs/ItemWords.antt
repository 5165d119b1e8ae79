pub mod WholeItems
pub mod ShownItems
pub mod Numbers
pub mod RescuedSteps
pub mod WordsStay
pub mod Codes
