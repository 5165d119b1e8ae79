mod OptionAdded
mod OptionCut
mod OptionDigits
mod OptionParse
mod OptionRows
mod OptionTaken
mod OptionValues
mod OptionWalk
