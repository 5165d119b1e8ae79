pub mod OfSlice
