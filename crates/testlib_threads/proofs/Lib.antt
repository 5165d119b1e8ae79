pub mod KeptRefs
