pub mod ReplaysMore
pub mod ToldLines
