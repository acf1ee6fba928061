pub mod Inside
pub mod Contents
