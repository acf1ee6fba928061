pub mod RightRows
pub mod CommandRows
pub mod PrimRows
pub mod SendRows
pub mod EventRows
pub mod EditorRows
pub mod QueueRows
