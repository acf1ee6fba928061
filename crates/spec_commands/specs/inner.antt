pub mod Rising
pub mod Company
pub mod EditRows
pub mod ProgramRows
pub mod TalkRows
pub mod GoingRows
pub mod WalkRows
