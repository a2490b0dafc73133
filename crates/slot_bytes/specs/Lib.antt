pub mod Layout
pub mod Reading
pub mod Files
pub mod Views
pub mod HeadView
pub mod SlotView
