pub mod Blank
pub mod Body
pub mod Command
pub mod Path
pub mod Place
pub mod MailBodyView
pub mod Verb
