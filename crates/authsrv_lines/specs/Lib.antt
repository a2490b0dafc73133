pub mod Command
pub mod Fault
pub mod Number
pub mod Reply
pub mod ReplyReading
pub mod Request
pub mod RequestLine
pub mod Words
