pub mod HonestServer
pub mod Same
