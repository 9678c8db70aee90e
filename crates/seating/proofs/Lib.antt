pub mod Laws
pub mod TurnLaws
pub mod Seated
pub mod Handing
pub mod Checked
pub mod Telling
pub mod Drawn
