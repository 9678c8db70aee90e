pub mod RoleLaws
pub mod Meets
