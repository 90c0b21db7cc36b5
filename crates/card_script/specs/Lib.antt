pub mod CardLines
pub mod CardScripts
pub mod CardText
pub mod CardLaws
