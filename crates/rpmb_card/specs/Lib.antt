pub mod Protocol
pub mod EmptyFrame
pub mod Card
pub mod Arms
pub mod Port
pub mod SimPort
