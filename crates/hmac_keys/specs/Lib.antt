pub mod Hmac
pub mod KeyTable
