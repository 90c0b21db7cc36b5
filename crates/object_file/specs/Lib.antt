pub mod Value
pub mod Held
pub mod Loading
pub mod Making
pub mod Corrupt
pub mod Changes
pub use Rattle.crash_core.specs.DeviceKeys
pub use Rattle.crash_core.specs.MountedObject
