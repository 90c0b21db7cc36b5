-- The store on one thread: its objects, its state, and what a call answers and leaves there. Each word is the specification's.
pub use Rattle.store_model.specs.Object.{Object, ObjectMap}
pub use Rattle.store_model.specs.Machine.{MachineState}
pub use Rattle.store_model.specs.Calls.{is_commit, reply_of, state_after}
