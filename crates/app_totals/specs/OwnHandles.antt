-- Handles are on objects of the application that has them.
use Rattle.std.specs.Prelude.{◌≡◌, ℕ}
use Rattle.std.specs.List.{AllByRecursion}
use Rattle.store_model.specs.declared.session.Handle.{Handle}
use Rattle.store_model.specs.Machine.{Session, MachineState, applications}

-- each live handle of a session is on an object of its own application
abbrev pub HasOwnHandles : Session → Type 0
HasOwnHandles session = AllByRecursion (λ (handle : ℕ × Handle). (handle.1).name.app ≡ session.application) session.handles

-- so is each of each session
abbrev pub HaveOwnHandles : MachineState → Type 0
HaveOwnHandles s = AllByRecursion HasOwnHandles s.sessions

-- The second state has the sessions of the same applications, and their handles are on objects of their own.
pub record KeepsOwnHandles (s t : MachineState) : Type 0 where
  pub handles : HaveOwnHandles t
  pub same : applications t.sessions ≡ applications s.sessions
