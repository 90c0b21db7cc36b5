-- What a Rename and a Delete found at the gate.
use Rattle.std.specs.Prelude.{List, None, ℕ}
use Rattle.serial_calls.specs.CallerSessions.{CallerSession}
use Rattle.call_rules.specs.Objects.{IsRightful}
use Rattle.call_rules.specs.declared.decision.OpenObject.{OpenObject}
use Rattle.dir_index.specs.Index.{named}
use Rattle.serial_calls.specs.NameLaws.{IsDoneByRule}
use Rattle.serial_calls.specs.Gates.{GateValue}
use Rattle.dir_index.specs.EntryNames.{IsEntryNamed}
use Rattle.tee_types.specs.Rights.{write_meta_bit}
use Rattle.tee_types.specs.declared.call.Call.TheVariants.{Delete, Rename}

-- The handle has the right, the machine renames its object, and no object of the session's application has the new identifier.
pub record MayRename {F R E : Type 0} (gate : GateValue F R) (session : CallerSession E) (handle : ℕ) (id : List ℕ) (found : OpenObject) : Type 0 where
  pub rightful : IsRightful gate.dir.dir.entries session.state handle write_meta_bit found
  pub renames : IsDoneByRule gate session found (Rename handle id)
  pub unnamed : IsEntryNamed gate.dir.dir.entries (named session.state.application id) None

-- The handle has the right, and the machine deletes its object.
pub record MayDelete {F R E : Type 0} (gate : GateValue F R) (session : CallerSession E) (handle : ℕ) (found : OpenObject) : Type 0 where
  pub rightful : IsRightful gate.dir.dir.entries session.state handle write_meta_bit found
  pub deletes : IsDoneByRule gate session found (Delete handle)
