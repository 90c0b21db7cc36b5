-- A create that the rules of calls let pass.
use Rattle.std.specs.Prelude.{List, [], Option, false, length, true, ℕ, ◌≡◌, ◌≤◌}
use Rattle.call_rules.specs.Matches.{Matches}
use Rattle.call_rules.specs.Places.{IsNewPlace}
use Rattle.call_rules.specs.declared.decision.NewPlace.{NewPlace}
use Rattle.call_steps.specs.Index.{named}
use Rattle.dir_records.specs.declared.entry.DirEntry.{DirEntry}
use Rattle.open_table.specs.Table.{TableState}
use Rattle.store_model.specs.Calls.{reply_of}
use Rattle.store_model.specs.Files.{makes_object}
use Rattle.store_model.specs.Machine.{MachineState, Session, has_all_handles}
use Rattle.tee_types.specs.Limits.{most_attribute_bytes, most_data_bytes}
use Rattle.tee_types.specs.declared.call.Call.{Call}
use Rattle.tee_types.specs.declared.call.Call.TheVariants.{Create}
use Rattle.tee_types.specs.declared.flags.Flags.{Flags}
use Rattle.tee_types.specs.declared.reply.Reply.TheVariants.{Handle}

-- what a create asks for: the object's identifier, its attributes and its data, and the flags
pub record NewObject : Type 0 where
  pub id : List ℕ
  pub flags : Flags
  pub attributes : List ℕ
  pub bytes : List ℕ

abbrev pub create_call : NewObject → Call
create_call new = Create new.id new.flags new.attributes new.bytes

-- what that create asks for; of any other call, nothing
abbrev pub new_object : Call → NewObject
new_object (Create id flags attributes bytes) = record { id = id; flags = flags; attributes = attributes; bytes = bytes }
new_object _ = record { id = []; flags = record { bits = 0 }; attributes = []; bytes = [] }

abbrev pub IsCreate : Call → Type 0
IsCreate (Create id flags attributes bytes) = Unit {0}
IsCreate _ = ⊥

-- the machine makes an object by the call, as far as directory, open handles and session tell
abbrev pub MakesByRule : List (Option DirEntry) → TableState → Session → Call → Type 0
MakesByRule entries table session call =
    (s : MachineState) (i : ℕ) → Matches entries table session s i → makes_object call (reply_of s i call) ≡ true

-- The rules let the create pass: the machine gives the session's next handle, and that is the place of the entry. The session may be given a
-- handle more, and attributes and data are few enough.
pub record MayCreate (entries : List (Option DirEntry)) (table : TableState) (session : Session) (new : NewObject) (place : NewPlace) : Type 0 where
  pub rule : (s : MachineState) (i : ℕ) → Matches entries table session s i → reply_of s i (create_call new) ≡ Handle session.next_handle
  pub place_is : IsNewPlace entries (named session.application new.id) place
  pub handles : has_all_handles session ≡ false
  pub short : length new.attributes ≤ most_attribute_bytes
  pub few : length new.bytes ≤ most_data_bytes
