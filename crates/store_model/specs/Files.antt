-- Which file holds each object, and which file a call concerns.
use Rattle.std.specs.Prelude.{◌≢◌, ℕ, Bool, true, false, not, ◌&&◌, ◌||◌, nat_lt, if◌then◌else◌, length, Option, Some, None}
use Rattle.std.specs.Option.{option_map, option_and_then}
use Rattle.std.specs.Ordering.{is_eq}
use Rattle.tee_types.specs.declared.call.Call.{Call}
use Rattle.tee_types.specs.declared.call.Call.TheVariants.{Create, Open, Close, Read, Write, Truncate, Seek, Rename, Delete, Info, EnumNew, EnumStart, EnumNext, EnumReset, EnumFree}
use Rattle.tee_types.specs.declared.reply.Reply.{Reply}
use Rattle.tee_types.specs.declared.reply.Reply.TheVariants.{Misuse, Corrupt}
use Rattle.store_model.specs.declared.name.ObjectName.{ObjectName}
use Rattle.store_model.specs.Name.{name_cmp}
use Rattle.store_model.specs.Machine.{MachineState, session_at, handle_at, name_in}
use Rattle.store_model.specs.Calls.{is_handle}

-- the file of each object, where it has one
abbrev pub FileMap : Type 0
FileMap = ObjectName → Option ℕ

-- no object has that file
abbrev pub IsFree : FileMap → ℕ → Type 0
IsFree files file = (name : ObjectName) → files name ≢ Some file

-- the object of that name has that file, or none
abbrev pub with_file : FileMap → ObjectName → Option ℕ → FileMap
with_file files name file = λ n. if is_eq (name_cmp name n) then file else files n

-- the object of one name has another
abbrev pub moved_file : FileMap → ObjectName → ObjectName → FileMap
moved_file files old new = with_file (with_file files old None) new (files old)

-- the name of the object for which the session's handle stands
abbrev pub name_by : MachineState → ℕ → ℕ → Option ObjectName
name_by s i number = option_map (λ handle. handle.name) (handle_at (session_at s i) number)

-- the object that a call names, by its identifier or by a handle
abbrev pub object_named : MachineState → ℕ → Call → Option ObjectName
object_named s i (Create id flags attributes bytes) = Some (name_in s i id)
object_named s i (Open id flags) = Some (name_in s i id)
object_named s i (Close handle) = name_by s i handle
object_named s i (Read handle size) = name_by s i handle
object_named s i (Write handle bytes) = name_by s i handle
object_named s i (Truncate handle size) = name_by s i handle
object_named s i (Seek handle offset whence) = name_by s i handle
object_named s i (Rename handle id) = name_by s i handle
object_named s i (Delete handle) = name_by s i handle
object_named s i (Info handle) = name_by s i handle
object_named s i EnumNew = None
object_named s i (EnumStart number) = None
object_named s i (EnumNext number) = None
object_named s i (EnumReset number) = None
object_named s i (EnumFree number) = None

-- the file of that object
abbrev pub file_named : FileMap → MachineState → ℕ → Call → Option ℕ
file_named files s i call = option_and_then files (object_named s i call)

abbrev pub moved_by : FileMap → Option ObjectName → ObjectName → FileMap
moved_by files None new = files
moved_by files (Some old) new = moved_file files old new

abbrev pub without_file : FileMap → Option ObjectName → FileMap
without_file files None = files
without_file files (Some name) = with_file files name None

-- The files after a call's commit, on the object in that file: a create puts its object there, a rename takes the file along, and a
-- delete leaves it.
abbrev pub files_after : FileMap → MachineState → ℕ → Call → Option ℕ → FileMap
files_after files s i (Create id flags attributes bytes) file = with_file files (name_in s i id) file
files_after files s i (Rename handle id) file = moved_by files (name_by s i handle) (name_in s i id)
files_after files s i (Delete handle) file = without_file files (name_by s i handle)
files_after files s i _ file = files

-- the call makes an object, where the machine answers it so
abbrev pub makes_object : Call → Reply → Bool
makes_object (Create id flags attributes bytes) meant = is_handle meant
makes_object _ meant = false

abbrev pub is_misuse : Reply → Bool
is_misuse (Misuse reason) = true
is_misuse _ = false

abbrev pub is_corrupt : Reply → Bool
is_corrupt Corrupt = true
is_corrupt _ = false

-- what the machine answers to the call depends on what the object's file holds
abbrev pub reads_file : Call → Reply → Bool
reads_file (Open id flags) meant = is_handle meant || is_corrupt meant
reads_file (Read handle size) meant = not (is_misuse meant)
reads_file (Write handle bytes) meant = not (is_misuse meant) && nat_lt 0 (length bytes)
reads_file (Truncate handle size) meant = not (is_misuse meant)
reads_file (Info handle) meant = not (is_misuse meant)
reads_file _ meant = false
