-- What the store answers to each call, and which calls change its objects.
use Rattle.std.specs.Prelude.{ℕ, ◌==◌, Bool, true, false, not, ◌&&◌, length, nat_lt, Option, Some, None}
use Rattle.tee_types.specs.declared.call.Call.{Call}
use Rattle.tee_types.specs.declared.call.Call.TheVariants.{Create, Open, Close, Read, Write, Truncate, Seek, Rename, Delete, Info, EnumNew, EnumStart, EnumNext, EnumReset, EnumFree}
use Rattle.tee_types.specs.declared.reply.Reply.{Reply}
use Rattle.tee_types.specs.declared.reply.Reply.TheVariants.{Done, Handle as HandleReply}
use Rattle.store_model.specs.declared.session.Handle.{Handle}
use Rattle.store_model.specs.Object.{ObjectMap, size_at}
use Rattle.store_model.specs.Machine.{MachineState, Outcome, session_at, handle_at}
use Rattle.store_model.specs.Handles.{create_of, open_of, close_of}
use Rattle.store_model.specs.Data.{read_of, write_of, truncate_of, seek_of, info_of}
use Rattle.store_model.specs.Naming.{rename_of, delete_of}
use Rattle.store_model.specs.Enumerating.{enum_new_of, enum_start_of, enum_next_of, enum_reset_of, enum_free_of}

-- What the store answers to a call of session i, and the state that it leaves.
abbrev pub outcome_of : MachineState → ℕ → Call → Outcome
outcome_of s i (Create id flags attributes bytes) = create_of s i id flags attributes bytes
outcome_of s i (Open id flags) = open_of s i id flags
outcome_of s i (Close handle) = close_of s i handle
outcome_of s i (Read handle size) = read_of s i handle size
outcome_of s i (Write handle bytes) = write_of s i handle bytes
outcome_of s i (Truncate handle size) = truncate_of s i handle size
outcome_of s i (Seek handle offset whence) = seek_of s i handle offset whence
outcome_of s i (Rename handle id) = rename_of s i handle id
outcome_of s i (Delete handle) = delete_of s i handle
outcome_of s i (Info handle) = info_of s i handle
outcome_of s i EnumNew = enum_new_of s i
outcome_of s i (EnumStart number) = enum_start_of s i number
outcome_of s i (EnumNext number) = enum_next_of s i number
outcome_of s i (EnumReset number) = enum_reset_of s i number
outcome_of s i (EnumFree number) = enum_free_of s i number

abbrev pub reply_of : MachineState → ℕ → Call → Reply
reply_of s i call = (outcome_of s i call).reply

abbrev pub state_after : MachineState → ℕ → Call → MachineState
state_after s i call = (outcome_of s i call).next

abbrev pub is_handle : Reply → Bool
is_handle (HandleReply number) = true
is_handle _ = false

abbrev pub is_done : Reply → Bool
is_done Done = true
is_done _ = false

-- the size of the object that a live handle stands for
abbrev pub size_by : ObjectMap → Option Handle → ℕ
size_by objects None = 0
size_by objects (Some handle) = size_at objects handle.name

-- the size of the object that a truncate is about to change; 0 for every other call
abbrev pub size_before : MachineState → ℕ → Call → ℕ
size_before s i (Truncate handle size) = size_by s.objects (handle_at (session_at s i) handle)
size_before s i _ = 0

-- The call, answered so, changes the map of objects, where its object had that size before: a create that gives a handle, a rename
-- or a delete that is done, a write of some bytes that is done, and a truncate to another size that is done.
abbrev pub is_commit_of : Call → ℕ → Reply → Bool
is_commit_of (Create id flags attributes bytes) size reply = is_handle reply
is_commit_of (Write handle bytes) size reply = is_done reply && nat_lt 0 (length bytes)
is_commit_of (Truncate handle new) size reply = is_done reply && not (new == size)
is_commit_of (Rename handle id) size reply = is_done reply
is_commit_of (Delete handle) size reply = is_done reply
is_commit_of _ size reply = false

-- the same of a call of session i
abbrev pub is_commit : MachineState → ℕ → Call → Reply → Bool
is_commit s i call reply = is_commit_of call (size_before s i call) reply
