-- The open handle that a call and its reply add or take away.
use Rattle.std.specs.Prelude.{◌≡◌, ◌==◌, ℕ, Option, Some, None}
use Rattle.std.specs.Map.{remove_entry}
use Rattle.std.specs.BTreeMap.{insert_entry}
use Rattle.std.specs.Ordering.{nat_cmp}
use Rattle.tee_types.specs.Rights.{without_overwrite}
use Rattle.tee_types.specs.declared.flags.Flags.{Flags}
use Rattle.tee_types.specs.declared.call.Call.{Call}
use Rattle.tee_types.specs.declared.call.Call.TheVariants.{Create, Open, Close, Delete}
use Rattle.tee_types.specs.declared.reply.Reply.{Reply}
use Rattle.tee_types.specs.declared.reply.Reply.TheVariants.{Done, Handle}
use Rattle.open_table.specs.Table.{TableState, key_of, record_at}

-- a handle on the file is open besides, with those flags
pub record AddsHandle (old new : TableState) (file session handle : ℕ) (flags : Flags) : Type 0 where
  pub key : ℕ
  pub fresh : record_at old key ≡ None
  pub added : new.records ≡ insert_entry nat_cmp old.records key (record { file = file; session = session; handle = handle; flags = flags })

-- the record of that key is gone
abbrev pub WithoutKey : (old new : TableState) → Option ℕ → Type 0
WithoutKey old new (Some key) = new.records ≡ remove_entry (λ k. k == key) old.records
WithoutKey old new None = new.records ≡ old.records

-- the session's handle is not open, the first record of it where there are more
abbrev pub DropsHandle : (old new : TableState) → (session handle : ℕ) → Type 0
DropsHandle old new session handle = WithoutKey old new (key_of old session handle)

-- what a call and its reply do
abbrev pub NotesReply : (old new : TableState) → (file session : ℕ) → Call → Reply → Type 0
NotesReply old new file session (Create id flags attributes bytes) (Handle handle) = AddsHandle old new file session handle (without_overwrite flags)
NotesReply old new file session (Open id flags) (Handle handle) = AddsHandle old new file session handle (without_overwrite flags)
NotesReply old new file session (Close handle) Done = DropsHandle old new session handle
NotesReply old new file session (Delete handle) Done = DropsHandle old new session handle
NotesReply old new file session call reply = new.records ≡ old.records
