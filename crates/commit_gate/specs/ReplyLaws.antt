-- Answers to a call on an object that the object's file has a part in, and that change nothing: what is asked of the call, and of the reply.
use Rattle.std.specs.Prelude.{◌≡◌, ◌+◌, ◌<◌, ◌^◌, ℕ, true, false, List, length, Option, Some, None}
use Rattle.store_model.specs.declared.event.Mark.TheVariants.{Unchanged}
use Rattle.history_seats.specs.Changes.{call_record}
use Rattle.std.specs.List.{list_any}
use Rattle.tee_types.specs.declared.call.Call.{Call}
use Rattle.tee_types.specs.declared.call.Call.TheVariants.{Info, Open, Read, Truncate, Write}
use Rattle.tee_types.specs.declared.reply.Cause.TheVariants.{Fault}
use Rattle.tee_types.specs.declared.reply.Device.TheVariants.{File}
use Rattle.tee_types.specs.declared.reply.Reply.{Reply}
use Rattle.tee_types.specs.declared.reply.Reply.TheVariants.{Content, Corrupt, Handle as HandleReply, Info as InfoReply, NotAvailable}
use Rattle.tee_types.specs.Rights.{has, read_bit}
use Rattle.store_model.specs.declared.name.ObjectName.{ObjectName}
use Rattle.store_model.specs.Data.{bytes_at, meets_block, range_resized, range_written, spoils}
use Rattle.store_model.specs.Files.{object_named}
use Rattle.store_model.specs.Machine.{MachineState, name_in, session_at}
use Rattle.store_model.specs.Object.{Damaged, Object, Sound}
use Rattle.store_model.specs.Record.{Tag}
use Rattle.history_seats.specs.Directory.{given_version}
use Rattle.history_seats.specs.Mounts.{Entry}
use Rattle.history_seats.specs.Numbers.{is_in}
use Rattle.history_seats.specs.Records.{HistoryRecord, Version}
use Rattle.core_laws.specs.Answered.{IsFairAt, IsLegalAt}
use Rattle.core_laws.specs.ChangeLaws.{IsChanging}
use Rattle.core_laws.specs.Masked.{IsMaskedOf}
use Rattle.disk_model.specs.Arms.{Taint}
use Rattle.core_laws.specs.Given.{Gave, Tells, is_asked, position_by, decoding_given}
use Rattle.core_laws.specs.TamperScenarios.{TamperScenario}
use Rattle.core_laws.specs.Mapped.{IsMapped}
use Rattle.core_laws.specs.ReadLaws.{IsAdmitted, IsLive, IsOpening}
use Rattle.core_laws.specs.Decodings.{IsReal, wrap_of}
use Rattle.core_laws.specs.Stores.{Store, entries_at, entry_named, replay_at}

-- The machine does such a call on an object of that size, if it finds no damage.
abbrev pub DependsOnFile : MachineState → (session size : ℕ) → Call → Type 0
DependsOnFile s session size (Open id flags) = IsOpening s session (name_in s session id) flags (session_at s session).next_handle
DependsOnFile s session size (Read number count) = (h : IsLive s session number) × (has h.handle.flags read_bit ≡ true)
DependsOnFile s session size (Info number) = IsLive s session number
DependsOnFile s session size call = IsChanging s session size call

-- Where the replay stands the call is one on the object of a file's generation, whose version is given, and depends on the file.
pub record IsOnFile (store : Store) (scenario : TamperScenario) (before : List HistoryRecord) (session : ℕ) (call : Call) (file generation : ℕ) (version : Version) : Type 0 where
  pub declared : session < length store.mounted.applications
  pub counted : (replay_at store scenario before).counter < 2 ^ 32
  pub mapped : IsMapped store scenario before
  pub name : ObjectName
  pub of_call : object_named (replay_at store scenario before).state session call ≡ Some name
  pub entry : Entry
  pub named : entry_named name (entries_at store before).now ≡ Some entry
  pub file_is : entry.file ≡ file
  pub generation_is : entry.generation ≡ generation
  pub gives : given_version store.mounted before file generation ≡ Some version
  pub real : IsReal store.keys version
  pub depends : DependsOnFile (replay_at store scenario before).state session version.size call

-- the tag of such a call, where it changes nothing: the version stays
abbrev pub replay_tag : (file generation : ℕ) → Version → Tag Version
replay_tag file generation version = record { file = file; generation = generation; committed = Some version; doubted = None }

-- the record of such a call
abbrev pub told_record : (session number : ℕ) → Call → Reply → (file generation : ℕ) → Version → HistoryRecord
told_record session number call reply file generation version = call_record session number call reply Unchanged (Some (replay_tag file generation version))

-- The file failed: the reply accuses it, under each tamper scenario.
abbrev pub FailedFilesAreLegal : Type 0
FailedFilesAreLegal =
    (store : Store) (scenario : TamperScenario) (before : List HistoryRecord) (session number : ℕ) (call : Call) (file generation count : ℕ) (version : Version)
    → IsOnFile store scenario before session call file generation version
    → IsLegalAt store scenario before (told_record session number call (NotAvailable (Fault (File file) count)) file generation version)

-- What the file gave was refused: the promises hold where the file is not honest.
abbrev pub RefusedFilesAreFair : Type 0
RefusedFilesAreFair =
    (store : Store) (scenario : TamperScenario) (before : List HistoryRecord) (session number : ℕ) (call : Call) (file generation : ℕ) (version : Version)
    → IsOnFile store scenario before session call file generation version → IsFairAt store scenario before (told_record session number call Corrupt file generation version)

-- The file gave each block that the call has to know, and the reply tells what it gave. What it gave was committed, with masks over it,
-- where the file tells these.
pub record IsToldBy (store : Store) (told : Option (List Taint)) (version : Version) (position : ℕ) (call : Call) (reply : Reply) : Type 0 where
  pub gave : Gave (wrap_of store.keys version) version.root version.size (is_asked version.size position call)
  pub masked : IsMaskedOf store.keys told version (is_asked version.size position call) gave.tree gave.block
  pub tells : Tells (decoding_given gave) version.size version.attributes position call reply

-- The reply is fair, whatever the file is.
abbrev pub ToldFilesAreFair : Type 0
ToldFilesAreFair =
    (store : Store) (scenario : TamperScenario) (before : List HistoryRecord) (session number : ℕ) (call : Call) (reply : Reply) (file generation : ℕ) (version : Version)
    → IsOnFile store scenario before session call file generation version
    → IsToldBy store (store.taints file) version (position_by (replay_at store scenario before).state session call) call reply
    → IsAdmitted (replay_at store scenario before).state session version.size call reply
    → IsFairAt store scenario before (told_record session number call reply file generation version)

-- What an object, by its version, has a call answered: bytes and attributes that are its own, or Corrupt where damage is met.
abbrev pub Answers : Object → (position : ℕ) → Call → Reply → Type 0
Answers (Damaged size) position call Corrupt = Unit {0}
Answers (Sound c) position (Open id flags) (HandleReply number) = Unit {0}
Answers (Sound c) position (Read handle count) (Content bytes) =
    (bytes ≡ bytes_at c.bytes position count) × (list_any (meets_block position (position + length bytes)) c.bad ≡ false)
Answers (Sound c) position (Read handle count) Corrupt = list_any (meets_block position (position + length (bytes_at c.bytes position count))) c.bad ≡ true
Answers (Sound c) position (Info handle) (InfoReply size at flags attributes) = attributes ≡ c.attributes
Answers (Sound c) position (Write handle bytes) Corrupt = spoils c (range_written c position (length bytes)) ≡ true
Answers (Sound c) position (Truncate handle size) Corrupt = spoils c (range_resized c size) ≡ true
Answers object position call reply = ⊥

-- the machine admits the call with that reply, or the reply is Corrupt
abbrev pub IsAdmittedOr : MachineState → (session size : ℕ) → Call → Reply → Type 0
IsAdmittedOr s session size call Corrupt = Unit {0}
IsAdmittedOr s session size call reply = IsAdmitted s session size call reply

-- Of a file that is honest under the tamper scenario, what the version's object answers is legal.
abbrev pub HonestAnswersAreLegal : Type 0
HonestAnswersAreLegal =
    (store : Store) (scenario : TamperScenario) (before : List HistoryRecord) (session number : ℕ) (call : Call) (reply : Reply) (file generation : ℕ) (version : Version)
    → IsOnFile store scenario before session call file generation version → is_in file scenario.tampered ≡ false
    → Answers version.object (position_by (replay_at store scenario before).state session call) call reply
    → IsAdmittedOr (replay_at store scenario before).state session version.size call reply
    → IsLegalAt store scenario before (told_record session number call reply file generation version)
