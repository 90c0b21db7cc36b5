-- What an event shows of its object's file beside what a tamper scenario has of it: a clash, or an end of the promises under the tamper scenario.
use Rattle.std.specs.Prelude.{◌≡◌, ◌⊎◌, ℕ, List, Bool, true, Option, Some, None, ⊤}
use Rattle.tee_types.specs.declared.call.Call.{Call}
use Rattle.tee_types.specs.declared.call.Call.TheVariants.{Truncate, Write}
use Rattle.tee_types.specs.declared.reply.Reply.{Reply}
use Rattle.tee_types.specs.declared.reply.Reply.TheVariants.{Corrupt, Done}
use Rattle.htree_file.specs.Opening.{Loaded}
use Rattle.store_model.specs.declared.name.ObjectName.{ObjectName}
use Rattle.store_model.specs.declared.event.Event.TheVariants.{Call as CallEvent}
use Rattle.store_model.specs.declared.event.Mark.{Mark}
use Rattle.store_model.specs.declared.event.Mark.TheVariants.{Doubtful, Made, Unchanged}
use Rattle.store_model.specs.Files.{object_named}
use Rattle.store_model.specs.Legal.{meant_by}
use Rattle.store_model.specs.Record.{Tag}
use Rattle.store_model.specs.ReplayState.{is_undone}
use Rattle.history_seats.specs.Records.{HistoryRecord, Version}
use Rattle.history_seats.specs.Mounts.{Entry}
use Rattle.history_seats.specs.Directory.{given_version}
use Rattle.core_laws.specs.Decodings.{Decoding, IsReal, page_decoded, wrap_of}
use Rattle.core_laws.specs.TamperScenarios.{TamperScenario, under}
use Rattle.core_laws.specs.Clashes.{Clash, NodeClash}
use Rattle.core_laws.specs.Stores.{Store, entries_at, entry_named, replay_at}
use Rattle.core_laws.specs.Mapped.{IsMapped}
use Rattle.core_laws.specs.Masked.{IsMaskedOf}
use Rattle.core_laws.specs.Given.{DiffersInBytes, Gave, Tells, is_asked, position_by, decoding_given}

-- The event is a call on an object, by the version that the records before it give for the file of its tag, and the file gave the blocks
-- that the call has to know.
pub record IsGivenAt (store : Store) (scenario : TamperScenario) (before : List HistoryRecord) (r : HistoryRecord) : Type 0 where
  pub session : ℕ
  pub number : ℕ
  pub call : Call
  pub reply : Reply
  pub mark : Mark
  pub is : r.event ≡ CallEvent session number call reply mark
  pub name : ObjectName
  pub of_call : object_named (replay_at store scenario before).state session call ≡ Some name
  pub tag : Tag Version
  pub tagged : r.tag ≡ Some tag
  -- the tag is of the object: its entry has that file and generation
  pub entry : Entry
  pub named : entry_named name (entries_at store before).now ≡ Some entry
  pub file : entry.file ≡ tag.file
  pub generation : entry.generation ≡ tag.generation
  pub version : Version
  pub gives : given_version store.mounted before tag.file tag.generation ≡ Some version
  pub position : ℕ
  pub at : position ≡ position_by (replay_at store scenario before).state session call
  pub gave : Gave (wrap_of store.keys version) version.root version.size (is_asked version.size position call)
  pub real : IsReal store.keys version
  -- the map is in step with the directory, so that the machine's object is what stands for the version
  pub mapped : IsMapped store scenario before
  -- what was committed, with masks over it, where the file tells these
  pub masked : IsMaskedOf store.keys (store.taints tag.file) version (is_asked version.size position call) gave.tree gave.block

-- what stands for that version under the tamper scenario
abbrev pub stands_for : {store : Store} {scenario : TamperScenario} {before : List HistoryRecord} {r : HistoryRecord} → IsGivenAt store scenario before r → Option Decoding
stands_for {store = store} {scenario = scenario} x = under store.keys scenario x.tag.file x.tag.generation x.version

abbrev pub asked_of : {store : Store} {scenario : TamperScenario} {before : List HistoryRecord} {r : HistoryRecord} → IsGivenAt store scenario before r → ℕ → Bool
asked_of x = is_asked x.version.size x.position x.call

-- what the machine answers to the call
abbrev pub meant_at : {store : Store} {scenario : TamperScenario} {before : List HistoryRecord} {r : HistoryRecord} → IsGivenAt store scenario before r → Reply
meant_at {store = store} {scenario = scenario} {before = before} x = meant_by (replay_at store scenario before) x.session x.call

-- The call changes nothing, and its reply tells what the file gave.
pub record IsToldAt (store : Store) (scenario : TamperScenario) (before : List HistoryRecord) (r : HistoryRecord) : Type 0 where
  pub given : IsGivenAt store scenario before r
  pub unchanged : given.mark ≡ Unchanged
  pub tells : Tells (decoding_given given.gave) given.version.size given.version.attributes given.position given.call given.reply

-- The reply is the machine's but for bytes of the object, and what the file gave clashes with what stands for the version.
pub record IsClashedAt (store : Store) (scenario : TamperScenario) (before : List HistoryRecord) (r : HistoryRecord) : Type 0 where
  pub told : IsToldAt store scenario before r
  pub alike : DiffersInBytes told.given.reply (meant_at told.given)
  pub sp : Decoding
  pub stands : stands_for told.given ≡ Some sp
  pub clash : Clash (asked_of told.given) sp (decoding_given told.given.gave)

-- Nothing stands for the version, or what stands is bad at a block that was given, or its tree clashes with the one that was given.
abbrev pub Lacks : Option Decoding → (asked : ℕ → Bool) → (given : Loaded) → Type 0
Lacks None asked given = ⊤
Lacks (Some sp) asked given = NodeClash sp.tree given ⊎ ((k : ℕ) × (asked k ≡ true) × (page_decoded sp k ≡ None))

-- A reply tells of an object in which the machine finds damage. The promises end there under the tamper scenario.
pub record IsLackingAt (store : Store) (scenario : TamperScenario) (before : List HistoryRecord) (r : HistoryRecord) : Type 0 where
  pub told : IsToldAt store scenario before r
  pub meant : meant_at told.given ≡ Corrupt
  pub lacks : Lacks (stands_for told.given) (asked_of told.given) told.given.gave.tree

-- the call changes the data of an object in part
abbrev pub IsPartial : Call → Type 0
IsPartial (Write handle bytes) = ⊤
IsPartial (Truncate handle size) = ⊤
IsPartial _ = ⊥

abbrev pub Strays : Option Decoding → (asked : ℕ → Bool) → (given : Decoding) → Type 0
Strays None asked given = ⊤
Strays (Some sp) asked given = Lacks (Some sp) asked given.tree ⊎ Clash asked sp given

-- how a commit may be answered, where this is the reply once it is made: so, or as undone where it was not, or is in doubt
abbrev pub EndsCommit : (made : Reply) → Reply → Mark → Type 0
EndsCommit made reply (Made commit) = reply ≡ made
EndsCommit made reply Unchanged = is_undone reply ≡ true
EndsCommit made reply (Doubtful commit) = is_undone reply ≡ true

-- A change was staged over blocks of which the file gave others than those that stand for the version, or nothing good stands for one.
-- The promises end there under the tamper scenario.
pub record IsWriteEndAt (store : Store) (scenario : TamperScenario) (before : List HistoryRecord) (r : HistoryRecord) : Type 0 where
  pub given : IsGivenAt store scenario before r
  pub changes : IsPartial given.call
  pub ends : EndsCommit Done given.reply given.mark
  pub strays : Strays (stands_for given) (asked_of given) (decoding_given given.gave)

-- where the promises end under a tamper scenario
abbrev pub IsEndAt : Store → TamperScenario → List HistoryRecord → HistoryRecord → Type 0
IsEndAt store scenario before r = IsLackingAt store scenario before r ⊎ IsWriteEndAt store scenario before r
