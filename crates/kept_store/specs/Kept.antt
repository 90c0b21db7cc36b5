-- What is opened, over a port that tells its card, and a file of the directory that can be followed.
use Rattle.std.specs.Prelude.{◌≡◌, ◌⊎◌, ◌<◌, ℕ, List, [], length, Option, Some, IfSome, Result, Ok, Err}
use Rattle.disk_model.specs.State.{FileState}
use Rattle.disk_model.specs.Calls.{Known, Rests}
use Rattle.node_image.specs.Selection.{bytes_at}
use Rattle.htree_file.specs.Making.{IsSynced}
use Rattle.htree_file.specs.Standing.{Told}
use Rattle.hmac_keys.specs.declared.Keys.{Keys}
use Rattle.hmac_keys.specs.KeyTable.{rpmb_key}
use Rattle.tee_types.specs.Limits.{directory_file}
use Rattle.rpmb_card.specs.Card.{CardState}
use Rattle.rpmb_card.specs.Port.{PortState}
use Rattle.rpmb_host.specs.Honest.{HasCard, written_card}
use Rattle.crash_core.specs.CardBlock.{root_in}
use Rattle.crash_core.specs.Refusal.{NoStore}
use Rattle.crash_core.specs.Mounting.{mounted}
use Rattle.crash_core.specs.Opening.{opening_map, reads_of}
use Rattle.crash_core.specs.Pictures.{block_zero}
use Rattle.object_calls.specs.Opening.{OpeningValue, bench_files, entries_in}
use Rattle.object_calls.specs.OpeningFiles.{files_of}
use Rattle.object_calls.specs.declared.bench.Bench.{Bench}
use Rattle.tee_types.specs.declared.reply.Cause.TheVariants.{Fault}
use Rattle.tee_types.specs.declared.reply.Device.TheVariants.{Card, Dir}
use Rattle.store_commit.specs.Untagged.{IsUntagged}
use Rattle.store_commit.specs.declared.fault.MountFault.TheVariants.{Failed}
use Rattle.folder_audit.specs.declared.fault.AuditFault.{AuditFault}
use Rattle.folder_audit.specs.declared.fault.AuditFault.TheVariants.{Refused}
use Rattle.kept_store.specs.declared.fault.OpenFault.{OpenFault}
use Rattle.kept_store.specs.declared.fault.OpenFault.TheVariants.{Block, Store}

-- the block 0 of a card that no store was made on: all its bytes are zero
abbrev pub IsBlank : (block : List ℕ) → Type 0
IsBlank block = root_in block ≡ Err NoStore

-- The card was written, and its block 0 is that of a store.
pub record NamesStore (port : PortState) (key : List ℕ) (card : CardState) : Type 0 where
  pub has : HasCard port key card
  pub written : 0 < card.counter
  pub named : ¬ IsBlank (block_zero card)

-- The card was never written, and a file that can be followed has a block that was exported.
pub record NamesExport (port : PortState) (key : List ℕ) (old new : FileState) (card : CardState) : Type 0 where
  pub has : HasCard port key card
  pub unwritten : card.counter ≡ 0
  pub told : Told old new
  pub named : ¬ IsBlank (bytes_at old.reads 0 256)

-- No block waits for the card: it was written, or a file that can be followed has none.
pub record NamesNoExport (port : PortState) (key : List ℕ) (old new : FileState) (card : CardState) : Type 0 where
  pub has : HasCard port key card
  pub none : (0 < card.counter) ⊎ (Told old new × IsBlank (bytes_at old.reads 0 256))

-- The file has no bytes, and that is settled.
pub record IsEmptied (old new : FileState) : Type 0 where
  pub reads : Known old new → new.reads ≡ []
  pub synced : IsSynced new

abbrev pub RestsOrEmptied : (old new : FileState) → Type 0
RestsOrEmptied old new = Rests old new ⊎ IsEmptied old new

-- the files, as they read, and this card mount to the objects of what is open
abbrev pub OpensWith : {F R : Type 0} → (F → FileState) → Keys → OpeningValue F R → CardState → Type 0
OpensWith state keys o card =
    mounted keys (record { images = reads_of (bench_files state o); card = card }) ≡ Ok (opening_map keys (bench_files state o) (entries_in o))

-- A store that was there is the one that is opened, under the block that the card had.
abbrev pub OpensStore : {F R : Type 0} → (F → FileState) → (dir : FileState) → PortState → Keys → OpeningValue F R → Type 0
OpensStore state dir port keys o =
    Told dir (bench_files state o directory_file) → (card : CardState) → NamesStore port (rpmb_key keys.huk) card → OpensWith state keys o card

-- A store that was exported is opened under the block that was exported, which is written into the card.
-- The block is taken out of its file.
abbrev pub OpensExport : {F R : Type 0} → (F → FileState) → (dir : FileState) → PortState → (old new : FileState) → Keys → OpeningValue F R → Type 0
OpensExport state dir port old new keys o = (card : CardState) → NamesExport port (rpmb_key keys.huk) old new card
    → IsEmptied old new
    × (Told dir (bench_files state o directory_file) → OpensWith state keys o (written_card card 0 0 (bytes_at old.reads 0 256)))

-- the card that a port tells has this block 0
abbrev pub HasBlock : Option CardState → (block : List ℕ) → Type 0
HasBlock told block = IfSome told (λ card. block_zero card ≡ block)

-- The port tells the card that this one is with that block 0, of which it is the first write.
pub record WritesFirst (card : CardState) (new : PortState) (block : List ℕ) : Type 0 where
  pub told : new.card ≡ Some (written_card card 0 0 block)
  pub stands : HasBlock new.card block

-- the card that a port tells with this key names no store
abbrev pub HasBlankCard : PortState → (key : List ℕ) → Type 0
HasBlankCard port key = (card : CardState) → HasCard port key card → IsBlank (block_zero card)

-- What becomes of the card before the store is opened: one that was written stays, and one that was not has the block that was exported.
-- No card that names a store becomes blank.
pub record TakesOver (old new : PortState) (key : List ℕ) (file left : FileState) : Type 0 where
  pub stays : (card : CardState) → HasCard old key card → 0 < card.counter → new.card ≡ old.card
  pub takes : (card : CardState) → NamesExport old key file left card → WritesFirst card new (bytes_at file.reads 0 256)
  pub emptied : (card : CardState) → NamesExport old key file left card → IsEmptied file left
  pub blank : HasBlankCard new key → HasBlankCard old key

-- where the card names a store, this
abbrev pub KeepsStore : PortState → (key : List ℕ) → Type 0 → Type 0
KeepsStore port key Kept = (card : CardState) → HasCard port key card → ¬ IsBlank (block_zero card) → Kept

-- the fault is of the exported block's file, with a count of which this holds
abbrev pub IfBlock : (ℕ → Type 0) → OpenFault → Type 0
IfBlock Holds (Block count) = Holds count
IfBlock Holds fault = Unit {0}

-- the fault carries no computed tag
abbrev pub TellsNoTag : OpenFault → Type 0
TellsNoTag (Store fault) = IsUntagged fault
TellsNoTag fault = Unit {0}

-- how an audit ended carries none
abbrev pub EndsUntagged : {A : Type 0} → Result A AuditFault → Type 0
EndsUntagged (Err (Refused fault)) = IsUntagged fault
EndsUntagged end = Unit {0}

abbrev pub card_failed : ℕ → OpenFault
card_failed count = Store (Failed (Fault Card count))

abbrev pub directory_failed : ℕ → OpenFault
directory_failed count = Store (Failed (Fault Dir count))

-- it names one
abbrev pub HasNamingCard : PortState → (key : List ℕ) → Type 0
HasNamingCard port key = (card : CardState) → HasCard port key card → ¬ IsBlank (block_zero card)

-- nothing is changed: each file rests, and the card is as it was
pub record RestsDevices {F R : Type 0} (state : F → FileState) (port : R → PortState) (old new : Bench F R) : Type 0 where
  pub files : (number : ℕ) → Rests (files_of state old.files.items number) (files_of state new.files.items number)
  pub card : (port new.card).card ≡ (port old.card).card

-- a directory's file that can be followed has no bytes
abbrev pub IsEmpty : (old new : FileState) → Type 0
IsEmpty old new = Told old new → old.reads ≡ []

-- a blank card stands beside a directory's file that has bytes, where it can be followed
pub record LacksCard (port : PortState) (key : List ℕ) (old new : FileState) : Type 0 where
  pub blank : HasBlankCard port key
  pub bytes : Told old new → 0 < length old.reads

-- where the card names no store, this
abbrev pub FindsBlank : PortState → (key : List ℕ) → Type 0 → Type 0
FindsBlank port key Then = (card : CardState) → HasCard port key card → IsBlank (block_zero card) → Then

-- beside a directory's file that has bytes, where it can be followed, nothing is changed
abbrev pub StaysUnmade : {F R : Type 0} → (F → FileState) → (R → PortState) → (old new : Bench F R) → Type 0
StaysUnmade state port old new =
    Told (files_of state old.files.items directory_file) (files_of state new.files.items directory_file)
    → 0 < length (files_of state old.files.items directory_file).reads → RestsDevices state port old new

-- The card names no store, and no block waits for it.
pub record LacksStore (port : PortState) (key : List ℕ) (old new : FileState) (card : CardState) : Type 0 where
  pub blank : IsBlank (block_zero card)
  pub alone : NamesNoExport port key old new card

-- where no block waits for the card, it stays, and the file rests
abbrev pub TakesNothing : (old new : PortState) (key : List ℕ) (file left : FileState) → Type 0
TakesNothing old new key file left = (card : CardState) → NamesNoExport old key file left card → (new.card ≡ old.card) × Rests file left
