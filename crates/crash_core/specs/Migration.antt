-- A migration: at each moment of it, whatever a crash then leaves mounts as something does that a crash may have left of the store that
-- was handed in, to the same map of objects.
use Rattle.std.specs.Prelude.{◌≡◌, ◌≢◌, ◌⊎◌, ℕ, List, [], ◌∷◌}
use Rattle.disk_model.specs.State.{FileState}
use Rattle.disk_model.specs.Keeps.{FileCall, IsCall}
use Rattle.node_image.specs.declared.node.RootRef.{RootRef}
use Rattle.hmac_keys.specs.declared.Keys.{Keys}
use Rattle.rpmb_card.specs.Card.{CardState}
use Rattle.crash_core.specs.Pictures.{AreAllHonest, IsPictureOf, Picture, SameCard}
use Rattle.crash_core.specs.Mounting.{mounted}
use Rattle.crash_core.specs.Seals.{sealed_card}

-- the files of a store and its card, between two of their calls
pub record DeviceStates : Type 0 where
  pub files : ℕ → FileState
  pub card : CardState

-- a call of a file, or exchanges with the card
pub data DeviceCall : Type 0 where
  of_file : ℕ → FileCall → DeviceCall
  of_card : DeviceCall

-- no other file changed, nor did the card
pub record IsOfFile (file : ℕ) (old new : DeviceStates) : Type 0 where
  pub others : (other : ℕ) → other ≢ file → new.files other ≡ old.files other
  pub card : new.card ≡ old.card

-- the card holds what it held, or its block 0 was written, whole, and names that directory
abbrev pub MayBeSealed : (old new : CardState) → RootRef → Type 0
MayBeSealed old new dir = SameCard new old ⊎ SameCard new (sealed_card old dir)

-- no file was called
abbrev pub KeepsFiles : (old new : DeviceStates) → Type 0
KeepsFiles old new = (file : ℕ) → new.files file ≡ old.files file

-- Exchanges with the card, of which at most one writes it: up to that one the card holds what it held, and from then on what it holds at
-- the end.
pub record IsOfCard (old new : DeviceStates) : Type 0 where
  pub files : KeepsFiles old new
  pub card : SameCard new.card old.card ⊎ ((dir : RootRef) × SameCard new.card (sealed_card old.card dir))

abbrev pub IsDeviceCall : DeviceCall → (old new : DeviceStates) → Type 0
IsDeviceCall (of_file file call) old new = IsOfFile file old new × IsCall call (old.files file) (new.files file)
IsDeviceCall of_card old new = IsOfCard old new

-- each picture mounts as one of the first pictures does
abbrev pub KeepsMaps : Keys → (first now : DeviceStates) → Type 0
KeepsMaps keys first now =
    (picture : Picture) → IsPictureOf now.files now.card picture → (was : Picture) × IsPictureOf first.files first.card was × (mounted keys was ≡ mounted keys picture)

-- a list of calls; before, between and behind them this holds
abbrev pub IsMigration : Keys → (first now : DeviceStates) → List DeviceCall → (last : DeviceStates) → Type 0
IsMigration keys first now [] last = (last ≡ now) × KeepsMaps keys first now
IsMigration keys first now (call ∷ calls) last = KeepsMaps keys first now × (mid : DeviceStates) × IsDeviceCall call now mid × IsMigration keys first mid calls last

-- There are such calls from one to the other, if all files are honest then.
pub record Migrates (keys : Keys) (old new : DeviceStates) : Type 0 where
  pub calls : List DeviceCall
  pub run : AreAllHonest new.files → IsMigration keys old old calls new
