-- What a locked slot tells of its version's object with no call of its file: its size and its attributes.
use Rattle.std.specs.Prelude.{◌≡◌, ℕ, List, Option, IsTrue}
use Rattle.disk_model.specs.Arms.{Taint}
use Rattle.disk_model.specs.State.{FileState}
use Rattle.hmac_keys.specs.declared.Keys.{Keys}
use Rattle.tee_types.specs.declared.call.Call.TheVariants.{Info, Open}
use Rattle.tee_types.specs.declared.flags.Flags.{Flags}
use Rattle.tee_types.specs.declared.reply.Reply.TheVariants.{Handle as HandleReply, Info as InfoReply}
use Rattle.store_model.specs.Object.{Contents, Sound}
use Rattle.history_seats.specs.Records.{Version}
use Rattle.core_laws.specs.Given.{Tells, is_asked, decoding_given}
use Rattle.core_laws.specs.Masked.{GaveVersion, told_taints}

-- The file gave the block that an Info has to know of the version's object, and these attributes are what the block tells.
abbrev pub TellsInfo : Keys → (told : Option (List Taint)) → Version → (attributes : List ℕ) → Type 0
TellsInfo keys told v attributes =
    (position handle at : ℕ) (flags : Flags) → (given : GaveVersion keys told v (is_asked v.size position (Info handle)))
    × Tells (decoding_given given.gave) v.size v.attributes position (Info handle) (InfoReply v.size at flags attributes)

-- So it did for an Open.
abbrev pub TellsOpen : Keys → (told : Option (List Taint)) → Version → Type 0
TellsOpen keys told v =
    (position number : ℕ) (id : List ℕ) (flags : Flags) → (given : GaveVersion keys told v (is_asked v.size position (Open id flags)))
    × Tells (decoding_given given.gave) v.size v.attributes position (Open id flags) (HandleReply number)

-- The attributes of a version's object.
pub record ShowsAttributes (keys : Keys) (file : FileState) (v : Version) (attributes : List ℕ) : Type 0 where
  -- of any file
  pub info : TellsInfo keys (told_taints file) v attributes
  pub opening : TellsOpen keys (told_taints file) v
  -- of one that is honest now: the version's object is sound, and they are its own
  pub sound : IsTrue file.honest → (c : Contents) × (v.object ≡ Sound c) × (attributes ≡ c.attributes)
