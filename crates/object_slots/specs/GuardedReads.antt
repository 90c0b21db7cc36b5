-- What a read of a locked slot's object answers, in terms of its version.
use Rattle.std.specs.Prelude.{◌≡◌, ◌+◌, ◌-◌, ℕ, List, length, min, take, Option, Some, Result, IfOk, IsTrue}
use Rattle.disk_model.specs.Arms.{Taint}
use Rattle.disk_model.specs.State.{FileState}
use Rattle.hmac_keys.specs.declared.Keys.{Keys}
use Rattle.tee_types.specs.declared.call.Call.TheVariants.{Read}
use Rattle.tee_types.specs.declared.reply.Reply.TheVariants.{Content}
use Rattle.store_model.specs.Object.{Contents, Sound}
use Rattle.store_model.specs.Data.{bytes_at, meets_block}
use Rattle.history_seats.specs.Records.{Version}
use Rattle.history_seats.specs.Settling.{calm}
use Rattle.history_seats.specs.Views.{Sight, SlotView}
use Rattle.core_laws.specs.Given.{Tells, is_asked, decoding_given}
use Rattle.core_laws.specs.Masked.{GaveVersion, told_taints}
use Rattle.object_slots.specs.declared.fault.SlotFault.{SlotFault}
use Rattle.object_slots.specs.SlotReads.{CorruptAnswer}
use Rattle.object_slots.specs.SlotValues.{SlotValue}
use Rattle.object_slots.specs.KnownFor.{own_version}

-- the slot's view gives that version, and no doubt touches it
pub record GivesVersion (slot : SlotValue) (v : Version) : Type 0 where
  pub seat : Sight SlotView
  pub is : slot.seat ≡ Some seat
  pub gives : own_version seat.knows ≡ calm (Some v)

-- The file gave each block that the read has to know of the version's object, and these bytes are what the blocks tell.
abbrev pub TellsRead : Keys → (told : Option (List Taint)) → Version → (at count : ℕ) → (bytes : List ℕ) → Type 0
TellsRead keys told v at count bytes =
    (handle : ℕ) → (given : GaveVersion keys told v (is_asked v.size at (Read handle count)))
    × Tells (decoding_given given.gave) v.size v.attributes at (Read handle count) (Content bytes)

-- how many bytes of the version's data a read gives
abbrev pub given_count : Version → (at count : ℕ) → ℕ
given_count v at count = min count (v.size - at)

-- A read of so many bytes from a place on, into the front of `after`.
pub record ReadsVersion (keys : Keys) (file : FileState) (v : Version) (at : ℕ) (after : List ℕ) (result : Result ℕ SlotFault) : Type 0 where
  -- of any file
  pub count : IfOk result (λ n. n ≡ given_count v at (length after))
  pub tells : IfOk result (λ n. TellsRead keys (told_taints file) v at (length after) (take n after))
  -- of one that is honest now: the bytes of the version's object; or a block that was asked is bad
  pub content : IsTrue file.honest → (c : Contents) → v.object ≡ Sound c → IfOk result (λ n. take n after ≡ bytes_at c.bytes at (length after))
  pub corrupt : IsTrue file.honest → (c : Contents) → v.object ≡ Sound c → CorruptAnswer c (meets_block at (at + given_count v at (length after))) result
