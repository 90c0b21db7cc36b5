-- A change of an object's data that was not drawn for, since no vector could be drawn or no commit could follow: what its file gave before, and
-- that the change was due.
use Rattle.std.specs.Prelude.{◌≡◌, ℕ, false, length, IsTrue}
use Rattle.disk_model.specs.State.{FileState}
use Rattle.tee_types.specs.declared.call.Call.{Call}
use Rattle.tee_types.specs.declared.call.Call.TheVariants.{Truncate, Write}
use Rattle.store_model.specs.Data.{range_resized, range_written, spoils}
use Rattle.store_model.specs.Object.{Object, Sound}
use Rattle.history_seats.specs.Records.{Version}
use Rattle.core_laws.specs.Given.{is_asked}
use Rattle.core_laws.specs.Masked.{GaveVersion, told_taints}
use Rattle.core_laws.specs.Shown.{IsPartial}
use Rattle.core_laws.specs.Stores.{Store}

-- The object is sound, and such a change of it, at that position, spoils no bad block.
abbrev pub IsSpared : Object → (position : ℕ) → Call → Type 0
IsSpared (Sound c) position (Write handle bytes) = spoils c (range_written c position (length bytes)) ≡ false
IsSpared (Sound c) position (Truncate handle size) = spoils c (range_resized c size) ≡ false
IsSpared object position call = ⊥

-- The call changes the data of the version's object in part. Its file gave each block that the change has to know; one that is honest now gives
-- that the change would be done.
pub record IsUndrawn (store : Store) (file : FileState) (v : Version) (position : ℕ) (call : Call) : Type 0 where
  pub changes : IsPartial call
  pub gave : GaveVersion store.keys (told_taints file) v (is_asked v.size position call)
  pub spared : IsTrue file.honest → IsSpared v.object position call
