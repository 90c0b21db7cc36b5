-- When what a slot holds is of a version of its file.
use Rattle.std.specs.Prelude.{◌≡◌, ◌==◌, ◌+◌, length, Ok, Option, Some, IsTrue}
use Rattle.disk_model.specs.State.{FileState}
use Rattle.aes_block.specs.WrappedKey.{unwrapped_of}
use Rattle.hmac_keys.specs.declared.Keys.{Keys}
use Rattle.htree_file.specs.Opening.{IsVerified}
use Rattle.store_model.specs.Object.{Sound}
use Rattle.object_file.specs.DeviceKeys.{object_key}
use Rattle.history_seats.specs.Records.{Version}
use Rattle.core_laws.specs.SlotParts.{VersionStands}
use Rattle.core_laws.specs.Decodings.{IsReal}
use Rattle.core_laws.specs.Masked.{IsMaskedOf, StandsMasked, told_taints}
use Rattle.object_file.specs.Held.{held_in}
use Rattle.object_file.specs.Value.{size_in}
use Rattle.object_slots.specs.Fronts.{HasFront}
use Rattle.object_slots.specs.SlotValues.{HeldObject, Holding, free, live, made, staged}

-- The object is the one of that version, which is real. Whatever the file is, its tree is verified under the version's reference, its key is
-- the application's, and its sizes are the version's. In a file that is honest now the version stands, its tree is the one that is loaded,
-- and its object is what is held. In a file that tells its masks, what was loaded and block 0 are the version's with masks over
-- them, and so are the bytes where the version lies.
pub record IsObjectOf (keys : Keys) (file : FileState) (o : HeldObject) (v : Version) : Type 0 where
  pub real : IsReal keys v
  pub root : v.root ≡ o.tree.root
  pub key : o.tree.key ≡ unwrapped_of (object_key keys v.app) o.tree.tree.head.wrapped
  pub size : v.size ≡ size_in o
  pub long : o.tree.tree.head.length ≡ 4096 + size_in o
  pub attributes : v.attributes ≡ length o.attributes
  pub verified : IsVerified o.tree.root o.tree.tree
  pub front : HasFront o
  pub stands : IsTrue file.honest → VersionStands keys file v
  pub loads : IsTrue file.honest → v.loads ≡ Ok o.tree.tree
  pub object : IsTrue file.honest → v.object ≡ Sound (held_in o file.reads)
  pub masked : IsMaskedOf keys (told_taints file) v (λ k. k == 0) o.tree.tree (λ k. front.seals.0)
  pub bytes : StandsMasked keys file v

-- Nothing is loaded, or a committed object without a stage, which is of that version.
abbrev pub IsOfVersion : Keys → FileState → Holding → Option Version → Type 0
IsOfVersion keys file free version = Unit {0}
IsOfVersion keys file (live o) version = (v : Version) × (version ≡ Some v) × IsObjectOf keys file o v
IsOfVersion keys file (made o) version = ⊥
IsOfVersion keys file (staged o s) version = ⊥
