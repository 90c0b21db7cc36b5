-- What a format leaves of the whole bench.
use Rattle.std.specs.Prelude.{◌≡◌, [], List, Ok, IsTrue}
use Rattle.disk_model.specs.State.{FileState}
use Rattle.hmac_keys.specs.declared.Keys.{Keys}
use Rattle.hmac_keys.specs.KeyTable.{rpmb_key}
use Rattle.tee_types.specs.Limits.{directory_file}
use Rattle.rpmb_card.specs.Card.{CardState}
use Rattle.rpmb_card.specs.Port.{PortState}
use Rattle.rpmb_host.specs.Honest.{HasCard}
use Rattle.crash_core.specs.Mounting.{mounted}
use Rattle.crash_core.specs.Pictures.{IsPictureOf, Picture}
use Rattle.object_calls.specs.OpeningFiles.{files_of}

-- Where the directory's file is honest and the card was told and had the key, every picture mounts to no objects.
abbrev pub MountsToNone : {F : Type 0} → (F → FileState) → List F → (p0 p1 : PortState) → Keys → Type 0
MountsToNone state files p0 p1 keys =
    (old card : CardState) (picture : Picture) → HasCard p0 (rpmb_key keys.huk) old → HasCard p1 (rpmb_key keys.huk) card
    → IsPictureOf (files_of state files) card picture → IsTrue (files_of state files directory_file).honest
    → mounted keys picture ≡ Ok []
