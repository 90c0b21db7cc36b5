-- What altered and older files give.
use Rattle.std.proofs.Common.{inl, inr, refl}
use Rattle.crash_core.specs.Opening.{reads_of}
use Rattle.crash_core.specs.Pictures.{IsPictureOf, Picture}
use Rattle.disk_model.proofs.ImageLaws.{reads_left}
use Rattle.freshness_laws.proofs.Pictures.{pictures_agree}
use Rattle.trusted_storage.specs.Laws.{AlteredFilesAgree}

pub altered_agree : AlteredFilesAgree
altered_agree keys bench s card picture objects holds sound has bytes block mounts =
    let here : Picture = record { images = reads_of bench.files; card = card } in
    let is : IsPictureOf bench.files card here = record { left = λ file. reads_left (bench.files file) (sound file); same = record { key = refl; counter = refl; blocks = refl } } in
    let found = holds.mounts card here has is in
    elim (pictures_agree keys here picture found.0 objects (λ file. (sound file).reads) bytes block found.2 mounts) [
      | inl agree ↦ inl (found.0, found.1, agree)
      | inr clash ↦ inr clash
    ]
