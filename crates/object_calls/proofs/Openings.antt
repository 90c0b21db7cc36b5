-- What is open is what the core machine begins with, and every picture of it mounts.
use Rattle.std.proofs.Common.{◌≡◌, ◌∙◌, ◌<◌, ℕ, get_or, List, [], None, Ok, IsTrue, refl, sym, ap, subst, arith}
use Rattle.disk_model.specs.State.{FileState, Sound, pending}
use Rattle.disk_model.proofs.ImageLaws.{reads_left}
use Rattle.hmac_keys.specs.KeyTable.{dir_tsk}
use Rattle.tee_types.specs.Limits.{directory_file}
use Rattle.rpmb_card.specs.Port.{PortState}
use Rattle.crash_core.specs.CoreState.{Phase}
use Rattle.crash_core.specs.DeviceKeys.{directory_key}
use Rattle.crash_core.specs.Directory.{directory_of}
use Rattle.crash_core.specs.Opening.{opening_map}
use Rattle.crash_core.specs.Theorem.{MountsTo}
use Rattle.crash_core.proofs.MountedPictures.{directory_mounts, mounts_whole}
use Rattle.crash_core.proofs.Openings.{openings_are_starts}
use Rattle.store_commit.specs.Gates.{gate_sides}
use Rattle.store_commit.specs.Sides.{IsSettled}
use Rattle.object_calls.specs.Begins.{BeginsCore, BeginsThere, HonestPicturesMount, IsWholeOpening, PicturesMount}
use Rattle.object_calls.specs.Opening.{IsOpening, OpeningValue, bench_files, entries_in}
use Rattle.object_calls.proofs.EntriesOf.{form_at}
use Rattle.object_calls.proofs.Files.{directory_here, numbered_sound, object_numbered}

module _ {F R : Type 0} (state : F → FileState) (port : R → PortState) (sound : (f : F) → Sound (state f)) (o : OpeningValue F R)
    (settled : IsSettled (gate_sides state port o.gate)) (is : IsOpening state o.gate o.files o.storage_key) where
  tsk_is : (phase : Phase) → BeginsThere phase state o → o.gate.dir.dir.tsk ≡ directory_key phase.keys
  tsk_is phase there = is.keyed ∙ ap dir_tsk there.keyed.storage

  dir_is : bench_files state o directory_file ≡ state o.gate.dir.file
  dir_is = directory_here state o.spare o.gate.dir.file o.files

  begins_core : BeginsCore state port o
  begins_core phase card there has =
      let names = settled.named card has in
      record {
        sound = numbered_sound state sound o.spare o.gate.dir.file o.files;
        honest = there.honest;
        names = record { names = names.block; counted = names.counted ∙ sym there.counter };
        form = settled.form;
        current = is.current;
        directory = λ trusted.
            let honest : IsTrue (state o.gate.dir.file).honest = subst (λ (s : FileState). IsTrue s.honest) dir_is (there.honest directory_file trusted) in
            subst (λ (s : FileState). directory_of (directory_key phase.keys) s.reads o.gate.dir.dir.root ≡ Ok (entries_in o)) (sym dir_is)
            (subst (λ (t : List ℕ). directory_of t (state o.gate.dir.file).reads o.gate.dir.dir.root ≡ Ok (entries_in o)) (tsk_is phase there)
            ((settled.held honest).entries_are (state o.gate.dir.file).reads (reads_left (state o.gate.dir.file) (sound o.gate.dir.file))));
        settled = λ trusted. ap pending dir_is ∙ is.settled;
        entries_current = is.entries_current;
        synced = λ index e at trusted. ap pending (object_numbered state o.spare o.gate.dir.file o.files e.file (form_at (entries_in o) is.entries index e at).file) ∙ is.synced index e at;
        begins = there.objects;
      }

  pictures_mount : PicturesMount state port o
  pictures_mount phase card picture there has left trusted =
      let start = openings_are_starts {Root = Unit {0}} phase (bench_files state o) card o.gate.dir.dir.root (entries_in o) (begins_core phase card there has) in
      subst (MountsTo phase picture) (there.objects trusted)
      (directory_mounts phase (bench_files state o) card picture left o.gate.dir.dir.root (entries_in o) phase.begins.objects phase.begins.counter start.card (start.directory trusted))

  honest_mount : HonestPicturesMount state port o
  honest_mount keys card picture keyed has left honest =
      let phase : Phase = record {
        keys = keys;
        tampered = [];
        begins = record { objects = opening_map keys (bench_files state o) (entries_in o); files = λ name. None; applications = []; counter = o.gate.counter };
      } in
      let there : BeginsThere phase state o = record { keyed = keyed; counter = refl; objects = λ trusted. refl; honest = λ file trusted. honest file } in
      let none : (file : ℕ) → (k : ℕ) × (k < 0) × (get_or [] k file ≡ file) → ⊥ = λ file among. omega (arith, among.1) in
      mounts_whole phase picture (opening_map keys (bench_files state o) (entries_in o)) none (pictures_mount phase card picture there has left (none directory_file))

  pub whole_opening : IsWholeOpening state port o
  whole_opening = record { begins = begins_core; mounts = pictures_mount; honest = honest_mount }
