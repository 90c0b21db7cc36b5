-- A bench that mounts is not refused.
use Rattle.std.proofs.Common.{◌≡◌, ◌∙◌, ℕ, List, Bool, Err, Ok, Option, Result, IsTrue, inl, inr, refl, sym, ap, subst}
use Rattle.disk_model.proofs.ImageLaws.{reads_left}
use Rattle.hmac_keys.specs.declared.Keys.{Keys}
use Rattle.hmac_keys.specs.KeyTable.{rpmb_key}
use Rattle.htree_file.specs.Standing.{Told}
use Rattle.node_image.specs.declared.node.RootRef.{RootRef}
use Rattle.tee_types.specs.Limits.{directory_file}
use Rattle.rpmb_card.specs.Card.{CardState}
use Rattle.rpmb_host.specs.Honest.{HasCard}
use Rattle.dir_records.specs.declared.entry.DirEntry.{DirEntry}
use Rattle.store_model.specs.Object.{ObjectMap}
use Rattle.store_model.specs.ReplayState.{ReplayState}
use Rattle.crash_core.specs.CardBlock.{root_in}
use Rattle.crash_core.specs.Mounting.{directory_by, mounted_directory, mounted_entries}
use Rattle.crash_core.specs.Pictures.{IsPictureOf, Picture, block_zero}
use Rattle.crash_core.specs.Refusal.{Refusal, CardBlock as BadBlock, NoStore as BlankBlock}
use Rattle.core_laws.proofs.Mending.{none_some}
use Rattle.store_commit.specs.Blocks.{picture_of}
use Rattle.store_commit.specs.declared.fault.MountFault.{MountFault}
use Rattle.store_commit.specs.declared.fault.MountFault.TheVariants.{CardBlock, CardResult, Directory, Failed, Frame, NoMemory, NoStore, OldFormat, Spent}
use Rattle.object_calls.specs.FinishedPhase.{IsMapLeft}
use Rattle.object_calls.proofs.CurrentPictures.{one_picture}
use Rattle.object_calls.proofs.OldGates.{old_file_found}
use Rattle.run_acts.specs.Benches.{BenchState}
use Rattle.run_acts.specs.Left.{HoldsLeft}
use Rattle.run_acts.specs.MountedDevices.{IsMountRefused}
use Rattle.run_acts.specs.MountingLaws.{HeldBenchesAreNotRefused, IsOfDevice, MountingBenchesAreNotRefused}

pub ok_err : {A B : Type 0} (a : A) (b : B) (r : Result A B) → r ≡ Ok a → r ≡ Err b → ⊥
ok_err a b (Ok x) is other = cc
ok_err a b (Err y) is other = cc

-- nothing is read where block 0 names no root
no_root : (keys : Keys) (reads : List ℕ) (card : CardState) (refusal : Refusal) → root_in (block_zero card) ≡ Err refusal → mounted_directory keys (picture_of reads card) ≡ Err refusal
no_root keys reads card refusal none = ap (λ (r : Result RootRef Refusal). directory_by keys (λ file. reads) r) none

pub mounting_benches_are_not_refused : MountingBenchesAreNotRefused
mounting_benches_are_not_refused keys old new drew draws NoStore card entries m has told is none =
    absurd (ok_err entries BlankBlock _ is (no_root keys (new.files directory_file).reads card BlankBlock (((m.refused).refused) card has)))
mounting_benches_are_not_refused keys old new drew draws (CardBlock offset) card entries m has told is none =
    absurd (ok_err entries (BadBlock offset) _ is (no_root keys (new.files directory_file).reads card (BadBlock offset) (((m.refused).refused) card has)))
mounting_benches_are_not_refused keys old new drew draws (Directory fault) card entries m has told is none = absurd (ok_err entries _ _ is (((m.refused).refused) card has told))
mounting_benches_are_not_refused keys old new drew draws (Frame fault) card entries m has told is none = absurd (((m.refused).refused) card has)
mounting_benches_are_not_refused keys old new drew draws (CardResult result) card entries m has told is none = absurd (((m.refused).refused) card has)
mounting_benches_are_not_refused keys old new drew draws (Failed cause) card entries m has told is none = tt
mounting_benches_are_not_refused keys old new drew draws Spent card entries m has told is none = absurd ((m.refused).refused)
mounting_benches_are_not_refused keys old new drew draws NoMemory card entries m has told is none = tt
mounting_benches_are_not_refused keys old new drew draws (OldFormat file) card entries m has told is none =
    absurd (none_some file (sym none ∙ old_file_found (old.files directory_file) (new.files directory_file) old.card new.card keys drew draws file ((m.refused).refused) card has told))

-- A picture that mounts has a directory.
entries_read : (keys : Keys) (images : ℕ → List ℕ) (objects : ObjectMap) (r : Result (List (Option DirEntry)) Refusal) → mounted_entries keys images r ≡ Ok objects
    → (entries : List (Option DirEntry)) × (r ≡ Ok entries)
entries_read keys images objects (Ok entries) is = (entries, refl)
entries_read keys images objects (Err refusal) is = cc

pub directory_read : (keys : Keys) (picture : Picture) (s : ReplayState) → IsMapLeft keys picture s → (entries : List (Option DirEntry)) × (mounted_directory keys picture ≡ Ok entries)
directory_read keys picture s (inl is) = entries_read keys picture.images (s.state).objects (mounted_directory keys picture) is
directory_read keys picture s (inr doubted) = entries_read keys picture.images doubted.0 (mounted_directory keys picture) doubted.2

module _ (keys : Keys) (s : ReplayState) (old new : BenchState) (drew draws : ℕ) (fault : MountFault) (card : CardState)
    (holds : HoldsLeft keys old s) (m : IsMountRefused keys old new drew draws fault) (has : HasCard old.card (rpmb_key keys.huk) card) (honest : IsTrue (new.files directory_file).honest) where
  abbrev as_read : Picture
  as_read = record { images = λ file. (old.files file).reads; card = card }

  read_picture : IsPictureOf old.files card as_read
  read_picture = record {
    left = λ file. reads_left (old.files file) (m.sound file);
    same = record { key = refl; counter = refl; blocks = refl };
  }

  told : Told (old.files directory_file) (new.files directory_file)
  told = (
    subst (λ (t : Bool). IsTrue t) (sym (((m.leaves).keeps).goes_on).tells) ((m.sound directory_file).told (holds.honest directory_file)),
    inl honest,
  )

  pub held_refusal : IsOfDevice fault
  held_refusal =
      let read = directory_read keys as_read s (holds.mounts card as_read has read_picture) in
      let none = holds.current card as_read has read_picture in
      let one = one_picture keys as_read.images (new.files directory_file).reads card read.0 (sym ((m.leaves).reads (inl honest))) read.1 none in
      mounting_benches_are_not_refused keys old new drew draws fault card read.0 m has told one.0 one.1

pub held_benches_are_not_refused : HeldBenchesAreNotRefused
held_benches_are_not_refused keys s old new drew draws fault card holds m has honest = held_refusal keys s old new drew draws fault card holds m has honest
