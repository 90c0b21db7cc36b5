-- A migration that is not disturbed is given up for want of memory alone, and then its objects are listed.
use Rattle.std.proofs.Common.{ℕ, ◌≡◌, ◌==◌, ◌∙◌, ◌≤◌, Bool, cond, List, None, Option, Ok, Err, Result, IsTrue, inl, inr, refl, sym, ap, subst, arith}
use Rattle.disk_model.specs.Faults.{Rose}
use Rattle.disk_model.specs.State.{FileState}
use Rattle.disk_model.proofs.ImageLaws.{reads_left}
use Rattle.htree_file.specs.Answers.{FileFailed}
use Rattle.htree_file.specs.Standing.{Told}
use Rattle.node_image.specs.declared.node.RootRef.{RootRef}
use Rattle.hmac_keys.specs.declared.Keys.{Keys}
use Rattle.hmac_keys.specs.KeyTable.{rpmb_key}
use Rattle.tee_types.specs.Limits.{directory_file}
use Rattle.tee_types.specs.declared.reply.Cause.{Cause}
use Rattle.tee_types.specs.declared.reply.Cause.TheVariants.{CardResult as ResultCause, Fault, Frame as FrameCause}
use Rattle.tee_types.specs.declared.reply.Device.TheVariants.{Card, Dir, Entropy, File}
use Rattle.dir_records.specs.declared.entry.DirEntry.{DirEntry}
use Rattle.rpmb_card.specs.Card.{CardState}
use Rattle.rpmb_card.specs.Port.{PortState}
use Rattle.rpmb_host.specs.Honest.{HasCard}
use Rattle.store_model.specs.Object.{ObjectMap}
use Rattle.crash_core.specs.declared.fault.DirFault.{DirFault}
use Rattle.crash_core.specs.CardBlock.{directory_at, old_format, root_in}
use Rattle.crash_core.specs.Mounting.{directory_by, mounted, mounted_directory, mounted_entries}
use Rattle.crash_core.specs.OldFormats.{old_file}
use Rattle.crash_core.specs.Pictures.{AreSound, IsPictureOf, Picture, block_zero}
use Rattle.crash_core.specs.Refusal.{NoDirectory, Refusal}
use Rattle.crash_core.proofs.Migrations.{migrations_keep_maps}
use Rattle.store_commit.specs.declared.fault.MountFault.{MountFault}
use Rattle.store_commit.specs.declared.fault.MountFault.TheVariants.{CardBlock, CardResult, Directory, Failed, Frame, NoMemory, NoStore, OldFormat, Spent}
use Rattle.object_calls.specs.Migrated.{devices_of, store_of}
use Rattle.object_calls.specs.MigrationRefusals.{HasNoRoom, MigrationRefused}
use Rattle.object_calls.proofs.CurrentPictures.{none_named, one_picture}
use Rattle.run_acts.specs.Benches.{BenchState}
use Rattle.run_acts.specs.ListedBenches.{ListRefusal, ShowCounts, StopsListing, starved as list_starved, stopped as list_stopped, unasked as list_unasked, unmounted, unshown}
use Rattle.run_acts.specs.MigratedBenches.{IsBenchNotMoved, MovesBench, StopsBench, starved, stopped, unasked}
use Rattle.run_acts.specs.MigrationLaws.{IsUndisturbed, MigratedBenchesStayCurrent, MovedBenchesAreCurrent, MovedBenchesAreListed, UndisturbedBenchesAreMoved}
use Rattle.run_acts.specs.MountedDevices.{IsMountRefused}
use Rattle.run_acts.specs.MountingLaws.{IsOfDevice}
use Rattle.run_acts.proofs.CrashedLaws.{card_of}
use Rattle.run_acts.proofs.NotRefused.{mounting_benches_are_not_refused, ok_err}

-- a rise that began later
rose_earlier : (old mid new : ℕ) → old ≤ mid → Rose mid new → Rose old new
rose_earlier old mid new le rose = grind (arith, le, rose)

-- a picture that mounts has a directory
directory_read : (keys : Keys) (picture : Picture) (objects : ObjectMap) → mounted keys picture ≡ Ok objects → (entries : List (Option DirEntry)) × (mounted_directory keys picture ≡ Ok entries)
directory_read keys picture objects is = by_directory (mounted_directory keys picture) is
  where
    by_directory : (r : Result (List (Option DirEntry)) Refusal) → mounted_entries keys picture.images r ≡ Ok objects → (entries : List (Option DirEntry)) × (r ≡ Ok entries)
    by_directory (Ok entries) found = (entries, refl)
    by_directory (Err refusal) found = absurd (cc (found))

-- what the files read as is a picture
read_picture : (files : ℕ → FileState) (card : CardState) → AreSound files → IsPictureOf files card (store_of files card)
read_picture files card sound = record {
  left = λ file. reads_left (files file) (sound file);
  same = record { key = refl; counter = refl; blocks = refl };
}

memory_other : {file : ℕ} → (let fault : MountFault = NoMemory in fault ≡ OldFormat file) → ⊥
memory_other is = cc (is)

-- WHAT IS MOUNTED BEHIND A MIGRATION
module _ (keys : Keys) (drew draws : ℕ) (handed between given : BenchState) (directory : Bool) (moved : ℕ) (card : CardState) (m : MovesBench keys handed between directory moved)
    (has : HasCard handed.card (rpmb_key keys.huk) card) (honest : IsTrue (given.files directory_file).honest) where
  -- the mount is refused for a device alone
  mount_of_device : (fault : MountFault) → IsMountRefused keys between given drew draws fault → IsOfDevice fault
  mount_of_device fault refused =
      let kept = m.migrates card has in
      let goes = ((refused.leaves).keeps).goes_on in
      let before : IsTrue (between.files directory_file).honest = goes.honest honest in
      let picture : Picture = store_of between.files kept.after in
      let all = m.current kept.after picture kept.has before (read_picture between.files kept.after refused.sound) in
      let none : old_file keys picture ≡ None = none_named keys picture all.root all.entries all.named all.directory all.holds all.objects in
      let one = one_picture keys picture.images (given.files directory_file).reads kept.after all.entries (sym ((refused.leaves).reads (inl honest))) all.holds none in
      let told : Told (between.files directory_file) (given.files directory_file) =
      (subst (λ (t : Bool). IsTrue t) (sym goes.tells) ((refused.sound directory_file).told before), inl honest) in
      mounting_benches_are_not_refused keys between given drew draws fault kept.after all.entries refused kept.has told one.0 one.1

  module _ {F R : Type 0} (of_file : F → FileState) (of_port : R → PortState) (file : ℕ) where
    found_old : StopsListing of_file of_port keys between given drew draws (OldFormat file) → ⊥
    found_old (unmounted refused) = mount_of_device (OldFormat file) refused
    found_old (unshown cut) = cut.counted

    listed_old : (fault : MountFault) → fault ≡ OldFormat file → ListRefusal of_file of_port keys between given drew draws fault → ⊥
    listed_old fault is (list_stopped stops memory) = found_old (subst (StopsListing of_file of_port keys between given drew draws) is stops)
    listed_old fault is (list_unasked none same) = memory_other (sym none ∙ is)
    listed_old fault is (list_starved other none stops gone) = memory_other (sym none ∙ is)

module _ (keys : Keys) (drew draws : ℕ) (handed given : BenchState) (u : IsUndisturbed keys drew draws handed given) where
  -- WHY THE BENCH WAS NOT MIGRATED
  -- no call of a file failed
  no_failure : (file count : ℕ) → FileFailed (handed.files file) (given.files file) count → ⊥
  no_failure file count failed = u.files file failed.rose

  -- block 0 of the bench that was handed in names a directory
  names_one : (refusal : Refusal) → AreSound handed.files → root_in (block_zero u.card) ≡ Err refusal → ⊥
  names_one refusal sound none =
      let picture : Picture = store_of handed.files u.card in
      let mounts = u.mounts picture (read_picture handed.files u.card sound) in
      let read = directory_read keys picture mounts.0 mounts.1 in
      ok_err read.0 refusal (mounted_directory keys picture) read.1 (ap (directory_by keys picture.images) none)

  -- the directory is read still
  reads_one : (fault : DirFault) → StopsBench keys handed given drew draws (Directory fault) → ⊥
  reads_one fault s =
      let kept = s.migrates u.card u.has in
      let picture : Picture = store_of given.files kept.after in
      let was = migrations_keep_maps keys (devices_of handed.files u.card) (devices_of given.files kept.after) kept.migrates u.honest picture (read_picture given.files kept.after s.sound_left) in
      let mounts = u.mounts was.0 was.1 in
      let read = directory_read keys picture mounts.0 (sym was.2 ∙ mounts.1) in
      let refused = s.refused kept.after kept.has in
      let file : ℕ = directory_at (refused.root).format in
      ok_err read.0 (NoDirectory fault) (mounted_directory keys picture) read.1 (refused.refused ((s.sound_left file).told (u.honest file), inl (u.honest file)))

  -- the card's counter sufficed
  told_at : (file : ℕ) → StopsBench keys handed given drew draws Spent → Told (handed.files file) (given.files file)
  told_at file s = ((s.sound_left file).told (u.honest file), inl (u.honest file))

  suffices : StopsBench keys handed given drew draws Spent → ⊥
  suffices s =
      let none : HasNoRoom handed.files given.files keys u.card = s.short u.card u.has in
      let root : RootRef = none.root in
      let picture : Picture = store_of handed.files u.card in
      let mounts = u.mounts picture (read_picture handed.files u.card s.sound) in
      let read = directory_read keys picture mounts.0 mounts.1 in
      elim none.short [
        | inl old ↦
            let room = u.room root read.0 none.named read.1 in
            let spent = old.1 in
            let one : ◌≡◌ {A = ℕ} (cond (root.format == old_format) 1 0) 1 = ap (λ (f : ℕ). cond {A = ℕ} (f == old_format) 1 0) old.0 in
            grind (arith, room, spent, one)
        | inr told ↦
            let found = told (told_at (directory_at root.format) s) (told_at directory_file s) in
            let room = u.room root found.0 none.named found.1 in
            let short = found.2 in
            grind (arith, room, short)
      ]

  failed_none : (cause : Cause) → MigrationRefused handed.files given.files handed.card given.card keys drew draws (Failed cause) → ⊥
  failed_none (Fault Dir count) (inl failed) = no_failure _ count failed
  failed_none (Fault Dir count) (inr failed) = no_failure _ count failed
  failed_none (Fault (File n) count) failed = elim failed.failed [
    | inl from ↦ no_failure n count from
    | inr into ↦ no_failure failed.other count into
  ]
  failed_none (Fault Card count) failed = u.port failed.0
  failed_none (Fault Entropy count) failed = u.drawn failed.0
  failed_none (FrameCause fault) failed = failed
  failed_none (ResultCause result) failed = failed

  stopped_for : (fault : MountFault) → StopsBench keys handed given drew draws fault → fault ≡ NoMemory
  stopped_for NoStore s = absurd (names_one _ s.sound (s.refused u.card u.has))
  stopped_for (CardBlock offset) s = absurd (names_one _ s.sound (s.refused u.card u.has))
  stopped_for (Directory fault) s = absurd (reads_one fault s)
  stopped_for (Frame fault) s = absurd (s.refused u.card u.has)
  stopped_for (CardResult result) s = absurd (s.refused u.card u.has)
  stopped_for (Failed cause) s = absurd (failed_none cause s.refused)
  stopped_for Spent s = absurd (suffices s)
  stopped_for NoMemory s = refl
  stopped_for (OldFormat file) s = absurd s.refused

  given_up_for : (fault : MountFault) → IsBenchNotMoved keys handed given drew draws fault → fault ≡ NoMemory
  given_up_for fault (stopped stops memory) = stopped_for fault stops
  given_up_for fault (unasked is same) = is
  given_up_for fault (starved other is stops gone) = is

  -- WHY THE OBJECTS WERE NOT LISTED
  module _ (between : BenchState) (directory : Bool) (moved : ℕ) (m : MovesBench keys handed between directory moved) where
    file_passed : (file count : ℕ) → FileFailed (between.files file) (given.files file) count → ⊥
    file_passed file count failed = u.files file (subst (λ (n : ℕ). Rose n (given.files file).faults) (m.passed file).faults failed.rose)

    port_passed : Rose between.card.faults given.card.faults → ⊥
    port_passed rose = u.port (rose_earlier handed.card.faults between.card.faults given.card.faults m.counted rose)

    -- a mount that was refused for a failure
    mount_passed : (cause : Cause) → IsMountRefused keys between given drew draws (Failed cause) → ⊥
    mount_passed (Fault Dir count) refused = file_passed directory_file count (refused.counted).0
    mount_passed (Fault (File n) count) refused = file_passed n count ((refused.refused).failed).2
    mount_passed (Fault Card count) refused = port_passed (refused.counted).0
    mount_passed (Fault Entropy count) refused = u.drawn (refused.counted).0
    mount_passed (FrameCause fault) refused = (refused.refused).refused
    mount_passed (ResultCause result) refused = (refused.refused).refused

    device_none : (fault : MountFault) → IsMountRefused keys between given drew draws fault → IsOfDevice fault → fault ≡ NoMemory
    device_none (Failed cause) refused of = absurd (mount_passed cause refused)
    device_none NoMemory refused of = refl
    device_none NoStore refused of = absurd of
    device_none (CardBlock offset) refused of = absurd of
    device_none (Directory fault) refused of = absurd of
    device_none (Frame fault) refused of = absurd of
    device_none (CardResult result) refused of = absurd of
    device_none Spent refused of = absurd of
    device_none (OldFormat file) refused of = absurd of

    shown_none : (fault : MountFault) → ShowCounts between.files given.files fault → fault ≡ NoMemory
    shown_none (Failed (Fault (File n) count)) counts = absurd (file_passed n count counts.0)
    shown_none (Failed (Fault Dir count)) counts = absurd counts
    shown_none (Failed (Fault Card count)) counts = absurd counts
    shown_none (Failed (Fault Entropy count)) counts = absurd counts
    shown_none (Failed (FrameCause fault)) counts = absurd counts
    shown_none (Failed (ResultCause result)) counts = absurd counts
    shown_none NoMemory counts = refl
    shown_none NoStore counts = absurd counts
    shown_none (CardBlock offset) counts = absurd counts
    shown_none (Directory fault) counts = absurd counts
    shown_none (Frame fault) counts = absurd counts
    shown_none (CardResult result) counts = absurd counts
    shown_none Spent counts = absurd counts
    shown_none (OldFormat file) counts = absurd counts

    module _ {F R : Type 0} (of_file : F → FileState) (of_port : R → PortState) where
      listing_none : (fault : MountFault) → StopsListing of_file of_port keys between given drew draws fault → fault ≡ NoMemory
      listing_none fault (unmounted refused) =
          device_none fault refused (mount_of_device keys drew draws handed between given directory moved u.card m u.has (u.honest directory_file) fault refused)
      listing_none fault (unshown cut) = shown_none fault cut.counted

      unlisted_for : (fault : MountFault) → ListRefusal of_file of_port keys between given drew draws fault → fault ≡ NoMemory
      unlisted_for fault (list_stopped stops memory) = listing_none fault stops
      unlisted_for fault (list_unasked is same) = is
      unlisted_for fault (list_starved other is stops gone) = is

pub undisturbed_benches_are_moved : UndisturbedBenchesAreMoved
undisturbed_benches_are_moved keys drew draws handed given fault u stops = given_up_for keys drew draws handed given u fault stops

pub moved_benches_are_listed : {F R : Type 0} (of_file : F → FileState) (of_port : R → PortState) → MovedBenchesAreListed of_file of_port
moved_benches_are_listed of_file of_port keys drew draws handed between given directory moved fault u m refused = unlisted_for keys drew draws handed given u between directory moved m of_file of_port fault refused.why

pub moved_benches_are_current : {F R : Type 0} (of_file : F → FileState) (of_port : R → PortState) → MovedBenchesAreCurrent of_file of_port
moved_benches_are_current of_file of_port keys drew draws handed between given directory moved card file m has honest refused =
    listed_old keys drew draws handed between given directory moved card m has honest of_file of_port file (OldFormat file) refl refused.why

pub migrated_benches_stay_current : {F R : Type 0} (of_file : F → FileState) (of_port : R → PortState) → MigratedBenchesStayCurrent of_file of_port
migrated_benches_stay_current of_file of_port keys handed between given directory moved objects lines m l honest card picture has is =
    m.current card picture (card_of between.card given.card (rpmb_key keys.huk) card (l.keeps).card has) (((((l.keeps).files directory_file).keeps).goes_on).honest (honest directory_file))
    (record { left = λ file. ((l.keeps).files file).left (honest file) (picture.images file) (is.left file); same = is.same })
