-- A bench whose directory's file is of the current format: its gate is mounted, and the objects are moved.
use Rattle.std.proofs.Common.{◌≡◌, ◌≢◌, ◌==◌, ◌∙◌, ◌<◌, ◌≤◌, ◌+◌, ℕ, Bool, cond, zero, suc, List, ◌∷◌, Option, Some, None, Result, Ok, IsTrue, false, inl, inr, refl, sym, ap, subst, arith}
use Rattle.std.specs.List.{count_by}
use Rattle.std.proofs.lemmas.Bool.{cases_eq, ne_eqb}
use Rattle.disk_model.specs.Faults.{Rose}
use Rattle.disk_model.specs.State.{FileState, LeftNow, Sound}
use Rattle.disk_model.specs.Calls.{GoesOn}
use Rattle.disk_model.proofs.Goings.{goes_on_none, goes_on_then}
use Rattle.disk_model.proofs.ImageLaws.{reads_left}
use Rattle.htree_file.specs.Answers.{FileFailed, FilePassed}
use Rattle.htree_file.specs.declared.fault.TreeFault.TheVariants.{Failed as FileFault}
use Rattle.htree_file.specs.Standing.{Told}
use Rattle.htree_file.proofs.Causes.{fault_then, passed_none, passed_then}
use Rattle.node_image.specs.declared.node.RootRef.{RootRef}
use Rattle.node_image.specs.References.{current_format}
use Rattle.hmac_keys.specs.declared.Keys.{Keys}
use Rattle.hmac_keys.specs.KeyTable.{rpmb_key}
use Rattle.tee_types.specs.Limits.{IsObjectFile, directory_file}
use Rattle.tee_types.specs.declared.reply.Cause.TheVariants.{Fault, Frame as FrameCause, CardResult as ResultCause}
use Rattle.tee_types.specs.declared.reply.Device.TheVariants.{Dir, File, Card, Entropy}
use Rattle.dir_records.specs.declared.entry.DirEntry.{DirEntry}
use Rattle.rpmb_card.specs.Protocol.{last_counter}
use Rattle.rpmb_card.specs.Card.{CardState}
use Rattle.rpmb_card.specs.Port.{PortState}
use Rattle.rpmb_host.specs.Honest.{HasCard}
use Rattle.crash_core.specs.Refusal.{Refusal}
use Rattle.crash_core.specs.CardBlock.{directory_at, old_format, root_in}
use Rattle.crash_core.specs.DeviceKeys.{directory_key}
use Rattle.crash_core.specs.Directory.{directory_of}
use Rattle.crash_core.specs.EntryLists.{entry_at}
use Rattle.crash_core.specs.Mounting.{directory_by, mounted_directory, unless_fault}
use Rattle.crash_core.specs.OldFormats.{first_old}
use Rattle.crash_core.specs.Opening.{reads_of}
use Rattle.crash_core.specs.Pictures.{IsPictureOf, Picture, block_zero}
use Rattle.crash_core.proofs.Lists.{put_else}
use Rattle.crash_core.proofs.Migrations.{migrations_follow, same_card, same_names}
use Rattle.crash_core.proofs.MountedImages.{directory_is}
use Rattle.crash_core.proofs.OldFormats.{none_old, old_by_entries}
use Rattle.store_commit.specs.declared.fault.MountFault.{MountFault}
use Rattle.store_commit.specs.declared.fault.MountFault.TheVariants.{CardBlock, CardResult, Directory, Failed, Frame, NoMemory, NoStore, OldFormat, Spent}
use Rattle.store_commit.specs.Blocks.{picture_of}
use Rattle.store_commit.specs.Causes.{Counted, counts}
use Rattle.store_commit.specs.Counts.{NoneRose}
use Rattle.store_commit.specs.DirectoryLooks.{Looks}
use Rattle.store_commit.specs.Gates.{GateValue, gate_sides}
use Rattle.store_commit.specs.Mounts.{MountRefused, OpensGate}
use Rattle.store_commit.proofs.Cards.{has_still}
use Rattle.object_calls.specs.OpeningFiles.{files_of, numbered_files, object_files}
use Rattle.object_calls.specs.DirectoryMoves.{NamesCurrent}
use Rattle.object_calls.specs.Migrated.{LeavesCurrent, MigratesBench, TellsMoves, WritesOnceEach, devices_of, store_of}
use Rattle.object_calls.specs.MigrationRefusals.{HasNoRoom, IsCardSpent, MigrationRefused, SpentWithoutRoom}
use Rattle.object_calls.specs.MovedEntries.{AreMoved, is_old}
use Rattle.object_calls.specs.ObjectMoves.{GateGoesOn, GatePassed, IsLeftToMove, MayMove, MigratesGate, MovesEach, ObjectNotMoved, StopsMoving, mount_answer}
use Rattle.object_calls.proofs.EntriesOf.{form_at}
use Rattle.object_calls.proofs.Files.{directory_here, numbered_sound, object_numbered, others_same}
use Rattle.object_calls.proofs.MigrationStages.{told_first}
use Rattle.object_calls.proofs.MigrationTurns.{IsGateOver, all_current, looks_migrate}
use Rattle.object_calls.proofs.MovedEntries.{moved_current, moves_all}

-- what looking at a file leaves of what is known of it
pub looks_go_on : (old new : FileState) → Looks old new → GoesOn old new
looks_go_on old new looks = elim looks.first [
  | inl rests ↦ goes_on_then old looks.mid new rests.goes_on looks.behind.goes_on
  | inr syncs ↦ goes_on_then old looks.mid new syncs.goes_on looks.behind.goes_on
]

-- what is said of files by their numbers, and of a port, is said of them as a bench has them
pub of_bench : {R : Type 0} (P : (ℕ → FileState) → (ℕ → FileState) → R → Type 0) (old old_bench new new_bench : ℕ → FileState) (r r_bench : R) → old_bench ≡ old → new_bench ≡ new → r_bench ≡ r → P old new r
    → P old_bench new_bench r_bench
of_bench {R} P old old_bench new new_bench r r_bench old_is new_is r_is is =
    subst (λ (f : ℕ → FileState). P f new_bench r_bench) (sym old_is) (subst (λ (f : ℕ → FileState). P old f r_bench) (sym new_is) (subst (P old new) (sym r_is) is))

-- THE DIRECTORY THAT A CARD NAMES
-- is that of any picture whose file has that image
mounted_by : (keys : Keys) (files : ℕ → FileState) (card : CardState) (root : RootRef) (image : List ℕ) → root_in (block_zero card) ≡ Ok root
    → (files (directory_at root.format)).reads ≡ image → mounted_directory keys (store_of files card) ≡ mounted_directory keys (picture_of image card)
mounted_by keys files card root image named is =
    ap (directory_by keys (reads_of files)) named
    ∙ ap (λ (l : List ℕ). unless_fault (directory_of (directory_key keys) l root)) is
    ∙ sym (ap (directory_by keys (λ n. image)) named)

-- where an entry is of the old format, there is a first one
some_old : (entries : List (Option DirEntry)) (index : ℕ) (e : DirEntry) → entry_at entries index ≡ Some e → e.format ≡ old_format → (o : Option ℕ) → first_old entries ≡ o
    → (file : ℕ) × (first_old entries ≡ Some file)
some_old entries index e at old None is = absurd (none_old entries is index e at old)
some_old entries index e at old (Some file) is = (file, is)

module _ {F R : Type 0} (state : F → FileState) (port : R → PortState) (spare : F) where
  abbrev bench : F → List F → ℕ → FileState
  bench dir objects = numbered_files state spare dir objects

  -- THE MOUNT IS REFUSED
  module _ (dir left : F) (objects : List F) (card card1 : R) (keys : Keys) (named : NamesCurrent (port card) keys) (looks : Looks (state dir) (state left)) (stays : (port card1).card ≡ (port card).card) where
    not_dir : (n : ℕ) → n ≢ directory_file → bench left objects n ≡ bench dir objects n
    not_dir n other = others_same state spare dir left objects n other

    pub refused_migrates : ((f : F) → Sound (state f)) → MigratesBench (bench dir objects) (bench left objects) (port card) (port card1) keys
    refused_migrates sound c has = record {
      after = c;
      has = has_still (port card) (port card1) (rpmb_key keys.huk) (rpmb_key keys.huk) c stays refl has;
      migrates = looks_migrate keys directory_file (devices_of (bench dir objects) c) (devices_of (bench left objects) c) (numbered_sound state sound spare dir objects)
          (record { others = not_dir; card = refl })
          (subst (λ (s : FileState). Looks s (bench left objects directory_file)) (sym (directory_here state spare dir objects)) (subst (Looks (state dir)) (sym (directory_here state spare left objects)) looks));
    }

    pub refused_goes_on : (n : ℕ) → GoesOn (bench dir objects n) (bench left objects n)
    refused_goes_on n = elim (cases_eq n directory_file) [
      | inl is ↦
          let here : GoesOn (bench dir objects directory_file) (bench left objects directory_file) =
          subst (λ (s : FileState). GoesOn s (bench left objects directory_file)) (sym (directory_here state spare dir objects))
          (subst (GoesOn (state dir)) (sym (directory_here state spare left objects)) (looks_go_on (state dir) (state left) looks)) in
          subst (λ (k : ℕ). GoesOn (bench dir objects k) (bench left objects k)) (sym is) here
      | inr other ↦ subst (GoesOn (bench dir objects n)) (sym (not_dir n other)) (goes_on_none (bench dir objects n))
    ]

    module _ (drew draws : ℕ) where
      abbrev Refused : MountFault → Type 0
      Refused fault = MigrationRefused (bench dir objects) (bench left objects) (port card) (port card1) keys drew draws fault

      -- a mount of the gate never ends for a spent counter
      pub mount_short : (old new : ℕ → FileState) (fault : MountFault) → MountRefused (state dir) (state left) (port card) (port card1) keys drew draws fault → SpentWithoutRoom old new (port card) keys (mount_answer fault)
      mount_short old new NoStore refused = tt
      mount_short old new (CardBlock byte) refused = tt
      mount_short old new (Directory fault) refused = tt
      mount_short old new (OldFormat file) refused = tt
      mount_short old new (Frame fault) refused = tt
      mount_short old new (CardResult result) refused = tt
      mount_short old new (Failed cause) refused = tt
      mount_short old new Spent refused = absurd refused
      mount_short old new NoMemory refused = tt

      pub mount_refused : (fault : MountFault) → MountRefused (state dir) (state left) (port card) (port card1) keys drew draws fault → Refused (mount_answer fault)
      mount_refused NoStore refused = refused
      mount_refused (CardBlock offset) refused = refused
      mount_refused (OldFormat file) refused = λ c has.
          let old = refused.1 c has in
          let now = named c has in
          let both : ◌≡◌ {A = Result RootRef Refusal} (Ok old.root) (Ok now.0) = sym old.names ∙ now.1 in
          let same : old.root ≡ now.0 = cc (both) in
          let formats : old.root.format ≡ now.0.format = ap (λ (r : RootRef). r.format) same in
          let one = old.old in
          let two = now.2 in
          absurd (omega (arith, formats, one, two))
      mount_refused (Directory fault) refused = λ c has.
          let before : HasCard (port card) (rpmb_key keys.huk) c = has_still (port card1) (port card) (rpmb_key keys.huk) (rpmb_key keys.huk) c (sym stays) refl has in
          let now = named c before in
          let there : directory_at now.0.format ≡ directory_file = ap directory_at now.2 in
          let dir_is : bench dir objects (directory_at now.0.format) ≡ state dir = ap (bench dir objects) there ∙ directory_here state spare dir objects in
          let left_is : bench left objects (directory_at now.0.format) ≡ state left = ap (bench left objects) there ∙ directory_here state spare left objects in
          record {
            root = now.0;
            named = now.1;
            refused = λ told.
                mounted_by keys (bench left objects) c now.0 (state left).reads now.1 (ap (λ (s : FileState). s.reads) left_is)
                ∙ refused c before (subst (λ (s : FileState). Told s (state left)) dir_is (subst (Told (bench dir objects (directory_at now.0.format))) left_is told));
          }
      mount_refused (Failed (Fault Dir count)) refused = inr (subst (λ (s : FileState). FileFailed s (bench left objects directory_file) count) (sym (directory_here state spare dir objects))
          (subst (λ (s : FileState). FileFailed (state dir) s count) (sym (directory_here state spare left objects)) refused))
      mount_refused (Failed (Fault (File n) count)) refused = absurd refused
      mount_refused (Failed (Fault Card count)) refused = refused
      mount_refused (Failed (Fault Entropy count)) refused = refused
      mount_refused (Failed (FrameCause fault)) refused = absurd refused
      mount_refused (Failed (ResultCause result)) refused = absurd refused
      mount_refused (Frame fault) refused = refused
      mount_refused (CardResult result) refused = refused
      mount_refused Spent refused = absurd refused
      mount_refused NoMemory refused = tt

  -- THE GATE WAS MOUNTED
  module _ (sound : (f : F) → Sound (state f)) (dir : F) (card : R) (keys : Keys) (objects moved_objects : List F) (g0 g1 : GateValue F R) (drew between draws : ℕ)
      (opens : OpensGate (state dir) (port card) keys (gate_sides state port g0)) (looks : Looks (state dir) (state g0.dir.file))
      (rose : NoneRose (counts (state dir) (port card) drew) (counts (state g0.dir.file) (port g0.host.port) between))
      (goes_on : GateGoesOn state port g0 g1 objects moved_objects) where
    abbrev f0 : ℕ → FileState
    f0 = bench dir objects

    abbrev mid : ℕ → FileState
    mid = bench g0.dir.file objects

    abbrev f1 : ℕ → FileState
    f1 = bench g1.dir.file moved_objects

    abbrev key : List ℕ
    key = rpmb_key keys.huk

    has_then : (c : CardState) → HasCard (port card) key c → HasCard (port g0.host.port) g0.host.key c
    has_then c has = has_still (port card) (port g0.host.port) key g0.host.key c opens.devices.card opens.key_is has

    pub bench_migrates : MigratesGate state port g0 g1 objects moved_objects → MigratesBench f0 f1 (port card) (port g1.host.port) keys
    bench_migrates migrates c has =
        let turns = migrates spare keys c (sym opens.tsk_is) (has_then c has) in
        record {
          after = turns.after;
          has = subst (λ (k : List ℕ). HasCard (port g1.host.port) k turns.after) (goes_on.key ∙ opens.key_is) turns.has;
          migrates = migrations_follow keys (devices_of f0 c) (devices_of mid c) (devices_of f1 turns.after)
              (looks_migrate keys directory_file (devices_of f0 c) (devices_of mid c) (numbered_sound state sound spare dir objects)
              (record { others = λ n other. others_same state spare dir g0.dir.file objects n other; card = refl })
              (subst (λ (s : FileState). Looks s (mid directory_file)) (sym (directory_here state spare dir objects)) (subst (Looks (state dir)) (sym (directory_here state spare g0.dir.file objects)) looks)))
              turns.migrates;
        }

    -- what is said of the directory's file, and of each other one, is said of all
    each_of : (P : FileState → FileState → Type 0) → ((s : FileState) → P s s) → P (state dir) (state g1.dir.file) → ((n : ℕ) → P (object_files state objects n) (object_files state moved_objects n)) → (n : ℕ)
        → P (f0 n) (f1 n)
    each_of P same own others n = elim (cases_eq n directory_file) [
      | inl is ↦
          let here : P (f0 directory_file) (f1 directory_file) =
          subst (λ (s : FileState). P s (f1 directory_file)) (sym (directory_here state spare dir objects)) (subst (P (state dir)) (sym (directory_here state spare g1.dir.file moved_objects)) own) in
          subst (λ (k : ℕ). P (f0 k) (f1 k)) (sym is) here
      | inr other ↦
          subst (λ (s : FileState). P s (f1 n)) (sym (put_else (files_of state (spare ∷ objects)) directory_file (state dir) n other))
          (subst (P (files_of state (spare ∷ objects) n)) (sym (put_else (files_of state (spare ∷ moved_objects)) directory_file (state g1.dir.file) n other)) (by_number n))
    ]
      where
        by_number : (n : ℕ) → P (files_of state (spare ∷ objects) n) (files_of state (spare ∷ moved_objects) n)
        by_number zero = same (state spare)
        by_number (suc k) = others (suc k)

    dir_goes_on : GoesOn (state dir) (state g0.dir.file)
    dir_goes_on = looks_go_on (state dir) (state g0.dir.file) looks

    pub bench_goes_on : (n : ℕ) → GoesOn (f0 n) (f1 n)
    bench_goes_on = each_of GoesOn goes_on_none (goes_on_then (state dir) (state g0.dir.file) (state g1.dir.file) dir_goes_on goes_on.dir) goes_on.files

    -- all were moved
    module _ (passed : GatePassed state port g0 g1 objects moved_objects) where
      pub bench_passed : (n : ℕ) → FilePassed (f0 n) (f1 n)
      bench_passed = each_of FilePassed passed_none (passed_then (state dir) (state g0.dir.file) (state g1.dir.file) rose.file passed.dir) passed.files

      pub bench_counted : (port card).faults ≤ (port g1.host.port).faults
      bench_counted = omega (arith, rose.card, passed.card)

    -- the gate stands over the bench at its end
    module _ (may : MayMove state port g1) where
      has_last : (c : CardState) → HasCard (port g1.host.port) key c → HasCard (port g1.host.port) g1.host.key c
      has_last c has = subst (λ (k : List ℕ). HasCard (port g1.host.port) k c) (sym (goes_on.key ∙ opens.key_is)) has

      here_is : directory_at g1.dir.dir.root.format ≡ directory_file
      here_is = ap directory_at may.format

      there_is : f1 (directory_at g1.dir.dir.root.format) ≡ state g1.dir.file
      there_is = ap f1 here_is ∙ directory_here state spare g1.dir.file moved_objects

      tsk_is : directory_key keys ≡ g1.dir.dir.tsk
      tsk_is = sym (goes_on.tsk ∙ opens.tsk_is)

      over : (c : CardState) → HasCard (port g1.host.port) key c → IsGateOver keys (devices_of f1 c) (gate_sides state port g1)
      over c has = record { settled = may.settled; tsk = tsk_is; has = has_last c has; file = there_is }

      -- each picture mounts the entries
      entries_mounted : (c : CardState) (picture : Picture) → HasCard (port g1.host.port) key c → IsTrue (f1 directory_file).honest → IsPictureOf f1 c picture
          → mounted_directory keys picture ≡ Ok g1.dir.dir.entries
      entries_mounted c picture has honest is =
          let held = may.settled.held (subst (λ (s : FileState). IsTrue s.honest) (directory_here state spare g1.dir.file moved_objects) honest) in
          let root : RootRef = g1.dir.dir.root in
          let image : List ℕ = picture.images (directory_at root.format) in
          let named : root_in (block_zero picture.card) ≡ Ok root = same_names picture.card c root is.same (may.settled.named c (has_last c has)).block in
          let left : LeftNow (state g1.dir.file) image = subst (λ (s : FileState). LeftNow s image) there_is (is.left (directory_at root.format)) in
          directory_is keys picture root g1.dir.dir.entries named (ap (λ (k : List ℕ). directory_of k image root) tsk_is ∙ held.entries_are image left)

      -- as it reads it is a picture of itself
      as_read : (c : CardState) → IsPictureOf f1 c (store_of f1 c)
      as_read c = record { left = λ n. reads_left (f1 n) (numbered_sound state sound spare g1.dir.file moved_objects n); same = same_card c }

      old_left : IsLeftToMove state port g1 → (file : ℕ) × (first_old g1.dir.dir.entries ≡ Some file)
      old_left left =
          let form = (form_at g1.dir.dir.entries may.settled.entries left.index left.entry left.at).format in
          let other = left.old in
          some_old g1.dir.dir.entries left.index left.entry left.at (omega (arith, form, other)) (first_old g1.dir.dir.entries) refl

      card_spent : IsLeftToMove state port g1 → (c : CardState) → HasCard (port g1.host.port) key c → IsCardSpent f1 keys c
      card_spent left c has = record {
        spent = (may.settled.named c (has_last c has)).counted ∙ left.spent;
        left = λ honest.
            let old = old_left left in
            let format = may.format in
            let named = (may.settled.named c (has_last c has)).block in
            (old.0, old_by_entries keys (store_of f1 c) g1.dir.dir.root named g1.dir.dir.entries (entries_mounted c (store_of f1 c) has honest (as_read c)) (λ is. omega (arith, is, format)) ∙ old.1);
      }

    -- the entries before, as the directory's file was read
    first_mounted : (before : CardState) (root : RootRef) → HasCard (port card) key before → root_in (block_zero before) ≡ Ok root → root.format ≡ current_format → Told (f0 directory_file) (f1 directory_file)
        → mounted_directory keys (store_of f0 before) ≡ Ok g0.dir.dir.entries
    first_mounted before root has named format told =
        let was : f0 directory_file ≡ state dir = directory_here state spare dir objects in
        let there : f0 (directory_at root.format) ≡ state dir = ap f0 (ap directory_at format) ∙ was in
        let own : Told (state dir) (state g1.dir.file) = subst (λ (s : FileState). Told s (state g1.dir.file)) was (subst (Told (f0 directory_file)) (directory_here state spare g1.dir.file moved_objects) told) in
        let first : Told (state dir) (state g0.dir.file) = told_first (state dir) (state g0.dir.file) (state g1.dir.file) goes_on.dir own in
        mounted_by keys f0 before root (state g0.dir.file).reads named (ap (λ (s : FileState). s.reads) there ∙ sym (opens.devices.reads first.1)) ∙ opens.directory first before has

    module _ (moved : ℕ) (each : MovesEach state port g0 g1 moved) where
      all_moved : AreMoved g0.dir.dir.entries g1.dir.dir.entries × (moved ≡ count_by is_old g0.dir.dir.entries) × (moved ≤ 256)
      all_moved = moves_all g0.dir.dir.entries g1.dir.dir.entries moved each.entries opens.settled.entries.whole

      pub bench_few : moved ≤ 256
      bench_few = all_moved.2

      pub bench_current : LeavesCurrent f1 (port g1.host.port) keys
      bench_current c picture has honest is =
          all_current keys (devices_of f1 c) (gate_sides state port g1) (over each.may c has) each.may.format (moved_current g0.dir.dir.entries g1.dir.dir.entries all_moved.0)
          (subst (λ (n : ℕ). IsTrue (f1 n).honest) (sym (here_is each.may)) honest) picture is

      pub bench_moves : NamesCurrent (port card) keys → TellsMoves f0 f1 (port card) (port g1.host.port) keys false moved
      bench_moves named before after has has_after =
          let now = named before has in
          let format = now.2 in
          record {
            root = now.0;
            named = now.1;
            directory_is = sym (ne_eqb now.0.format old_format (λ is. omega (arith, is, format)));
            objects_are = λ told own. record {
              entries = g0.dir.dir.entries;
              next = g1.dir.dir.entries;
              mounted = first_mounted before now.0 has now.1 now.2 own;
              moved = all_moved.0;
              counted = all_moved.1;
              holds = λ honest picture is. entries_mounted each.may after picture has_after honest is;
            };
          }

      pub bench_writes : WritesOnceEach (port card) (port g1.host.port) keys false moved
      bench_writes before after has has_after =
          let one = (opens.settled.named before (has_then before has)).counted in
          let two = (each.may.settled.named after (has_last each.may after has_after)).counted in
          let counted = each.counted in
          omega (arith, one, two, counted)

    -- THE MOVE OF AN OBJECT WAS GIVEN UP
    copy_failed : (n count : ℕ) → IsObjectFile n → FileFailed (object_files state objects n) (object_files state moved_objects n) count → FileFailed (f0 n) (f1 n) count
    copy_failed n count own failed =
        subst (λ (s : FileState). FileFailed s (f1 n) count) (sym (object_numbered state spare dir objects n own))
        (subst (λ (s : FileState). FileFailed (object_files state objects n) s count) (sym (object_numbered state spare g1.dir.file moved_objects n own)) failed)

    abbrev at_mount : Counted
    at_mount = counts (state g0.dir.file) (port g0.host.port) between

    abbrev at_end : Counted
    at_end = counts (state g1.dir.file) (port g1.host.port) draws

    by_why : (fault : MountFault) → ObjectNotMoved (object_files state objects) (object_files state moved_objects) at_mount at_end g0.host.key fault → (fault ≡ Spent → IsLeftToMove state port g1)
        → MigrationRefused f0 f1 (port card) (port g1.host.port) keys drew draws fault
    by_why (Failed (Fault (File file) count)) not left = record {
      named = not.named;
      other = not.other;
      into = not.into;
      failed = elim not.failed [
        | inl here ↦ inl (copy_failed file count not.named here)
        | inr there ↦ inr (copy_failed not.other count not.into there)
      ];
    }
    by_why (Failed (Fault Dir count)) not left =
        inr (subst (λ (s : FileState). FileFailed s (f1 directory_file) count) (sym (directory_here state spare dir objects))
        (subst (λ (s : FileState). FileFailed (state dir) s count) (sym (directory_here state spare g1.dir.file moved_objects))
        (fault_then (state dir) (state g0.dir.file) (state g1.dir.file) (FileFault count) dir_goes_on rose.file not)))
    by_why (Failed (Fault Card count)) not left = (subst (λ (n : ℕ). Rose n (port g1.host.port).faults) rose.card not.0, not.1)
    by_why (Failed (Fault Entropy count)) not left = (subst (λ (n : ℕ). Rose n draws) rose.draws not.0, not.1)
    by_why (Failed (FrameCause fault)) not left = absurd not
    by_why (Failed (ResultCause result)) not left = absurd not
    by_why (Frame fault) not left = λ c has. not c (has_then c has)
    by_why (CardResult result) not left = λ c has. not c (has_then c has)
    by_why Spent not left = let is = left refl in card_spent is.may is
    by_why NoMemory not left = tt
    by_why NoStore not left = absurd not
    by_why (CardBlock byte) not left = absurd not
    by_why (OldFormat file) not left = absurd not
    by_why (Directory fault) not left = absurd not

    pub bench_refused : (fault : MountFault) → StopsMoving state port (object_files state objects) (object_files state moved_objects) at_mount at_end g0 g1 fault
        → MigrationRefused f0 f1 (port card) (port g1.host.port) keys drew draws fault
    bench_refused fault stops = by_why fault stops.why stops.left

    -- where the counter is at its end it did not suffice
    no_room : last_counter < g0.counter + count_by is_old g0.dir.dir.entries → NamesCurrent (port card) keys → (c : CardState) → HasCard (port card) key c → HasNoRoom f0 f1 keys c
    no_room short named c has =
        let now = named c has in
        let format = now.2 in
        let counted = (opens.settled.named c (has_then c has)).counted in
        let none : ◌≡◌ {A = ℕ} (cond (now.0.format == old_format) 1 0) 0 = ap (λ (b : Bool). cond {A = ℕ} b 1 0) (ne_eqb now.0.format old_format (λ is. omega (arith, is, format))) in
        record {
          root = now.0;
          named = now.1;
          short = inr (λ told own. (g0.dir.dir.entries, first_mounted c now.0 has now.1 now.2 own, omega (arith, short, counted, none)));
        }

    pub bench_short : (fault : MountFault) → StopsMoving state port (object_files state objects) (object_files state moved_objects) at_mount at_end g0 g1 fault → NamesCurrent (port card) keys
        → SpentWithoutRoom f0 f1 (port card) keys fault
    bench_short Spent stops named = no_room (stops.short refl) named
    bench_short NoStore stops named = tt
    bench_short (CardBlock byte) stops named = tt
    bench_short (Directory fault) stops named = tt
    bench_short (OldFormat file) stops named = tt
    bench_short (Frame fault) stops named = tt
    bench_short (CardResult result) stops named = tt
    bench_short (Failed cause) stops named = tt
    bench_short NoMemory stops named = tt
