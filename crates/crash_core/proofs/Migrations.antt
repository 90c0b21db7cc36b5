-- Migrations follow one another, and which calls are one.
use Rattle.std.proofs.Common.{◌≡◌, ◌≢◌, ◌≤◌, ℕ, List, [], ◌∷◌, ◌++◌, map, get_or, Option, Result, Ok, IsTrue, inl, inr, refl, sym, ◌∙◌, ap, subst, arith}
use Rattle.std.proofs.lemmas.Bool.{cases_eq}
use Rattle.disk_model.specs.State.{FileState, LeftNow, Sound, moment}
use Rattle.disk_model.specs.Keeps.{FileCall, IsCall, IsFileRun, rest, sync}
use Rattle.disk_model.proofs.ImageLaws.{now_since, reads_left}
use Rattle.node_image.specs.declared.node.RootRef.{RootRef}
use Rattle.hmac_keys.specs.declared.Keys.{Keys}
use Rattle.rpmb_card.specs.Card.{CardState}
use Rattle.htree_file.specs.Making.{Nowhere}
use Rattle.store_model.specs.Object.{ObjectMap}
use Rattle.tee_types.specs.Limits.{IsObjectFile}
use Rattle.dir_records.specs.declared.entry.DirEntry.{DirEntry}
use Rattle.crash_core.specs.EntryLists.{IsUnnamed}
use Rattle.crash_core.specs.Directory.{directory_of}
use Rattle.crash_core.specs.DirectoryLaws.{AreEntries}
use Rattle.crash_core.specs.Refusal.{Refusal}
use Rattle.crash_core.specs.CardBlock.{directory_at, root_in}
use Rattle.crash_core.specs.DeviceKeys.{directory_key}
use Rattle.crash_core.specs.Pictures.{AreAllHonest, AreSound, IsPictureOf, Picture, SameCard, block_zero}
use Rattle.crash_core.specs.Mounting.{Held, map_of, mounted_directory}
use Rattle.crash_core.specs.CoreState.{put}
use Rattle.crash_core.specs.Migration.{DeviceCall, DeviceStates, IsDeviceCall, IsMigration, IsOfFile, KeepsFiles, KeepsMaps, of_card, of_file}
use Rattle.crash_core.specs.MigrationLaws.{CallsMigrate, CopiesMigrate, ExchangesMigrate, MigrationsFollow, MigrationsKeepMaps, NoMountReads, RestsMigrate, StagesDirectory, StagesMigrate}
use Rattle.crash_core.proofs.Lists.{put_else, put_here}
use Rattle.crash_core.proofs.FileRuns.{call_later, call_was_honest, rest_left, run_past, run_was_honest, run_was_sound, sync_left}
use Rattle.crash_core.proofs.MountedImages.{directory_is, entry_not_directory, map_is, mounted_are, read_entries, same_held, unread_same}

-- CARDS THAT HOLD THE SAME
pub same_card : (card : CardState) → SameCard card card
same_card card = record { key = refl; counter = refl; blocks = refl }

pub same_card_then : (a b c : CardState) → SameCard a b → SameCard b c → SameCard a c
same_card_then a b c first second = record { key = first.key ∙ second.key; counter = first.counter ∙ second.counter; blocks = first.blocks ∙ second.blocks }

-- they name the same directory
pub same_names : (a b : CardState) (root : RootRef) → SameCard a b → root_in (block_zero b) ≡ Ok root → root_in (block_zero a) ≡ Ok root
same_names a b root same names = ap (λ (blocks : List (List ℕ)). root_in (get_or blocks 0 [])) same.blocks ∙ names

-- MIGRATIONS
keeps_none : (keys : Keys) (d : DeviceStates) → KeepsMaps keys d d
keeps_none keys d picture is = (picture, is, refl)

keeps_then : (keys : Keys) (a b c : DeviceStates) → KeepsMaps keys a b → KeepsMaps keys b c → KeepsMaps keys a c
keeps_then keys a b c first second picture is =
    let behind = second picture is in
    let before = first behind.0 behind.1 in
    (before.0, before.1, before.2 ∙ behind.2)

module _ (keys : Keys) (first mid last : DeviceStates) where
  later_moments : (calls : List DeviceCall) (now : DeviceStates) → KeepsMaps keys first mid → IsMigration keys mid now calls last → IsMigration keys first now calls last
  later_moments [] now keeps run = (run.0, keeps_then keys first mid now keeps run.1)
  later_moments (call ∷ calls) now keeps run = (keeps_then keys first mid now keeps run.0, run.1, run.2, later_moments calls run.1 keeps run.3)

  runs_follow : (calls more : List DeviceCall) (now : DeviceStates) → IsMigration keys first now calls mid → IsMigration keys mid mid more last → IsMigration keys first now (calls ++ more) last
  runs_follow [] more now run next =
      later_moments more now (subst (KeepsMaps keys first) (sym run.0) run.1) (subst (λ (d : DeviceStates). IsMigration keys mid d more last) run.0 next)
  runs_follow (call ∷ calls) more now run next = (run.0, run.1, run.2, runs_follow calls more run.1 run.3 next)

-- where all files are honest at the end, they were so before
device_was_honest : (call : DeviceCall) (old new : DeviceStates) → IsDeviceCall call old new → AreAllHonest new.files → AreAllHonest old.files
device_was_honest (of_file file call) old new called honest n = elim (cases_eq n file) [
  | inl is ↦ subst (λ (k : ℕ). IsTrue (old.files k).honest) (sym is) (call_was_honest call (old.files file) (new.files file) called.1 (honest file))
  | inr other ↦ subst (λ (s : FileState). IsTrue s.honest) (called.0.others n other) (honest n)
]
device_was_honest of_card old new called honest n = subst (λ (s : FileState). IsTrue s.honest) (called.files n) (honest n)

migration_was_honest : (keys : Keys) (first now last : DeviceStates) (calls : List DeviceCall) → IsMigration keys first now calls last → AreAllHonest last.files → AreAllHonest now.files
migration_was_honest keys first now last [] run honest = subst (λ (d : DeviceStates). AreAllHonest d.files) run.0 honest
migration_was_honest keys first now last (call ∷ calls) run honest = device_was_honest call now run.1 run.2 (migration_was_honest keys first run.1 last calls run.3 honest)

pub migrations_follow : MigrationsFollow
migrations_follow keys first mid last one other = record {
  calls = one.calls ++ other.calls;
  run = λ honest.
      let next = other.run honest in
      runs_follow keys first mid last one.calls other.calls first (one.run (migration_was_honest keys mid mid last other.calls next honest)) next;
}

-- the maps are kept at the end
last_keeps : (keys : Keys) (first now last : DeviceStates) (calls : List DeviceCall) → IsMigration keys first now calls last → KeepsMaps keys first last
last_keeps keys first now last [] run = subst (KeepsMaps keys first) (sym run.0) run.1
last_keeps keys first now last (call ∷ calls) run = last_keeps keys first run.1 last calls run.3

pub migrations_keep_maps : MigrationsKeepMaps
migrations_keep_maps keys old new migrates honest = last_keeps keys old old new migrates.calls (migrates.run honest)

pub calls_migrate : CallsMigrate
calls_migrate keys call old new called keeps = record { calls = call ∷ []; run = λ honest. (keeps_none keys old, new, called, (refl, keeps honest)) }

-- ONE CALL
-- in what is left after a call of one file, each of the others is left as before
others_left : (file : ℕ) (old new : DeviceStates) (images : ℕ → List ℕ) → IsOfFile file old new → LeftNow (old.files file) (images file) → ((n : ℕ) → LeftNow (new.files n) (images n))
    → (n : ℕ) → LeftNow (old.files n) (images n)
others_left file old new images of own left n = elim (cases_eq n file) [
  | inl is ↦ subst (λ (k : ℕ). LeftNow (old.files k) (images k)) (sym is) own
  | inr other ↦ subst (λ (s : FileState). LeftNow s (images n)) (of.others n other) (left n)
]

-- where each image of the file was one before, so was each picture
fewer_images : (keys : Keys) (file : ℕ) (old new : DeviceStates) → IsOfFile file old new → ((image : List ℕ) → LeftNow (new.files file) image → LeftNow (old.files file) image) → KeepsMaps keys old new
fewer_images keys file old new of fewer picture is = (
  picture,
  record {
    left = others_left file old new picture.images of (fewer (picture.images file) (is.left file)) is.left;
    same = subst (SameCard picture.card) of.card is.same;
  },
  refl,
)

pub rests_migrate : RestsMigrate
rests_migrate keys file old new sound of (inl rests) =
    calls_migrate keys (of_file file rest) old new (of, rests) (λ honest. fewer_images keys file old new of (rest_left (old.files file) (new.files file) rests (honest file)))
rests_migrate keys file old new sound of (inr syncs) =
    calls_migrate keys (of_file file sync) old new (of, syncs) (λ honest. fewer_images keys file old new of (sync_left (old.files file) (new.files file) (sound file) syncs (honest file)))

-- where the card holds what it held, each picture was one before
pub same_pictures : (keys : Keys) (old new : DeviceStates) → KeepsFiles old new → SameCard new.card old.card → KeepsMaps keys old new
same_pictures keys old new files same picture is = (
  picture,
  record {
    left = λ n. subst (λ (s : FileState). LeftNow s (picture.images n)) (files n) (is.left n);
    same = same_card_then picture.card new.card old.card is.same same;
  },
  refl,
)

pub exchanges_migrate : ExchangesMigrate
exchanges_migrate keys old new files same = calls_migrate keys of_card old new (record { files = files; card = inl same }) (λ honest. same_pictures keys old new files same)

-- CALLS OF ONE FILE
abbrev with_file : DeviceStates → ℕ → FileState → DeviceStates
with_file d file s = record d { files = put d.files file s }

same_states : (a b : DeviceStates) → ((n : ℕ) → a.files n ≡ b.files n) → a.card ≡ b.card → a ≡ b
same_states a b files card = λ i. record { files = λ n. files n i; card = card i }

with_new : (file : ℕ) (old new : DeviceStates) → IsOfFile file old new → with_file old file (new.files file) ≡ new
with_new file old new of = same_states (with_file old file (new.files file)) new (λ n. elim (cases_eq n file) [
  | inl is ↦ put_here old.files file (new.files file) n is ∙ ap new.files (sym is)
  | inr other ↦ put_else old.files file (new.files file) n other ∙ sym (of.others n other)
]) (sym of.card)

with_own : (file : ℕ) (old : DeviceStates) → with_file old file (old.files file) ≡ old
with_own file old = same_states (with_file old file (old.files file)) old (λ n. elim (cases_eq n file) [
  | inl is ↦ put_here old.files file (old.files file) n is ∙ ap old.files (sym is)
  | inr other ↦ put_else old.files file (old.files file) n other
]) refl

-- A run of calls of one file, whose states all have a property, at each of which the maps are kept.
module _ (keys : Keys) (old : DeviceStates) (file : ℕ) (end : FileState) (Kept : ℕ → Type 0) (Reached : FileState → Type 0)
    (stays : (call : FileCall) (s next : FileState) → Sound s → IsCall call s next → Reached s → Reached next)
    (keep : (s : FileState) (more : List FileCall) → Reached s → IsFileRun Kept s more end → KeepsMaps keys old (with_file old file s)) where
  call_is : (call : FileCall) (s next : FileState) → IsCall call s next → IsDeviceCall (of_file file call) (with_file old file s) (with_file old file next)
  call_is call s next is = (
    record { others = λ n other. put_else old.files file next n other ∙ sym (put_else old.files file s n other); card = refl },
    subst (λ (x : FileState). IsCall call x (put old.files file next file)) (sym (put_here old.files file s file refl))
        (subst (IsCall call s) (sym (put_here old.files file next file refl)) is),
  )

  run_is : (calls : List FileCall) (s : FileState) → Reached s → IsFileRun Kept s calls end
      → IsMigration keys old (with_file old file s) (map (λ (call : FileCall). of_file file call) calls) (with_file old file end)
  run_is [] s reached run = (ap (with_file old file) run, keep s [] reached run)
  run_is (call ∷ calls) s reached run = (
    keep s (call ∷ calls) reached run,
    with_file old file run.0,
    call_is call s run.0 run.2,
    run_is calls run.0 (stays call s run.0 run.1 run.2 reached) run.4,
  )

  run_migrates : (new : DeviceStates) → IsOfFile file old new → new.files file ≡ end → (calls : List FileCall) → Reached (old.files file) → IsFileRun Kept (old.files file) calls end
      → IsMigration keys old old (map (λ (call : FileCall). of_file file call) calls) new
  run_migrates new of is calls reached run =
      let last : with_file old file end ≡ new = ap (with_file old file) (sym is) ∙ with_new file old new of in
      subst (λ (d : DeviceStates). IsMigration keys old d (map (λ (call : FileCall). of_file file call) calls) new) (with_own file old)
      (subst (IsMigration keys old (with_file old file (old.files file)) (map (λ (call : FileCall). of_file file call) calls)) last (run_is calls (old.files file) reached run))

-- A picture of the devices with another state of one file, with an image of the old state for its own, is a picture of the devices.
with_image : (d : DeviceStates) (file : ℕ) (s : FileState) (picture : Picture) (image : List ℕ) → LeftNow (d.files file) image
    → IsPictureOf (with_file d file s).files d.card picture → IsPictureOf d.files d.card (record picture { images = put picture.images file image })
with_image d file s picture image own is = record { left = left; same = is.same }
  where
    left : (n : ℕ) → LeftNow (d.files n) (put picture.images file image n)
    left n = elim (cases_eq n file) [
      | inl here ↦ subst (LeftNow (d.files n)) (sym (put_here picture.images file image n here)) (subst (λ (k : ℕ). LeftNow (d.files k) image) (sym here) own)
      | inr other ↦ subst (LeftNow (d.files n)) (sym (put_else picture.images file image n other))
          (subst (λ (x : FileState). LeftNow x (picture.images n)) (put_else d.files file s n other) (is.left n))
    ]

-- A FILE THAT NO MOUNT READS
unread_keeps : (keys : Keys) (d : DeviceStates) (file : ℕ) (s : FileState) → Sound (d.files file) → NoMountReads keys d file → KeepsMaps keys d (with_file d file s)
unread_keeps keys d file s sound none picture is =
    let reads : List ℕ = (d.files file).reads in
    let was : Picture = record picture { images = put picture.images file reads } in
    let was_is : IsPictureOf d.files d.card was = with_image d file s picture reads (reads_left (d.files file) sound) is in (
      was,
      was_is,
      unread_same keys picture.images (put picture.images file reads) picture.card file (λ n other. put_else picture.images file reads n other)
          (λ root names. none.directory root (sym (ap (λ (blocks : List (List ℕ)). root_in (get_or blocks 0 [])) is.same.blocks) ∙ names))
          (λ entries found. none.unnamed was entries was_is found),
    )

-- Such is a file that no entry of the directory names, which stands in every image of its own file,
pub unnamed_unread : (keys : Keys) (d : DeviceStates) (root : RootRef) (entries : List (Option DirEntry)) (file : ℕ) → root_in (block_zero d.card) ≡ Ok root → file ≢ directory_at root.format
    → ((image : List ℕ) → LeftNow (d.files (directory_at root.format)) image → directory_of (directory_key keys) image root ≡ Ok entries) → IsUnnamed entries file → NoMountReads keys d file
unnamed_unread keys d root entries file names apart reads unnamed = record {
  directory = λ other named.
      let both : ◌≡◌ {A = Result RootRef Refusal} (Ok root) (Ok other) = sym names ∙ named in
      let same : root ≡ other = cc (both) in
      subst (λ (r : RootRef). file ≢ directory_at r.format) same apart;
  unnamed = λ picture found is mounts.
      let here = reads (picture.images (directory_at root.format)) (is.left (directory_at root.format)) in
      let own : mounted_directory keys picture ≡ Ok entries = directory_is keys picture root entries (same_names picture.card d.card root is.same names) here in
      let both : ◌≡◌ {A = Result (List (Option DirEntry)) Refusal} (Ok entries) (Ok found) = sym own ∙ mounts in
      let same : entries ≡ found = cc (both) in
      subst (λ (l : List (Option DirEntry)). IsUnnamed l file) same unnamed;
}

-- and one whose number no entry can have.
pub spare_unread : (keys : Keys) (d : DeviceStates) (file : ℕ) → ((root : RootRef) → root_in (block_zero d.card) ≡ Ok root → file ≢ directory_at root.format)
    → (IsObjectFile file → ⊥) → NoMountReads keys d file
spare_unread keys d file apart spare = record {
  directory = apart;
  unnamed = λ picture entries is mounts index e at same.
      let form = (mounted_are keys picture entries mounts).forms index e at in
      spare (subst IsObjectFile (sym same) form.file);
}

pub copies_migrate : CopiesMigrate
copies_migrate keys file old new sound of none runs = record {
  calls = map (λ (call : FileCall). of_file file call) runs.calls;
  run = λ honest.
      let was : AreAllHonest old.files = λ n. elim (cases_eq n file) [
        | inl is ↦ subst (λ (k : ℕ). IsTrue (old.files k).honest) (sym is) (run_was_honest Nowhere (old.files file) runs.calls (new.files file) runs.run (honest file))
        | inr other ↦ subst (λ (s : FileState). IsTrue s.honest) (of.others n other) (honest n)
      ] in
      run_migrates keys old file (new.files file) Nowhere (λ s. Unit {0}) (λ call s next fine is reached. tt) (λ s more reached run. unread_keeps keys old file s (sound file) (none was))
      new of refl runs.calls tt runs.run;
}

-- THE DIRECTORY'S FILE
module _ (keys : Keys) (old new : DeviceStates) (sound : AreSound old.files) (still : AreSound new.files) (stages : StagesDirectory keys old new)
    (honest : IsTrue (new.files (directory_at stages.root.format)).honest) where
  abbrev file : ℕ
  file = directory_at stages.root.format

  abbrev before : FileState
  before = old.files file

  abbrev after : FileState
  after = new.files file

  -- so the reference names the entries in each image that the file may leave between two of the calls
  reads_between : (s : FileState) (more : List FileCall) → moment before ≤ moment s → Sound s → IsFileRun Nowhere s more after → (image : List ℕ) → LeftNow s image
      → directory_of (directory_key keys) image stages.root ≡ Ok stages.entries
  reads_between s more later fine run image left =
      stages.always honest image (run_past Nowhere s more after run (moment before) image later (now_since s (moment before) image fine left))

  stage_keeps : (s : FileState) (more : List FileCall) → moment before ≤ moment s → IsFileRun Nowhere s more after → KeepsMaps keys old (with_file old file s)
  stage_keeps s more later run picture is =
      let reads : List ℕ = before.reads in
      let images : ℕ → List ℕ = put picture.images file reads in
      let was : Picture = record picture { images = images } in
      let own : LeftNow before reads = reads_left before (sound file) in
      let left : LeftNow s (picture.images file) = subst (λ (x : FileState). LeftNow x (picture.images file)) (put_here old.files file s file refl) (is.left file) in
      let fine : Sound s = run_was_sound Nowhere s more after run (still file) in
      let now_reads = reads_between s more later fine run (picture.images file) left in
      let was_reads = reads_between before stages.runs.calls (omega arith) (sound file) stages.runs.run reads own in
      let are : AreEntries stages.entries = read_entries (directory_key keys) reads stages.root stages.entries was_reads in
      let here : images file ≡ reads = put_here picture.images file reads file refl in
      let names : root_in (block_zero picture.card) ≡ Ok stages.root = same_names picture.card old.card stages.root is.same stages.names in (
        was,
        with_image old file s picture reads own is,
        map_is keys was stages.root stages.entries names (ap (λ (b : List ℕ). directory_of (directory_key keys) b stages.root) here ∙ was_reads)
            ∙ ap (λ (l : List (Option Held)). let r : Result ObjectMap Refusal = Ok (map_of l) in r)
            (same_held keys picture.images images stages.entries (λ index e at. put_else picture.images file reads e.file (entry_not_directory stages.root.format stages.entries are index e at)))
            ∙ sym (map_is keys picture stages.root stages.entries names now_reads),
      )

  stage_migrates : IsMigration keys old old (map (λ (call : FileCall). of_file file call) stages.runs.calls) new
  stage_migrates =
      run_migrates keys old file after Nowhere (λ s. moment before ≤ moment s) (λ call s next fine is later. let goes = call_later call s next fine is in omega (arith, later, goes)) stage_keeps
      new stages.of refl stages.runs.calls (omega arith) stages.runs.run

pub stages_migrate : StagesMigrate
stages_migrate keys old new sound still stages = record {
  calls = map (λ (call : FileCall). of_file (directory_at stages.root.format) call) stages.runs.calls;
  run = λ honest. stage_migrates keys old new sound still stages (honest (directory_at stages.root.format));
}
