-- Turns of a migration: what looking at a file, a copy and a commit make of the devices, each as a migration.
use Rattle.std.proofs.Common.{◌≡◌, ◌≢◌, ◌⊎◌, ℕ, List, [], Some, Result, Ok, Err, IsTrue, inl, inr, refl, sym, ◌∙◌, ap, subst, arith}
use Rattle.std.proofs.lemmas.Bool.{cases_eq}
use Rattle.disk_model.specs.State.{FileState, LeftNow, LeftSince, Sound, moment, pending}
use Rattle.disk_model.specs.Calls.{Rests, Syncs}
use Rattle.disk_model.specs.Keeps.{Keeps, Runs}
use Rattle.disk_model.proofs.ImageLaws.{now_since, reads_left}
use Rattle.disk_model.proofs.Laws.{keeps_fewer}
use Rattle.node_image.specs.References.{current_format}
use Rattle.hmac_keys.specs.declared.Keys.{Keys}
use Rattle.htree_file.specs.declared.fault.TreeFault.{TreeFault}
use Rattle.htree_file.specs.Copies.{CopyOpens, OpenAlike, moved_root}
use Rattle.htree_file.specs.Making.{Nowhere}
use Rattle.htree_file.specs.Pages.{Opened, opened_of}
use Rattle.htree_file.specs.Standing.{Told}
use Rattle.tee_types.specs.Limits.{IsObjectFile, directory_file}
use Rattle.tee_types.proofs.FileNumbers.{object_not_directory}
use Rattle.htree_file.specs.Selected.{Lies}
use Rattle.dir_records.specs.declared.entry.DirEntry.{DirEntry}
use Rattle.node_image.specs.declared.node.RootRef.{RootRef}
use Rattle.rpmb_card.specs.Card.{CardState}
use Rattle.rpmb_host.specs.Honest.{HasCard}
use Rattle.crash_core.specs.MountedObject.{root_of}
use Rattle.crash_core.specs.Refusal.{Refusal}
use Rattle.crash_core.specs.CardBlock.{IsReference, directory_at, root_in}
use Rattle.crash_core.specs.CoreState.{put}
use Rattle.crash_core.specs.DeviceKeys.{directory_key, object_key}
use Rattle.crash_core.specs.Directory.{directory_of}
use Rattle.crash_core.specs.EntryLists.{AreCurrent, IsUnnamed, entry_at}
use Rattle.crash_core.specs.declared.change.EntryChange.TheVariants.{Put}
use Rattle.crash_core.specs.EntryChanges.{changed}
use Rattle.crash_core.specs.Migration.{DeviceStates, IsOfFile, MayBeSealed, Migrates}
use Rattle.crash_core.specs.MigrationLaws.{IsDirectoryCopied, IsEntryCopied, NoMountReads, OpensAlike, StagesDirectory, moved_entry}
use Rattle.crash_core.specs.Pictures.{AreAllHonest, AreSound, IsPictureOf, Picture, block_zero}
use Rattle.crash_core.proofs.Lists.{put_each, put_else, put_here}
use Rattle.crash_core.proofs.MountedImages.{directory_is}
use Rattle.crash_core.proofs.Migrations.{copies_migrate, migrations_follow, rests_migrate, same_names, spare_unread, stages_migrate, unnamed_unread}
use Rattle.crash_core.proofs.MigrationSeals.{directories_migrate, entries_migrate}
use Rattle.crash_core.specs.declared.change.EntryChange.TheVariants.{Put as PutChange}
use Rattle.store_commit.specs.declared.change.CommitEnd.{CommitEnd}
use Rattle.store_commit.specs.declared.change.CommitEnd.TheVariants.{Made, Dropped, Doubtful, Spent}
use Rattle.store_commit.specs.CardEnds.{IsSealedCard}
use Rattle.store_commit.specs.Ends.{Throughout}
use Rattle.store_commit.specs.DirectoryLooks.{Looks}
use Rattle.store_commit.specs.Sides.{IsSettled, Sides}
use Rattle.store_commit.specs.Steps.{IsReady, Steps}
use Rattle.object_calls.specs.DirectoryMoves.{CopiesBetween, CopiesDirectory}
use Rattle.object_calls.specs.Migrated.{IsAllCurrent}

-- a copy opens as the tree does that was copied
pub copies_alike : (a b : Result Opened TreeFault) → OpenAlike a b → OpensAlike a b
copies_alike (Ok a) (Ok b) same = same
copies_alike (Err a) (Err b) same = tt
copies_alike (Ok a) (Err b) none = none
copies_alike (Err a) (Ok b) none = none

-- LOOKING AT A FILE
abbrev with_state : DeviceStates → ℕ → FileState → DeviceStates
with_state d file s = record d { files = put d.files file s }

sound_with : (d : DeviceStates) (file : ℕ) (s : FileState) → AreSound d.files → Sound s → AreSound (with_state d file s).files
sound_with d file s sound fine n = put_each (λ k x. Sound x) d.files file s n fine (sound n)

pub looks_migrate : (keys : Keys) (file : ℕ) (old new : DeviceStates) → AreSound old.files → IsOfFile file old new → Looks (old.files file) (new.files file) → Migrates keys old new
looks_migrate keys file old new sound of looks =
    let mid = with_state old file looks.mid in
    let here : mid.files file ≡ looks.mid = put_here old.files file looks.mid file refl in
    let first : Rests (old.files file) (mid.files file) ⊎ Syncs (old.files file) (mid.files file) =
    subst (λ (s : FileState). Rests (old.files file) s ⊎ Syncs (old.files file) s) (sym here) looks.first in
    let behind : Rests (mid.files file) (new.files file) = subst (λ (s : FileState). Rests s (new.files file)) (sym here) looks.behind in
    migrations_follow keys old mid new
    (rests_migrate keys file old mid sound (record { others = λ n other. put_else old.files file looks.mid n other; card = refl }) first)
    (rests_migrate keys file mid new (sound_with old file looks.mid sound looks.sound)
    (record { others = λ n other. of.others n other ∙ sym (put_else old.files file looks.mid n other); card = of.card }) (inl behind))

-- A COPY
-- One file was read, and the other written, which no mount reads.
pub record IsCopied (old new : DeviceStates) (from to : ℕ) : Type 0 where
  pub apart : to ≢ from
  pub reads : Rests (old.files from) (new.files from)
  pub writes : Keeps Nowhere (old.files to) (new.files to)
  pub others : (n : ℕ) → n ≢ from → n ≢ to → new.files n ≡ old.files n
  pub card : new.card ≡ old.card

pub copy_migrates : (keys : Keys) (from to : ℕ) (old new : DeviceStates) → AreSound old.files → AreSound new.files → IsCopied old new from to
    → ((d : DeviceStates) → d.card ≡ old.card → ((n : ℕ) → n ≢ from → d.files n ≡ old.files n) → AreAllHonest d.files → NoMountReads keys d to) → Migrates keys old new
copy_migrates keys from to old new sound still copied unread =
    let mid = with_state old from (new.files from) in
    let here : mid.files from ≡ new.files from = put_here old.files from (new.files from) from refl in
    let there : mid.files to ≡ old.files to = put_else old.files from (new.files from) to copied.apart in
    let others : (n : ℕ) → n ≢ to → new.files n ≡ mid.files n = λ n other. elim (cases_eq n from) [
      | inl is ↦ ap new.files is ∙ sym here ∙ ap mid.files (sym is)
      | inr else ↦ copied.others n else other ∙ sym (put_else old.files from (new.files from) n else)
    ] in
    migrations_follow keys old mid new
    (rests_migrate keys from old mid sound (record { others = λ n other. put_else old.files from (new.files from) n other; card = refl })
    (inl (subst (λ (s : FileState). Rests (old.files from) s) (sym here) copied.reads)))
    (copies_migrate keys to mid new (sound_with old from (new.files from) sound (still from)) (record { others = others; card = copied.card })
    (unread mid refl (λ n other. put_else old.files from (new.files from) n other))
    (subst (λ (s : FileState). Runs Nowhere s (new.files to)) (sym there) copied.writes.run))

-- A COMMIT THAT MOVES AN ENTRY
-- The gate is settled over these devices, its directory in the file that the card names.
pub record IsGateOver (keys : Keys) (d : DeviceStates) (g : Sides) : Type 0 where
  pub settled : IsSettled g
  pub tsk : directory_key keys ≡ g.dir.tsk
  pub has : HasCard g.port g.key d.card
  pub file : d.files (directory_at g.dir.root.format) ≡ g.file

-- no mount then reads a file that no entry names
pub unread_over : (keys : Keys) (d : DeviceStates) (g : Sides) (file : ℕ) → IsGateOver keys d g → file ≢ directory_at g.dir.root.format → IsUnnamed g.dir.entries file → AreAllHonest d.files
    → NoMountReads keys d file
unread_over keys d g file over apart unnamed honest =
    let dir : ℕ = directory_at g.dir.root.format in
    let held = over.settled.held (subst (λ (s : FileState). IsTrue s.honest) over.file (honest dir)) in
    unnamed_unread keys d g.dir.root g.dir.entries file (over.settled.named d.card over.has).block apart
    (λ image left. ap (λ (k : List ℕ). directory_of k image g.dir.root) over.tsk ∙ held.entries_are image (subst (λ (s : FileState). LeftNow s image) over.file left)) unnamed

-- The object that an entry names was copied into a file that is settled.
pub record HasCopy (d : DeviceStates) (g : Sides) (index file : ℕ) (e : DirEntry) : Type 0 where
  pub at : entry_at g.dir.entries index ≡ Some e
  pub apart : file ≢ directory_at g.dir.root.format
  pub from_apart : e.file ≢ directory_at g.dir.root.format
  pub settled : pending (d.files file) ≡ []
  pub opens : IsTrue (d.files e.file).honest → IsTrue (d.files file).honest → CopyOpens (d.files e.file).reads (d.files file).reads (root_of e) current_format

module _ (keys : Keys) (old : DeviceStates) (files : ℕ → FileState) (g0 g1 : Sides) (index file : ℕ) (e : DirEntry) (sound : AreSound old.files) (still : AreSound files)
    (over : IsGateOver keys old g0) (is_new : files (directory_at g0.dir.root.format) ≡ g1.file)
    (others : (n : ℕ) → n ≢ directory_at g0.dir.root.format → files n ≡ old.files n) (throughout : Throughout g0 g1) (copy : HasCopy old g0 index file e) where
  abbrev dir : ℕ
  dir = directory_at g0.dir.root.format

  abbrev root : RootRef
  root = g0.dir.root

  -- the devices when the directory is staged, and before the card is written
  abbrev staged : DeviceStates
  staged = record { files = files; card = old.card }

  stages : StagesDirectory keys old staged
  stages = record {
    root = root;
    entries = g0.dir.entries;
    names = (over.settled.named old.card over.has).block;
    of = record { others = others; card = refl };
    runs = subst (λ (s : FileState). Runs Nowhere s (files dir)) (sym over.file) (subst (Runs Nowhere g0.file) (sym is_new) (keeps_fewer (Lies g0.dir.tree.layout g0.dir.tree.nodes root.version) Nowhere g0.file g1.file (λ p none. absurd none) throughout.keeps).run);
    always = λ honest image left.
        ap (λ (k : List ℕ). directory_of k image root) over.tsk
        ∙ throughout.always (subst (λ (s : FileState). IsTrue s.honest) is_new honest) image
        (subst (λ (s : FileState). LeftSince s (moment g0.file) image) is_new (subst (λ (s : FileState). LeftSince (files dir) (moment s) image) over.file left));
  }

  stage_migrates : Migrates keys old staged
  stage_migrates = stages_migrate keys old staged sound still stages

  -- with the new reference the directory is ready for the seal, and the entry's object opens as before
  copied : (next : RootRef) → IsReady g0 g1 (PutChange index (moved_entry e file current_format)) next → AreAllHonest files → IsEntryCopied keys staged root next index file current_format
  copied next ready honest =
      let here : directory_at next.format ≡ dir = ap directory_at ready.format in
      let fine : Sound g1.file = subst Sound is_new (still dir) in
      let own : IsTrue g1.file.honest = subst (λ (s : FileState). IsTrue s.honest) is_new (honest dir) in
      let now : directory_of g0.dir.tsk g1.file.reads root ≡ Ok g0.dir.entries =
      throughout.always own g1.file.reads (now_since g1.file (moment g0.file) g1.file.reads fine (reads_left g1.file fine)) in
      let then : directory_of g0.dir.tsk g1.file.reads next ≡ Ok (changed g0.dir.entries (Put index (moved_entry e file current_format))) = ready.holds own in
      record {
        entries = g0.dir.entries;
        ready = record {
          names = (over.settled.named old.card over.has).block;
          reads = ap (λ (s : FileState). directory_of (directory_key keys) s.reads root) is_new ∙ ap (λ (k : List ℕ). directory_of k g1.file.reads root) over.tsk ∙ now;
          form = ready.form;
          settled = ap (λ (n : ℕ). pending (files n)) here ∙ ap pending is_new ∙ ready.settled;
        };
        entry = e;
        at = copy.at;
        holds = ap (λ (n : ℕ). directory_of (directory_key keys) (files n).reads next) here ∙ ap (λ (s : FileState). directory_of (directory_key keys) s.reads next) is_new
            ∙ ap (λ (k : List ℕ). directory_of k g1.file.reads next) over.tsk ∙ then;
        settled = ap pending (others file copy.apart) ∙ copy.settled;
        alike = copies_alike (opened_of (object_key keys e.app) (files e.file).reads (root_of e)) (opened_of (object_key keys e.app) (files file).reads (root_of (moved_entry e file current_format)))
            (subst (λ (s : FileState). OpenAlike (opened_of (object_key keys e.app) s.reads (root_of e)) (opened_of (object_key keys e.app) (files file).reads (root_of (moved_entry e file current_format))))
            (sym (others e.file copy.from_apart))
            (subst (λ (s : FileState). OpenAlike (opened_of (object_key keys e.app) (old.files e.file).reads (root_of e)) (opened_of (object_key keys e.app) s.reads (root_of (moved_entry e file current_format))))
            (sym (others file copy.apart))
            (copy.opens (subst (λ (s : FileState). IsTrue s.honest) (others e.file copy.from_apart) (honest e.file)) (subst (λ (s : FileState). IsTrue s.honest) (others file copy.apart) (honest file)) (object_key keys e.app))));
      }

  -- the card after the commit, and all of it as a migration
  pub record Ends : Type 0 where
    pub after : CardState
    pub has : HasCard g1.port g1.key after
    pub migrates : Migrates keys old (record { files = files; card = after })

  unsealed : HasCard g1.port g1.key old.card → Ends
  unsealed has = record { after = old.card; has = has; migrates = stage_migrates }

  sealed : (next : RootRef) → IsReady g0 g1 (PutChange index (moved_entry e file current_format)) next → IsSealedCard g1.port g1.key old.card next → Ends
  sealed next ready seal = record {
    after = seal.next;
    has = seal.has;
    migrates = migrations_follow keys old staged (record { files = files; card = seal.next }) stage_migrates
        (entries_migrate keys root next index file current_format staged (record { files = files; card = seal.next }) still (λ n. refl) (inr seal.same) (copied next ready));
  }

  pub commit_migrates : (end : CommitEnd) → Steps g0 g1 (PutChange index (moved_entry e file current_format)) end → Ends
  commit_migrates (Made n) steps = sealed g1.dir.root steps.0 (steps.1 old.card over.has)
  commit_migrates (Dropped cause) steps = unsealed (steps.1 old.card over.has)
  commit_migrates (Doubtful n cause) steps = elim (steps.2 old.card over.has) [
    | inl has ↦ unsealed has
    | inr seal ↦ sealed steps.0 steps.1 seal
  ]
  commit_migrates Spent same = unsealed (subst (λ (g : Sides). HasCard g.port g.key old.card) (sym same) over.has)

-- THE DIRECTORY'S MOVE
-- The card names a directory, whose file was looked at; the current directory's file, which no mount reads, was written.
pub record IsCopying (old : DeviceStates) (files : ℕ → FileState) (root : RootRef) : Type 0 where
  pub named : root_in (block_zero old.card) ≡ Ok root
  pub apart : directory_file ≢ directory_at root.format
  pub between : CopiesBetween (old.files (directory_at root.format)) (files (directory_at root.format)) (old.files directory_file) (files directory_file)
  pub others : (n : ℕ) → n ≢ directory_at root.format → n ≢ directory_file → files n ≡ old.files n

module _ (keys : Keys) (old : DeviceStates) (files : ℕ → FileState) (root : RootRef) (sound : AreSound old.files) (still : AreSound files) (copying : IsCopying old files root) where
  abbrev from : ℕ
  from = directory_at root.format

  -- the devices before the card is written
  abbrev copied_files : DeviceStates
  copied_files = record { files = files; card = old.card }

  abbrev looked_at : DeviceStates
  looked_at = with_state old from (files from)

  -- the directory's file is none of an object
  no_object : IsObjectFile directory_file → ⊥
  no_object object = object_not_directory directory_file object.0 object.1 refl

  copy_unread : NoMountReads keys looked_at directory_file
  copy_unread = spare_unread keys looked_at directory_file (λ other named.
      let both : ◌≡◌ {A = Result RootRef Refusal} (Ok root) (Ok other) = sym copying.named ∙ named in
      let same : root ≡ other = cc (both) in
      subst (λ (r : RootRef). directory_file ≢ directory_at r.format) same copying.apart) no_object

  pub copying_migrates : Migrates keys old copied_files
  copying_migrates =
      let here : looked_at.files from ≡ files from = put_here old.files from (files from) from refl in
      let there : looked_at.files directory_file ≡ old.files directory_file = put_else old.files from (files from) directory_file copying.apart in
      let others : (n : ℕ) → n ≢ directory_file → files n ≡ looked_at.files n = λ n other. elim (cases_eq n from) [
        | inl is ↦ ap files is ∙ sym here ∙ ap looked_at.files (sym is)
        | inr else ↦ copying.others n else other ∙ sym (put_else old.files from (files from) n else)
      ] in
      migrations_follow keys old looked_at copied_files
      (looks_migrate keys from old looked_at sound (record { others = λ n other. put_else old.files from (files from) n other; card = refl })
      (subst (λ (s : FileState). Looks (old.files from) s) (sym here) copying.between.old_looks))
      (copies_migrate keys directory_file looked_at copied_files (sound_with old from (files from) sound (still from)) (record { others = others; card = refl }) (λ honest. copy_unread)
      (subst (λ (s : FileState). Runs Nowhere s (files directory_file)) (sym there) copying.between.new_run.run))

  -- The copy is settled.
  module _ (form : IsReference root) (copies : CopiesDirectory keys (old.files from) (files from) (old.files directory_file) (files directory_file) root) where
    -- where all files are honest the copy opens as the directory does
    directory_copied : AreAllHonest files → IsDirectoryCopied keys copied_files root (moved_root root current_format)
    directory_copied honest =
        let told : Told (old.files from) (files from) = ((still from).told (honest from), inl (honest from)) in
        let has = copies.has told in
        record {
          entries = has.0;
          ready = record {
            names = copying.named;
            reads = has.1;
            form = record { version = form.version; format = (omega arith, omega arith); long = form.long };
            settled = copies.settled;
          };
          alike = copies_alike (opened_of (directory_key keys) (files from).reads root) (opened_of (directory_key keys) (files directory_file).reads (moved_root root current_format))
              (copies.opens told (inl (honest directory_file)) (directory_key keys));
        }

    -- the card's write that names the copy, whether it landed or not
    pub naming_migrates : (card : CardState) → MayBeSealed old.card card (moved_root root current_format) → Migrates keys old (record { files = files; card = card })
    naming_migrates card sealed_or_not =
        migrations_follow keys old copied_files (record { files = files; card = card }) copying_migrates
        (directories_migrate keys root (moved_root root current_format) copied_files (record { files = files; card = card }) still (λ n. refl) sealed_or_not directory_copied)

-- AT THE END
-- A gate that is settled over a directory and entries of the current format: so it is in every picture.
pub all_current : (keys : Keys) (d : DeviceStates) (g : Sides) → IsGateOver keys d g → g.dir.root.format ≡ current_format → AreCurrent g.dir.entries
    → IsTrue (d.files (directory_at g.dir.root.format)).honest → (picture : Picture) → IsPictureOf d.files d.card picture → IsAllCurrent keys picture
all_current keys d g over format current honest picture is =
    let dir : ℕ = directory_at g.dir.root.format in
    let held = over.settled.held (subst (λ (s : FileState). IsTrue s.honest) over.file honest) in
    let named : root_in (block_zero picture.card) ≡ Ok g.dir.root = same_names picture.card d.card g.dir.root is.same (over.settled.named d.card over.has).block in
    let reads : directory_of (directory_key keys) (picture.images dir) g.dir.root ≡ Ok g.dir.entries =
    ap (λ (k : List ℕ). directory_of k (picture.images dir) g.dir.root) over.tsk
    ∙ held.entries_are (picture.images dir) (subst (λ (s : FileState). LeftNow s (picture.images dir)) over.file (is.left dir)) in
    record { root = g.dir.root; entries = g.dir.entries; named = named; holds = directory_is keys picture g.dir.root g.dir.entries named reads; directory = format; objects = current }
