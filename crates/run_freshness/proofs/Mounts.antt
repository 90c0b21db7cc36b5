-- What a mount read, beside a bench that was closed.
use Rattle.std.proofs.Common.{◌≡◌, ◌⊎◌, inl, inr, ℕ, Bool, true, false, true≢false, List, Option, Some, Result, Ok, refl, sym, ap, subst, ◌∙◌}
use Rattle.std.specs.Prelude.{IsTrue}
use Rattle.disk_model.specs.State.{FileState, Sound}
use Rattle.htree_file.specs.Standing.{Told}
use Rattle.node_image.specs.References.{current_format}
use Rattle.node_image.specs.declared.node.RootRef.{RootRef}
use Rattle.hmac_keys.specs.declared.Keys.{Keys}
use Rattle.hmac_keys.specs.KeyTable.{rpmb_key}
use Rattle.tee_types.specs.Limits.{directory_file}
use Rattle.rpmb_card.specs.Card.{CardState}
use Rattle.rpmb_card.specs.Port.{PortState}
use Rattle.rpmb_host.specs.Honest.{HasCard}
use Rattle.store_model.specs.Object.{ObjectMap}
use Rattle.dir_records.specs.declared.entry.DirEntry.{DirEntry}
use Rattle.crash_core.specs.CardBlock.{directory_at, root_in}
use Rattle.crash_core.specs.DeviceKeys.{directory_key}
use Rattle.crash_core.specs.Mounting.{mounted_directory}
use Rattle.crash_core.specs.Opening.{reads_of}
use Rattle.crash_core.specs.Pictures.{Picture, block_zero}
use Rattle.crash_core.specs.Refusal.{Refusal}
use Rattle.object_calls.proofs.DirectoryImages.{one_directory}
use Rattle.object_calls.proofs.Files.{directory_here, numbered_sound}
use Rattle.object_calls.specs.Opening.{OpeningValue, bench_files, entries_in}
use Rattle.run_acts.specs.Benches.{BenchState}
use Rattle.run_acts.specs.Between.{AreSound}
use Rattle.run_acts.specs.MountedDevices.{IsMounted, objects_in}
use Rattle.freshness_laws.specs.Agreement.{MapsAgree}
use Rattle.freshness_laws.specs.SeenStores.{SeenStore, map_seen}
use Rattle.freshness_laws.specs.Pictures.{AreByteImages, HoldsStore, IsReadIn}
use Rattle.freshness_laws.proofs.Pictures.{map_same, mounts_by, pictures_hold, trees_are, trees_in}
use Rattle.freshness_laws.proofs.Stores.{directories_or, stores_or}
use Rattle.run_freshness.specs.Seen.{HasSameEntries, IsFreshMount, MountSees, SeesRead, picture_read}
use Rattle.run_freshness.specs.Laws.{KeepsCard, MountsAreFresh, MountsHaveSameEntries}
use Rattle.run_freshness.proofs.Sealed.{sealed_reads, sealed_seen, sealed_tree}

one_root : (a b : RootRef) → (let r : Result RootRef Refusal = Ok a in r ≡ Ok b) → a ≡ b
one_root a b is = cc (is)

-- whether what a file reads as can be followed, and is told, is known by its flags
by_flags : (old new : FileState) → Told old new ⊎ (Told old new → ⊥)
by_flags old new = elim (cases_true new.tells) [
  | inr silent ↦ inr (λ told. silent told.0)
  | inl tells ↦ elim (cases_true new.honest) [
    | inl honest ↦ inl (tells, inl honest)
    | inr tampered ↦ elim (cases_true old.steady) [
      | inl steady ↦ inl (tells, inr steady)
      | inr unsteady ↦ inr (λ told. elim told.1 [ inl honest ↦ tampered honest | inr steady ↦ unsteady steady ])
    ]
  ]
]
  where
    cases_true : (b : Bool) → IsTrue b ⊎ (IsTrue b → ⊥)
    cases_true true = inl refl
    cases_true false = inr (λ is. true≢false (sym is))

module _ {F R : Type 0} (of_file : F → FileState) (of_port : R → PortState) (all_sound : (file : F) → Sound (of_file file)) (keys : Keys) where
  module _ (old : BenchState) (o : OpeningValue F R) (mounts : IsMounted of_file of_port keys old o) (card : CardState) (has : HasCard old.card (rpmb_key keys.huk) card) where
    -- the card behind the mount
    there : HasCard (of_port o.gate.host.port) o.gate.host.key card
    there = record {
      told = ((mounts.gate).devices).card ∙ has.told;
      keyed = has.keyed ∙ ap (λ (k : List ℕ). Some k) (sym (mounts.gate).key_is);
    }

    named : root_in (block_zero card) ≡ Ok o.gate.dir.dir.root
    named = (((mounts.gate).settled).named card there).block

    abbrev reads : ℕ → List ℕ
    reads = reads_of (bench_files of_file o)

    bytes : AreByteImages reads
    bytes file = (numbered_sound of_file all_sound o.spare o.gate.dir.file o.files file).reads

    -- the directory's file is the gate's
    here : bench_files of_file o directory_file ≡ of_file o.gate.dir.file
    here = directory_here of_file o.spare o.gate.dir.file o.files

    seen_current : (s : SeenStore keys (block_zero card)) → s.root.format ≡ current_format
    seen_current s = ap (λ (r : RootRef). r.format) (one_root s.root o.gate.dir.dir.root (sym s.named ∙ named)) ∙ mounts.current.0

    abbrev picture_of_reads : Picture
    picture_of_reads = record { images = reads; card = card }

    followed : Told (old.files directory_file) (bench_files of_file o directory_file) → MountSees of_file of_port keys (block_zero card) (old.files directory_file) o
    followed told =
        let directory : mounted_directory keys picture_of_reads ≡ Ok (entries_in o) =
        one_directory keys reads (of_file o.gate.dir.file).reads card o.gate.dir.dir.root named mounts.current.0 (ap (λ (s : FileState). s.reads) here)
        ∙ (mounts.gate).directory (subst (Told (old.files directory_file)) here told) card has in
        let x = pictures_hold keys picture_of_reads (entries_in o) bytes directory in
        record {
          seen = x.seen;
          directory = inl (subst (λ (format : ℕ). IsReadIn (reads (directory_at format)) (x.seen).root (x.seen).dir) (seen_current x.seen) (x.held).dir);
          entries = x.entries_are;
          trees = (x.held).trees;
          objects_are = x.objects_are;
        }

    unfollowed : (Told (old.files directory_file) (bench_files of_file o directory_file) → ⊥) → MountSees of_file of_port keys (block_zero card) (old.files directory_file) o
    unfollowed untold = record {
      seen = record {
        root = o.gate.dir.dir.root;
        named = named;
        dir = sealed_tree (directory_key keys) o.gate.dir.dir.root o.gate.dir.dir.tree (mounts.gate).verified (Ok (entries_in o)) ((mounts.gate).seen).entries.pages;
        entries = entries_in o;
        reads = sealed_reads (directory_key keys) o.gate.dir.dir.root o.gate.dir.dir.tree (mounts.gate).verified (entries_in o) ((mounts.gate).seen).entries.pages;
        trees = trees_in keys reads bytes;
      };
      directory = inr (
        untold,
        refl,
        subst
            (λ (s : FileState). SeesRead (old.files directory_file) s
            (sealed_tree (directory_key keys) o.gate.dir.dir.root o.gate.dir.dir.tree (mounts.gate).verified (Ok (entries_in o)) ((mounts.gate).seen).entries.pages)) (sym here)
            (sealed_seen (directory_key keys) o.gate.dir.dir.root o.gate.dir.dir.tree (mounts.gate).verified (entries_in o) (old.files directory_file) (of_file o.gate.dir.file) (mounts.gate).seen),
      );
      entries = refl;
      trees = trees_are keys reads bytes;
      objects_are = map_same keys reads bytes (entries_in o);
    }

    pub mount_sees : MountSees of_file of_port keys (block_zero card) (old.files directory_file) o
    mount_sees = elim (by_flags (old.files directory_file) (bench_files of_file o directory_file)) [ inl told ↦ followed told | inr untold ↦ unfollowed untold ]

  module _ (closed : BenchState) (sound : AreSound closed.files) (card : CardState) (entries : List (Option DirEntry)) (directory : mounted_directory keys (picture_read closed card) ≡ Ok entries) where
    pub closed_holds : HoldsStore keys (block_zero card) (reads_of closed.files) entries
    closed_holds = pictures_hold keys (picture_read closed card) entries (λ file. (sound file).reads) directory

  pub moved : (closed old : BenchState) (card : CardState) → HasCard closed.card (rpmb_key keys.huk) card → KeepsCard closed old → HasCard old.card (rpmb_key keys.huk) card
  moved closed old card has keeps = record { told = keeps ∙ has.told; keyed = has.keyed }

  pub fresh_mount : (closed old : BenchState) (card : CardState) (o : OpeningValue F R) → AreSound closed.files → HasCard closed.card (rpmb_key keys.huk) card → KeepsCard closed old
      → IsMounted of_file of_port keys old o → IsFreshMount of_file of_port keys closed card (old.files directory_file) o
  fresh_mount closed old card o sound has keeps mounts objects is =
      let a = mounts_by keys (picture_read closed card) objects is in
      let x = closed_holds closed sound card a.entries a.directory in
      let y = mount_sees old o mounts card (moved closed old card has keeps) in
      elim (stores_or keys (block_zero card) x.seen y.seen) [
        | inr clash ↦ inr (record { before = record { seen = x.seen; held = x.held }; sees = y; clash = clash })
        | inl agree ↦ inl (subst (λ (m : ObjectMap). MapsAgree m (objects_in of_file of_port keys o)) (sym x.objects_are ∙ a.objects_are)
            (subst (MapsAgree (map_seen x.seen)) (sym y.objects_are) agree))
      ]

  pub same_entries : (closed old : BenchState) (card : CardState) (o : OpeningValue F R) → AreSound closed.files → HasCard closed.card (rpmb_key keys.huk) card → KeepsCard closed old
      → IsMounted of_file of_port keys old o → HasSameEntries of_file of_port keys closed card (old.files directory_file) o
  same_entries closed old card o sound has keeps mounts entries is =
      let x = closed_holds closed sound card entries is in
      let y = mount_sees old o mounts card (moved closed old card has keeps) in
      elim (directories_or keys (block_zero card) x.seen y.seen) [
        | inr clash ↦ inr (record { before = record { seen = x.seen; held = x.held }; sees = y; clash = clash })
        | inl same ↦ inl (sym y.entries ∙ same ∙ x.entries_are)
      ]

pub mounts_fresh : {F R : Type 0} (of_file : F → FileState) (of_port : R → PortState) → ((file : F) → Sound (of_file file)) → MountsAreFresh of_file of_port
mounts_fresh of_file of_port all_sound keys closed old card o sound has keeps mounts = fresh_mount of_file of_port all_sound keys closed old card o sound has keeps mounts

pub mounts_same_entries : {F R : Type 0} (of_file : F → FileState) (of_port : R → PortState) → ((file : F) → Sound (of_file file)) → MountsHaveSameEntries of_file of_port
mounts_same_entries of_file of_port all_sound keys closed old card o sound has keeps mounts = same_entries of_file of_port all_sound keys closed old card o sound has keeps mounts
