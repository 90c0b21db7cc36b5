-- A store that is mounted and synced is a start of the core.
use Rattle.std.proofs.Common.{◌≡◌, ℕ, List, [], ◌∷◌, Option, Some, None, refl, sym, ◌∙◌, subst}
use Rattle.std.specs.Option.{option_map}
use Rattle.disk_model.specs.State.{FileState}
use Rattle.node_image.specs.declared.node.RootRef.{RootRef}
use Rattle.tee_types.specs.Limits.{directory_file}
use Rattle.rpmb_card.specs.Card.{CardState}
use Rattle.dir_records.specs.declared.entry.DirEntry.{DirEntry}
use Rattle.dir_records.specs.Form.{HasForm}
use Rattle.crash_core.specs.MountedObject.{root_of}
use Rattle.crash_core.specs.DeviceKeys.{directory_key, object_key}
use Rattle.crash_core.specs.EntryLists.{entry_at}
use Rattle.crash_core.specs.Mounting.{Held, all_held_in, held_in}
use Rattle.crash_core.specs.Sights.{Shows, Sight, sight_of}
use Rattle.crash_core.specs.CoreState.{IsTrusted, Phase}
use Rattle.crash_core.specs.Holding.{DirectoryStands, entries_held, held_at}
use Rattle.crash_core.specs.Opening.{IsOpened, OpeningsAreStarts, reads_of}
use Rattle.crash_core.proofs.Doubles.{directory_forms}
use Rattle.crash_core.proofs.Lists.{map_at}
use Rattle.crash_core.proofs.SameDirectory.{directory_seen}
use Rattle.crash_core.proofs.Sightings.{settled_stands}

module _ (phase : Phase) (files : ℕ → FileState) where
  entry_back : (o : Option DirEntry) → option_map (λ (h : Held). h.entry) (option_map (held_in phase.keys (reads_of files)) o) ≡ o
  entry_back None = refl
  entry_back (Some e) = refl

  -- what is held in the images holds the entries
  pub entries_back : (entries : List (Option DirEntry)) → entries_held (all_held_in phase.keys (reads_of files) entries) ≡ entries
  entries_back [] = refl
  entries_back (x ∷ entries) = (λ i. entry_back x i ∷ entries_back entries i)

  -- what is held at a place is what the entry there names
  pub held_back : (o : Option DirEntry) (h : Held) → option_map (held_in phase.keys (reads_of files)) o ≡ Some h → (e : DirEntry) × (o ≡ Some e) × (held_in phase.keys (reads_of files) e ≡ h)
  held_back None h is = absurd (cc (is))
  held_back (Some e) h is = (e, refl, cc (is))

module _ (phase : Phase) (files : ℕ → FileState) (card : CardState) (root : RootRef) (entries : List (Option DirEntry)) (o : IsOpened phase files card root entries) where
  abbrev seen : Sight
  seen = sight_of (directory_key phase.keys) (files directory_file).reads root

  -- an entry whose file is honest to the end shows what it names
  shows : ((index : ℕ) (e : DirEntry) → entry_at entries index ≡ Some e → HasForm e) → (index : ℕ) (h : Held) → held_at (all_held_in phase.keys (reads_of files) entries) index ≡ Some h → IsTrusted phase h.entry.file
      → Shows phase.keys (files h.entry.file) h.entry h.object
  shows forms index h at trusted =
      let found = held_back phase files (entry_at entries index) h (sym (map_at (option_map (held_in phase.keys (reads_of files))) entries index refl) ∙ at) in
      let e : DirEntry = found.0 in
      subst (λ (x : Held). IsTrusted phase x.entry.file → Shows phase.keys (files x.entry.file) x.entry x.object) found.2
      (λ own. record {
        sight = sight_of (object_key phase.keys e.app) (files e.file).reads (root_of e);
        stands = settled_stands (files e.file) (object_key phase.keys e.app) (root_of e) (o.sound e.file) (o.honest e.file own) (o.synced index e found.1 own) ((forms index e found.1).version, o.entries_current index e found.1);
        is = refl;
      }) trusted

  opened_stands : IsTrusted phase directory_file → DirectoryStands phase files root entries phase.begins.objects
  opened_stands trusted =
      let reads = directory_seen (directory_key phase.keys) (files directory_file).reads root entries (o.directory trusted) in
      record {
        sight = seen;
        own = settled_stands (files directory_file) (directory_key phase.keys) root (o.sound directory_file) (o.honest directory_file trusted) (o.settled trusted) (o.form.version, o.current);
        reads = reads;
        held = all_held_in phase.keys (reads_of files) entries;
        holds = entries_back phase files entries;
        each = shows (directory_forms entries seen.opened reads);
        map_is = sym (o.begins trusted);
      }

pub openings_are_starts : {Root : Type 0} → OpeningsAreStarts Root
openings_are_starts phase files card root entries o = record {
  sound = o.sound;
  honest = o.honest;
  directory = opened_stands phase files card root entries o;
  card = o.names;
  no_takes = λ file. refl;
  no_stages = λ file. refl;
  no_pending = refl;
  no_history = refl;
}
