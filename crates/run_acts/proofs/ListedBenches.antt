-- A bench that was mounted, listed and closed.
use Rattle.std.proofs.Common.{◌≡◌, ◌≢◌, ◌≤◌, ◌∙◌, ℕ, List, Option, None, length, refl, sym, ap, subst, inl, inr, IsTrue}
use Rattle.std.proofs.lemmas.List.{length-map}
use Rattle.std.specs.Map.{keys_of}
use Rattle.disk_model.specs.State.{FileState, Sound, no_file}
use Rattle.disk_model.specs.Calls.{GoesOn, Rests}
use Rattle.htree_file.specs.Standing.{Told}
use Rattle.htree_file.specs.Answers.{FileFailed, FilePassed}
use Rattle.htree_file.specs.declared.fault.TreeFault.TheVariants.{Failed as FileFault}
use Rattle.htree_file.proofs.Causes.{fault_then, passed_then, rests_none, rests_then}
use Rattle.hmac_keys.specs.declared.Keys.{Keys}
use Rattle.tee_types.specs.Limits.{file_count}
use Rattle.rpmb_card.specs.Port.{PortState}
use Rattle.tee_types.specs.declared.reply.Cause.TheVariants.{Fault, Frame as FrameCause, CardResult as ResultCause}
use Rattle.tee_types.specs.declared.reply.Device.TheVariants.{Dir, File, Card, Entropy}
use Rattle.store_model.specs.declared.name.ObjectName.{ObjectName}
use Rattle.store_model.specs.Object.{Object, ObjectMap}
use Rattle.store_commit.specs.declared.fault.MountFault.{MountFault}
use Rattle.store_commit.specs.declared.fault.MountFault.TheVariants.{NoStore, CardBlock, Directory, Frame, CardResult, Failed, Spent, NoMemory, OldFormat}
use Rattle.store_commit.specs.Counts.{RefusalNotDrawn}
use Rattle.crash_core.specs.Mounting.{held_in}
use Rattle.crash_core.specs.Opening.{reads_of}
use Rattle.dir_records.specs.declared.entry.DirEntry.{DirEntry}
use Rattle.dir_file.specs.EntryForms.{AreEntriesOf}
use Rattle.object_calls.specs.Next.{ShowFailed}
use Rattle.object_calls.specs.Opening.{OpeningValue, bench_files, entries_in}
use Rattle.object_calls.specs.Syncing.{IsOnlySynced}
use Rattle.object_calls.proofs.Syncs.{only_none, only_rest, only_then}
use Rattle.object_calls.proofs.EntriesOf.{distinct_names, form_at}
use Rattle.run_acts.specs.Benches.{BenchState, HasPassed, KeepsDevices, opening_state}
use Rattle.run_acts.specs.Between.{AreSound}
use Rattle.run_acts.specs.ListedBenches.{ListsBench, ShowCounts, StopsListing, unshown}
use Rattle.run_acts.specs.ListedObjects.{IsCutOff, IsListed, IsListedTo, IsNotListed, objects_of}
use Rattle.run_acts.specs.MountedDevices.{IsMounted, objects_in}
use Rattle.run_acts.proofs.ShownFiles.{one_rests, same_passed, shown_passed, shown_rests}
use Rattle.run_acts.proofs.ShownMaps.{shown_map, shown_names}
use Rattle.run_acts.proofs.NotDrawn.{shown_not_drawn}
use Rattle.run_acts.proofs.ShownTold.{told_all}

-- a file that was synced and then read
only_read : (a b c : FileState) → Sound b → IsOnlySynced a b → Rests b c → IsOnlySynced a c
only_read a b c sound first rests = only_then a b c first (only_rest b c sound rests)

-- two maps with the same names have as many objects
length-named : (a b : ObjectMap) → keys_of a ≡ keys_of b → length a ≡ length b
length-named a b same = sym (length-map a (λ (e : ObjectName × Object). e.0)) ∙ ap length same ∙ length-map b (λ (e : ObjectName × Object). e.0)

module _ {F R : Type 0} (state : F → FileState) (port : R → PortState) (keys : Keys) (old new : BenchState) (o : OpeningValue F R)
    (mounts : IsMounted state port keys old o) (keeps : KeepsDevices old (opening_state state port o)) (passed : HasPassed old (opening_state state port o))
    (sound : (file : ℕ) → Sound (bench_files state o file)) (card : new.card ≡ (opening_state state port o).card) where
  -- the devices keep their contents, since they were only read
  read_keeps : ((file : ℕ) → Rests (bench_files state o file) (new.files file)) → KeepsDevices old new
  read_keeps rests = record {
    files = λ file. only_read (old.files file) (bench_files state o file) (new.files file) (sound file) (keeps.files file) (rests file);
    card = ap (λ (p : PortState). p.card) card ∙ keeps.card;
  }

  card_passed : new.card.faults ≡ old.card.faults
  card_passed = ap (λ (p : PortState). p.faults) card ∙ passed.card

  -- an honest file tells what it reads as, and can be followed
  honest_told : ((file : ℕ) → Sound (new.files file)) → ((file : ℕ) → IsTrue (new.files file).honest) → (file : ℕ) → Told (bench_files state o file) (new.files file)
  honest_told sound_new honest file = ((sound_new file).told (honest file), inl (honest file))

  pub listed_bench : (lines : List ℕ) → AreSound old.files → ((file : ℕ) → Sound (new.files file)) → ((file : ℕ) → file_count ≤ file → new.files file ≡ no_file) → IsListed (entries_in o) o.storage_key (bench_files state o) new.files lines
      → (objects : ObjectMap) × (length objects ≡ length (objects_in state port keys o)) × ListsBench state port keys old new objects lines
  listed_bench lines sound_old sound_new past shows = (
    objects,
    length-named objects (objects_in state port keys o) names,
    record {
      opened = o;
      mounts = mounts;
      sound = sound_old;
      shows = shows;
      objects_are = refl;
      lines_are = listed.lines_are;
      names = names;
      told = told;
      honest = λ honest. told (honest_told sound_new honest);
      card = card;
      keeps = read_keeps (shown_rests entries o.storage_key None first listed.steps shows.last new.files listed.shows);
      passed = record {
        files = λ file. passed_then (old.files file) (first file) (new.files file) (passed.files file) (shown_passed entries o.storage_key None first listed.steps shows.last new.files listed.shows file);
        card = card_passed;
      };
      past = past;
    },
  )
    where
      listed : IsListedTo (entries_in o) o.storage_key (bench_files state o) shows.last new.files lines
      listed = shows.listed

      entries : List (Option DirEntry)
      entries = entries_in o

      first : ℕ → FileState
      first = bench_files state o

      are : AreEntriesOf (entries_in o)
      are = ((mounts.gate).settled).entries

      objects : ObjectMap
      objects = objects_of (shows.listed).steps

      names : keys_of (objects_of (shows.listed).steps) ≡ keys_of (objects_in state port keys o)
      names = shown_names entries o.storage_key (distinct_names entries are) first listed.steps shows.last new.files listed.shows shows.whole (λ e. (held_in keys (reads_of first) e).object)

      told : ((file : ℕ) → Told (bench_files state o file) (new.files file)) → objects_of (shows.listed).steps ≡ objects_in state port keys o
      told readable = shown_map entries o.storage_key (distinct_names entries are) first listed.steps shows.last new.files listed.shows shows.whole (λ e. (held_in keys (reads_of first) e).object)
          (told_all keys entries o.storage_key first (mounts.keyed).storage (form_at entries are) None first listed.steps shows.last new.files listed.shows (λ file. rests_none (first file)) readable)

  -- an object that could not be shown
  failed_rests : (last : Option ObjectName) (between : ℕ → FileState) (fault : MountFault) → IsNotListed (entries_in o) o.storage_key last between new.files fault → (file : ℕ) → Rests (between file) (new.files file)
  failed_rests last between fault (inl not) file = one_rests between new.files (not.entry).file not.reads file
  failed_rests last between fault (inr out) file = let shown = out.2 in one_rests between new.files (shown.entry).file shown.reads file

  cut_rests : (fault : MountFault) → IsCutOff (entries_in o) o.storage_key (bench_files state o) new.files fault → (file : ℕ) → Rests (bench_files state o file) (new.files file)
  cut_rests fault cut file =
      let listed = cut.listed in
      rests_then (bench_files state o file) (cut.between file) (new.files file)
      (shown_rests (entries_in o) o.storage_key None (bench_files state o) listed.steps cut.last cut.between listed.shows file)
      (failed_rests cut.last cut.between fault cut.why file)

  show_counts : (between : ℕ → FileState) (n : ℕ) (fault : MountFault) → ShowFailed (between n) (new.files n) n fault → ((k : ℕ) → k ≢ n → new.files k ≡ between k)
      → ((file : ℕ) → GoesOn (old.files file) (between file)) → ((file : ℕ) → FilePassed (old.files file) (between file)) → ShowCounts old.files new.files fault
  show_counts between n (Failed (Fault (File m) count)) failed others goes before =
      let same : n ≡ m = sym failed.0 in (
        fault_then (old.files m) (between m) (new.files m) (FileFault count) (goes m) (before m) (subst (λ (k : ℕ). FileFailed (between k) (new.files k) count) same failed.1),
        λ k ne. passed_then (old.files k) (between k) (new.files k) (before k) (same_passed (between k) (new.files k) (others k (λ is. ne (is ∙ same)))),
      )
  show_counts between n NoMemory failed others goes before = tt
  show_counts between n NoStore failed others goes before = absurd failed
  show_counts between n (CardBlock byte) failed others goes before = absurd failed
  show_counts between n (Directory fault) failed others goes before = absurd failed
  show_counts between n (Frame fault) failed others goes before = absurd failed
  show_counts between n (CardResult value) failed others goes before = absurd failed
  show_counts between n (Failed (Fault Dir count)) failed others goes before = absurd failed
  show_counts between n (Failed (Fault Card count)) failed others goes before = absurd failed
  show_counts between n (Failed (Fault Entropy count)) failed others goes before = absurd failed
  show_counts between n (Failed (FrameCause fault)) failed others goes before = absurd failed
  show_counts between n (Failed (ResultCause value)) failed others goes before = absurd failed
  show_counts between n Spent failed others goes before = absurd failed
  show_counts between n (OldFormat file) failed others goes before = absurd failed

  not_counts : (last : Option ObjectName) (between : ℕ → FileState) (fault : MountFault) → IsNotListed (entries_in o) o.storage_key last between new.files fault
      → ((file : ℕ) → GoesOn (old.files file) (between file)) → ((file : ℕ) → FilePassed (old.files file) (between file)) → ShowCounts old.files new.files fault
  not_counts last between fault (inl not) goes before = show_counts between (not.entry).file fault not.failed ((not.reads).others) goes before
  not_counts last between fault (inr out) goes before = let is : NoMemory ≡ fault = sym out.0 in subst (ShowCounts old.files new.files) is tt

  cut_counts : (fault : MountFault) → IsCutOff (entries_in o) o.storage_key (bench_files state o) new.files fault → ShowCounts old.files new.files fault
  cut_counts fault cut =
      let listed = cut.listed in
      let first = bench_files state o in
      not_counts cut.last cut.between fault cut.why
      (λ file. (only_read (old.files file) (first file) (cut.between file) (sound file) (keeps.files file) (shown_rests (entries_in o) o.storage_key None first listed.steps cut.last cut.between listed.shows file)).keeps.goes_on)
      (λ file. passed_then (old.files file) (first file) (cut.between file) (passed.files file) (shown_passed (entries_in o) o.storage_key None first listed.steps cut.last cut.between listed.shows file))

  pub cut_keeps : (fault : MountFault) → IsCutOff (entries_in o) o.storage_key (bench_files state o) new.files fault → KeepsDevices old new
  cut_keeps fault cut = read_keeps (cut_rests fault cut)

  pub cut_bench : (drew draws : ℕ) (fault : MountFault) → draws ≡ drew → IsCutOff (entries_in o) o.storage_key (bench_files state o) new.files fault → StopsListing state port keys old new drew draws fault
  cut_bench drew draws fault undrawn cut = unshown (record {
    opened = o;
    mounts = mounts;
    shows = cut;
    counted = cut_counts fault cut;
    card = card;
    card_passed = card_passed;
    undrawn = undrawn;
  })

  pub cut_not_drawn : (fault : MountFault) → IsCutOff (entries_in o) o.storage_key (bench_files state o) new.files fault → RefusalNotDrawn fault
  cut_not_drawn fault cut = shown_not_drawn old.files new.files fault (cut_counts fault cut)

pub keeps_all : (s : BenchState) → KeepsDevices s s
keeps_all s = record { files = λ file. only_none (s.files file); card = refl }

-- the card of a bench that is given back, once only files of objects were called
pub closed_card : {F R : Type 0} (port : R → PortState) (o o1 : OpeningValue F R) (card : R) → card ≡ o1.gate.host.port → o1 ≡ record o { files = o1.files } → port card ≡ port o.gate.host.port
closed_card port o o1 card closed same = ap port closed ∙ ap (λ x. port x.gate.host.port) same
