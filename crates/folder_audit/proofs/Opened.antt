-- A directory that was read, and how an audit of it ends.
use Rattle.std.proofs.Common.{◌≡◌, ◌⊎◌, ◌∙◌, ℕ, List, [], ◌++◌, Option, Result, Ok, Err, refl, sym, ap, subst, inl, inr, append-nil}
use Rattle.disk_model.specs.State.{FileState}
use Rattle.disk_model.specs.Calls.{Rests}
use Rattle.node_image.specs.declared.node.RootRef.{RootRef}
use Rattle.htree_file.specs.declared.fault.TreeFault.TheVariants.{BadHead, BadTag, Damaged, Failed as FileFault, NoEntropy, NoMemory as NoRoom, Short}
use Rattle.htree_file.specs.Answers.{FileFailed, FilePassed}
use Rattle.htree_file.specs.Opening.{Loaded, load_of}
use Rattle.htree_file.specs.Standing.{Told}
use Rattle.htree_file.proofs.Causes.{fault_then, passed_none, passed_then, told_then}
use Rattle.htree_file.proofs.CopyRuns.{told_first}
use Rattle.hmac_keys.specs.declared.Keys.{Keys}
use Rattle.tee_types.specs.Limits.{directory_file}
use Rattle.dir_records.specs.declared.entry.DirEntry.{DirEntry}
use Rattle.crash_core.specs.declared.fault.DirFault.{DirFault}
use Rattle.crash_core.specs.declared.fault.DirFault.TheVariants.{Double, Record, Tree, WrongLength}
use Rattle.crash_core.specs.DeviceKeys.{directory_key}
use Rattle.crash_core.specs.Directory.{directory_of}
use Rattle.crash_core.specs.EntryLists.{AreCurrent}
use Rattle.dir_file.specs.Loading.{DirCause, IsOutsideDir}
use Rattle.dir_file.specs.Refusals.{DirDiffers}
use Rattle.dir_file.proofs.Loading.{loads_then}
use Rattle.dir_index.specs.Index.{IndexEntries}
use Rattle.store_commit.specs.declared.fault.MountFault.{MountFault}
use Rattle.store_commit.specs.declared.fault.MountFault.TheVariants.{CardBlock, CardResult, Directory, Failed as CardFailed, Frame, NoMemory as NoCardMemory, NoStore, OldFormat, Spent}
use Rattle.folder_audit.specs.declared.fault.AuditFault.{AuditFault}
use Rattle.folder_audit.specs.declared.fault.AuditFault.TheVariants.{Failed, NoMemory, Refused}
use Rattle.folder_audit.specs.Findings.{IsMountedDirectory}
use Rattle.folder_audit.specs.Order.{AreNamesOf}
use Rattle.folder_audit.specs.Reading.{HasOldEntry, IsDirectoryRefused, IsStoreRefused, ReadsDirectory}
use Rattle.folder_audit.specs.Objects.{DirectoryStops, directory_answer}
use Rattle.folder_audit.specs.Audit.{BeginsLines, EndsUnder, FolderStates, HavePassed, ListAnswer, ListsObjects, OnlyReads, PutsLines}
use Rattle.folder_audit.specs.Whole.{NamesRoot}
use Rattle.folder_audit.proofs.Places.{TouchesOne, but_one, one_passed, one_rest}
use Rattle.folder_audit.proofs.Stepping.{fails_on, passed_on, steps_from}

-- A DIRECTORY THAT IS REFUSED
module _ (keys : Keys) (root : RootRef) (a b : FileState) where
  refused : (fault : DirFault) → (IsOutsideDir fault → ⊥) → IsOutsideDir fault ⊎ (Told a b → directory_of (directory_key keys) b.reads root ≡ Err fault) → DirDiffers (directory_key keys) b root fault → FilePassed a b
      → DirectoryStops keys root a b (Refused (Directory fault))
  refused fault inside (inl outside) differs passed = absurd (inside outside)
  refused fault inside (inr is) differs passed = (record { inside = inside; told = is; differs = differs }, passed)

  -- by the directory's load
  pub stops_loading : (fault : DirFault) → IsOutsideDir fault ⊎ (Told a b → directory_of (directory_key keys) b.reads root ≡ Err fault) → DirDiffers (directory_key keys) b root fault → DirCause a b fault
      → DirectoryStops keys root a b (directory_answer fault)
  stops_loading (Tree (FileFault count)) is differs cause = (refl, cause)
  stops_loading (Tree NoRoom) is differs cause = tt
  stops_loading (Tree (BadHead long greatest)) is differs cause = refused (Tree (BadHead long greatest)) (λ o. o) is differs cause
  stops_loading (Tree (Short end need)) is differs cause = refused (Tree (Short end need)) (λ o. o) is differs cause
  stops_loading (Tree (Damaged n want found)) is differs cause = refused (Tree (Damaged n want found)) (λ o. o) is differs cause
  stops_loading (Tree (BadTag k want found)) is differs cause = refused (Tree (BadTag k want found)) (λ o. o) is differs cause
  stops_loading (Tree (NoEntropy count)) is differs cause = refused (Tree (NoEntropy count)) (λ o. o) is differs cause
  stops_loading (WrongLength bytes) is differs cause = refused (WrongLength bytes) (λ o. o) is differs cause
  stops_loading (Record index offset) is differs cause = refused (Record index offset) (λ o. o) is differs cause
  stops_loading (Double index first) is differs cause = refused (Double index first) (λ o. o) is differs cause

  pub stops_keyed : (key : List ℕ) → key ≡ directory_key keys → (fault : DirFault) → IsOutsideDir fault ⊎ (Told a b → directory_of key b.reads root ≡ Err fault) → DirDiffers key b root fault → DirCause a b fault
      → DirectoryStops keys root a b (directory_answer fault)
  stops_keyed key is fault refuses differs cause =
      stops_loading fault (subst (λ (k : List ℕ). IsOutsideDir fault ⊎ (Told a b → directory_of k b.reads root ≡ Err fault)) is refuses) (subst (λ (k : List ℕ). DirDiffers k b root fault) is differs) cause

  -- a fault behind reads that passed
  pub stops_later : (c : FileState) (fault : AuditFault) → Rests a b → FilePassed a b → DirectoryStops keys root b c fault → DirectoryStops keys root a c fault
  stops_later c (Refused NoStore) rests passed stops = absurd stops
  stops_later c (Refused (CardBlock byte)) rests passed stops = absurd stops
  stops_later c (Refused (OldFormat file)) rests passed stops =
      (record { entries = (stops.0).entries; read = read_from (stops.0).entries (stops.0).read; first = (stops.0).first }, passed_then a b c passed stops.1)
    where
      read_from : (entries : List (Option DirEntry)) → ReadsDirectory keys root b c entries → ReadsDirectory keys root a c entries
      read_from entries read = record { tree = read.tree; verified = read.verified; sealed = read.sealed; told = λ told. read.told (told_then a b c rests.goes_on told); are = read.are }
  stops_later c (Refused (Directory fault)) rests passed stops =
      (record { inside = (stops.0).inside; told = λ told. (stops.0).told (told_then a b c rests.goes_on told); differs = (stops.0).differs }, passed_then a b c passed stops.1)
  stops_later c (Refused (Frame fault)) rests passed stops = absurd stops
  stops_later c (Refused (CardResult result)) rests passed stops = absurd stops
  stops_later c (Refused (CardFailed cause)) rests passed stops = absurd stops
  stops_later c (Refused Spent) rests passed stops = absurd stops
  stops_later c (Refused NoCardMemory) rests passed stops = absurd stops
  stops_later c (Failed fault) rests passed stops = (stops.0, fault_then a b c (FileFault fault.count) rests.goes_on passed stops.1)
  stops_later c NoMemory rests passed stops = tt

  pub reads_on : (c : FileState) (entries : List (Option DirEntry)) → Rests a b → Rests b c → ReadsDirectory keys root a b entries → ReadsDirectory keys root a c entries
  reads_on c entries first second read = record {
    tree = read.tree;
    verified = read.verified;
    sealed = read.sealed;
    told = λ told.
        ap (λ (l : List ℕ). directory_of (directory_key keys) l root) (second.reads (told_then a b c first.goes_on told).1) ∙ read.told (told_first a b c second told);
    are = read.are;
  }

  pub reads_from : (c : FileState) (entries : List (Option DirEntry)) → Rests a b → ReadsDirectory keys root b c entries → ReadsDirectory keys root a c entries
  reads_from c entries rests read = record {
    tree = read.tree;
    verified = read.verified;
    sealed = read.sealed;
    told = λ told. read.told (told_then a b c rests.goes_on told);
    are = read.are;
  }

-- AN AUDIT WHOSE DIRECTORY WAS NOT READ
module _ (old new : FolderStates) (a b : FileState) (one : TouchesOne old new directory_file a b) where
  pub ends_unread : (keys : Keys) (block : List ℕ) (root : RootRef) (fault : AuditFault) → NamesRoot block root → DirectoryStops keys root a b fault → EndsUnder keys block old new [] {A = Unit {0}} (Err fault)
  ends_unread keys block root (Refused (Directory fault)) names stops = (
    λ none. record {
      root = root;
      named = names.named;
      current = names.current;
      holds = subst (λ (s : FileState). IsDirectoryRefused keys root s (new none directory_file) fault) (sym (one.old_is none)) (subst (λ (s : FileState). IsDirectoryRefused keys root a s fault) (sym (one.new_is none)) stops.0);
    },
    refl,
    one_passed old new directory_file a b one stops.1,
  )
  ends_unread keys block root (Refused (OldFormat file)) names stops = (
    λ none. inr (record {
      root = root;
      named = names.named;
      current = names.current;
      holds = subst (λ (s : FileState). HasOldEntry keys root s (new none directory_file) file) (sym (one.old_is none)) (subst (λ (s : FileState). HasOldEntry keys root a s file) (sym (one.new_is none)) stops.0);
    }),
    refl,
    one_passed old new directory_file a b one stops.1,
  )
  ends_unread keys block root (Refused NoStore) names stops = absurd stops
  ends_unread keys block root (Refused (CardBlock byte)) names stops = absurd stops
  ends_unread keys block root (Refused (Frame fault)) names stops = absurd stops
  ends_unread keys block root (Refused (CardResult result)) names stops = absurd stops
  ends_unread keys block root (Refused (CardFailed cause)) names stops = absurd stops
  ends_unread keys block root (Refused Spent) names stops = absurd stops
  ends_unread keys block root (Refused NoCardMemory) names stops = absurd stops
  ends_unread keys block root (Failed fault) names stops = (
    inl refl,
    record {
      number = directory_file;
      place = stops.0;
      failed = λ none. subst (λ (s : FileState). FileFailed s (new none directory_file) fault.count) (sym (one.old_is none)) (subst (λ (s : FileState). FileFailed a s fault.count) (sym (one.new_is none)) stops.1);
      others = λ none k other. but_one old new directory_file a b one FilePassed passed_none none k other;
    },
  )
  ends_unread keys block root NoMemory names stops = inl refl

-- THE LINES OF A DIRECTORY THAT WAS READ
module _ (keys : Keys) (block : List ℕ) (root : RootRef) (tree : Loaded) (entries : List (Option DirEntry)) (old mid new : FolderStates) (a b : FileState)
    (one : TouchesOne old mid directory_file a b) (first : Rests a b) (second : OnlyReads mid new) (passed : FilePassed a b) (names_root : NamesRoot block root)
    (read : ReadsDirectory keys root a b entries) (current : AreCurrent entries) (loads : Told a b → load_of b.reads root ≡ Ok tree) where
  directory_is : (none : FileState) → ReadsDirectory keys root (old none directory_file) (new none directory_file) entries
  directory_is none =
      subst (λ (s : FileState). ReadsDirectory keys root s (new none directory_file) entries) (sym (one.old_is none))
      (reads_on keys root a b (new none directory_file) entries first (subst (λ (s : FileState). Rests s (new none directory_file)) (one.new_is none) (second none directory_file)) read)

  mounted_is : (none : FileState) → Told (old none directory_file) (new none directory_file) → IsMountedDirectory keys block (new none directory_file).reads tree entries
  mounted_is none told = record {
    root = root;
    named = names_root.named;
    current = names_root.current;
    loads = loads_then a b (new none directory_file) root tree first (subst (λ (s : FileState). Rests s (new none directory_file)) (one.new_is none) (second none directory_file)) loads
        (subst (λ (s : FileState). Told s (new none directory_file)) (one.old_is none) told);
    directory = (directory_is none).told told;
    entries_current = current;
  }

  lists : (done left : IndexEntries) (lines : List ℕ) → AreNamesOf entries (done ++ left) → PutsLines keys block tree entries mid new done [] lines → ListsObjects keys block old new lines left
  lists done left lines are puts = record {
    entries = entries;
    directory = λ none. record { root = root; named = names_root.named; current = names_root.current; holds = directory_is none };
    current = current;
    names = done;
    are = are;
    steps = puts.steps;
    steps_are = steps_from keys block entries old mid new (one_rest old mid directory_file a b one first) second (λ reads. IsMountedDirectory keys block reads tree entries) (λ reads. Unit {0})
        (λ none told known. mounted_is none told) done puts.steps puts.are;
    lines_are = puts.text;
  }

  pub ends_listed : {A : Type 0} (names : IndexEntries) (lines : List ℕ) (end : Result A AuditFault) → AreNamesOf entries names → ListAnswer keys block tree entries mid new names [] lines end
      → EndsUnder keys block old new lines end
  ends_listed names lines (Ok done) are listed =
      (lists names [] lines (subst (AreNamesOf entries) (sym (append-nil names)) are) listed.0, passed_on old mid new (one_passed old mid directory_file a b one passed) listed.1)
  ends_listed names lines (Err (Refused fault)) are listed = absurd listed
  ends_listed names lines (Err (Failed fault)) are listed =
      let part = listed.0 in
      (inr (part.1, lists part.0 part.1 lines (subst (AreNamesOf entries) part.2 are) part.3), fails_on old mid new fault (one_rest old mid directory_file a b one first) (one_passed old mid directory_file a b one passed) listed.1)
  ends_listed names lines (Err NoMemory) are listed = inr (listed.1, lists listed.0 listed.1 lines (subst (AreNamesOf entries) listed.2 are) listed.3)

-- WHAT CAME BEFORE
module _ (keys : Keys) (block : List ℕ) (old mid new : FolderStates) (first : OnlyReads old mid) (second : OnlyReads mid new) (passed : HavePassed old mid) where
  lists_from : (lines : List ℕ) (left : IndexEntries) → ListsObjects keys block mid new lines left → ListsObjects keys block old new lines left
  lists_from lines left l = record {
    entries = l.entries;
    directory = λ none. record {
      root = (l.directory none).root;
      named = (l.directory none).named;
      current = (l.directory none).current;
      holds = reads_from keys (l.directory none).root (old none directory_file) (mid none directory_file) (new none directory_file) l.entries (first none directory_file) (l.directory none).holds;
    };
    current = l.current;
    names = l.names;
    are = l.are;
    steps = l.steps;
    steps_are = steps_from keys block l.entries old mid new first second (λ reads. Unit {0}) (λ reads. Unit {0}) (λ none told known. tt) l.names l.steps l.steps_are;
    lines_are = l.lines_are;
  }

  begins_from : (lines : List ℕ) → BeginsLines keys block mid new lines → BeginsLines keys block old new lines
  begins_from lines (inl none) = inl none
  begins_from lines (inr some) = inr (some.0, lists_from lines some.0 some.1)

  refused_from : (none : FileState) (fault : MountFault) → IsStoreRefused keys block (mid none directory_file) (new none directory_file) fault → IsStoreRefused keys block (old none directory_file) (new none directory_file) fault
  refused_from none NoStore is = is
  refused_from none (CardBlock offset) is = is
  refused_from none (OldFormat file) (inl is) = inl is
  refused_from none (OldFormat file) (inr is) = inr (record {
    root = is.root;
    named = is.named;
    current = is.current;
    holds = record {
      entries = (is.holds).entries;
      read = reads_from keys is.root (old none directory_file) (mid none directory_file) (new none directory_file) (is.holds).entries (first none directory_file) (is.holds).read;
      first = (is.holds).first;
    };
  })
  refused_from none (Directory fault) is = record {
    root = is.root;
    named = is.named;
    current = is.current;
    holds = record {
      inside = (is.holds).inside;
      told = λ told. (is.holds).told (told_then (old none directory_file) (mid none directory_file) (new none directory_file) (first none directory_file).goes_on told);
      differs = (is.holds).differs;
    };
  }
  refused_from none (Frame fault) is = absurd is
  refused_from none (CardResult result) is = absurd is
  refused_from none (CardFailed cause) is = absurd is
  refused_from none Spent is = absurd is
  refused_from none NoCardMemory is = absurd is

  pub ends_from : {A : Type 0} (lines : List ℕ) (end : Result A AuditFault) → EndsUnder keys block mid new lines end → EndsUnder keys block old new lines end
  ends_from lines (Ok done) ends = (lists_from lines [] ends.0, passed_on old mid new passed ends.1)
  ends_from lines (Err (Refused fault)) ends = (λ none. refused_from none fault (ends.0 none), ends.1, passed_on old mid new passed ends.2)
  ends_from lines (Err (Failed fault)) ends = (begins_from lines ends.0, fails_on old mid new fault first passed ends.1)
  ends_from lines (Err NoMemory) ends = begins_from lines ends
