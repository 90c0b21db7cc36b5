-- Syncs of the files of objects, one after another.
use Rattle.std.proofs.Common.{◌≡◌, ◌≢◌, ◌∙◌, ◌+◌, ◌-◌, ◌≤◌, ℕ, List, zero, suc, length, get_or, Option, Some, None, Result, Ok, Err, refl, sym, ap, subst, inl, inr, arith}
use Rattle.std.specs.Prelude.{slice_set}
use Rattle.std.proofs.lemmas.Bool.{cases_eq, cases_lt}
use Rattle.disk_model.specs.Faults.{Rose}
use Rattle.disk_model.specs.State.{FileState, Sound, pending}
use Rattle.disk_model.specs.Calls.{GoesOn, Rests, Syncs}
use Rattle.disk_model.specs.Keeps.{Anywhere}
use Rattle.disk_model.proofs.Goings.{first_known, then_known}
use Rattle.disk_model.proofs.Laws.{keeps_none, keeps_then, rest_keeps, sync_keeps, synced_pending}
use Rattle.htree_file.specs.Answers.{FileFailed, FilePassed}
use Rattle.htree_file.proofs.Causes.{passed_none, passed_then}
use Rattle.tee_types.specs.Limits.{IsObjectFile, directory_file, last_file, old_directory_file}
use Rattle.tee_types.proofs.FileNumbers.{object_not_directory}
use Rattle.dir_records.specs.declared.entry.DirEntry.{DirEntry}
use Rattle.crash_core.specs.EntryLists.{entry_at}
use Rattle.store_commit.proofs.Leavings.{left_then, rests_left, syncs_left}
use Rattle.tee_types.specs.declared.reply.Cause.{Cause}
use Rattle.tee_types.specs.declared.reply.Cause.TheVariants.{Fault, Frame, CardResult}
use Rattle.tee_types.specs.declared.reply.Device.TheVariants.{Dir, File, Card, Entropy}
use Rattle.object_calls.specs.OpeningFiles.{numbered_files, object_files}
use Rattle.object_calls.specs.Syncing.{FileSynced, IsOnlySynced, IsUnnamedBefore, StopsSyncing, SyncFailed, SyncsNamed, SyncsOne}
use Rattle.object_calls.proofs.Files.{numbered_object, object_else, object_get, object_here, object_numbered, spare_here}

-- ONE FILE
pub only_none : (s : FileState) → IsOnlySynced s s
only_none s = record { keeps = keeps_none Anywhere s; reads = λ known. refl; left = λ honest image left. left }

only_sync : (a b : FileState) → Sound a → Syncs a b → IsOnlySynced a b
only_sync a b sound syncs = record { keeps = sync_keeps a b sound syncs; reads = syncs.reads; left = syncs_left a b sound syncs }

pub only_rest : (a b : FileState) → Sound a → Rests a b → IsOnlySynced a b
only_rest a b sound rests = record { keeps = rest_keeps a b sound rests; reads = rests.reads; left = rests_left a b rests }

pub only_then : (a b c : FileState) → IsOnlySynced a b → IsOnlySynced b c → IsOnlySynced a c
only_then a b c first second = record {
  keeps = keeps_then Anywhere a b c first.keeps second.keeps;
  reads = λ known. second.reads (then_known a b c first.keeps.goes_on known) ∙ first.reads (first_known a b c second.keeps.goes_on known);
  left = left_then a b c second.keeps.goes_on first.left second.left;
}

failed_then : (a b c : FileState) (count : ℕ) → GoesOn a b → FilePassed a b → FileFailed b c count → FileFailed a c count
failed_then a b c count goes passed failed = record {
  rose = subst (λ (n : ℕ). Rose n c.faults) passed.faults failed.rose;
  carried = failed.carried;
  calm = λ calm. subst (λ (n : ℕ). Rose n c.starved) passed.starved (failed.calm (goes.calm calm));
}

-- the sync of one file in its place
pub synced_one : {F : Type 0} (state : F → FileState) (files : List F) (file : ℕ) (old new : F) (A : Type 0) (result : Result A Cause) → 1 ≤ file → file ≤ length files → old ≡ get_or files (file - 1) old
    → FileSynced (state old) (state new) file result → SyncsOne file (object_files state files) (object_files state (slice_set files (file - 1) new)) result
synced_one state files file old new A result one few is answer = record {
  here = subst (λ (s : FileState). FileSynced s (object_files state (slice_set files (file - 1) new) file) file result) (sym (object_get state files file old one few is))
      (subst (λ (s : FileState). FileSynced (state old) s file result) (sym (object_here state files file new one few)) answer);
  others = λ k other ne. object_else state files file k new one ne;
}

-- MANY FILES
pub synced_none : (entries : List (Option DirEntry)) (files : ℕ → FileState) → SyncsNamed entries 0 files files
synced_none entries files = record {
  each = λ file other. only_none (files file);
  passed = λ file other. passed_none (files file);
  untouched = λ file other unnamed. refl;
  settled = λ index e lt at. absurd (omega (arith, lt));
}

module _ (entries : List (Option DirEntry)) (i : ℕ) (old mid : ℕ → FileState) (before : SyncsNamed entries i old mid) where
  -- a free entry names none
  pub synced_free : entry_at entries i ≡ None → SyncsNamed entries (i + 1) old mid
  synced_free none = record {
    each = before.each;
    passed = before.passed;
    untouched = λ file off unnamed. before.untouched file off (λ index e lt at. unnamed index e (omega (arith, lt)) at);
    settled = λ index e lt at. elim (cases_lt index i) [
      | inl low ↦ before.settled index e low at
      | inr high ↦
          let same : index ≡ i = omega (arith, lt, high) in
          let here : entry_at entries index ≡ None = ap (entry_at entries) same ∙ none in
          absurd (cc (at, here))
    ];
  }

  module _ (new : ℕ → FileState) (sound : (file : ℕ) → Sound (mid file)) (named : (index : ℕ) (e : DirEntry) → entry_at entries index ≡ Some e → e.file ≢ directory_file) where
    -- an entry names one more
    pub synced_next : (e : DirEntry) (A : Type 0) (done : A) → entry_at entries i ≡ Some e → SyncsOne e.file mid new {A = A} (Ok done) → SyncsNamed entries (i + 1) old new
    synced_next e A done at one = record {
      each = λ file some. elim (cases_eq file e.file) [
        | inl same ↦ subst (λ (k : ℕ). IsOnlySynced (old k) (new k)) (sym same)
            (only_then (old e.file) (mid e.file) (new e.file) (before.each e.file (named i e at)) (only_sync (mid e.file) (new e.file) (sound e.file) one.here.0))
        | inr other ↦ subst (IsOnlySynced (old file)) (sym (one.others file some other)) (before.each file some)
      ];
      passed = λ file some. elim (cases_eq file e.file) [
        | inl same ↦ subst (λ (k : ℕ). FilePassed (old k) (new k)) (sym same)
            (passed_then (old e.file) (mid e.file) (new e.file) (before.passed e.file (named i e at)) one.here.1)
        | inr other ↦ subst (FilePassed (old file)) (sym (one.others file some other)) (before.passed file some)
      ];
      untouched = λ file some unnamed.
          one.others file some (unnamed i e (omega arith) at) ∙ before.untouched file some (λ index x lt there. unnamed index x (omega (arith, lt)) there);
      settled = λ index x lt there. elim (cases_eq x.file e.file) [
        | inl same ↦ ap (λ (k : ℕ). pending (new k)) same ∙ synced_pending (mid e.file) (new e.file) one.here.0
        | inr other ↦ elim (cases_lt index i) [
          | inl low ↦ ap pending (one.others x.file (named index x there) other) ∙ before.settled index x low there
          | inr high ↦
              let place : index ≡ i = omega (arith, lt, high) in
              let here : entry_at entries index ≡ Some e = ap (entry_at entries) place ∙ at in
              let is : x ≡ e = cc (there, here) in
              absurd (other (ap (λ (y : DirEntry). y.file) is))
        ]
      ];
    }

    -- the sync of one fails
    pub synced_stops : (n : ℕ) (A : Type 0) (cause : Cause) → 1 ≤ n → n ≤ last_file → SyncsOne n mid new {A = A} (Err cause) → StopsSyncing old new cause
    synced_stops n A cause from upto one = record {
      each = λ file some. elim (cases_eq file n) [
        | inl same ↦ subst (λ (k : ℕ). IsOnlySynced (old k) (new k)) (sym same)
            (only_then (old n) (mid n) (new n) (before.each n (object_not_directory n from upto)) (only_rest (mid n) (new n) (sound n) one.here.0))
        | inr other ↦ subst (IsOnlySynced (old file)) (sym (one.others file some other)) (before.each file some)
      ];
      failed = subst (SyncFailed old new) (sym one.here.2)
          (from, upto, failed_then (old n) (mid n) (new n) one.here.1 (before.each n (object_not_directory n from upto)).keeps.goes_on (before.passed n (object_not_directory n from upto)) one.here.3);
    }

-- The same of all files of a bench.
module _ {F : Type 0} (state : F → FileState) (spare d x : F) (old new : List F) where
  abbrev first : ℕ → FileState
  first = numbered_files state spare d old

  abbrev last : ℕ → FileState
  last = numbered_files state spare x new

  was : (k : ℕ) → 1 ≤ k → k ≢ directory_file → object_files state old k ≡ first k
  was k from off = sym (numbered_object state spare d old k from off)

  is : (k : ℕ) → 1 ≤ k → k ≢ directory_file → object_files state new k ≡ last k
  is k from off = sym (numbered_object state spare x new k from off)

  -- the spare one is not called
  stays : last old_directory_file ≡ first old_directory_file
  stays = spare_here state spare x new ∙ sym (spare_here state spare d old)

  -- what holds of each file of an object, and of one that stays, holds of each
  each_file : (P : ℕ → FileState → FileState → Type 0) → ((s : FileState) → P old_directory_file s s) → ((k : ℕ) → k ≢ directory_file → P k (object_files state old k) (object_files state new k))
      → (k : ℕ) → k ≢ directory_file → P k (first k) (last k)
  each_file P same each zero off = subst (P old_directory_file (first old_directory_file)) (sym stays) (same (first old_directory_file))
  each_file P same each (suc k) off =
      let from : 1 ≤ suc k = omega arith in
      subst (λ (s : FileState). P (suc k) s (last (suc k))) (was (suc k) from off) (subst (P (suc k) (object_files state old (suc k))) (is (suc k) from off) (each (suc k) off))

  each_bench : ((k : ℕ) → k ≢ directory_file → IsOnlySynced (object_files state old k) (object_files state new k)) → (k : ℕ) → k ≢ directory_file → IsOnlySynced (first k) (last k)
  each_bench each = each_file (λ k a b. IsOnlySynced a b) only_none each

  pub syncs_bench : (entries : List (Option DirEntry)) (count : ℕ) → ((index : ℕ) (e : DirEntry) → entry_at entries index ≡ Some e → IsObjectFile e.file)
      → SyncsNamed entries count (object_files state old) (object_files state new) → SyncsNamed entries count first last
  syncs_bench entries count named s = record {
    each = each_bench s.each;
    passed = each_file (λ k a b. FilePassed a b) passed_none s.passed;
    untouched = each_file (λ k a b. IsUnnamedBefore entries count k → b ≡ a) (λ a unnamed. refl) s.untouched;
    settled = λ index e lt at.
        let object = named index e at in
        ap pending (object_numbered state spare x new e.file object) ∙ s.settled index e lt at;
  }

  stopped : (cause : Cause) → SyncFailed (object_files state old) (object_files state new) cause → SyncFailed first last cause
  stopped (Fault Dir count) f = absurd f
  stopped (Fault (File n) count) f =
      let off = object_not_directory n f.0 f.1 in
      (f.0, f.1, subst (λ (s : FileState). FileFailed s (last n) count) (was n f.0 off) (subst (λ (s : FileState). FileFailed (object_files state old n) s count) (is n f.0 off) f.2))
  stopped (Fault Card count) f = absurd f
  stopped (Fault Entropy count) f = absurd f
  stopped (Frame fault) f = absurd f
  stopped (CardResult result) f = absurd f

  pub stops_bench : (cause : Cause) → StopsSyncing (object_files state old) (object_files state new) cause → StopsSyncing first last cause
  stops_bench cause s = record { each = each_bench s.each; failed = stopped cause s.failed }
