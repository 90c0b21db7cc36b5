-- What showing the object of an entry says of the next object.
use Rattle.std.proofs.Common.{◌≡◌, ℕ, List, Option, Some, Result, Ok, Err, refl, sym, subst}
use Rattle.disk_model.specs.State.{FileState}
use Rattle.hmac_keys.specs.KeyTable.{tsk}
use Rattle.tee_types.specs.Limits.{IsObjectFile}
use Rattle.store_model.specs.declared.name.ObjectName.{ObjectName}
use Rattle.dir_records.specs.declared.entry.DirEntry.{DirEntry}
use Rattle.store_commit.specs.declared.fault.MountFault.{MountFault}
use Rattle.object_calls.specs.declared.shown_object.Shown.{Shown}
use Rattle.object_calls.specs.declared.shown_object.ShownObject.{ShownObject}
use Rattle.object_calls.specs.OpeningEntries.{IsLeastPast}
use Rattle.object_calls.specs.OpeningFiles.{numbered_files, object_files}
use Rattle.object_calls.specs.Next.{NextAnswer, ReadsObject, ReadsOne, ShowAnswer}
use Rattle.object_calls.proofs.Files.{object_numbered}
use Rattle.object_calls.proofs.Rearming.{reads_bench}

abbrev pub shown_of : DirEntry → ShownObject → Shown
shown_of e object = record { app = e.app; id = e.id; size = e.size; object = object }

module _ {F : Type 0} (state : F → FileState) (spare d : F) (old new : List F) (entries : List (Option DirEntry)) (after : Option ObjectName) (storage_key key : List ℕ) (e : DirEntry)
    (object : IsObjectFile e.file) (next : IsLeastPast entries after e) (key_is : key ≡ tsk storage_key e.app) (reads : ReadsObject (object_files state old) (object_files state new) e.file) where
  at_bench : (result : Result ShownObject MountFault) → ShowAnswer key (object_files state old e.file) (object_files state new e.file) e result
      → ShowAnswer (tsk storage_key e.app) (numbered_files state spare d old e.file) (numbered_files state spare d new e.file) e result
  at_bench result answer =
      subst (λ (k : List ℕ). ShowAnswer k (numbered_files state spare d old e.file) (numbered_files state spare d new e.file) e result) key_is
      (subst (λ (s : FileState). ShowAnswer key s (numbered_files state spare d new e.file) e result) (sym (object_numbered state spare d old e.file object))
      (subst (λ (s : FileState). ShowAnswer key (object_files state old e.file) s e result) (sym (object_numbered state spare d new e.file object)) answer))

  pub reads_one : ReadsOne (numbered_files state spare d old) (numbered_files state spare d new) e.file
  reads_one = reads_bench state spare d old new e.file object reads

  pub shown_next : (shown : ShownObject) → ShowAnswer key (object_files state old e.file) (object_files state new e.file) e (Ok shown)
      → NextAnswer entries after storage_key (numbered_files state spare d old) (numbered_files state spare d new) (Ok (Some (shown_of e shown)))
  shown_next shown answer =
      let shows = at_bench (Ok shown) answer in
      record { entry = e; next = next; app = refl; id = refl; size = refl; object = shows.0; passed = shows.1; reads = reads_one }

  pub not_shown : (fault : MountFault) → ShowAnswer key (object_files state old e.file) (object_files state new e.file) e (Err fault)
      → NextAnswer entries after storage_key (numbered_files state spare d old) (numbered_files state spare d new) (Err fault)
  not_shown fault answer = record { entry = e; next = next; failed = at_bench (Err fault) answer; reads = reads_one }
