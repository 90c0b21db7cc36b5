-- What the run of an audit puts.
use Rattle.disk_model.specs.State.{no_file}
use Rattle.std.proofs.Common.{ℕ, ◌∙◌, List, [], ◌++◌, Option, Ok, Err, inl, inr, refl, sym, subst}
use Rattle.std.proofs.lemmas.List.{append-nil}
use Rattle.hmac_keys.specs.declared.Keys.{Keys}
use Rattle.folder_export.specs.declared.fault.FileFault.{FileFault as FolderFault}
use Rattle.folder_audit.specs.declared.fault.AuditFault.TheVariants.{Failed as FileFailed, NoMemory as NoRoom, Refused}
use Rattle.folder_audit.specs.Audit.{AuditsFolder, FolderStates}
use Rattle.folder_audit.specs.Reading.{IsStoreRefused}
use Rattle.tee_types.specs.Limits.{directory_file}
use Rattle.run_acts.specs.declared.MountFault.{MountFault}
use Rattle.run_acts.specs.declared.MountFault.TheVariants.{CardBlock, CardResult, Directory, Failed, Frame, NoMemory as NoCardMemory, NoStore, OldFormat, Spent}
use Rattle.run_acts.specs.Lines.{refusal_line}
use Rattle.crash_core.specs.declared.fault.DirFault.TheVariants.{Double, Record, Tree, WrongLength}
use Rattle.store_commit.specs.Untagged.{untagged}
use Rattle.script_runner.specs.declared.status.Status.{Status}
use Rattle.script_runner.specs.declared.status.Status.TheVariants.{DeviceFault, Done, FileFault, MountRefused, NoMemory, WriteFault}
use Rattle.script_runner.specs.Audits.{RunsAudit}
use Rattle.script_runner.specs.Prints.{PrintsLines, PrintsRefusal}
use Rattle.script_runner.specs.RunRefusals.{IsDeviceFault, IsRefusal}

module _ (keys : Keys) (failed : Type 0) (held_old held_new : Option (List ℕ)) (old new : FolderStates) (lines : List ℕ) where
  -- all lines of the objects
  pub runs_listed : AuditsFolder keys old new lines {A = Unit {0}} (Ok tt) → (status : Status) → PrintsLines failed held_old held_new lines status → RunsAudit keys failed held_old held_new old new status
  runs_listed audits Done t = record {
    lines = lines;
    end = Ok tt;
    audits = audits;
    put = lines;
    appended = t;
    begins = ([], sym (append-nil lines));
    ends = tt;
    cause = refl;
  }
  runs_listed audits WriteFault t = record {
    lines = lines;
    end = Ok tt;
    audits = audits;
    put = t.1.0;
    appended = t.1.1;
    begins = (t.1.2.0, sym (append-nil lines) ∙ t.1.2.1);
    ends = tt;
    cause = t.0;
  }
  runs_listed audits status t = absurd t

  -- those of the first objects, where a call of a file failed
  pub runs_failed : (fault : FolderFault) → AuditsFolder keys old new lines {A = Unit {0}} (Err (FileFailed fault)) → (told : Status) → PrintsLines failed held_old held_new lines told
      → RunsAudit keys failed held_old held_new old new (FileFault fault)
  runs_failed fault audits Done t = record {
    lines = lines;
    end = Err (FileFailed fault);
    audits = audits;
    put = lines;
    appended = t;
    begins = ([], sym (append-nil lines));
    ends = refl;
    cause = inl refl;
  }
  runs_failed fault audits WriteFault t = record {
    lines = lines;
    end = Err (FileFailed fault);
    audits = audits;
    put = t.1.0;
    appended = t.1.1;
    begins = (t.1.2.0, sym (append-nil lines) ∙ t.1.2.1);
    ends = refl;
    cause = inr t.0;
  }
  runs_failed fault audits status t = absurd t

  -- or memory ran out
  pub runs_starved : AuditsFolder keys old new lines {A = Unit {0}} (Err NoRoom) → (told : Status) → PrintsLines failed held_old held_new lines told → RunsAudit keys failed held_old held_new old new NoMemory
  runs_starved audits Done t = record {
    lines = lines;
    end = Err NoRoom;
    audits = audits;
    put = lines;
    appended = t;
    begins = ([], sym (append-nil lines));
    ends = tt;
    cause = tt;
  }
  runs_starved audits WriteFault t = record {
    lines = lines;
    end = Err NoRoom;
    audits = audits;
    put = t.1.0;
    appended = t.1.1;
    begins = (t.1.2.0, sym (append-nil lines) ∙ t.1.2.1);
    ends = tt;
    cause = tt;
  }
  runs_starved audits status t = absurd t

  -- A STORE THAT IS REFUSED
  -- it is refused for what was read
  is_refusal : (fault : MountFault) → AuditsFolder keys old new lines {A = Unit {0}} (Err (Refused fault)) → IsRefusal fault
  is_refusal fault audits = elim audits.ends [
    | inl under ↦ by_fault under.block fault (under.holds.0 no_file)
    | inr none ↦ absurd none
  ]
    where
      by_fault : (block : List ℕ) (f : MountFault) → IsStoreRefused keys block (old no_file directory_file) (new no_file directory_file) f → IsRefusal f
      by_fault block NoStore is = tt
      by_fault block (CardBlock byte) is = tt
      by_fault block (OldFormat file) is = tt
      by_fault block (Directory f) is = tt
      by_fault block (Frame f) is = absurd is
      by_fault block (CardResult result) is = absurd is
      by_fault block (Failed cause) is = absurd is
      by_fault block Spent is = absurd is
      by_fault block NoCardMemory is = absurd is

  pub runs_refused : (fault : MountFault) → AuditsFolder keys old new lines {A = Unit {0}} (Err (Refused fault)) → (status : Status) → PrintsRefusal failed held_old held_new lines (untagged fault) status
      → RunsAudit keys failed held_old held_new old new status
  runs_refused fault audits WriteFault t = record {
    lines = lines;
    end = Err (Refused fault);
    audits = audits;
    put = t.2.0;
    appended = t.2.1;
    begins = t.2.2;
    ends = is_refusal fault audits;
    cause = t.1;
  }
  runs_refused fault audits NoMemory t = record {
    lines = lines;
    end = Err (Refused fault);
    audits = audits;
    put = t.1.0;
    appended = t.1.1;
    begins = t.1.2;
    ends = is_refusal fault audits;
    cause = tt;
  }
  runs_refused fault audits (MountRefused printed) t = record {
    lines = lines;
    end = Err (Refused fault);
    audits = audits;
    put = lines ++ refusal_line (untagged fault);
    appended = t.2;
    begins = ([], sym (append-nil (lines ++ refusal_line (untagged fault))));
    ends = t.0;
    cause = (subst IsRefusal (sym t.0) t.1, refl);
  }
  runs_refused fault audits (DeviceFault printed) t = absurd (no_device fault (is_refusal fault audits) t.1)
    where
      no_device : (f : MountFault) → IsRefusal f → IsDeviceFault (untagged f) → ⊥
      no_device NoStore is device = device
      no_device (CardBlock byte) is device = device
      no_device (OldFormat file) is device = device
      no_device (Directory (Tree g)) is device = device
      no_device (Directory (WrongLength long)) is device = device
      no_device (Directory (Record index offset)) is device = device
      no_device (Directory (Double index first)) is device = device
      no_device (Frame g) is device = device
      no_device (CardResult result) is device = device
      no_device (Failed cause) is device = is
      no_device Spent is device = is
      no_device NoCardMemory is device = is
  runs_refused fault audits status t = absurd t
