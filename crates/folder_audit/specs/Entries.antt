-- What auditing the object of one entry answers, of all files of a folder.
use Rattle.std.specs.Prelude.{◌≡◌, ℕ, List, ◌++◌, Result, Ok, Err}
use Rattle.disk_model.specs.State.{FileState}
use Rattle.htree_file.specs.Opening.{Loaded}
use Rattle.hmac_keys.specs.declared.Keys.{Keys}
use Rattle.tee_types.specs.Limits.{directory_file}
use Rattle.dir_records.specs.declared.entry.DirEntry.{DirEntry}
use Rattle.folder_audit.specs.declared.fault.AuditFault.{AuditFault}
use Rattle.folder_audit.specs.declared.fault.AuditFault.TheVariants.{Failed, NoMemory, Refused}
use Rattle.folder_audit.specs.declared.finding.Finding.{Finding}
use Rattle.folder_audit.specs.Lines.{AuditLine, audit_line, line_found}
use Rattle.folder_audit.specs.Findings.{IsAuditLine, IsExact}
use Rattle.folder_audit.specs.Audit.{FailsAt, FolderStates, HavePassed}

-- The line says what was found, exactly where the files of the directory and of the object can be followed and tell their bytes.
pub record IsLine (keys : Keys) (block : List ℕ) (tree : Loaded) (index : ℕ) (e : DirEntry) (old new : FolderStates) (line : AuditLine) : Type 0 where
  pub holds : IsAuditLine keys block e line
  pub exact : (none : FileState) → IsExact keys block tree index e (old none directory_file) (new none directory_file) (old none e.file) (new none e.file) line
  pub passed : HavePassed old new

-- a call of a file failed, or memory ran out
abbrev pub StopsAudit : (old new : FolderStates) → AuditFault → Type 0
StopsAudit old new (Failed fault) = FailsAt old new fault
StopsAudit old new NoMemory = Unit {0}
StopsAudit old new (Refused fault) = ⊥

abbrev pub FileAnswer : Keys → (block : List ℕ) → Loaded → (index : ℕ) → DirEntry → (old new : FolderStates) → Result Finding AuditFault → Type 0
FileAnswer keys block tree index e old new (Ok finding) = IsLine keys block tree index e old new (line_found finding)
FileAnswer keys block tree index e old new (Err fault) = StopsAudit old new fault

-- the line was put behind the text, or the text stays
abbrev pub EntryAnswer : Keys → (block : List ℕ) → Loaded → (index : ℕ) → DirEntry → (old new : FolderStates) → (before after : List ℕ) → {A : Type 0} → Result A AuditFault → Type 0
EntryAnswer keys block tree index e old new before after (Ok done) = (line : AuditLine) × IsLine keys block tree index e old new line × (after ≡ before ++ audit_line e line)
EntryAnswer keys block tree index e old new before after (Err fault) = (after ≡ before) × StopsAudit old new fault
