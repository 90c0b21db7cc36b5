-- The run of an audit: the store in a folder is audited, and the lines of its objects are put.
use Rattle.std.specs.Prelude.{◌≡◌, ◌⊎◌, ℕ, List, ◌++◌, Option, Result, Ok, Err}
use Rattle.hmac_keys.specs.declared.Keys.{Keys}
use Rattle.tee_ports.specs.Streams.{Appends}
use Rattle.run_acts.specs.Lines.{refusal_line}
use Rattle.store_commit.specs.Untagged.{untagged}
use Rattle.folder_audit.specs.declared.fault.AuditFault.{AuditFault}
use Rattle.folder_audit.specs.declared.fault.AuditFault.TheVariants.{Failed, NoMemory as NoRoom, Refused}
use Rattle.folder_audit.specs.Audit.{AuditsFolder, FolderStates}
use Rattle.script_runner.specs.declared.status.Status.{Status}
use Rattle.script_runner.specs.declared.status.Status.TheVariants.{Done, FileFault, MountRefused, NoMemory, WriteFault}
use Rattle.script_runner.specs.RunRefusals.{IsRefusal}
use Rattle.script_runner.specs.Sending.{Begins}

-- its text: the lines of the objects, and behind them the line of a refusal, without a computed tag
abbrev pub audit_output : (lines : List ℕ) → {A : Type 0} → Result A AuditFault → List ℕ
audit_output lines (Err (Refused fault)) = lines ++ refusal_line (untagged fault)
audit_output lines end = lines

-- The statuses that an end may have: where a store is refused, it is told, or the sink took no more of its line, or there was no memory for it.
abbrev pub EndsAudit : {A : Type 0} → Result A AuditFault → Status → Type 0
EndsAudit (Ok done) Done = Unit {0}
EndsAudit (Ok done) WriteFault = Unit {0}
EndsAudit (Err (Refused fault)) (MountRefused told) = told ≡ untagged fault
EndsAudit (Err (Refused fault)) WriteFault = IsRefusal fault
EndsAudit (Err (Refused fault)) NoMemory = IsRefusal fault
EndsAudit (Err (Failed fault)) (FileFault told) = told ≡ fault
EndsAudit (Err NoRoom) NoMemory = Unit {0}
EndsAudit end status = ⊥

-- Why the run ended, and how much of its text was put.
abbrev pub HasAuditCause : (failed : Type 0) → (put text : List ℕ) → Status → Type 0
HasAuditCause failed put text Done = put ≡ text
HasAuditCause failed put text WriteFault = failed
HasAuditCause failed put text (MountRefused fault) = IsRefusal fault × (put ≡ text)
HasAuditCause failed put text (FileFault fault) = (put ≡ text) ⊎ failed
HasAuditCause failed put text NoMemory = Unit {0}
HasAuditCause failed put text status = ⊥

-- The run: how the audit ended, what was put of its text, and why the run ended so.
pub record RunsAudit (keys : Keys) (failed : Type 0) (held_old held_new : Option (List ℕ)) (old new : FolderStates) (status : Status) : Type 0 where
  pub lines : List ℕ
  pub end : Result (Unit {0}) AuditFault
  pub audits : AuditsFolder keys old new lines end
  pub put : List ℕ
  pub appended : Appends held_old held_new put
  pub begins : Begins put (audit_output lines end)
  pub ends : EndsAudit end status
  pub cause : HasAuditCause failed put (audit_output lines end) status
