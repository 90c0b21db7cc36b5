-- What is found of one object, told of all files.
use Rattle.std.proofs.Common.{ℕ, List, Result, Ok, Err, sym, subst, inl, inr}
use Rattle.disk_model.specs.State.{FileState}
use Rattle.htree_file.specs.Answers.{FileFailed}
use Rattle.htree_file.specs.Opening.{Loaded}
use Rattle.hmac_keys.specs.declared.Keys.{Keys}
use Rattle.tee_types.specs.Limits.{directory_file}
use Rattle.dir_records.specs.declared.entry.DirEntry.{DirEntry}
use Rattle.folder_audit.specs.declared.fault.AuditFault.{AuditFault}
use Rattle.folder_audit.specs.declared.fault.AuditFault.TheVariants.{Failed, NoMemory, Refused}
use Rattle.folder_audit.specs.declared.finding.Finding.{Finding}
use Rattle.folder_audit.specs.Lines.{AuditLine, line_found}
use Rattle.folder_audit.specs.Findings.{IsExact}
use Rattle.folder_audit.specs.Objects.{AuditAnswer, CallFails}
use Rattle.folder_audit.specs.Audit.{FolderStates}
use Rattle.folder_audit.specs.Entries.{FileAnswer, StopsAudit}
use Rattle.folder_audit.proofs.Places.{TouchesTwo, but_directory, but_file, two_passed}

module _ (keys : Keys) (block : List ℕ) (tree : Loaded) (index : ℕ) (e : DirEntry) (old new : FolderStates) (a b x y : FileState) (two : TouchesTwo old new e.file a b x y) where
  exact_at : (line : AuditLine) → IsExact keys block tree index e a b x y line → (none : FileState)
      → IsExact keys block tree index e (old none directory_file) (new none directory_file) (old none e.file) (new none e.file) line
  exact_at line exact none =
      subst (λ (s : FileState). IsExact keys block tree index e s (new none directory_file) (old none e.file) (new none e.file) line) (sym (two.dir_old none))
      (subst (λ (s : FileState). IsExact keys block tree index e a s (old none e.file) (new none e.file) line) (sym (two.dir_new none))
      (subst (λ (s : FileState). IsExact keys block tree index e a b s (new none e.file) line) (sym (two.old_is none))
      (subst (λ (s : FileState). IsExact keys block tree index e a b x s line) (sym (two.new_is none)) exact)))

  failed_at_directory : (count : ℕ) → FileFailed a b count → (none : FileState) → FileFailed (old none directory_file) (new none directory_file) count
  failed_at_directory count failed none =
      subst (λ (s : FileState). FileFailed s (new none directory_file) count) (sym (two.dir_old none)) (subst (λ (s : FileState). FileFailed a s count) (sym (two.dir_new none)) failed)

  failed_at_file : (count : ℕ) → FileFailed x y count → (none : FileState) → FileFailed (old none e.file) (new none e.file) count
  failed_at_file count failed none =
      subst (λ (s : FileState). FileFailed s (new none e.file) count) (sym (two.old_is none)) (subst (λ (s : FileState). FileFailed x s count) (sym (two.new_is none)) failed)

  stops : (fault : AuditFault) → CallFails a b x y e.file fault → StopsAudit old new fault
  stops (Failed fault) (inl dir) = record {
    number = directory_file;
    place = dir.0;
    failed = failed_at_directory fault.count dir.1;
    others = λ none k other. but_directory old new e.file a b x y two dir.2 none k other;
  }
  stops (Failed fault) (inr own) = record {
    number = e.file;
    place = own.0;
    failed = failed_at_file fault.count own.2;
    others = λ none k other. but_file old new e.file a b x y two own.1 none k other;
  }
  stops NoMemory fails = tt
  stops (Refused fault) fails = absurd fails

  pub file_answer : (result : Result Finding AuditFault) → AuditAnswer keys block tree index e a b x y result → FileAnswer keys block tree index e old new result
  file_answer (Ok finding) found = record {
    holds = found.line;
    exact = exact_at (line_found finding) (found.exact tt);
    passed = two_passed old new e.file a b x y two found.dir_passed found.passed;
  }
  file_answer (Err fault) fails = stops fault fails
