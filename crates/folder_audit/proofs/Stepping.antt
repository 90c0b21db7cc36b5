-- Lines that are put one after the other.
use Rattle.std.proofs.Common.{◌≡◌, ◌∙◌, ℕ, List, [], ◌∷◌, ◌++◌, take, drop, Option, Err, refl, sym, ap, subst, append_assoc, append-nil}
use Rattle.std.specs.List.{AllZip}
use Rattle.std.proofs.lemmas.List.{take-append-drop}
use Rattle.disk_model.specs.State.{FileState}
use Rattle.disk_model.proofs.Goings.{rests_then}
use Rattle.htree_file.specs.declared.fault.TreeFault.TheVariants.{Failed as FileFault}
use Rattle.htree_file.specs.Opening.{Loaded}
use Rattle.htree_file.specs.Standing.{Told}
use Rattle.htree_file.proofs.Causes.{fault_then, passed_then, told_then}
use Rattle.htree_file.proofs.CopyRuns.{told_first}
use Rattle.hmac_keys.specs.declared.Keys.{Keys}
use Rattle.tee_types.specs.Limits.{directory_file}
use Rattle.dir_records.specs.declared.entry.DirEntry.{DirEntry}
use Rattle.crash_core.specs.EntryLists.{entry_at}
use Rattle.dir_index.specs.Index.{IndexEntries, IndexEntry}
use Rattle.folder_export.specs.declared.fault.FileFault.{FileFault as FolderFault}
use Rattle.folder_audit.specs.declared.fault.AuditFault.{AuditFault}
use Rattle.folder_audit.specs.declared.fault.AuditFault.TheVariants.{Failed, NoMemory, Refused}
use Rattle.folder_audit.specs.Lines.{AuditLine, AuditStep, audit_line, steps_text}
use Rattle.folder_audit.specs.Findings.{IsMountedDirectory, TellsObject}
use Rattle.folder_audit.specs.Order.{IsOfName}
use Rattle.folder_audit.specs.Audit.{FailsAt, FolderStates, HavePassed, IsStep, ListAnswer, OnlyReads, PutsLines}
use Rattle.folder_audit.specs.Entries.{IsLine, StopsAudit}

-- TWO LISTS, MEMBER BY MEMBER
pub zip_more : {A B : Type 0} (R : A → B → Type 0) (xs : List A) (ys : List B) (x : A) (y : B) → AllZip R xs ys → R x y → AllZip R (xs ++ x ∷ []) (ys ++ y ∷ [])
zip_more R [] [] x y all one = (one, tt)
zip_more R [] (b ∷ ys) x y all one = absurd all
zip_more R (a ∷ xs) [] x y all one = absurd all
zip_more R (a ∷ xs) (b ∷ ys) x y all one = (all.0, zip_more R xs ys x y all.1 one)

pub zip_map : {A B : Type 0} (R S : A → B → Type 0) → ((a : A) (b : B) → R a b → S a b) → (xs : List A) (ys : List B) → AllZip R xs ys → AllZip S xs ys
zip_map R S each [] [] all = tt
zip_map R S each [] (b ∷ ys) all = absurd all
zip_map R S each (a ∷ xs) [] all = absurd all
zip_map R S each (a ∷ xs) (b ∷ ys) all = (each a b all.0, zip_map R S each xs ys all.1)

steps-more : (steps : List AuditStep) (step : AuditStep) → steps_text (steps ++ step ∷ []) ≡ steps_text steps ++ audit_line step.entry step.line
unfolding steps_text
steps-more [] step = append-nil (audit_line step.entry step.line)
steps-more (s ∷ steps) step = ap (λ (l : List ℕ). audit_line s.entry s.line ++ l) (steps-more steps step) ∙ sym (append_assoc (audit_line s.entry s.line) (steps_text steps) (audit_line step.entry step.line))

steps-none : steps_text [] ≡ []
unfolding steps_text
steps-none = refl

-- THE FILES AS THE LINES GO ON
pub passed_on : (a b c : FolderStates) → HavePassed a b → HavePassed b c → HavePassed a c
passed_on a b c first second none file = passed_then (a none file) (b none file) (c none file) (first none file) (second none file)

pub rests_on : (a b c : FolderStates) → OnlyReads a b → OnlyReads b c → OnlyReads a c
rests_on a b c first second none file = rests_then (a none file) (b none file) (c none file) (first none file) (second none file)

pub fails_on : (a b c : FolderStates) (fault : FolderFault) → OnlyReads a b → HavePassed a b → FailsAt b c fault → FailsAt a c fault
fails_on a b c fault rests passed fails = record {
  number = fails.number;
  place = fails.place;
  failed = λ none. fault_then (a none fails.number) (b none fails.number) (c none fails.number) (FileFault fault.count) (rests none fails.number).goes_on (passed none fails.number) (fails.failed none);
  others = λ none file other. passed_then (a none file) (b none file) (c none file) (passed none file) (fails.others none file other);
}

module _ (keys : Keys) (block : List ℕ) (entries : List (Option DirEntry)) (a b c : FolderStates) (first : OnlyReads a b) (second : OnlyReads b c) where
  told_before : (none : FileState) (k : ℕ) → Told (a none k) (c none k) → Told (a none k) (b none k)
  told_before none k told = told_first (a none k) (b none k) (c none k) (second none k) told

  told_behind : (none : FileState) (k : ℕ) → Told (a none k) (c none k) → Told (b none k) (c none k)
  told_behind none k told = told_then (a none k) (b none k) (c none k) (first none k).goes_on told

  reads_same : (none : FileState) (k : ℕ) → Told (a none k) (c none k) → (c none k).reads ≡ (b none k).reads
  reads_same none k told = (second none k).reads (told_behind none k told).1

  -- a line that is exact stays so
  step_on : (Known : List ℕ → Type 0) (name : IndexEntry) (step : AuditStep) → IsStep keys block entries Known a b name step → IsStep keys block entries Known a c name step
  step_on Known name step is = record {
    of_name = is.of_name;
    line = is.line;
    exact = λ none told_dir told known.
        subst (λ (l : List ℕ). TellsObject keys block step.entry l step.line) (sym (reads_same none (step.entry).file told))
        (is.exact none (told_before none directory_file told_dir) (told_before none (step.entry).file told) (subst Known (reads_same none directory_file told_dir) known));
  }

  -- and so it is from an earlier moment on
  step_from : (Known Before : List ℕ → Type 0) → ((none : FileState) → Told (a none directory_file) (c none directory_file) → Before (c none directory_file).reads → Known (c none directory_file).reads)
      → (name : IndexEntry) (step : AuditStep) → IsStep keys block entries Known b c name step → IsStep keys block entries Before a c name step
  step_from Known Before knows name step is = record {
    of_name = is.of_name;
    line = is.line;
    exact = λ none told_dir told before.
        is.exact none (told_behind none directory_file told_dir) (told_behind none (step.entry).file told) (knows none told_dir before);
  }

  pub steps_on : (Known : List ℕ → Type 0) (names : IndexEntries) (steps : List AuditStep) → AllZip (IsStep keys block entries Known a b) names steps → AllZip (IsStep keys block entries Known a c) names steps
  steps_on Known names steps all = zip_map (IsStep keys block entries Known a b) (IsStep keys block entries Known a c) (step_on Known) names steps all

  pub steps_from : (Known Before : List ℕ → Type 0) → ((none : FileState) → Told (a none directory_file) (c none directory_file) → Before (c none directory_file).reads → Known (c none directory_file).reads)
      → (names : IndexEntries) (steps : List AuditStep) → AllZip (IsStep keys block entries Known b c) names steps → AllZip (IsStep keys block entries Before a c) names steps
  steps_from Known Before knows names steps all = zip_map (IsStep keys block entries Known b c) (IsStep keys block entries Before a c) (step_from Known Before knows) names steps all

  module _ (tree : Loaded) (names : IndexEntries) (before text : List ℕ) where
    pub lines_on : PutsLines keys block tree entries a b names before text → PutsLines keys block tree entries a c names before text
    lines_on puts = record { steps = puts.steps; are = steps_on (λ reads. IsMountedDirectory keys block reads tree entries) names puts.steps puts.are; text = puts.text }

    -- one line more
    pub lines_more : (name : IndexEntry) (index : ℕ) (e : DirEntry) (line : AuditLine) (after : List ℕ) → index ≡ name.1 → IsOfName entries name e → IsLine keys block tree index e b c line
        → after ≡ text ++ audit_line e line → PutsLines keys block tree entries a b names before text → PutsLines keys block tree entries a c (names ++ name ∷ []) before after
    lines_more name index e line after index_is of_name is wrote puts =
        let step : AuditStep = record { entry = e; line = line } in
        record {
          steps = puts.steps ++ step ∷ [];
          are = zip_more (IsStep keys block entries (λ reads. IsMountedDirectory keys block reads tree entries) a c) names puts.steps name step
              (steps_on (λ reads. IsMountedDirectory keys block reads tree entries) names puts.steps puts.are)
              (record {
                of_name = of_name;
                line = is.holds;
                exact = λ none told_dir told mounted.
                    is.exact none (told_behind none directory_file told_dir) (told_behind none e.file told) entries mounted (ap (entry_at entries) index_is ∙ of_name.at);
              });
          text = wrote ∙ ap (λ (l : List ℕ). l ++ audit_line e line) puts.text ∙ append_assoc before (steps_text puts.steps) (audit_line e line)
              ∙ ap (λ (l : List ℕ). before ++ l) (sym (steps-more puts.steps step));
        }

pub lines_none : (keys : Keys) (block : List ℕ) (tree : Loaded) (entries : List (Option DirEntry)) (a : FolderStates) (before : List ℕ) → PutsLines keys block tree entries a a [] before before
lines_none keys block tree entries a before = record { steps = []; are = tt; text = sym (append-nil before) ∙ ap (λ (l : List ℕ). before ++ l) (sym steps-none) }

-- where it ends at an entry
pub ends_at : (keys : Keys) (block : List ℕ) (tree : Loaded) (entries : List (Option DirEntry)) (a b c : FolderStates) (names : IndexEntries) (k : ℕ) (before text after : List ℕ) (fault : AuditFault)
    → OnlyReads a b → OnlyReads b c → HavePassed a b → PutsLines keys block tree entries a b (take k names) before text → after ≡ text → StopsAudit b c fault
    → ListAnswer keys block tree entries a c names before after {A = Unit {0}} (Err fault)
ends_at keys block tree entries a b c names k before text after fault first second passed puts same stops = by_fault fault stops
  where
    part : (done left : IndexEntries) × (names ≡ done ++ left) × PutsLines keys block tree entries a c done before after
    part = (take k names, drop k names, sym (take-append-drop k names), subst (PutsLines keys block tree entries a c (take k names) before) (sym same) (lines_on keys block entries a b c first second tree (take k names) before text puts))

    by_fault : (f : AuditFault) → StopsAudit b c f → ListAnswer keys block tree entries a c names before after {A = Unit {0}} (Err f)
    by_fault (Failed f) stops = (part, fails_on a b c f first passed stops)
    by_fault NoMemory stops = part
    by_fault (Refused f) stops = absurd stops
