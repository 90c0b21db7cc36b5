-- What is found of one object.
use Rattle.std.proofs.Common.{◌≡◌, ◌≢◌, ◌⊎◌, ◌∙◌, ◌+◌, ◌<◌, ◌≤◌, ℕ, List, length, Result, Ok, Err, refl, sym, ap, subst, inl, inr, arith}
use Rattle.disk_model.specs.Bytes.{AreBytes}
use Rattle.disk_model.specs.State.{FileState}
use Rattle.disk_model.specs.Calls.{Rests}
use Rattle.disk_model.proofs.Goings.{rests_then}
use Rattle.node_image.specs.declared.node.RootRef.{RootRef}
use Rattle.node_image.specs.Layout.{greatest_of}
use Rattle.htree_file.specs.declared.fault.TreeFault.{TreeFault}
use Rattle.htree_file.specs.declared.fault.TreeFault.TheVariants.{BadHead, BadTag, Damaged as DamagedTree, Failed as FileFault, NoEntropy, NoMemory as NoRoom, Short}
use Rattle.htree_file.specs.Answers.{FaultCause, FilePassed, IsOutside}
use Rattle.htree_file.specs.Opening.{IsVerified, Loaded, load_of}
use Rattle.htree_file.specs.Pages.{opened_in}
use Rattle.htree_file.specs.Standing.{Told}
use Rattle.htree_file.proofs.Causes.{fault_then, passed_none, passed_then, told_then}
use Rattle.htree_file.proofs.Sizes.{sized_greatest}
use Rattle.htree_file.proofs.CopyRuns.{told_first}
use Rattle.hmac_keys.specs.declared.Keys.{Keys}
use Rattle.tree_paths.specs.declared.node_set.NodeSet.{NodeSet}
use Rattle.tree_paths.specs.Paths.{holds}
use Rattle.tree_paths.specs.Staged.{count_to}
use Rattle.store_model.specs.Object.{Damaged as DamagedObject, Sound}
use Rattle.dir_records.specs.declared.entry.DirEntry.{DirEntry}
use Rattle.dir_records.specs.Form.{HasForm}
use Rattle.crash_core.specs.DeviceKeys.{object_key}
use Rattle.crash_core.specs.MountedObject.{mounted_object, object_or_damaged, root_of}
use Rattle.object_file.specs.declared.fault.ObjectFault.{ObjectFault}
use Rattle.object_file.specs.declared.fault.ObjectFault.TheVariants.{Tree, WrongSize}
use Rattle.object_file.specs.Held.{held_in}
use Rattle.object_file.specs.Loading.{IsOutsideObject, ObjectCause}
use Rattle.object_file.specs.Value.{ObjectValue}
use Rattle.script_text.specs.BadBlocks.{members_of}
use Rattle.image_audit.specs.Audited.{IsAudit}
use Rattle.folder_audit.specs.declared.fault.AuditFault.{AuditFault}
use Rattle.folder_audit.specs.declared.fault.AuditFault.TheVariants.{Failed, NoMemory, Refused}
use Rattle.folder_audit.specs.declared.finding.Finding.{Finding}
use Rattle.folder_audit.specs.declared.finding.Finding.TheVariants.{Bad, Damaged}
use Rattle.folder_audit.specs.Findings.{TellsObject}
use Rattle.folder_audit.specs.Lines.{Certified, line_found}
use Rattle.folder_audit.specs.Objects.{AuditAnswer, CallFails, CertifyAnswer, FindsBad, FindsIf, IsChecked, IsWhole, object_answer, tree_answer}
use Rattle.folder_audit.proofs.Accepting.{accepted, eight}
use Rattle.folder_audit.proofs.Noted.{none_passing, noted_are, some_passing}

-- a tree of so few bytes has so few blocks
pub whole_nodes : (root : RootRef) (tree : Loaded) (size : ℕ) → IsVerified root tree → tree.head.length ≡ 4096 + size → size ≤ 1044480 → (1 ≤ length tree.nodes) × (length tree.nodes ≤ 256)
whole_nodes root tree size verified long few =
    let many : length tree.nodes ≡ greatest_of tree.head.length = verified.hashed.all ∙ sized_greatest tree.head verified.hashed.sized in
    (omega (arith, many), omega (arith, many, long, few))

module _ (keys : Keys) (block : List ℕ) (tree : Loaded) (index : ℕ) (e : DirEntry) where
  -- WHAT CAME BEFORE, OF THE OBJECT'S FILE
  fails_later : (a b x y z : FileState) (fault : AuditFault) → Rests x y → FilePassed x y → CallFails a b y z e.file fault → CallFails a b x z e.file fault
  fails_later a b x y z (Failed fault) rests passed (inl one) = inl (one.0, one.1, passed_then x y z passed one.2)
  fails_later a b x y z (Failed fault) rests passed (inr one) = inr (one.0, one.1, fault_then x y z (FileFault fault.count) rests.goes_on passed one.2)
  fails_later a b x y z NoMemory rests passed fails = tt
  fails_later a b x y z (Refused fault) rests passed fails = fails

  pub found_later : (Known Before : List ℕ → Type 0) (a b x y z : FileState) (result : Result Finding AuditFault) → Rests x y → FilePassed x y → (Told x z → Before z.reads → Known z.reads)
      → FindsIf keys block tree index e Known a b y z result → FindsIf keys block tree index e Before a b x z result
  found_later Known Before a b x y z (Ok finding) rests passed known found = record {
    line = found.line;
    exact = λ before told_dir told entries mounted at. found.exact (known told before) told_dir (told_then x y z rests.goes_on told) entries mounted at;
    dir_passed = found.dir_passed;
    passed = passed_then x y z passed found.passed;
  }
  found_later Known Before a b x y z (Err fault) rests passed known found = fails_later a b x y z fault rests passed found

  -- A TREE THAT IS NOT LOADED
  -- it is damaged, where that is what it mounts as
  pub damaged_found : (Known : List ℕ → Type 0) (s x y : FileState) → FilePassed x y → (Told x y → Known y.reads → mounted_object (object_key keys e.app) y.reads e ≡ DamagedObject e.size)
      → FindsIf keys block tree index e Known s s x y (Ok Damaged)
  damaged_found Known s x y passed is = record {
    line = tt;
    exact = λ known told_dir told entries mounted at. is told known;
    dir_passed = passed_none s;
    passed = passed;
  }

  fault_found : (Known : List ℕ → Type 0) (s x y : FileState) (fault : TreeFault) → IsOutside fault ⊎ (Told x y → Known y.reads → mounted_object (object_key keys e.app) y.reads e ≡ DamagedObject e.size)
      → FaultCause x y fault → FindsIf keys block tree index e Known s s x y (tree_answer e.file fault)
  fault_found Known s x y (FileFault count) is cause = inr (refl, passed_none s, cause)
  fault_found Known s x y NoRoom is cause = tt
  fault_found Known s x y (BadHead long greatest) (inr is) cause = damaged_found Known s x y cause is
  fault_found Known s x y (BadHead long greatest) (inl outside) cause = absurd outside
  fault_found Known s x y (Short end need) (inr is) cause = damaged_found Known s x y cause is
  fault_found Known s x y (Short end need) (inl outside) cause = absurd outside
  fault_found Known s x y (DamagedTree n want found) (inr is) cause = damaged_found Known s x y cause is
  fault_found Known s x y (DamagedTree n want found) (inl outside) cause = absurd outside
  fault_found Known s x y (BadTag k want found) (inr is) cause = damaged_found Known s x y cause is
  fault_found Known s x y (BadTag k want found) (inl outside) cause = absurd outside
  fault_found Known s x y (NoEntropy count) (inr is) cause = damaged_found Known s x y cause is
  fault_found Known s x y (NoEntropy count) (inl outside) cause = absurd outside

  by_load : (reads : List ℕ) (fault : TreeFault) → load_of reads (root_of e) ≡ Err fault → mounted_object (object_key keys e.app) reads e ≡ DamagedObject e.size
  by_load reads fault is = ap (λ (r : Result Loaded TreeFault). object_or_damaged e.size e.attributes (opened_in reads (object_key keys e.app) r)) is

  pub load_found : (Known : List ℕ → Type 0) (s x y : FileState) (fault : TreeFault) → IsOutside fault ⊎ (Told x y → load_of y.reads (root_of e) ≡ Err fault) → FaultCause x y fault
      → FindsIf keys block tree index e Known s s x y (tree_answer e.file fault)
  load_found Known s x y fault (inl outside) cause = fault_found Known s x y fault (inl outside) cause
  load_found Known s x y fault (inr is) cause = fault_found Known s x y fault (inr (λ told known. by_load y.reads fault (is told))) cause

  pub object_found : (s x y : FileState) (fault : ObjectFault) → IsOutsideObject fault ⊎ (Told x y → mounted_object (object_key keys e.app) y.reads e ≡ DamagedObject e.size)
      → ObjectCause x y fault → AuditAnswer keys block tree index e s s x y (object_answer e.file fault)
  object_found s x y (Tree fault) (inl outside) cause = fault_found (λ reads. Unit {0}) s x y fault (inl outside) cause
  object_found s x y (Tree fault) (inr is) cause = fault_found (λ reads. Unit {0}) s x y fault (inr (λ told known. is told)) cause
  object_found s x y (WrongSize entry head) (inr is) cause = damaged_found (λ reads. Unit {0}) s x y cause (λ told known. is told)
  object_found s x y (WrongSize entry head) (inl outside) cause = absurd outside

  -- A DIRECTORY WHOSE TREE HAS NOT EIGHT BLOCKS
  pub not_eight : (form : HasForm e) (s t : FileState) → AreBytes s.reads → AreBytes t.reads → tree.head.greatest ≢ 8 → CertifyAnswer keys block tree index e s s t t (Ok Damaged)
  not_eight form s t dir_bytes bytes other = record {
    line = tt;
    exact = λ known told_dir told entries mounted at.
        absurd (other (eight keys block tree tree entries index e s s t t dir_bytes bytes form mounted at));
    dir_passed = passed_none s;
    passed = passed_none t;
  }

  -- A CERTIFICATE THAT WAS MADE AND CHECKED
  pub checked_found : (object : Loaded) (a b x y z : FileState) (certificate : List ℕ) (finding : Finding) (form : HasForm e) → AreBytes b.reads → AreBytes z.reads → index < 256 → Rests x y → Rests y z
      → (Told x y → load_of y.reads (root_of e) ≡ Ok object) → FilePassed a b → FilePassed x z → IsAudit index tree object a b y z certificate → IsChecked keys block e certificate finding
      → CertifyAnswer keys block tree index e a b x z (Ok finding)
  checked_found object a b x y z certificate finding form dir_bytes bytes low first second loads dir_passed passed audit checked = record {
    line = checked.line;
    exact = λ known told_dir told entries mounted at.
        let later : Told y z = told_then x y z first.goes_on told in
        let here : load_of z.reads (root_of e) ≡ Ok object = ap (λ (l : List ℕ). load_of l (root_of e)) (second.reads later.1) ∙ loads (told_first x y z second told) in
        let ok = accepted keys block tree object entries index e a b y z dir_bytes bytes form mounted at here low (mounted.entries_current index e at) told_dir later
        certificate audit known.0 known.1 known.2 in
        let is : line_found finding ≡ Certified certificate = checked.told _ ok refl in
        subst (TellsObject keys block e z.reads) (sym is) (known.0, known.1, known.2, ok);
    dir_passed = dir_passed;
    passed = passed;
  }

  -- AN OBJECT THAT WAS LOADED AND READ
  module _ {F : Type 0} (x y z : FileState) (o : ObjectValue F) (bad : NodeSet) (first : Rests x y) (second : Rests y z) (some : 1 ≤ length o.tree.tree.nodes) (few : length o.tree.tree.nodes ≤ 256)
      (object : Told x y → mounted_object (object_key keys e.app) y.reads e ≡ Sound (held_in o y.reads)) (finds : FindsBad o.tree.key o.tree.tree y z (length o.tree.tree.nodes) bad) where
    object_is : Told x z → mounted_object (object_key keys e.app) z.reads e ≡ Sound (held_in o z.reads)
    object_is told =
        let same : z.reads ≡ y.reads = second.reads (told_then x y z first.goes_on told).1 in
        subst (λ (l : List ℕ). mounted_object (object_key keys e.app) l e ≡ Sound (held_in o l)) (sym same) (object (told_first x y z second told))

    numbers : Told x z → members_of bad ≡ (held_in o z.reads).bad
    numbers told = noted_are o.tree.key o.tree.tree y z bad some few (told_then x y z first.goes_on told) finds

    none_found : count_to (holds bad) 256 ≡ 0 → Told x z → IsWhole keys e z.reads
    none_found none told = (held_in o z.reads, object_is told, sym (numbers told) ∙ none_passing (holds bad) 256 none)

    whole_later : (w : FileState) → Rests z w → count_to (holds bad) 256 ≡ 0 → Told x w → IsWhole keys e w.reads
    whole_later w third none told =
        let before : Rests x z = rests_then x y z first second in
        let same : w.reads ≡ z.reads = third.reads (told_then x z w before.goes_on told).1 in
        subst (IsWhole keys e) (sym same) (none_found none (told_first x z w third told))

    -- what is found of the certificate of one that has none
    pub whole_found : (a b w : FileState) (result : Result Finding AuditFault) → FilePassed x z → Rests z w → count_to (holds bad) 256 ≡ 0
        → CertifyAnswer keys block tree index e a b z w result → AuditAnswer keys block tree index e a b x w result
    whole_found a b w result passed third none answer =
        found_later (IsWhole keys e) (λ reads. Unit {0}) a b x z w result (rests_then x y z first second) passed (λ told known. whole_later w third none told) answer

    pub bad_found : (s : FileState) → FilePassed x z → count_to (holds bad) 256 ≢ 0 → AuditAnswer keys block tree index e s s x z (Ok (Bad bad))
    bad_found s passed others = record {
      line = some_passing (holds bad) 256 others;
      exact = λ known told_dir told entries mounted at. (held_in o z.reads, object_is told, sym (numbers told));
      dir_passed = passed_none s;
      passed = passed;
    }
