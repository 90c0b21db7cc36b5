-- A stage after reads of the file.
use Rattle.std.proofs.Common.{◌≡◌, ◌∙◌, ℕ, inl, List, length, drop, None, Result, Ok, Err, IfErr, IsTrue, OnOk, ap, sym, subst, refl}
use Rattle.disk_model.specs.State.{FileState, LeftNow, LeftSince, pending, spans_of}
use Rattle.disk_model.specs.State.{Sound}
use Rattle.disk_model.specs.Images.{MayLeave}
use Rattle.disk_model.specs.Calls.{GoesOn, Known, Rests}
use Rattle.disk_model.proofs.Goings.{first_known, then_known}
use Rattle.disk_model.proofs.ImageLaws.{left_since_now}
use Rattle.disk_model.proofs.Laws.{keeps_then, rest_keeps}
use Rattle.node_image.specs.declared.node.RootRef.{RootRef}
use Rattle.node_image.specs.Selection.{selected_tree}
use Rattle.htree_file.specs.declared.change.BlockChange.{BlockChange}
use Rattle.htree_file.specs.declared.fault.TreeFault.{TreeFault}
use Rattle.htree_file.specs.declared.fault.TreeFault.TheVariants.{BadHead, BadTag, Damaged, Failed, NoEntropy, NoMemory, Short}
use Rattle.htree_file.specs.Making.{HasCauses, IsDeviceFault}
use Rattle.htree_file.specs.Answers.{FilePassed, HasCause, HasFaultWidths}
use Rattle.htree_file.specs.Opening.{Loaded, load_of}
use Rattle.htree_file.specs.Selected.{KeepsFirm, Lies}
use Rattle.htree_file.specs.Standing.{IsFirm, OpensTo}
use Rattle.htree_file.specs.Value.{TreeValue}
use Rattle.htree_file.proofs.Causes.{fault_then, passed_then}
use Rattle.htree_file.proofs.Firmness.{keeps_selected}
use Rattle.page_bytes.specs.declared.range.ByteRange.{ByteRange}
use Rattle.block_file.specs.NewPages.{NewPagesAnswer}
use Rattle.block_file.specs.Reads.{IsChangeFault, IsEarlyFault}
use Rattle.block_file.specs.Stages.{StageAnswer}

-- what a crash may leave of a file is the same after reads
left_before : (a b : FileState) (image : List ℕ) → Rests a b → IsTrue b.honest → LeftNow b image → LeftNow a image
left_before a b image rests honest left = λ was.
    let same : pending b ≡ pending a = λ i. spans_of (drop (rests.pending_from i) (rests.trail i)) in
    subst (λ s. MayLeave a.settled s image) same (subst (λ (l : List ℕ). MayLeave l (pending b) image) (rests.settled honest) (left honest))

reads_same : (a b : FileState) → Rests a b → IsTrue b.honest → b.reads ≡ a.reads
reads_same a b rests honest = rests.reads (inl honest)

-- a firm tree is so after reads
pub firm_rested : (a b : FileState) (root : RootRef) (tree : Loaded) → Rests a b → IsFirm a root tree → IsTrue b.honest → IsFirm b root tree
firm_rested a b root tree rests firm honest image left =
    subst (λ (l : List ℕ). OpensTo root tree (selected_tree l root) image) (sym (reads_same a b rests honest)) (firm image (left_before a b image rests honest left))

-- reads keep a tree firm
pub rests_firm : (a b : FileState) (root : RootRef) (tree : Loaded) → Rests a b → KeepsFirm a b root tree
rests_firm a b root tree rests firm honest = record {
  always = λ image left. firm image (left_before a b image rests honest (left_since_now b image (subst (λ (n : ℕ). LeftSince b n image) (sym (ap length rests.trail)) left)));
  firm = firm_rested a b root tree rests firm honest;
}

pub then_firm : (a b c : FileState) (root : RootRef) (tree : Loaded) → Rests a b → GoesOn b c → KeepsFirm b c root tree → KeepsFirm a c root tree
then_firm a b c root tree rests goes keeps firm honest =
    let was : IsTrue b.honest = goes.honest honest in
    let stays = keeps (firm_rested a b root tree rests firm was) honest in
    record {
      always = λ image left. subst (λ (l : List ℕ). OpensTo root tree (selected_tree l root) image) (reads_same a b rests was)
          (stays.always image (subst (λ (n : ℕ). LeftSince c n image) (sym (ap length rests.trail)) left));
      firm = stays.firm;
    }

-- a fault of the file or of the entropy carries no hash and no tag
pub device_widths : (A : Type 0) (result : Result A TreeFault) → IfErr result IsDeviceFault → IfErr result HasFaultWidths
device_widths A (Ok answer) fault = tt
device_widths A (Err (BadHead long greatest)) fault = tt
device_widths A (Err (Short end need)) fault = tt
device_widths A (Err (Damaged n want found)) fault = absurd fault
device_widths A (Err (BadTag k want found)) fault = absurd fault
device_widths A (Err (Failed count)) fault = tt
device_widths A (Err (NoEntropy count)) fault = tt
device_widths A (Err NoMemory) fault = tt

cause_then : (a b c : FileState) (A : Type 0) (result : Result A TreeFault) → GoesOn a b → FilePassed a b → HasCause b c result → HasCause a c result
cause_then a b c A (Ok answer) goes passed cause = passed_then a b c passed cause
cause_then a b c A (Err fault) goes passed cause = fault_then a b c fault goes passed cause

loaded_then : (a b c : FileState) (root : RootRef) (tree : Loaded) (A : Type 0) (result : Result A TreeFault) (P : Type 0) → Rests a b → GoesOn b c
    → OnOk result (Known b c → load_of b.reads root ≡ Ok tree → P) → OnOk result (Known a c → load_of a.reads root ≡ Ok tree → P)
loaded_then a b c root tree A (Ok answer) P rests goes loaded = λ known loads.
    loaded (then_known a b c rests.goes_on known) (ap (λ (l : List ℕ). load_of l root) (rests.reads (first_known a b c goes known)) ∙ loads)
loaded_then a b c root tree A (Err fault) P rests goes loaded = tt

device_change : (A : Type 0) (result : Result A TreeFault) → IfErr result IsDeviceFault → IfErr result IsChangeFault
device_change A (Ok answer) kind = tt
device_change A (Err (Failed count)) kind = tt
device_change A (Err (NoEntropy count)) kind = tt
device_change A (Err (BadHead long greatest)) kind = absurd kind
device_change A (Err (Short end need)) kind = absurd kind
device_change A (Err (Damaged n want found)) kind = absurd kind
device_change A (Err (BadTag k want found)) kind = absurd kind
device_change A (Err NoMemory) kind = absurd kind

-- the causes of an answer after reads
pub causes_then : (a b c : FileState) (drew draws : ℕ) (Was Is A : Type 0) (result : Result A TreeFault) → GoesOn a b → FilePassed a b
    → HasCauses IsDeviceFault b c drew draws Was Is result → HasCauses IsChangeFault a c drew draws Was Is result
causes_then a b c drew draws Was Is A result goes passed causes = record {
  file = cause_then a b c A result goes passed causes.file;
  drawn = causes.drawn;
  lasts = causes.lasts;
  reliable = causes.reliable;
  kind = device_change A result causes.kind;
}

-- the causes of a read that failed
pub early_causes : (key : List ℕ) (tree : Loaded) (a b : FileState) (r : ByteRange) (at : ℕ) (bytes : List ℕ) (first upto drew : ℕ) (Was A B : Type 0) (items : B → List BlockChange) (fault : TreeFault)
    → NewPagesAnswer key tree a b r at bytes first upto {A = B} items (Err fault) → HasCause {A = A} a b (Err fault) → HasCauses IsChangeFault a b drew drew Was Was {A = A} (Err fault)
early_causes key tree a b r at bytes first upto drew Was A B items (BadTag k want found) answer cause = record { file = cause; drawn = refl; lasts = λ was. was; reliable = λ was. tt; kind = tt }
early_causes key tree a b r at bytes first upto drew Was A B items (Failed count) answer cause = record { file = cause; drawn = refl; lasts = λ was. was; reliable = λ was. tt; kind = tt }
early_causes key tree a b r at bytes first upto drew Was A B items NoMemory answer cause = record { file = cause; drawn = refl; lasts = λ was. was; reliable = λ was. tt; kind = tt }
early_causes key tree a b r at bytes first upto drew Was A B items (BadHead long greatest) answer cause = absurd answer
early_causes key tree a b r at bytes first upto drew Was A B items (Short end need) answer cause = absurd answer
early_causes key tree a b r at bytes first upto drew Was A B items (Damaged n want found) answer cause = absurd answer
early_causes key tree a b r at bytes first upto drew Was A B items (NoEntropy count) answer cause = absurd answer

-- a fault of the devices is no early one
pub not_early : (A : Type 0) (result : Result A TreeFault) (P : Type 0) → IfErr result IsDeviceFault → IfErr result (λ e. IsEarlyFault e → P)
not_early A (Ok answer) P kind = tt
not_early A (Err (Failed count)) P kind = λ early. absurd early
not_early A (Err (NoEntropy count)) P kind = λ early. absurd early
not_early A (Err (BadHead long greatest)) P kind = λ early. absurd early
not_early A (Err (Short end need)) P kind = λ early. absurd early
not_early A (Err (Damaged n want found)) P kind = λ early. absurd early
not_early A (Err (BadTag k want found)) P kind = absurd kind
not_early A (Err NoMemory) P kind = absurd kind

-- what follows for a fault
pub err_then : (A : Type 0) (result : Result A TreeFault) (P Q : TreeFault → Type 0) → ((e : TreeFault) → P e → Q e) → IfErr result P → IfErr result Q
err_then A (Ok answer) P Q then was = tt
err_then A (Err e) P Q then was = then e was

-- a stage after reads is a stage
pub stage_then : (F : Type 0) (state : F → FileState) (old new : TreeValue F) (mid : F) (size : ℕ) (A : Type 0) (result : Result A TreeFault)
    → Sound (state old.file) → Rests (state old.file) (state mid)
    → StageAnswer state (record old { file = mid }) new size result → StageAnswer state old new size result
stage_then F state old new mid size A result sound rests staged =
    let a = state old.file in
    let b = state mid in
    let c = state new.file in
    let goes : GoesOn b c = staged.keeps.goes_on in
    record {
      opens = staged.opens;
      none = staged.none;
      next = staged.next;
      format = staged.format;
      same = staged.same;
      firm = then_firm a b c old.root old.tree rests goes staged.firm;
      keeps = keeps_then (Lies old.tree.layout old.tree.nodes old.root.version) a b c (keeps_selected old.tree.layout old.tree.nodes old.root.version a b (rest_keeps a b sound rests)) staged.keeps;
      loaded = loaded_then a b c old.root old.tree A result _ rests goes staged.loaded;
      unsettled = staged.unsettled ∙ rests.pending_from;
      verified = staged.verified;
      spares = staged.spares;
    }

-- where a read fails there is no stage
pub no_stage : (F : Type 0) (state : F → FileState) (old : TreeValue F) (mid : F) (size : ℕ) (A : Type 0) (fault : TreeFault)
    → Sound (state old.file) → old.stage ≡ None → Rests (state old.file) (state mid)
    → StageAnswer state old (record old { file = mid }) size {A = A} (Err fault)
no_stage F state old mid size A fault sound idle rests =
    let a = state old.file in
    let b = state mid in
    record {
      opens = tt;
      none = idle;
      next = tt;
      format = tt;
      same = refl;
      firm = rests_firm a b old.root old.tree rests;
      keeps = keeps_selected old.tree.layout old.tree.nodes old.root.version a b (rest_keeps a b sound rests);
      loaded = tt;
      unsettled = rests.pending_from;
      verified = tt;
      spares = tt;
    }
