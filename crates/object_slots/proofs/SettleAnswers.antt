-- A stage that is settled, or given up.
use Rattle.std.proofs.Common.{◌≡◌, ◌∙◌, true, Option, Some, None, Ok, Err, IfSome, IsSome, IsTrue, refl, sym, ap, subst}
use Rattle.disk_model.specs.State.{FileState}
use Rattle.disk_model.specs.Calls.{Known, Syncs}
use Rattle.disk_model.specs.Keeps.{Anywhere, Keeps}
use Rattle.node_image.specs.References.{IsCurrent}
use Rattle.node_image.specs.declared.node.RootRef.{RootRef}
use Rattle.htree_file.specs.declared.fault.TreeFault.{TreeFault}
use Rattle.htree_file.specs.declared.fault.TreeFault.TheVariants.{BadHead, BadTag, Damaged, Failed, NoEntropy, NoMemory, Short}
use Rattle.htree_file.specs.Answers.{FaultCause as TreeCause, FilePassed, IsFailed}
use Rattle.htree_file.specs.Opening.{load_of}
use Rattle.htree_file.specs.Standing.{IsFirm}
use Rattle.htree_file.specs.Value.{Staged}
use Rattle.object_file.specs.Value.{ObjectValue}
use Rattle.object_slots.specs.SlotFaults.{IsFileFault, slot_fault}
use Rattle.object_slots.specs.SlotInside.{IsStageKept, with_own_stage}
use Rattle.object_slots.specs.SlotStages.{SettlesObject}
use Rattle.object_slots.specs.SlotValues.{HeldObject, IsHolding, apart, live, staged}
use Rattle.object_slots.proofs.FaultLaws.{fault_cause}

pub opened : (o : Option Staged) → IsSome o → (s : Staged) × (o ≡ Some s)
opened None is = absurd (cc (is))
opened (Some s) is = (s, refl)

pub at_some : (o : Option Staged) (P : Staged → Type 0) (s : Staged) → o ≡ Some s → IfSome o P → P s
at_some o P s is holds = subst (λ (v : Option Staged). IfSome v P) is holds

pub if_some : (o : Option Staged) (P : Staged → Type 0) (s : Staged) → o ≡ Some s → P s → IfSome o P
if_some o P s is holds = subst (λ (v : Option Staged). IfSome v P) (sym is) holds

failed_kind : (fault : TreeFault) → IsFailed fault → IsFileFault (slot_fault fault)
failed_kind (Failed count) kind = tt
failed_kind (BadHead long greatest) kind = absurd kind
failed_kind (Short end need) kind = absurd kind
failed_kind (Damaged n want found) kind = absurd kind
failed_kind (BadTag k want found) kind = absurd kind
failed_kind (NoEntropy count) kind = absurd kind
failed_kind NoMemory kind = absurd kind

-- the object apart from its file and its stage stays
pub apart_same : {F : Type 0} (o p : ObjectValue F) → p ≡ record o { tree = record o.tree { file = p.tree.file; stage = p.tree.stage } } → apart p ≡ apart o
apart_same {F = F} o p same = ap (λ (x : ObjectValue F). apart x) same

module _ {F : Type 0} (o p : ObjectValue F) (same : p ≡ record o { tree = record o.tree { file = p.tree.file; stage = p.tree.stage } }) where
  module _ (root : RootRef) (is_open : IsSome o.tree.stage) (settled : IfSome o.tree.stage (λ s. (root ≡ s.root) × (p.tree.stage ≡ Some (record s { settled = true })))) where
    abbrev stage : Staged
    stage = (opened o.tree.stage is_open).0

    stage_is : (root ≡ stage.root) × (p.tree.stage ≡ Some (record stage { settled = true }))
    stage_is = at_some o.tree.stage (λ s. (root ≡ s.root) × (p.tree.stage ≡ Some (record s { settled = true }))) stage (opened o.tree.stage is_open).1 settled

    held_is : with_own_stage (apart p) p.tree.stage ≡ staged (apart o) (record stage { settled = true })
    held_is = λ i. with_own_stage (apart_same o p same i) (stage_is.1 i)

    pub settled_content : IsCurrent o.tree.root → IfSome o.tree.stage (λ s. IsCurrent s.root) → IsStageKept p.tree.stage × IsHolding (with_own_stage (apart p) p.tree.stage)
    settled_content current nexts = (
      subst IsStageKept (sym stage_is.1) tt,
      subst IsHolding (sym held_is) (current, refl, at_some o.tree.stage (λ s. IsCurrent s.root) stage (opened o.tree.stage is_open).1 nexts),
    )

    pub settles_ok : (old new : FileState) → Syncs old new → (Known old new → new.reads ≡ old.reads) → Keeps Anywhere old new → FilePassed old new
        → IfSome o.tree.stage (λ s. IsTrue new.honest → load_of old.reads s.root ≡ Ok s.tree → IsFirm new s.root s.tree)
        → SettlesObject old new (apart o) o.tree.stage (with_own_stage (apart p) p.tree.stage) (Ok root)
    settles_ok old new syncs reads keeps passed firm = record {
      leaves = if_some o.tree.stage (λ s. (root ≡ s.root) × (with_own_stage (apart p) p.tree.stage ≡ staged (apart o) (record s { settled = true }))) stage (opened o.tree.stage is_open).1
          (stage_is.0, held_is);
      synced = syncs;
      next_firm = firm;
      reads = reads;
      keeps = keeps;
      cause = passed;
      kind = tt;
    }

  pub settles_err : (state : F → FileState) (q : ObjectValue F) (fault : TreeFault) → q ≡ record p { tree = record p.tree { stage = None } } → IsFailed fault
      → (Known (state o.tree.file) (state p.tree.file) → (state p.tree.file).reads ≡ (state o.tree.file).reads) → Keeps Anywhere (state o.tree.file) (state p.tree.file)
      → TreeCause (state o.tree.file) (state p.tree.file) fault
      → SettlesObject (state o.tree.file) (state q.tree.file) (apart o) o.tree.stage (live (apart q)) (Err (slot_fault fault))
  settles_err state q fault given kind reads keeps cause =
      let P : FileState → Type 0 = λ s. SettlesObject (state o.tree.file) s (apart o) o.tree.stage (live (apart q)) (Err (slot_fault fault)) in
      subst P (sym (ap (λ (x : ObjectValue F). state x.tree.file) given)) (record {
        leaves = ap (λ (x : ObjectValue F). live (apart x)) given ∙ ap (λ (h : HeldObject). live h) (apart_same o p same);
        synced = tt;
        next_firm = tt;
        reads = reads;
        keeps = keeps;
        cause = fault_cause (state o.tree.file) (state p.tree.file) fault cause;
        kind = failed_kind fault kind;
      })
