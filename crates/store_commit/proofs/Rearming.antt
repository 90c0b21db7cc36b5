-- A gate whose devices are armed anew stands as before.
use Rattle.std.proofs.Common.{◌≡◌, ℕ, Bool, List, Option, Some, None, Result, Ok, Err, OnErr, OnOk, refl, sym, subst}
use Rattle.disk_model.specs.Arms.{Arms}
use Rattle.disk_model.specs.State.{FileState}
use Rattle.node_image.specs.declared.node.RootRef.{RootRef}
use Rattle.htree_file.specs.Opening.{Loaded}
use Rattle.dir_records.specs.declared.entry.DirEntry.{DirEntry}
use Rattle.rpmb_card.specs.Arms.{Arms as CardArms}
use Rattle.rpmb_card.specs.Card.{CardState}
use Rattle.rpmb_card.specs.Port.{PortState}
use Rattle.rpmb_host.specs.Honest.{HasCard}
use Rattle.dir_index.specs.Index.{IndexState}
use Rattle.dir_file.specs.View.{DirView, StagedDirectory}
use Rattle.dir_file.specs.Held.{IsDurable}
use Rattle.crash_core.specs.declared.change.DoubtedChange.{DoubtedChange}
use Rattle.store_commit.specs.Arming.{IsRearmedFile, IsRearmedPort}
use Rattle.store_commit.specs.Gates.{DoubtStands, IsGate}
use Rattle.store_commit.specs.Sides.{IsInDoubt, IsSettled, Sides, sides}

pub same_file : (old new : FileState) → new ≡ old → IsRearmedFile old new
same_file old new is = subst (λ (f : FileState). IsRearmedFile old f) (sym is) refl

pub same_port : (old new : PortState) → new ≡ old → IsRearmedPort old new
same_port old new is = subst (λ (p : PortState). IsRearmedPort old p) (sym is) refl

pub armed_file : (old new : FileState) (a : Arms) (c t : Bool) → new ≡ record old { arms = a; calm = c; steady = t } → IsRearmedFile old new
armed_file old new a c t is = subst (λ (f : FileState). IsRearmedFile old f) (sym is) refl

-- by the answer of an arming
pub either_file : {A B : Type 0} (r : Result A B) (old new : FileState) (P : Type 0) → (P → IsRearmedFile old new) → OnOk r P → OnErr r (new ≡ old) → IsRearmedFile old new
either_file (Ok x) old new P step armed refused = step armed
either_file (Err e) old new P step armed refused = same_file old new refused

pub either_port : {A B : Type 0} (r : Result A B) (old new : PortState) (P : Type 0) → (P → IsRearmedPort old new) → OnOk r P → OnErr r (new ≡ old) → IsRearmedPort old new
either_port (Ok x) old new P step armed refused = step armed
either_port (Err e) old new P step armed refused = same_port old new refused

module _ (f : FileState) (d : DirView) (p : PortState) (key : List ℕ) (counter : ℕ) (a : Arms) (c t : Bool) (pc : Bool) (pa : CardArms) where
  abbrev f1 : FileState
  f1 = record f { arms = a; calm = c; steady = t }

  abbrev p1 : PortState
  p1 = record p { calm = pc; arms = pa }

  abbrev g : Sides
  g = sides f d p key counter

  abbrev h : Sides
  h = sides f1 d p1 key counter

  had : (card : CardState) → HasCard p1 key card → HasCard p key card
  had card has = record { told = has.told; keyed = has.keyed }

  held : (tsk : List ℕ) (root : RootRef) (tree : Loaded) (entries : List (Option DirEntry)) → IsDurable f tsk root tree entries → IsDurable f1 tsk root tree entries
  held tsk root tree entries is = record { firm = is.firm; entries_are = is.entries_are }

  settled : IsSettled g → IsSettled h
  settled is = record {
    form = is.form;
    entries = is.entries;
    idle = is.idle;
    held = λ honest. held d.tsk d.root d.tree d.entries (is.held honest);
    named = λ card has. is.named card (had card has);
  }

  in_doubt : (next : StagedDirectory) → IsInDoubt g next → IsInDoubt h next
  in_doubt next is = record {
    form = is.form;
    next_form = is.next_form;
    same_format = is.same_format;
    entries = is.entries;
    next_entries = is.next_entries;
    is_open = is.is_open;
    settled = is.settled;
    held = λ honest. held d.tsk d.root d.tree d.entries (is.held honest);
    next_held = λ honest. held d.tsk next.root next.tree next.entries (is.next_held honest);
    named = λ card has. is.named card (had card has);
  }

  stands : (o : Option DoubtedChange) → DoubtStands g o → DoubtStands h o
  stands None is = settled is
  stands (Some x) is = record { next = is.next; stands = in_doubt is.next is.stands; entries = is.entries; fits = is.fits; number = is.number }

  armed_gate : (o : Option DoubtedChange) (index : IndexState) (holds : List (Option ℕ)) → IsGate g o index holds → IsGate h o index holds
  armed_gate o index holds is = record { stands = stands o is.stands; names = is.names; due = is.due; held = is.held; taken = is.taken }

-- the gate of the new file and port
pub rearmed_gate : (f f1 : FileState) (d d1 : DirView) (p p1 : PortState) (k k1 : List ℕ) (counter : ℕ) (o : Option DoubtedChange) (index : IndexState) (holds : List (Option ℕ))
    → IsRearmedFile f f1 → d1 ≡ d → IsRearmedPort p p1 → k1 ≡ k → IsGate (sides f d p k counter) o index holds → IsGate (sides f1 d1 p1 k1 counter) o index holds
rearmed_gate f f1 d d1 p p1 k k1 counter o index holds file dir port key is =
    subst (λ (x : FileState). IsGate (sides x d1 p1 k1 counter) o index holds) (sym file)
    (subst (λ (x : DirView). IsGate (sides (record f { arms = f1.arms; calm = f1.calm; steady = f1.steady }) x p1 k1 counter) o index holds) (sym dir)
    (subst (λ (x : PortState). IsGate (sides (record f { arms = f1.arms; calm = f1.calm; steady = f1.steady }) d x k1 counter) o index holds) (sym port)
    (subst (λ (x : List ℕ). IsGate (sides (record f { arms = f1.arms; calm = f1.calm; steady = f1.steady }) d (record p { calm = p1.calm; arms = p1.arms }) x counter) o index holds) (sym key)
    (armed_gate f d p k counter f1.arms f1.calm f1.steady p1.calm p1.arms o index holds is))))
