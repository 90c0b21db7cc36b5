-- An object that was made in a file that was cut before.
use Rattle.std.proofs.Common.{◌≡◌, ◌∙◌, ◌+◌, ◌<◌, ℕ, List, length, Ok, Err, IsTrue, refl, sym, subst, arith}
use Rattle.disk_model.specs.State.{FileState, Sound as SoundFile}
use Rattle.disk_model.specs.Calls.{GoesOn, Known}
use Rattle.disk_model.specs.Keeps.{Keeps}
use Rattle.disk_model.proofs.Goings.{then_known}
use Rattle.disk_model.proofs.Laws.{keeps_then}
use Rattle.aes_block.specs.WrappedKey.{unwrapped_of}
use Rattle.node_image.specs.declared.node.RootRef.{RootRef}
use Rattle.htree_file.specs.Changes.{Seals}
use Rattle.htree_file.specs.declared.fault.TreeFault.{TreeFault}
use Rattle.htree_file.specs.declared.fault.TreeFault.TheVariants.{BadHead, BadTag, Damaged, Failed, NoEntropy, NoMemory, Short}
use Rattle.htree_file.specs.Making.{IsMakeFault, NamesVersionZero, Nowhere}
use Rattle.htree_file.specs.Opening.{IsVerified, load_of}
use Rattle.htree_file.specs.Standing.{IsFirm}
use Rattle.store_model.specs.Object.{Sound}
use Rattle.object_file.specs.MountedObject.{object_in}
use Rattle.object_file.specs.Making.{IsObjectPage}
use Rattle.object_file.specs.Value.{ObjectValue, size_in}
use Rattle.object_file.proofs.HeldObjects.{held-is}
use Rattle.object_slots.specs.declared.fault.SlotFault.{SlotFault}
use Rattle.object_slots.specs.declared.fault.SlotFault.TheVariants.{Corrupt, Failed as SlotFailed, NoEntropy as SlotNoEntropy, NoMemory as SlotNoMemory}
use Rattle.object_slots.specs.SlotFaults.{IsFileFault, IsSound, slot_fault}
use Rattle.object_slots.specs.Makes.{IsMade, MakesObject, new_contents}
use Rattle.object_slots.specs.SlotValues.{apart, free}
use Rattle.object_slots.proofs.StepLaws.{taker_steps}

module _ {F : Type 0} (old mid new : FileState) (o : ObjectValue F) (root : RootRef) (tsk attributes bytes : List ℕ) (goes : GoesOn old mid) where
  pub is_made : root ≡ o.tree.root → root.version ≡ 0 → root.format ≡ 2 → o.attributes ≡ attributes → o.tree.tree.head.length ≡ 4096 + length bytes → o.tree.key ≡ unwrapped_of tsk o.tree.tree.head.wrapped
      → IsVerified root o.tree.tree → NamesVersionZero o.tree.tree
      → ((k : ℕ) → k < length o.tree.tree.nodes → (page : List ℕ) × IsObjectPage attributes bytes k page × Seals o.tree.key o.tree.tree k page)
      → (Known mid new → load_of new.reads root ≡ Ok o.tree.tree)
      → (Known mid new → object_in tsk new.reads root (length bytes) (length attributes) ≡ Sound (new_contents attributes bytes))
      → (IsTrue new.honest → IsFirm new root o.tree.tree) → IsMade old new tsk attributes bytes root (apart o)
  is_made root_is version format own long key verified flags seals loads object firm = record {
    root_is = root_is;
    version = version;
    format = format;
    attributes_are = own;
    size = long;
    key = key;
    verified = verified;
    flags = flags;
    seals = seals;
    loads = λ known. loads (then_known old mid new goes known);
    object = λ known. object (then_known old mid new goes known);
    holds = λ known.
        let later : Known mid new = then_known old mid new goes known in
        let size : size_in o ≡ length bytes = omega (arith, long) in
        held-is {F = Unit {0}} (apart o) new.reads tsk (length attributes) (new_contents attributes bytes)
        (subst (λ (r : RootRef). load_of new.reads r ≡ Ok o.tree.tree) root_is (loads later)) key (sym own)
        ((λ i. object_in tsk new.reads (sym root_is i) (size i) (length attributes)) ∙ object later);
    firm = firm;
  }

make_sound : (fault : TreeFault) → IsMakeFault fault → IsSound (slot_fault fault)
make_sound (Failed count) kind = tt
make_sound (NoEntropy count) kind = tt
make_sound NoMemory kind = tt
make_sound (BadHead long greatest) kind = absurd kind
make_sound (Short end need) kind = absurd kind
make_sound (Damaged n want found) kind = absurd kind
make_sound (BadTag k want found) kind = absurd kind

-- nothing was made
pub make_refused : (old mid new : FileState) (tsk attributes bytes : List ℕ) (fault : TreeFault) → SoundFile new → Keeps Nowhere old mid → Keeps Nowhere mid new → IsMakeFault fault
    → MakesObject old new tsk attributes bytes free (Err (slot_fault fault))
make_refused old mid new tsk attributes bytes fault still first second kind = record {
  leaves = refl;
  cuts = tt;
  keeps = keeps_then Nowhere old mid new first second;
  sound = make_sound fault kind;
  steps = taker_steps old new still (keeps_then Nowhere old mid new first second);
}

file_sound : (fault : SlotFault) → IsFileFault fault → IsSound fault
file_sound (SlotFailed count) kind = tt
file_sound Corrupt kind = absurd kind
file_sound (SlotNoEntropy count) kind = absurd kind
file_sound SlotNoMemory kind = absurd kind

-- nor where the file was not cut
pub cut_refused : (old new : FileState) (tsk attributes bytes : List ℕ) (fault : SlotFault) → SoundFile new → Keeps Nowhere old new → IsFileFault fault
    → MakesObject old new tsk attributes bytes free (Err fault)
cut_refused old new tsk attributes bytes fault still keeps kind = record {
  leaves = refl;
  cuts = tt;
  keeps = keeps;
  sound = file_sound fault kind;
  steps = taker_steps old new still keeps;
}
