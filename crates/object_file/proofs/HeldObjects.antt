-- What an object holds, by the object that its reference names.
use Rattle.std.proofs.Common.{◌≡◌, ◌+◌, ◌-◌, ◌==◌, ℕ, Bool, true, false, cond, List, length, Option, Some, None, Result, Ok, Err, IfSome, OnOk, sym, ap, ◌∙◌, arith}
use Rattle.aes_block.specs.WrappedKey.{unwrapped_of}
use Rattle.disk_model.specs.State.{FileState}
use Rattle.node_image.specs.Layout.{greatest_of}
use Rattle.node_image.specs.Selection.{row}
use Rattle.node_image.specs.declared.head.Head.{Head}
use Rattle.htree_file.specs.declared.fault.TreeFault.{TreeFault}
use Rattle.htree_file.specs.Opening.{Loaded, load_of}
use Rattle.htree_file.specs.Pages.{opened_in, page_in}
use Rattle.htree_file.specs.Standing.{Told}
use Rattle.htree_file.specs.Value.{Staged, TreeValue}
use Rattle.page_bytes.specs.Pages.{bytes_from, page_at}
use Rattle.block_file.specs.Stages.{StageAnswer}
use Rattle.store_model.specs.Object.{Contents, Damaged, Sound}
use Rattle.crash_core.specs.MountedObject.{bad_blocks, contents_of, object_in, object_or_damaged, object_with}
use Rattle.object_file.specs.Changes.{HoldsAfter, LeavesObject, adopted}
use Rattle.object_file.specs.Held.{held_in}
use Rattle.object_file.specs.Value.{ObjectValue, size_in}

apart : (n : ℕ) (c : Contents) → Damaged n ≡ Sound c → ⊥
apart n c e = cc

same_contents : (a b : Contents) → Sound a ≡ Sound b → a ≡ b
same_contents a b e = cc

-- pages whose first one is good, of the right length
of_pages : (attributes : List ℕ) (size count : ℕ) (pages : List (Option (List ℕ))) (first : Option (List ℕ)) (b : Bool) (c : Contents) → c.attributes ≡ attributes
    → cond b (object_with size count pages first) (Damaged size) ≡ Sound c
    → record { attributes = attributes; bytes = bytes_from (page_at pages) 4096 size; bad = bad_blocks pages } ≡ c
of_pages attributes size count pages first false c own e = absurd (apart size c e)
of_pages attributes size count pages None true c own e = absurd (apart size c e)
of_pages attributes size count pages (Some page) true c own e =
    let is : contents_of size count pages page ≡ c = same_contents (contents_of size count pages page) c e in
    (λ i. record { attributes = (sym own ∙ sym (ap (λ (x : Contents). x.attributes) is)) i; bytes = bytes_from (page_at pages) 4096 size; bad = bad_blocks pages })
    ∙ is

-- Where the reference names the tree and opens to a sound object with the attributes that are kept, that object is the one that
-- is held.
pub held-is : {F : Type 0} (o : ObjectValue F) (image tsk : List ℕ) (count : ℕ) (c : Contents) → load_of image o.tree.root ≡ Ok o.tree.tree → o.tree.key ≡ unwrapped_of tsk o.tree.tree.head.wrapped
    → c.attributes ≡ o.attributes → object_in tsk image o.tree.root (size_in o) count ≡ Sound c → held_in o image ≡ c
held-is o image tsk count c loads key own is =
    let pages = row (page_in image (unwrapped_of tsk o.tree.tree.head.wrapped) o.tree.tree) (length o.tree.tree.nodes) in
    let opened : cond (o.tree.tree.head.length == 4096 + size_in o) (object_with (size_in o) count pages (page_at pages 0)) (Damaged (size_in o)) ≡ Sound c =
    sym (ap (λ (r : Result Loaded TreeFault). object_or_damaged (size_in o) count (opened_in image tsk r)) loads) ∙ is in
    (λ i. record {
      attributes = o.attributes;
      bytes = bytes_from (page_at (row (page_in image (key i) o.tree.tree) (length o.tree.tree.nodes))) 4096 (size_in o);
      bad = bad_blocks (row (page_in image (key i) o.tree.tree) (length o.tree.tree.nodes));
    })
    ∙ of_pages o.attributes (size_in o) count pages (page_at pages 0) (o.tree.tree.head.length == 4096 + size_in o) c own opened

module _ (F : Type 0) (state : F → FileState) (old new : ObjectValue F) (now : ℕ) (change : Contents → Contents)
    (keeps : (c : Contents) → (change c).attributes ≡ c.attributes) (own : new.attributes ≡ old.attributes) (same : new.tree ≡ record old.tree { file = new.tree.file; stage = new.tree.stage }) where
  -- once it is adopted, a stage holds the changed object
  holds_after : (before after : List ℕ) (s : Staged) → load_of after s.root ≡ Ok s.tree → s.tree.head ≡ record old.tree.tree.head { length = 4096 + now; greatest = greatest_of (4096 + now) }
      → LeavesObject old.tree.key old.tree.tree.head.wrapped before old.tree.root after s.root (length old.attributes) (size_in old) now change
      → HoldsAfter old new before after change s
  holds_after before after s loads head leaves tsk key sound =
      let c : Contents = held_in old before in
      let long : s.tree.head.length ≡ 4096 + now = ap (λ (h : Head). h.length) head in
      let size : size_in (adopted new s) ≡ now = omega (arith, long) in
      let wraps : new.tree.key ≡ unwrapped_of tsk s.tree.head.wrapped =
      ap (λ (t : TreeValue F). t.key) same ∙ key ∙ ap (λ (h : Head). unwrapped_of tsk h.wrapped) (sym head) in
      held-is {F = F} (adopted new s) after tsk (length old.attributes) (change c) loads wraps (keeps c ∙ sym own)
      (ap (λ (n : ℕ). object_in tsk after s.root n (length old.attributes)) size ∙ leaves tsk c key sound)

  stage_holds : (stage : Option Staged) (before after : List ℕ) → IfSome stage (λ s. load_of after s.root ≡ Ok s.tree)
      → IfSome stage (λ s. (s.root.version ≡ 1 - old.tree.root.version) × (s.settled ≡ false)
      × (s.tree.head ≡ record old.tree.tree.head { length = 4096 + now; greatest = greatest_of (4096 + now) }))
      → IfSome stage (λ s. LeavesObject old.tree.key old.tree.tree.head.wrapped before old.tree.root after s.root (length old.attributes) (size_in old) now change)
      → IfSome stage (HoldsAfter old new before after change)
  stage_holds None before after loads next leaves = tt
  stage_holds (Some s) before after loads next leaves = holds_after before after s loads next.2 leaves

  -- so it is of a stage that succeeds
  pub holds_ok : (A : Type 0) (result : Result A TreeFault) → StageAnswer state old.tree new.tree (4096 + now) result
      → OnOk result (Told (state old.tree.file) (state new.tree.file) → load_of (state old.tree.file).reads old.tree.root ≡ Ok old.tree.tree →
      IfSome new.tree.stage (λ s. LeavesObject old.tree.key old.tree.tree.head.wrapped (state old.tree.file).reads old.tree.root (state new.tree.file).reads s.root
      (length old.attributes) (size_in old) now change))
      → OnOk result (Told (state old.tree.file) (state new.tree.file) → load_of (state old.tree.file).reads old.tree.root ≡ Ok old.tree.tree →
      IfSome new.tree.stage (HoldsAfter old new (state old.tree.file).reads (state new.tree.file).reads change))
  holds_ok A (Ok done) staged leaves = λ told loads. stage_holds new.tree.stage (state old.tree.file).reads (state new.tree.file).reads (staged.loaded told.1 loads) staged.next (leaves told loads)
  holds_ok A (Err fault) staged leaves = tt
