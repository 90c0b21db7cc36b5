-- What an entry mounts as, by the tree that its reference names.
use Rattle.std.proofs.Common.{◌≡◌, ◌⊎◌, ◌∙◌, ◌+◌, ◌==◌, ℕ, List, length, take, Option, Some, None, Result, Ok, Err, true, refl, sym, ap, subst, inl, inr, arith}
use Rattle.std.proofs.lemmas.Bool.{cases_eq, cond-true, cond-false, eq-eqb, ne_eqb}
use Rattle.disk_model.specs.State.{FileState}
use Rattle.disk_model.specs.Calls.{Rests}
use Rattle.aes_block.specs.WrappedKey.{unwrapped_of}
use Rattle.node_image.specs.declared.node.RootRef.{RootRef}
use Rattle.node_image.specs.Selection.{row}
use Rattle.htree_file.specs.declared.fault.TreeFault.{TreeFault}
use Rattle.htree_file.specs.declared.fault.TreeFault.TheVariants.{BadHead, BadTag, Damaged as BadNode, Failed, NoEntropy, NoMemory, Short}
use Rattle.htree_file.specs.Opening.{IsHashed, IsVerified, Loaded, load_of}
use Rattle.htree_file.specs.Pages.{Opened, opened_in, page_in, page_of, tag_of}
use Rattle.htree_file.specs.Standing.{Told}
use Rattle.disk_model.proofs.Goings.{then_known}
use Rattle.node_image.specs.Tables.{at_node}
use Rattle.htree_file.proofs.Causes.{told_then}
use Rattle.block_file.proofs.Reading.{told_first}
use Rattle.htree_file.proofs.Loadings.{loaded_from}
use Rattle.htree_file.proofs.Sizes.{sized_few}
use Rattle.page_bytes.specs.Pages.{bytes_from, page_at}
use Rattle.store_model.specs.Object.{Contents, Damaged, Sound}
use Rattle.crash_core.specs.MountedObject.{bad_blocks, contents_of, mounted_object, object_in, object_of, object_or_damaged, object_with, root_of}
use Rattle.crash_core.proofs.ObjectChanges.{object_of-sound}
use Rattle.dir_records.specs.declared.entry.DirEntry.{DirEntry}
use Rattle.object_file.specs.declared.fault.ObjectFault.{ObjectFault}
use Rattle.object_file.specs.declared.fault.ObjectFault.TheVariants.{Tree, WrongSize}
use Rattle.object_file.specs.Held.{held_in}
use Rattle.object_file.specs.Loading.{IsFront, IsOutsideObject, PartFault, fault_of, fault_or, first_fault, tree_fault}
use Rattle.object_file.specs.Value.{ObjectValue, size_in}
use Rattle.object_file.proofs.ObjectReads.{page_at-pages}

-- what a tree opens to
abbrev opened : (tsk image : List ℕ) → Loaded → Opened
opened tsk image tree = record { bytes = tree.head.length; pages = row (page_in image (unwrapped_of tsk tree.head.wrapped) tree) (length tree.nodes) }

-- its first page is that of block 0
first_page : (tsk image : List ℕ) (root : RootRef) (tree : Loaded) → IsHashed root tree
    → page_at (opened tsk image tree).pages 0 ≡ page_in image (unwrapped_of tsk tree.head.wrapped) tree 0
first_page tsk image root tree hashed =
    let few = sized_few tree.head hashed.sized in
    page_at-pages image (unwrapped_of tsk tree.head.wrapped) tree 0 (omega (arith, few.0, hashed.all))

-- the object that a reference names whose tree loads
object_opened : (tsk image : List ℕ) (root : RootRef) (tree : Loaded) (size count : ℕ) → load_of image root ≡ Ok tree
    → object_in tsk image root size count ≡ object_of size count (opened tsk image tree)
object_opened tsk image root tree size count loads = ap (λ (r : Result Loaded TreeFault). object_or_damaged size count (opened_in image tsk r)) loads

-- contents from their parts
abbrev contents : (attributes bytes bad : List ℕ) → Contents
contents attributes bytes bad = record { attributes = attributes; bytes = bytes; bad = bad }

-- A loaded object is the one that its reference names, where its attributes begin the page of block 0.
pub held_object : {F : Type 0} (o : ObjectValue F) (tsk image : List ℕ) (size count : ℕ) → load_of image o.tree.root ≡ Ok o.tree.tree
    → IsVerified o.tree.root o.tree.tree → o.tree.key ≡ unwrapped_of tsk o.tree.tree.head.wrapped → o.tree.tree.head.length ≡ 4096 + size
    → IsFront image o.tree.key o.tree.tree o.attributes count → object_in tsk image o.tree.root size count ≡ Sound (held_in o image)
held_object o tsk image size count loads verified key long front =
    let tree : Loaded = o.tree.tree in
    let pages : List (Option (List ℕ)) = row (page_in image o.tree.key tree) (length tree.nodes) in
    let same : (opened tsk image tree).pages ≡ pages = ap (λ (k : List ℕ). row (page_in image k tree) (length tree.nodes)) (sym key) in
    let first : page_at (opened tsk image tree).pages 0 ≡ Some front.page =
    first_page tsk image o.tree.root tree verified.hashed ∙ ap (λ (k : List ℕ). page_in image k tree 0) (sym key) ∙ front.stands in
    let sized : size ≡ size_in o = omega (arith, long) in
    object_opened tsk image o.tree.root tree size count loads
    ∙ object_of-sound size count (opened tsk image tree) front.page long first
    ∙ ap (λ (p : List (Option (List ℕ))). Sound (contents_of size count p front.page)) same
    ∙ ap (λ (n : ℕ). Sound (contents (take count front.page) (bytes_from (page_at pages) 4096 n) (bad_blocks pages))) sized
    ∙ ap (λ (a : List ℕ). Sound (contents a (bytes_from (page_at pages) 4096 (size_in o)) (bad_blocks pages))) (sym front.front)

-- an object by a page that is bad
with-bad : (size count : ℕ) (pages : List (Option (List ℕ))) (page : Option (List ℕ)) (image key : List ℕ) (tree : Loaded) (fault : ObjectFault)
    → first_fault image key tree page ≡ Some fault → object_with size count pages page ≡ Damaged size
with-bad size count pages (Some page) image key tree fault is = absurd (cc (is))
with-bad size count pages None image key tree fault is = refl

-- the object of a tree that a fault stands against
tree-damaged : (tsk image : List ℕ) (root : RootRef) (tree : Loaded) (size count : ℕ) (fault : ObjectFault) → IsHashed root tree
    → tree_fault image (unwrapped_of tsk tree.head.wrapped) tree size ≡ Some fault → object_of size count (opened tsk image tree) ≡ Damaged size
tree-damaged tsk image root tree size count fault hashed is =
    let key : List ℕ = unwrapped_of tsk tree.head.wrapped in
    elim (cases_eq tree.head.length (4096 + size)) [
      | inl long ↦
          let same : tree.head.length == 4096 + size ≡ true = eq-eqb tree.head.length (4096 + size) long in
          let bad : first_fault image key tree (page_in image key tree 0) ≡ Some fault =
          sym (cond-true (tree.head.length == 4096 + size) (first_fault image key tree (page_in image key tree 0)) (Some (WrongSize size tree.head.length)) same) ∙ is in
          cond-true (tree.head.length == 4096 + size) (object_with size count (opened tsk image tree).pages (page_at (opened tsk image tree).pages 0)) (Damaged size) same
          ∙ ap (object_with size count (opened tsk image tree).pages) (first_page tsk image root tree hashed)
          ∙ with-bad size count (opened tsk image tree).pages (page_in image key tree 0) image key tree fault bad
      | inr other ↦
          cond-false (tree.head.length == 4096 + size) (object_with size count (opened tsk image tree).pages (page_at (opened tsk image tree).pages 0)) (Damaged size) (ne_eqb tree.head.length (4096 + size) other)
    ]

-- by what loading the tree gives
result-damaged : (tsk image : List ℕ) (root : RootRef) (size count : ℕ) (r : Result Loaded TreeFault) (fault : ObjectFault) → load_of image root ≡ r
    → fault_or tsk image size r ≡ Some fault → object_in tsk image root size count ≡ Damaged size
result-damaged tsk image root size count (Ok tree) fault loads is =
    object_opened tsk image root tree size count loads ∙ tree-damaged tsk image root tree size count fault (loaded_from image root tree loads).hashed is
result-damaged tsk image root size count (Err other) fault loads is = ap (λ (r : Result Loaded TreeFault). object_or_damaged size count (opened_in image tsk r)) loads

-- An entry against which a fault stands mounts as damaged.
pub fault_damaged : (tsk image : List ℕ) (e : DirEntry) (fault : ObjectFault) → fault_of tsk image e ≡ Some fault → mounted_object tsk image e ≡ Damaged e.size
fault_damaged tsk image e fault is = result-damaged tsk image (root_of e) e.size e.attributes (load_of image (root_of e)) fault refl is

-- against an entry that mounts as a sound object no fault stands
pub sound_faultless : (tsk image : List ℕ) (e : DirEntry) (c : Contents) → mounted_object tsk image e ≡ Sound c → fault_of tsk image e ≡ None
sound_faultless tsk image e c sound = by_fault (fault_of tsk image e) refl
  where
    by_fault : (o : Option ObjectFault) → fault_of tsk image e ≡ o → o ≡ None
    by_fault None is = refl
    by_fault (Some fault) is = absurd (cc (sym (fault_damaged tsk image e fault is) ∙ sound))

-- calls that change nothing leave what was read
same_reads : (a b d : FileState) → Rests a b → Rests b d → Told a d → d.reads ≡ b.reads
same_reads a b d first second told = second.reads (then_known a b d first.goes_on told.1)

-- What was loaded with calls that change nothing is what the entry mounts as.
pub mounted_held : {F : Type 0} (o : ObjectValue F) (tsk : List ℕ) (e : DirEntry) (a b d : FileState) → Rests a b → Rests b d
    → (Told a b → load_of b.reads (root_of e) ≡ Ok o.tree.tree) → IsVerified (root_of e) o.tree.tree → o.tree.root ≡ root_of e
    → o.tree.key ≡ unwrapped_of tsk o.tree.tree.head.wrapped → o.tree.tree.head.length ≡ 4096 + e.size
    → (Told b d → IsFront b.reads o.tree.key o.tree.tree o.attributes e.attributes) → Told a d → mounted_object tsk d.reads e ≡ Sound (held_in o d.reads)
mounted_held o tsk e a b d first second loaded verified root key long front told =
    let here : object_in tsk b.reads o.tree.root e.size e.attributes ≡ Sound (held_in o b.reads) =
    held_object o tsk b.reads e.size e.attributes (ap (load_of b.reads) root ∙ loaded (told_first a b d second.goes_on told))
    (subst (λ (r : RootRef). IsVerified r o.tree.tree) (sym root) verified) key long (front (told_then a b d first.goes_on told)) in
    subst (λ (image : List ℕ). mounted_object tsk image e ≡ Sound (held_in o image)) (sym (same_reads a b d first second told))
    (ap (λ (r : RootRef). object_in tsk b.reads r e.size e.attributes) (sym root) ∙ here)

module _ (tsk key : List ℕ) (tree : Loaded) (e : DirEntry) (a b d : FileState) (first : Rests a b) (second : Rests b d)
    (loaded : Told a b → load_of b.reads (root_of e) ≡ Ok tree) (is : key ≡ unwrapped_of tsk tree.head.wrapped) where
  -- the fault is that of the tree, by the file as it reads in the end
  fault_by_tree : Told a d → fault_of tsk d.reads e ≡ tree_fault d.reads key tree e.size
  fault_by_tree told =
      ap (λ (image : List ℕ). fault_or tsk d.reads e.size (load_of image (root_of e))) (same_reads a b d first second told)
      ∙ ap (fault_or tsk d.reads e.size) (loaded (told_first a b d second.goes_on told))
      ∙ ap (λ (k : List ℕ). tree_fault d.reads k tree e.size) (sym is)

  -- What reading the attributes answers is the fault of the entry.
  pub part_fault : (fault : ObjectFault) → PartFault key tree d e.size fault → IsOutsideObject fault ⊎ (Told a d → fault_of tsk d.reads e ≡ Some fault)
  part_fault (WrongSize entry head) stands = inr (λ told.
      fault_by_tree told
      ∙ cond-false (tree.head.length == 4096 + e.size) (first_fault d.reads key tree (page_in d.reads key tree 0)) (Some (WrongSize e.size tree.head.length))
      (ne_eqb tree.head.length (4096 + e.size) (λ same. stands.2 (sym stands.1 ∙ same)))
      ∙ (λ i. Some (WrongSize (sym stands.0 i) (stands.1 i))))
  part_fault (Tree (BadTag k want found)) stands = inr (λ told.
      let bad = stands.2 in
      let none : page_in d.reads key tree 0 ≡ None = ap (page_of key tree.head (at_node tree.nodes (0 + 1)) 0) (sym (bad.stands told.0)) ∙ bad.fails in
      fault_by_tree told
      ∙ cond-true (tree.head.length == 4096 + e.size) (first_fault d.reads key tree (page_in d.reads key tree 0)) (Some (WrongSize e.size tree.head.length))
      (eq-eqb tree.head.length (4096 + e.size) stands.1)
      ∙ ap (first_fault d.reads key tree) none
      ∙ ap (λ (c : List ℕ). Some (Tree (BadTag 0 (at_node tree.nodes 1).tag (tag_of key tree.head (at_node tree.nodes 1) 0 c)))) (sym (bad.stands told.0))
      ∙ (λ i. Some (Tree (BadTag (sym stands.0 i) (sym bad.wants i) (sym bad.finds i)))))
  part_fault (Tree (Failed count)) stands = inl tt
  part_fault (Tree NoMemory) stands = inl tt
  part_fault (Tree (NoEntropy count)) stands = absurd stands
  part_fault (Tree (BadHead long greatest)) stands = absurd stands
  part_fault (Tree (Short end need)) stands = absurd stands
  part_fault (Tree (BadNode node want found)) stands = absurd stands

  -- and the entry mounts as damaged
  pub part_damaged : (fault : ObjectFault) → PartFault key tree d e.size fault → IsOutsideObject fault ⊎ (Told a d → mounted_object tsk d.reads e ≡ Damaged e.size)
  part_damaged fault stands = elim (part_fault fault stands) [
    | inl outside ↦ inl outside
    | inr inside ↦ inr (λ told. fault_damaged tsk d.reads e fault (inside told))
  ]
