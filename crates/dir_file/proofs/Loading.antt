-- What a tree that loaded holds as a directory.
use Rattle.std.proofs.Common.{◌≡◌, ◌≢◌, ◌⊎◌, ◌∙◌, ◌+◌, ◌/◌, ◌≤◌, ◌==◌, ℕ, List, [], length, min, max, Option, Some, None, Result, Ok, Err, is_none, refl, sym, ap, subst, inl, inr, arith}
use Rattle.std.specs.Prelude.{IsTrue, IfOk, IfErr}
use Rattle.std.proofs.lemmas.Bool.{cond-true, cond-false, eq-eqb, ne_eqb}
use Rattle.std.proofs.lemmas.List.{get_or-map, length-map}
use Rattle.disk_model.specs.State.{FileState, Sound}
use Rattle.disk_model.specs.Calls.{Rests}
use Rattle.disk_model.proofs.Goings.{first_known}
use Rattle.aes_block.specs.WrappedKey.{unwrapped_of}
use Rattle.node_image.specs.declared.node.RootRef.{RootRef}
use Rattle.node_image.specs.Layout.{greatest_of}
use Rattle.node_image.proofs.Matching.{row_at, row_is}
use Rattle.htree_file.specs.declared.fault.TreeFault.{TreeFault}
use Rattle.htree_file.specs.declared.fault.TreeFault.TheVariants.{BadHead, BadTag, Damaged, Failed, NoEntropy, NoMemory, Short}
use Rattle.htree_file.specs.Answers.{Differs, HasFaultWidths, IsLoadFault, FaultCause, FilePassed, IsOutside}
use Rattle.htree_file.specs.Opening.{IsVerified, Loaded, load_of}
use Rattle.htree_file.specs.Pages.{page_in}
use Rattle.htree_file.specs.Standing.{Told}
use Rattle.dir_file.specs.Inside.{DirInside, NextFits}
use Rattle.htree_file.specs.Value.{Staged}
use Rattle.htree_file.specs.Value.{TreeValue}
use Rattle.htree_file.proofs.Causes.{fault_then, passed_then, told_then}
use Rattle.htree_file.proofs.Sizes.{sized_greatest}
use Rattle.dir_records.specs.declared.entry.DirEntry.{DirEntry}
use Rattle.crash_core.specs.declared.fault.DirFault.{DirFault}
use Rattle.crash_core.specs.declared.fault.DirFault.TheVariants.{Tree, WrongLength, Record, Double}
use Rattle.crash_core.specs.Entries.{distinct, entries_of}
use Rattle.crash_core.specs.Directory.{blocks_of, directory_in, directory_of, directory_or, or_bad, pages_of, tree_directory}
use Rattle.dir_file.specs.Pages.{some_pages}
use Rattle.dir_file.specs.EntryForms.{AreEntriesOf}
use Rattle.dir_file.specs.Pages.{ArePages, ReadsEntries}
use Rattle.dir_file.specs.Loading.{DirCause, IsOutsideDir}
use Rattle.dir_file.proofs.Entries.{bad_none, pages_read}
use Rattle.dir_file.specs.Loading.{HasDirWidths, IsDirFault, SeesDirectory, SeesPages}
use Rattle.dir_file.specs.Refusals.{DirDiffers, EntriesDiffer}
use Rattle.dir_file.specs.Pages.{AreSeen}
use Rattle.dir_file.specs.Seen.{SeesTree}
use Rattle.dir_file.proofs.Seen.{directory_seen}

pages_same : (image key : List ℕ) (tree : Loaded) (items : List (List ℕ)) → length tree.nodes ≡ 8 → length items ≡ 8 → ArePages image key tree items 8 → pages_of image key tree ≡ some_pages items
pages_same image key tree items many long are =
    row_is (page_in image key tree) (some_pages items) (length tree.nodes) None (length-map items (λ p. Some p) ∙ long ∙ sym many)
    (λ k lt. are.pages k (omega (arith, many)) (omega (arith, many)) ∙ sym (get_or-map (λ p. Some p) items k [] None (omega (arith, many, long))))

-- without a bad page, the directory is what the pages hold
pub directory_good : (image key : List ℕ) (tree : Loaded) (items : List (List ℕ)) → blocks_of tree.head.length ≤ length tree.nodes → ArePages image key tree items (blocks_of tree.head.length)
    → tree_directory image key tree ≡ directory_in tree.head.length (pages_of image key tree)
directory_good image key tree items few are =
    let pages : List (Option (List ℕ)) = pages_of image key tree in
    ap (or_bad image key tree pages) (bad_none pages 0 (blocks_of tree.head.length) (λ j from upto. ap is_none (row_at (page_in image key tree) (length tree.nodes) j None (omega arith)) ∙ are.good j (omega arith)))

-- of another length
pub directory_wrong : (image key : List ℕ) (tree : Loaded) (items : List (List ℕ)) (bytes : ℕ) → blocks_of tree.head.length ≤ length tree.nodes → bytes ≡ tree.head.length → bytes ≢ 32768 → ArePages image key tree items (blocks_of tree.head.length)
    → tree_directory image key tree ≡ Err (WrongLength bytes)
directory_wrong image key tree items bytes few is other are =
    directory_good image key tree items few are
    ∙ ap (λ (n : ℕ). directory_in n (pages_of image key tree)) (sym is)
    ∙ cond-false (bytes == 32768) (distinct (entries_of (pages_of image key tree) 256)) (Err (WrongLength bytes)) (ne_eqb bytes 32768 other)

pub nodes_eight : (root : RootRef) (tree : Loaded) → IsVerified root tree → tree.head.length ≡ 32768 → length tree.nodes ≡ 8
nodes_eight root tree v is = v.hashed.all ∙ sized_greatest tree.head v.hashed.sized ∙ ap greatest_of is

pub few_blocks : (root : RootRef) (tree : Loaded) → IsVerified root tree → blocks_of tree.head.length ≤ length tree.nodes
few_blocks root tree v =
    let greatest : tree.head.greatest ≡ max 1 ((tree.head.length + 4095) / 4096) = sized_greatest tree.head v.hashed.sized in
    omega (arith, greatest, v.hashed.all)

pub eight_blocks : (bytes : ℕ) → bytes ≡ 32768 → blocks_of bytes ≡ 8
eight_blocks bytes is = omega (arith, is)

-- of the right one
pub directory_parsed : (image key : List ℕ) (tree : Loaded) (items : List (List ℕ)) → length tree.nodes ≡ 8 → length items ≡ 8 → tree.head.length ≡ 32768 → ArePages image key tree items (blocks_of tree.head.length)
    → tree_directory image key tree ≡ distinct (entries_of (some_pages items) 256)
directory_parsed image key tree items many long is are =
    directory_good image key tree items (omega (arith, many, is)) are
    ∙ cond-true (tree.head.length == 32768) (distinct (entries_of (pages_of image key tree) 256)) (Err (WrongLength tree.head.length)) (eq-eqb tree.head.length 32768 is)
    ∙ ap (λ (p : List (Option (List ℕ))). distinct (entries_of p 256)) (pages_same image key tree items many long (subst (ArePages image key tree items) (eight_blocks tree.head.length is) are))

-- what the entries answer is what the directory answers
pub entries_refuse : (a d : FileState) (key : List ℕ) (tree : Loaded) (items : List (List ℕ)) (V : Type 0) (vs : V → List (Option DirEntry)) (fault : DirFault) → length tree.nodes ≡ 8 → length items ≡ 8 → tree.head.length ≡ 32768
    → (Told a d → ArePages a.reads key tree items (blocks_of tree.head.length)) → ReadsEntries items vs (let r : Result V DirFault = Err fault in r)
    → IsOutsideDir fault ⊎ (Told a d → tree_directory a.reads key tree ≡ Err fault)
entries_refuse a d key tree items V vs (Tree fault) many long is are reads = inl (subst IsOutside (sym reads) tt)
entries_refuse a d key tree items V vs (Record index offset) many long is are reads = inr (λ told. directory_parsed a.reads key tree items many long is (are told) ∙ reads)
entries_refuse a d key tree items V vs (Double index first) many long is are reads = inr (λ told. directory_parsed a.reads key tree items many long is (are told) ∙ reads)
entries_refuse a d key tree items V vs (WrongLength bytes) many long is are reads = absurd reads

pub entries_cause : (a d : FileState) (items : List (List ℕ)) (V : Type 0) (vs : V → List (Option DirEntry)) (fault : DirFault) → ReadsEntries items vs (let r : Result V DirFault = Err fault in r) → FilePassed a d → DirCause a d fault
entries_cause a d items V vs (Tree fault) reads passed = subst (FaultCause a d) (sym reads) passed
entries_cause a d items V vs (Record index offset) reads passed = passed
entries_cause a d items V vs (Double index first) reads passed = passed
entries_cause a d items V vs (WrongLength bytes) reads passed = absurd reads

pub dir_fault_then : (a b c : FileState) (fault : DirFault) → Rests a b → FilePassed a b → DirCause b c fault → DirCause a c fault
dir_fault_then a b c (Tree fault) rests passed cause = fault_then a b c fault rests.goes_on passed cause
dir_fault_then a b c (Record index offset) rests passed cause = passed_then a b c passed cause
dir_fault_then a b c (Double index first) rests passed cause = passed_then a b c passed cause
dir_fault_then a b c (WrongLength bytes) rests passed cause = passed_then a b c passed cause

-- a tree that loaded, and what its directory answers
pub loaded_directory : (a b d : FileState) (tsk key : List ℕ) (root : RootRef) (tree : Loaded) (answer : Result (List (Option DirEntry)) DirFault) → Rests a b → Rests b d
    → (Told a b → load_of b.reads root ≡ Ok tree) → key ≡ unwrapped_of tsk tree.head.wrapped → (Told b d → tree_directory b.reads key tree ≡ answer)
    → Told a d → directory_of tsk d.reads root ≡ answer
unfolding directory_of
loaded_directory a b d tsk key root tree answer first second loads keyed directory told =
    let before : Told a b = (subst IsTrue second.goes_on.tells told.0, first_known a b d second.goes_on told.1) in
    let later : Told b d = told_then a b d first.goes_on told in
    ap (λ (image : List ℕ). directory_or tsk image (load_of image root)) (second.reads later.1)
    ∙ ap (directory_or tsk b.reads) (loads before)
    ∙ ap (λ (k : List ℕ). tree_directory b.reads k tree) (sym keyed)
    ∙ directory later

pub loads_then : (a b d : FileState) (root : RootRef) (tree : Loaded) → Rests a b → Rests b d → (Told a b → load_of b.reads root ≡ Ok tree) → Told a d → load_of d.reads root ≡ Ok tree
loads_then a b d root tree first second loads told =
    let before : Told a b = (subst IsTrue second.goes_on.tells told.0, first_known a b d second.goes_on told.1) in
    let later : Told b d = told_then a b d first.goes_on told in
    ap (λ (image : List ℕ). load_of image root) (second.reads later.1) ∙ loads before

-- a tree's refusal is the directory's
pub refused_directory : (a d : FileState) (tsk : List ℕ) (root : RootRef) (fault : TreeFault) → IsOutside fault ⊎ (Told a d → load_of d.reads root ≡ Err fault)
    → IsOutsideDir (Tree fault) ⊎ (Told a d → directory_of tsk d.reads root ≡ Err (Tree fault))
unfolding directory_of
refused_directory a d tsk root fault (inl outside) = inl outside
refused_directory a d tsk root fault (inr refused) = inr (λ told. ap (directory_or tsk d.reads) (refused told))

-- what the entries of the pages answer, whichever it is
pub ok_directory : (a d : FileState) (key : List ℕ) (root : RootRef) (tree : Loaded) (items read : List (List ℕ)) (V : Type 0) (vs : V → List (Option DirEntry)) (result : Result V DirFault)
    → IsVerified root tree → length items ≡ min 8 (blocks_of tree.head.length) → tree.head.length ≡ 32768 → read ≡ items
    → (Told a d → ArePages a.reads key tree items (blocks_of tree.head.length)) → ReadsEntries read vs result
    → IfOk result (λ v. Told a d → tree_directory a.reads key tree ≡ Ok (vs v))
ok_directory a d key root tree items read V vs (Ok v) verified long is same are reads =
    let many = nodes_eight root tree verified is in
    λ told. directory_parsed a.reads key tree items many (omega (arith, long, is)) is (are told)
    ∙ ap (λ (l : List (List ℕ)). distinct (entries_of (some_pages l) 256)) (sym same) ∙ reads.0
ok_directory a d key root tree items read V vs (Err fault) verified long is same are reads = tt

pub err_directory : (a d : FileState) (key : List ℕ) (root : RootRef) (tree : Loaded) (items read : List (List ℕ)) (V : Type 0) (vs : V → List (Option DirEntry)) (result : Result V DirFault)
    → IsVerified root tree → length items ≡ min 8 (blocks_of tree.head.length) → tree.head.length ≡ 32768 → read ≡ items
    → (Told a d → ArePages a.reads key tree items (blocks_of tree.head.length)) → ReadsEntries read vs result
    → IfErr result (λ f. IsOutsideDir f ⊎ (Told a d → tree_directory a.reads key tree ≡ Err f))
err_directory a d key root tree items read V vs (Ok v) verified long is same are reads = tt
err_directory a d key root tree items read V vs (Err fault) verified long is same are reads =
    let many = nodes_eight root tree verified is in
    entries_refuse a d key tree items V vs fault many (omega (arith, long, is)) is are (subst (λ (l : List (List ℕ)). ReadsEntries l vs (let r : Result V DirFault = Err fault in r)) same reads)

-- what the entries of a tree that loaded refuse
pub load_refused : (a b d : FileState) (tsk key : List ℕ) (root : RootRef) (tree : Loaded) (fault : DirFault) → Rests a b → Rests b d
    → (Told a b → load_of b.reads root ≡ Ok tree) → key ≡ unwrapped_of tsk tree.head.wrapped → IsOutsideDir fault ⊎ (Told b d → tree_directory b.reads key tree ≡ Err fault)
    → IsOutsideDir fault ⊎ (Told a d → directory_of tsk d.reads root ≡ Err fault)
load_refused a b d tsk key root tree fault first second loads keyed (inl outside) = inl outside
load_refused a b d tsk key root tree fault first second loads keyed (inr refused) = inr (loaded_directory a b d tsk key root tree (Err fault) first second loads keyed refused)

-- pages that were seen, whatever the file is, and what they hold
pages_seen : (a d : FileState) (key : List ℕ) (tree : Loaded) (items read : List (List ℕ)) (answer : Result (List (Option DirEntry)) DirFault)
    → length items ≡ min 8 (blocks_of tree.head.length) → tree.head.length ≡ 32768 → read ≡ items → AreSeen a d key tree items
    → distinct (entries_of (some_pages read) 256) ≡ answer → SeesPages a d key tree answer
pages_seen a d key tree items read answer long is same seen reads = record {
  pages = record {
    items = items;
    long = omega (arith, long, is);
    sealed = λ k lt. (seen k lt).0;
    reads = pages_read tree.head.length items is (omega (arith, long, is)) ∙ ap (λ (l : List (List ℕ)). distinct (entries_of (some_pages l) 256)) (sym same) ∙ reads;
  };
  blocks = λ k lt. (seen k lt).1;
}

pub ok_pages : (a d : FileState) (key : List ℕ) (tree : Loaded) (items read : List (List ℕ)) (V : Type 0) (vs : V → List (Option DirEntry)) (result : Result V DirFault)
    → length items ≡ min 8 (blocks_of tree.head.length) → tree.head.length ≡ 32768 → read ≡ items → AreSeen a d key tree items
    → ReadsEntries read vs result → IfOk result (λ v. SeesPages a d key tree (Ok (vs v)))
ok_pages a d key tree items read V vs (Err fault) long is same seen reads = tt
ok_pages a d key tree items read V vs (Ok v) long is same seen reads =
    pages_seen a d key tree items read (Ok (vs v)) long is same seen reads.0

pub err_differs : (d : FileState) (key : List ℕ) (tree : Loaded) (items read : List (List ℕ)) (V : Type 0) (vs : V → List (Option DirEntry)) (result : Result V DirFault)
    → length items ≡ min 8 (blocks_of tree.head.length) → tree.head.length ≡ 32768 → read ≡ items → AreSeen d d key tree items → ReadsEntries read vs result
    → IfErr result (EntriesDiffer key tree d)
err_differs d key tree items read V vs (Ok v) long is same seen reads = tt
err_differs d key tree items read V vs (Err (Tree fault)) long is same seen reads = subst (λ (f : TreeFault). EntriesDiffer key tree d (Tree f)) (sym reads) tt
err_differs d key tree items read V vs (Err (WrongLength bytes)) long is same seen reads = absurd reads
err_differs d key tree items read V vs (Err (Record index offset)) long is same seen reads =
    pages_seen d d key tree items read (Err (Record index offset)) long is same seen reads
err_differs d key tree items read V vs (Err (Double index first)) long is same seen reads =
    pages_seen d d key tree items read (Err (Double index first)) long is same seen reads

pub entries_widths : (items : List (List ℕ)) (V : Type 0) (vs : V → List (Option DirEntry)) (result : Result V DirFault) → ReadsEntries items vs result → IfErr result HasDirWidths
entries_widths items V vs (Ok v) reads = tt
entries_widths items V vs (Err (Tree fault)) reads = subst HasFaultWidths (sym reads) tt
entries_widths items V vs (Err (WrongLength bytes)) reads = tt
entries_widths items V vs (Err (Record index offset)) reads = tt
entries_widths items V vs (Err (Double index first)) reads = tt

-- what a tree that did not load says of any file
pub tree_differs : (tsk : List ℕ) (d : FileState) (root : RootRef) (fault : TreeFault) → IsLoadFault fault → (IsTrue d.tells → Differs d.reads root fault) → DirDiffers tsk d root (Tree fault)
tree_differs tsk d root (BadTag k want found) kind differs = absurd kind
tree_differs tsk d root (Failed count) kind differs = differs
tree_differs tsk d root (BadHead long greatest) kind differs = differs
tree_differs tsk d root (Short end need) kind differs = differs
tree_differs tsk d root (Damaged n want found) kind differs = differs
tree_differs tsk d root (NoEntropy count) kind differs = differs
tree_differs tsk d root NoMemory kind differs = differs

-- and what the entries of one that loaded say
pub entries_differ : (tsk key : List ℕ) (d : FileState) (root : RootRef) (tree : Loaded) (fault : DirFault) → IsVerified root tree → key ≡ unwrapped_of tsk tree.head.wrapped
    → SeesTree d d root tree → EntriesDiffer key tree d fault → DirDiffers tsk d root fault
entries_differ tsk key d root tree fault verified keyed seen differs = by_fault fault (subst (λ (k : List ℕ). EntriesDiffer k tree d fault) keyed differs)
  where
    by_fault : (fault : DirFault) → EntriesDiffer (unwrapped_of tsk tree.head.wrapped) tree d fault → DirDiffers tsk d root fault
    by_fault (Tree (BadTag k want found)) at = record { tree = tree; verified = verified; seen = seen; differs = at }
    by_fault (Tree (Failed count)) at = λ told. tt
    by_fault (Tree (BadHead long greatest)) at = absurd at
    by_fault (Tree (Short end need)) at = absurd at
    by_fault (Tree (Damaged n want found)) at = absurd at
    by_fault (Tree (NoEntropy count)) at = absurd at
    by_fault (Tree NoMemory) at = λ told. tt
    by_fault (WrongLength bytes) at = record { tree = tree; verified = verified; seen = seen; differs = at }
    by_fault (Record index offset) at = record { tree = tree; verified = verified; seen = seen; differs = at }
    by_fault (Double index first) at = record { tree = tree; verified = verified; seen = seen; differs = at }

-- no vector is drawn
pub tree_kind : (fault : TreeFault) → IsLoadFault fault → IsDirFault (Tree fault)
tree_kind (NoEntropy count) kind = absurd kind
tree_kind (BadTag k want found) kind = tt
tree_kind (Failed count) kind = tt
tree_kind (BadHead long greatest) kind = tt
tree_kind (Short end need) kind = tt
tree_kind (Damaged n want found) kind = tt
tree_kind NoMemory kind = tt

pub entries_kind : (key : List ℕ) (tree : Loaded) (d : FileState) (fault : DirFault) → EntriesDiffer key tree d fault → IsDirFault fault
entries_kind key tree d (Tree (NoEntropy count)) at = absurd at
entries_kind key tree d (Tree (BadTag k want found)) at = tt
entries_kind key tree d (Tree (Failed count)) at = tt
entries_kind key tree d (Tree (BadHead long greatest)) at = tt
entries_kind key tree d (Tree (Short end need)) at = tt
entries_kind key tree d (Tree (Damaged n want found)) at = tt
entries_kind key tree d (Tree NoMemory) at = tt
entries_kind key tree d (WrongLength bytes) at = tt
entries_kind key tree d (Record index offset) at = tt
entries_kind key tree d (Double index first) at = tt

-- the parts of a directory that is loaded
pub loaded_inside : {F : Type 0} (t u : TreeValue F) (tsk : List ℕ) (root : RootRef) (entries : List (Option DirEntry)) → u ≡ record t { file = u.file } → t.root ≡ root → t.stage ≡ None
    → t.key ≡ unwrapped_of tsk t.tree.head.wrapped → IsVerified root t.tree → t.tree.head.length ≡ 32768 → AreEntriesOf entries → DirInside u tsk entries None
loaded_inside {F = F} t u tsk root entries same is_root idle keyed verified bytes are =
    subst (λ (v : TreeValue F). DirInside v tsk entries None) (sym same) (record {
      whole = are.whole;
      forms = are.forms;
      key = keyed;
      tree = record { bytes = bytes; blocks = sized_greatest t.tree.head verified.hashed.sized ∙ ap greatest_of bytes; verified = subst (λ (r : RootRef). IsVerified r t.tree) (sym is_root) verified };
      staged = subst (λ (o : Option Staged). NextFits t.tree.head.wrapped o None) (sym idle) refl;
    })

-- and what was seen of it, under the directory's key
pub loaded_seen : {F : Type 0} (t u : TreeValue F) (a b d : FileState) (tsk : List ℕ) (root : RootRef) (answer : Result (List (Option DirEntry)) DirFault) → u ≡ record t { file = u.file }
    → t.key ≡ unwrapped_of tsk t.tree.head.wrapped → Sound b → Rests a b → Rests b d → SeesTree a b root t.tree → SeesPages b d t.key t.tree answer → SeesDirectory a d tsk root u.tree answer
loaded_seen t u a b d tsk root answer same keyed sound first second table seen =
    subst (λ (tree : Loaded). SeesDirectory a d tsk root tree answer) (sym (ap (λ v. v.tree) same))
    (directory_seen a b d tsk t.key root t.tree answer sound first second keyed table seen)
