-- A read of the data of an object, and of the bytes of its tree.
use Rattle.std.proofs.Common.{◌≡◌, ◌∙◌, ◌+◌, ◌-◌, ◌*◌, ◌<◌, ◌≤◌, ◌++◌, ℕ, List, length, drop, min, Option, Some, None, IsSome, true, false, Result, Ok, Err, IfOk, refl, sym, ap, subst, inl, inr, arith}
use Rattle.std.proofs.lemmas.Bool.{cases_lt}
use Rattle.std.specs.List.{list_any}
use Rattle.disk_model.specs.State.{FileState}
use Rattle.disk_model.specs.Calls.{Rests}
use Rattle.node_image.specs.declared.node.RootRef.{RootRef}
use Rattle.node_image.specs.Layout.{greatest_of}
use Rattle.node_image.specs.Selection.{row}
use Rattle.node_image.proofs.Matching.{length-row, row_at}
use Rattle.htree_file.specs.declared.fault.TreeFault.{TreeFault}
use Rattle.htree_file.specs.declared.fault.TreeFault.TheVariants.{BadHead, BadTag, Damaged, Failed, NoEntropy, NoMemory, Short}
use Rattle.htree_file.specs.Opening.{IsVerified, Loaded}
use Rattle.htree_file.specs.Pages.{page_in}
use Rattle.htree_file.specs.Standing.{Told}
use Rattle.htree_file.proofs.Sizes.{sized_greatest}
use Rattle.page_bytes.specs.Pages.{bytes_from, page_at}
use Rattle.page_bytes.specs.Ranges.{meets}
use Rattle.page_bytes.proofs.Content.{bytes_from-same}
use Rattle.block_file.specs.Reads.{BlocksAnswer, IsFirstBad, WasRead}
use Rattle.block_file.proofs.Reading.{bad_stands, page_stands}
use Rattle.store_model.specs.Data.{bytes_at, meets_block}
use Rattle.store_model.specs.Object.{Contents}
use Rattle.crash_core.specs.MountedObject.{bad_blocks}
use Rattle.crash_core.proofs.ObjectBytes.{bytes_at-object}
use Rattle.crash_core.proofs.ObjectChanges.{bad-found, bad-met}
use Rattle.object_file.specs.Corrupt.{CorruptAnswer}

-- a block that begins before the end of a verified tree has its node
pub within_tree : (root : RootRef) (tree : Loaded) (k : ℕ) → IsVerified root tree → 4096 * k < tree.head.length → k < length tree.nodes
within_tree root tree k verified lt =
    let many : tree.head.greatest ≡ greatest_of tree.head.length = sized_greatest tree.head verified.hashed.sized in
    omega (arith, verified.hashed.all, many)

-- page k of a tree, among all
pub page_at-pages : (image key : List ℕ) (tree : Loaded) (k : ℕ) → k < length tree.nodes → page_at (row (page_in image key tree) (length tree.nodes)) k ≡ page_in image key tree k
page_at-pages image key tree k lt = row_at (page_in image key tree) (length tree.nodes) k None lt

-- no bytes
no-bytes : (one other : ℕ → Option (List ℕ)) (at count : ℕ) → count ≡ 0 → bytes_from one at count ≡ bytes_from other at count
no-bytes one other at count none = ap (bytes_from one at) none ∙ sym (ap (bytes_from other at) none)

-- the bytes that are read are those of the object
pub read_bytes : (root : RootRef) (image key : List ℕ) (tree : Loaded) (at n : ℕ) → IsVerified root tree
    → bytes_from (page_in image key tree) (4096 + at) (min n (tree.head.length - 4096 - at))
    ≡ bytes_at (bytes_from (page_at (row (page_in image key tree) (length tree.nodes))) 4096 (tree.head.length - 4096)) at n
read_bytes root image key tree at n verified =
    let one : ℕ → Option (List ℕ) = page_in image key tree in
    let other : ℕ → Option (List ℕ) = page_at (row (page_in image key tree) (length tree.nodes)) in
    let same : bytes_from one (4096 + at) (min n (tree.head.length - 4096 - at)) ≡ bytes_from other (4096 + at) (min n (tree.head.length - 4096 - at)) =
    elim (cases_lt at (tree.head.length - 4096)) [
      | inl some ↦ bytes_from-same one other (4096 + at) (min n (tree.head.length - 4096 - at))
          (λ k low lt. sym (page_at-pages image key tree k (within_tree root tree k verified (omega arith))))
      | inr none ↦ no-bytes one other (4096 + at) (min n (tree.head.length - 4096 - at)) (omega arith)
    ] in
    same ∙ bytes_at-object other (tree.head.length - 4096) at n

-- a page that is there is good
some_page : (page : Option (List ℕ)) (is : List ℕ) → page ≡ Some is → IsSome page
some_page page is same = rw same refl

-- a block that is met lies behind that of the attributes, and has a byte before the last place
met_behind : (first last k : ℕ) → meets (4096 + first) last k ≡ true → 1 ≤ k
met_behind first last k met = grind (arith, met)

met_before : (first last k : ℕ) → meets first last k ≡ true → (4096 * k < last) × (first < last)
met_before first last k met = (grind (arith, met), grind (arith, met))

-- and so has its node, where that place is within the tree
met_within : (root : RootRef) (tree : Loaded) (at n k : ℕ) → IsVerified root tree → n ≤ tree.head.length - 4096 - at → meets (4096 + at) (4096 + at + n) k ≡ true
    → k < length tree.nodes
met_within root tree at n k verified few met =
    let before = met_before (4096 + at) (4096 + at + n) k met in
    within_tree root tree k verified (omega (arith, before.0, before.1))

-- the blocks that a read asks of the tree, by the places of the data
pub blocks_at : (key : List ℕ) (tree : Loaded) (old new : FileState) (place at n : ℕ) {A : Type 0} (result : Result A TreeFault) → place ≡ at
    → BlocksAnswer key tree old new (meets (4096 + place) (4096 + place + min n (tree.head.length - (4096 + place)))) result
    → BlocksAnswer key tree old new (meets (4096 + at) (4096 + at + min n (tree.head.length - 4096 - at))) result
blocks_at key tree old new place at n result same answer =
    let first : 4096 + place ≡ 4096 + at = omega arith in
    let last : 4096 + place + min n (tree.head.length - (4096 + place)) ≡ 4096 + at + min n (tree.head.length - 4096 - at) = omega arith in
    subst (λ (l : ℕ). BlocksAnswer key tree old new (meets (4096 + at) l) result) last
    (subst (λ (f : ℕ). BlocksAnswer key tree old new (meets f (4096 + place + min n (tree.head.length - (4096 + place)))) result) first answer)

-- a read that succeeds meets no bad block of the object
read_sound : (root : RootRef) (key : List ℕ) (tree : Loaded) (old new : FileState) (at n : ℕ) → IsVerified root tree → n ≤ tree.head.length - 4096 - at → Told old new
    → ((k : ℕ) → meets (4096 + at) (4096 + at + n) k ≡ true → WasRead key tree old new k)
    → list_any (meets_block at (at + n)) (bad_blocks (row (page_in old.reads key tree) (length tree.nodes))) ≡ false
read_sound root key tree old new at n verified few told read =
    let last : 4096 + (at + n) ≡ 4096 + at + n = omega arith in
    bad-met (row (page_in old.reads key tree) (length tree.nodes)) at (at + n) (λ k one below met.
    let asked : meets (4096 + at) (4096 + at + n) k ≡ true = sym (ap (λ (e : ℕ). meets (4096 + at) e k) last) ∙ met in
    let was = read k asked in
    let here : page_at (row (page_in old.reads key tree) (length tree.nodes)) k ≡ Some was.0 =
    page_at-pages old.reads key tree k (met_within root tree at n k verified few asked) ∙ page_stands key tree old new k was.0 told was.1 in
    some_page (page_at (row (page_in old.reads key tree) (length tree.nodes)) k) was.0 here)

-- one that finds a bad block meets a bad block of the object
read_corrupt : (root : RootRef) (key : List ℕ) (tree : Loaded) (old new : FileState) (at n k : ℕ) (want found : List ℕ) → IsVerified root tree → n ≤ tree.head.length - 4096 - at
    → Rests old new → Told old new → IsFirstBad key tree old new (meets (4096 + at) (4096 + at + n)) k want found
    → list_any (meets_block at (at + n)) (bad_blocks (row (page_in old.reads key tree) (length tree.nodes))) ≡ true
read_corrupt root key tree old new at n k want found verified few rests told first =
    let last : 4096 + (at + n) ≡ 4096 + at + n = omega arith in
    let met : meets (4096 + at) (4096 + (at + n)) k ≡ true = ap (λ (e : ℕ). meets (4096 + at) e k) last ∙ first.is_asked in
    let within : k < length tree.nodes = met_within root tree at n k verified few first.is_asked in
    bad-found (row (page_in old.reads key tree) (length tree.nodes)) at (at + n) k (met_behind at (4096 + at + n) k first.is_asked)
    (omega (arith, within, length-row (page_in old.reads key tree) (length tree.nodes))) met
    (page_at-pages old.reads key tree k within ∙ bad_stands key tree old new k want found rests told first.bad)

-- what a read answers of the object
pub corrupt_answer : (root : RootRef) (key : List ℕ) (tree : Loaded) (old new : FileState) (at n : ℕ) (c : Contents) {A : Type 0} (result : Result A TreeFault) → IsVerified root tree
    → n ≤ tree.head.length - 4096 - at → c.bad ≡ bad_blocks (row (page_in old.reads key tree) (length tree.nodes)) → Rests old new
    → BlocksAnswer key tree old new (meets (4096 + at) (4096 + at + n)) result → Told old new → CorruptAnswer c (meets_block at (at + n)) result
corrupt_answer root key tree old new at n c (Ok answer) verified few bad rests read told =
    ap (list_any (meets_block at (at + n))) bad ∙ read_sound root key tree old new at n verified few told read
corrupt_answer root key tree old new at n c (Err (BadTag k want found)) verified few bad rests first told =
    ap (list_any (meets_block at (at + n))) bad ∙ read_corrupt root key tree old new at n k want found verified few rests told first
corrupt_answer root key tree old new at n c (Err (Failed count)) verified few bad rests first told = tt
corrupt_answer root key tree old new at n c (Err (BadHead long greatest)) verified few bad rests first told = tt
corrupt_answer root key tree old new at n c (Err (Short end need)) verified few bad rests first told = tt
corrupt_answer root key tree old new at n c (Err (Damaged node want found)) verified few bad rests first told = tt
corrupt_answer root key tree old new at n c (Err (NoEntropy count)) verified few bad rests read told =
    ap (list_any (meets_block at (at + n))) bad ∙ read_sound root key tree old new at n verified few told read
corrupt_answer root key tree old new at n c (Err NoMemory) verified few bad rests first told = tt

-- and what bytes it gives
pub content_answer : (root : RootRef) (key : List ℕ) (tree : Loaded) (old new : FileState) (at : ℕ) (into before : List ℕ) (c : Contents) (result : Result ℕ TreeFault) → IsVerified root tree
    → c.bytes ≡ bytes_from (page_at (row (page_in old.reads key tree) (length tree.nodes))) 4096 (tree.head.length - 4096)
    → IfOk result (λ n. n ≡ min (length before) (tree.head.length - (4096 + at)))
    → IfOk result (λ n. Told old new → into ≡ bytes_from (page_in old.reads key tree) (4096 + at) n ++ drop n before)
    → IfOk result (λ n. Told old new → into ≡ bytes_at c.bytes at (length before) ++ drop n before)
content_answer root key tree old new at into before c (Ok n) verified bytes count content =
    let counted : n ≡ min (length before) (tree.head.length - 4096 - at) = count ∙ omega arith in
    let same : bytes_from (page_in old.reads key tree) (4096 + at) n ≡ bytes_at c.bytes at (length before) =
    ap (bytes_from (page_in old.reads key tree) (4096 + at)) counted
    ∙ read_bytes root old.reads key tree at (length before) verified
    ∙ ap (λ (l : List ℕ). bytes_at l at (length before)) (sym bytes) in
    λ told. content told ∙ ap (λ (l : List ℕ). l ++ drop n before) same
content_answer root key tree old new at into before c (Err fault) verified bytes count content = tt
