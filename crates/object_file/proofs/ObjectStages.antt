-- What the stage of a change of bytes leaves of the object in them.
use Rattle.std.proofs.Common.{◌≡◌, ◌∙◌, ℕ, ◌+◌, ◌*◌, ◌<◌, ◌≤◌, max, List, length, Option, Result, Ok, Err, true, false, IfErr, IsSome, ap, sym, subst, refl, arith}
use Rattle.std.specs.List.{list_any}
use Rattle.aes_block.specs.WrappedKey.{unwrapped_of}
use Rattle.disk_model.specs.Bytes.{after_resize, after_write}
use Rattle.disk_model.specs.State.{FileState}
use Rattle.disk_model.specs.Calls.{Rests}
use Rattle.disk_model.proofs.Writes.{length-after_resize}
use Rattle.node_image.specs.declared.node.RootRef.{RootRef}
use Rattle.node_image.specs.Layout.{greatest_of}
use Rattle.node_image.specs.Selection.{row}
use Rattle.node_image.proofs.Matching.{length-row}
use Rattle.htree_file.specs.declared.fault.TreeFault.{TreeFault}
use Rattle.htree_file.specs.declared.fault.TreeFault.TheVariants.{BadHead, BadTag, Damaged as DamagedNode, Failed, NoEntropy, NoMemory, Short}
use Rattle.htree_file.specs.Opening.{IsVerified, Loaded, load_of}
use Rattle.htree_file.specs.Pages.{Opened, opened_in, opened_of, page_in}
use Rattle.htree_file.specs.Standing.{Told}
use Rattle.htree_file.proofs.Sizes.{sized_greatest}
use Rattle.page_bytes.specs.declared.range.ByteRange.{ByteRange}
use Rattle.page_bytes.specs.Pages.{page_at}
use Rattle.page_bytes.specs.Ranges.{needs, resize_range, write_range}
use Rattle.page_bytes.proofs.Content.{length-after_write, length-bytes_from}
use Rattle.block_file.specs.Reads.{BlocksAnswer, IsBadTag, IsEarlyFault, WasRead}
use Rattle.block_file.specs.Stages.{IsAfter, LeavesBytes, bytes_in}
use Rattle.store_model.specs.Data.{needs_block, resized_contents, written_contents}
use Rattle.store_model.specs.Object.{Contents, Damaged, Sound}
use Rattle.crash_core.specs.MountedObject.{bad_blocks, object_of, object_or_damaged}
use Rattle.crash_core.proofs.ObjectChanges.{bad-need-found, bad-needed, object_of-resized, object_of-written}
use Rattle.block_file.proofs.Reading.{bad_stands, page_stands}
use Rattle.object_file.proofs.ObjectReads.{page_at-pages, within_tree}
use Rattle.object_file.specs.Changes.{LeavesObject}
use Rattle.object_file.specs.Corrupt.{CorruptAnswer}

-- a tree that loads opens to its length and to a page for each of its nodes
record OpensAs (tree : Loaded) (was : Opened) : Type 0 where
  pub bytes : was.bytes ≡ tree.head.length
  pub blocks : length was.pages ≡ greatest_of was.bytes

opens_as : (tsk image : List ℕ) (root : RootRef) (tree : Loaded) (was : Opened) → IsVerified root tree → load_of image root ≡ Ok tree → opened_of tsk image root ≡ Ok was → OpensAs tree was
opens_as tsk image root tree was verified loads opened =
    let was_opened : opened_in image tsk (Ok tree) ≡ Ok was = ap (opened_in image tsk) (sym loads) ∙ opened in
    let pages : List (Option (List ℕ)) = row (page_in image (unwrapped_of tsk tree.head.wrapped) tree) (length tree.nodes) in
    let same : ◌≡◌ {A = Opened} (record { bytes = tree.head.length; pages = pages }) was = cc (was_opened) in
    let bytes : was.bytes ≡ tree.head.length = sym (ap (λ (o : Opened). o.bytes) same) in
    record {
      bytes = bytes;
      blocks = sym (ap (λ (o : Opened). length o.pages) same) ∙ length-row (page_in image (unwrapped_of tsk tree.head.wrapped) tree) (length tree.nodes)
          ∙ verified.hashed.all ∙ sized_greatest tree.head verified.hashed.sized ∙ ap greatest_of (sym bytes);
    }

-- a sound object is one that opens
record SoundOpens (size attributes : ℕ) (o : Result Opened TreeFault) (c : Contents) : Type 0 where
  pub was : Opened
  pub opened : o ≡ Ok was
  pub sound : object_of size attributes was ≡ Sound c

damaged_sound : (size : ℕ) (c : Contents) → Damaged size ≡ Sound c → ⊥
damaged_sound size c same = cc

sound_opens : (size attributes : ℕ) (o : Result Opened TreeFault) (c : Contents) → object_or_damaged size attributes o ≡ Sound c → SoundOpens size attributes o c
sound_opens size attributes (Ok was) c sound = record { was = was; opened = refl; sound = sound }
sound_opens size attributes (Err fault) c sound = absurd (damaged_sound size c sound)

module _ (key wrapped before after : List ℕ) (root next : RootRef) (tree : Loaded) (attributes size : ℕ)
    (verified : IsVerified root tree) (loads : load_of before root ≡ Ok tree) (whole : tree.head.length ≡ 4096 + size) where
  -- a write of the bytes is a write of the object
  pub leaves_written : (at : ℕ) (bytes : List ℕ)
      → LeavesBytes key wrapped before root after next (write_range tree.head.length (4096 + at) (length bytes)) (λ old. after_write old (4096 + at) bytes)
      → LeavesObject key wrapped before root after next attributes size (max size (at + length bytes)) (λ c. written_contents c at bytes)
  leaves_written at bytes leaves tsk c is sound =
      let opens = sound_opens size attributes (opened_of tsk before root) c sound in
      let was = opens.was in
      let step = leaves tsk was is opens.opened in
      let now = step.0 in
      let parts = opens_as tsk before root tree was verified loads opens.opened in
      let made : IsAfter (write_range (4096 + size) (4096 + at) (length bytes)) (after_write (bytes_in was) (4096 + at) bytes) was now =
      subst (λ (n : ℕ). IsAfter (write_range n (4096 + at) (length bytes)) (after_write (bytes_in was) (4096 + at) bytes) was now) whole step.2 in
      let long : length (bytes_in was) ≡ 4096 + size = length-bytes_from (page_at was.pages) 0 was.bytes ∙ parts.bytes ∙ whole in
      let bytes_now : now.bytes ≡ max (4096 + size) (4096 + at + length bytes) =
      made.size ∙ length-after_write (bytes_in was) (4096 + at) bytes ∙ ap (λ (n : ℕ). max n (4096 + at + length bytes)) long in
      ap (object_or_damaged (max size (at + length bytes)) attributes) step.1
      ∙ object_of-written size attributes at bytes was now c opens.sound parts.blocks made.blocks bytes_now made.changed made.bytes

  -- another length of the bytes is another size of the object
  pub leaves_resized : (n : ℕ)
      → LeavesBytes key wrapped before root after next (resize_range tree.head.length (4096 + n)) (λ old. after_resize old (4096 + n))
      → LeavesObject key wrapped before root after next attributes size n (λ c. resized_contents c n)
  leaves_resized n leaves tsk c is sound =
      let opens = sound_opens size attributes (opened_of tsk before root) c sound in
      let was = opens.was in
      let step = leaves tsk was is opens.opened in
      let now = step.0 in
      let parts = opens_as tsk before root tree was verified loads opens.opened in
      let made : IsAfter (resize_range (4096 + size) (4096 + n)) (after_resize (bytes_in was) (4096 + n)) was now =
      subst (λ (m : ℕ). IsAfter (resize_range m (4096 + n)) (after_resize (bytes_in was) (4096 + n)) was now) whole step.2 in
      ap (object_or_damaged n attributes) step.1
      ∙ object_of-resized size attributes n was now c opens.sound parts.blocks made.blocks (made.size ∙ length-after_resize (bytes_in was) (4096 + n)) made.changed made.bytes

module _ (key : List ℕ) (root : RootRef) (tree : Loaded) (a c : FileState) (size first last : ℕ)
    (verified : IsVerified root tree) (whole : tree.head.length ≡ 4096 + size) (told : Told a c) where
  abbrev range : ByteRange
  range = record { size = 4096 + size; first = 4096 + first; last = 4096 + last }

  abbrev pages : List (Option (List ℕ))
  pages = row (page_in a.reads key tree) (length tree.nodes)

  needed_later : (k : ℕ) → needs range k ≡ true → 1 ≤ k
  needed_later k needed = grind (arith, needed)

  needed_within : (k : ℕ) → needs range k ≡ true → k < length tree.nodes
  needed_within k needed = let few : 4096 * k < 4096 + size = grind (arith, needed) in within_tree root tree k verified (omega (arith, few, whole))

  page_is : (k : ℕ) → k < length tree.nodes → page_at pages k ≡ page_in a.reads key tree k
  page_is k lt = page_at-pages a.reads key tree k lt

  long : length pages ≡ length tree.nodes
  long = length-row (page_in a.reads key tree) (length tree.nodes)

  -- where the blocks that it needs were read, none of them is bad
  none_bad : ((k : ℕ) → needs range k ≡ true → WasRead key tree a c k) → list_any (needs_block size first last) (bad_blocks pages) ≡ false
  none_bad blocks = bad-needed pages size first last (λ k one lt needed.
      let read = blocks k needed in
      let stands = page_stands key tree a c k read.0 told read.1 in
      subst (λ (o : Option (List ℕ)). IsSome o) (sym (page_is k (subst (λ (n : ℕ). k < n) long lt) ∙ stands)) refl)

  -- a change of the object asks for the blocks that its tree needs
  pub corrupt_change : (attributes bytes : List ℕ) (A : Type 0) (result : Result A TreeFault) → BlocksAnswer key tree a c (needs range) result → IfErr result (λ e. IsBadTag e → Rests a c)
      → CorruptAnswer (record { attributes = attributes; bytes = bytes; bad = bad_blocks pages }) (needs_block size first last) result
  corrupt_change attributes bytes A (Ok done) blocks early = none_bad blocks
  corrupt_change attributes bytes A (Err (BadTag k want found)) blocks early =
      let within = needed_within k blocks.is_asked in
      let bad = bad_stands key tree a c k want found (early tt) told blocks.bad in
      bad-need-found pages size first last k (needed_later k blocks.is_asked) (subst (λ (n : ℕ). k < n) (sym long) within) blocks.is_asked (page_is k within ∙ bad)
  corrupt_change attributes bytes A (Err (Failed count)) blocks early = tt
  corrupt_change attributes bytes A (Err (BadHead n m)) blocks early = tt
  corrupt_change attributes bytes A (Err (Short end need)) blocks early = tt
  corrupt_change attributes bytes A (Err (DamagedNode n want found)) blocks early = tt
  corrupt_change attributes bytes A (Err (NoEntropy count)) blocks early = none_bad blocks
  corrupt_change attributes bytes A (Err NoMemory) blocks early = tt

-- a bad block was found by reads alone
pub early_rests : (a c : FileState) (A P : Type 0) (result : Result A TreeFault) → IfErr result (λ e. IsEarlyFault e → Rests a c × P) → IfErr result (λ e. IsBadTag e → Rests a c)
early_rests a c A P (Ok done) early = tt
early_rests a c A P (Err (BadTag k want found)) early = λ bad. (early tt).0
early_rests a c A P (Err (Failed count)) early = λ bad. absurd bad
early_rests a c A P (Err (NoEntropy count)) early = λ bad. absurd bad
early_rests a c A P (Err (BadHead long greatest)) early = λ bad. absurd bad
early_rests a c A P (Err (Short end need)) early = λ bad. absurd bad
early_rests a c A P (Err (DamagedNode n want found)) early = λ bad. absurd bad
early_rests a c A P (Err NoMemory) early = λ bad. absurd bad

-- where reads alone were made
pub rests_bad : (a c : FileState) (A : Type 0) (result : Result A TreeFault) → Rests a c → IfErr result (λ e. IsBadTag e → Rests a c)
rests_bad a c A (Ok done) rests = tt
rests_bad a c A (Err fault) rests = λ bad. rests
