-- What a slot's file gave for a read or a change, whatever the file is.
use Rattle.std.specs.Prelude.{◌≡◌, ℕ, ◌+◌, ◌≤◌, ◌==◌, ◌||◌, Bool, List, length, take, true, Ok}
use Rattle.disk_model.specs.Seen.{WasSeen}
use Rattle.disk_model.specs.State.{FileState}
use Rattle.aes_block.specs.WrappedKey.{unwrapped_of}
use Rattle.node_image.specs.Parts.{In}
use Rattle.node_image.specs.Parts.Part.{block}
use Rattle.node_image.specs.Tables.{block_version}
use Rattle.htree_file.specs.Opening.{IsVerified}
use Rattle.htree_file.specs.Pages.{block_in}
use Rattle.page_bytes.specs.Ranges.{needs}
use Rattle.block_file.specs.Reads.{WasRead}
use Rattle.tee_types.specs.declared.call.Call.TheVariants.{Read}
use Rattle.tee_types.specs.declared.reply.Reply.TheVariants.{Content}
use Rattle.core_laws.specs.Given.{Gave, Tells, is_asked, decoding_given}
use Rattle.object_file.specs.Value.{size_in}
use Rattle.object_slots.specs.Fronts.{HasFront}
use Rattle.object_slots.specs.SlotReads.{ReadsObject}
use Rattle.object_slots.specs.SlotStages.{DataChange}
use Rattle.object_slots.specs.SlotValues.{HeldObject}

-- The tree and the ciphertexts that were given are what was loaded and what was seen in the file: of block 0 the front's, and each other at a
-- moment since which no call wrote there.
pub record IsGivenBy {wrap : List ℕ} {size : ℕ} {asked : ℕ → Bool} (old new : FileState) (o : HeldObject) (front : HasFront o) (gave : Gave wrap o.tree.root size asked) : Type 0 where
  pub tree : gave.tree ≡ o.tree.tree
  pub first : gave.block 0 ≡ front.seals.0
  pub seen : (k : ℕ) → asked k ≡ true → 1 ≤ k
      → WasSeen (In o.tree.tree.layout (block k (block_version o.tree.tree.nodes k))) old new (λ image. gave.block k ≡ block_in image o.tree.tree k)

-- A read that succeeds was given each block that it asked, and block 0 when the object was loaded or made; and the bytes are those that
-- these tell. `wrap` is the key that wraps the file's.
abbrev pub ReadsTell : Type 0
ReadsTell =
    (wrap : List ℕ) (old new : FileState) (o : HeldObject) (at : ℕ) (before after : List ℕ) (n handle : ℕ) → o.tree.key ≡ unwrapped_of wrap o.tree.tree.head.wrapped
    → o.tree.tree.head.length ≡ 4096 + size_in o → length after ≡ length before → (front : HasFront o) → ReadsObject old new o at before after (Ok n)
    → (gave : Gave wrap o.tree.root (size_in o) (is_asked (size_in o) at (Read handle (length before))))
    × IsGivenBy old new o front gave × Tells (decoding_given gave) (size_in o) (length o.attributes) at (Read handle (length before)) (Content (take n after))

-- So was a change given each block that it needs, where these were read: for a stage, and where a draw failed.
abbrev pub ChangesGive : Type 0
ChangesGive =
    (wrap : List ℕ) (old new : FileState) (o : HeldObject) (c : DataChange) → o.tree.key ≡ unwrapped_of wrap o.tree.tree.head.wrapped
    → o.tree.tree.head.length ≡ 4096 + size_in o → IsVerified o.tree.root o.tree.tree → 4096 ≤ c.range.first → (front : HasFront o)
    → ((k : ℕ) → needs c.range k ≡ true → WasRead o.tree.key o.tree.tree old new k)
    → (gave : Gave wrap o.tree.root (size_in o) (λ k. (k == 0) || needs c.range k)) × IsGivenBy old new o front gave
