-- The bytes that a stage opens to.
use Rattle.std.proofs.Common.{◌≡◌, ◌∙◌, ℕ, ◌+◌, ◌*◌, ◌<◌, ◌≤◌, max, List, [], length, Option, Result, Ok, Err, IfSome, IsSome, OnOk, ap, sym, subst, refl, arith, get_or, inl, inr}
use Rattle.disk_model.specs.Bytes.{after_resize, after_write}
use Rattle.disk_model.proofs.Writes.{length-after_resize}
use Rattle.node_image.specs.declared.node.RootRef.{RootRef}
use Rattle.node_image.specs.Layout.{greatest_of}
use Rattle.htree_file.specs.declared.fault.TreeFault.{TreeFault}
use Rattle.htree_file.specs.Opening.{Loaded, load_of}
use Rattle.aes_block.specs.WrappedKey.{unwrapped_of}
use Rattle.node_image.specs.Selection.{row}
use Rattle.htree_file.specs.Pages.{Opened, opened_in, opened_of, page_in}
use Rattle.htree_file.specs.Value.{Staged}
use Rattle.page_bytes.specs.declared.range.ByteRange.{ByteRange}
use Rattle.page_bytes.specs.Changed.{IsChanged}
use Rattle.page_bytes.specs.Pages.{byte_in, bytes_from, page_at}
use Rattle.page_bytes.specs.Rewriting.{changed_byte}
use Rattle.std.proofs.lemmas.Bool.{cases_lt}
use Rattle.page_bytes.specs.Ranges.{resize_range, write_range}
use Rattle.page_bytes.proofs.Content.{bytes-resized, bytes-written, length-after_write, length-bytes_from}
use Rattle.block_file.specs.NewPages.{IsRewriting}
use Rattle.block_file.proofs.StageRewrites.{some_then}
use Rattle.block_file.specs.Stages.{LeavesBytes, LeavesRewritten, bytes_in}

-- how many bytes an opened tree has
pub opened_bytes : (wrap image : List ℕ) (root : RootRef) (tree : Loaded) (was : Opened) → load_of image root ≡ Ok tree → opened_of wrap image root ≡ Ok was → was.bytes ≡ tree.head.length
opened_bytes wrap image root tree was loads opened =
    let was_opened : opened_in image wrap (Ok tree) ≡ Ok was = ap (opened_in image wrap) (sym loads) ∙ opened in
    let same : ◌≡◌ {A = Opened} (record { bytes = tree.head.length; pages = row (page_in image (unwrapped_of wrap tree.head.wrapped) tree) (length tree.nodes) }) was = cc (was_opened) in
    sym (ap (λ (o : Opened). o.bytes) same)

changed : (r : ByteRange) (at : ℕ) (bytes : List ℕ) (size : ℕ) (was now : Opened) → IsRewriting r at bytes size was now → IsChanged r (length now.pages) (page_at was.pages) (page_at now.pages)
changed r at bytes size was now is = record {
  same = λ k lt missed. is.missed k (subst (λ (n : ℕ). k < n) is.blocks lt) missed;
  good = λ k lt met. let page = is.met k (subst (λ (n : ℕ). k < n) is.blocks lt) met in subst (λ (o : Option (List ℕ)). IsSome o) (sym page.is) refl;
}

blocks_reach : (size : ℕ) → size ≤ 4096 * greatest_of size
blocks_reach size = omega arith

write_behind : (old at : ℕ) (bytes : List ℕ) (p was : ℕ) → max old (at + length bytes) ≤ p → changed_byte (write_range old at (length bytes)) at bytes p was ≡ 0
write_behind old at bytes p was past = grind (arith, past)

resize_behind : (old size p was : ℕ) → size ≤ p → changed_byte (resize_range old size) size [] p was ≡ 0
resize_behind old size p was past = elim (cases_lt p (max size old)) [
  | inl below ↦ grind (arith, past, below)
  | inr behind ↦ grind (arith, past, behind)
]

-- a change that lays bytes is a write
pub leaves_written : (key wrapped before after : List ℕ) (root next : RootRef) (tree : Loaded) (at : ℕ) (bytes : List ℕ) → load_of before root ≡ Ok tree
    → LeavesRewritten key wrapped before root after next (write_range tree.head.length at (length bytes)) at bytes (max tree.head.length (at + length bytes))
    → LeavesBytes key wrapped before root after next (write_range tree.head.length at (length bytes)) (λ old. after_write old at bytes)
leaves_written key wrapped before after root next tree at bytes loads leaves wrap was is opened =
    let old : ℕ = tree.head.length in
    let size : ℕ = max old (at + length bytes) in
    let step = leaves wrap was is opened in
    let now = step.0 in
    let made = step.2 in
    let few : was.bytes ≡ old = opened_bytes wrap before root tree was loads opened in
    let long : length (bytes_in was) ≡ old = length-bytes_from (page_at was.pages) 0 was.bytes ∙ few in (
      now,
      step.1,
      record {
        size = made.size ∙ sym (length-after_write (bytes_in was) at bytes ∙ ap (λ (n : ℕ). max n (at + length bytes)) long);
        blocks = made.blocks ∙ ap greatest_of (sym made.size);
        changed = changed (write_range old at (length bytes)) at bytes size was now made;
        bytes = ap (bytes_from (page_at now.pages) 0) made.size
            ∙ bytes-written old at (greatest_of size) bytes (page_at was.pages) (page_at now.pages) (blocks_reach size) made.met made.missed
            ∙ ap (λ (n : ℕ). after_write (bytes_from (page_at was.pages) 0 n) at bytes) (sym few);
        behind = λ k i lt met within past.
            let page = made.met k (subst (λ (n : ℕ). k < n) made.blocks lt) met in
            let end : length (after_write (bytes_in was) at bytes) ≡ size = length-after_write (bytes_in was) at bytes ∙ ap (λ (n : ℕ). max n (at + length bytes)) long in
            ap (λ (o : Option (List ℕ)). byte_in o i) page.is ∙ page.rewritten i within
            ∙ write_behind old at bytes (4096 * k + i) (get_or page.over i 0) (subst (λ (n : ℕ). n ≤ 4096 * k + i) end past);
      },
    )

-- a change that lays none is another length
pub leaves_resized : (key wrapped before after : List ℕ) (root next : RootRef) (tree : Loaded) (size : ℕ) → load_of before root ≡ Ok tree
    → LeavesRewritten key wrapped before root after next (resize_range tree.head.length size) size [] size
    → LeavesBytes key wrapped before root after next (resize_range tree.head.length size) (λ old. after_resize old size)
leaves_resized key wrapped before after root next tree size loads leaves wrap was is opened =
    let old : ℕ = tree.head.length in
    let step = leaves wrap was is opened in
    let now = step.0 in
    let made = step.2 in
    let few : was.bytes ≡ old = opened_bytes wrap before root tree was loads opened in (
      now,
      step.1,
      record {
        size = made.size ∙ sym (length-after_resize (bytes_in was) size);
        blocks = made.blocks ∙ ap greatest_of (sym made.size);
        changed = changed (resize_range old size) size [] size was now made;
        bytes = ap (bytes_from (page_at now.pages) 0) made.size
            ∙ bytes-resized old size (greatest_of size) (page_at was.pages) (page_at now.pages) (blocks_reach size) made.met made.missed
            ∙ ap (λ (n : ℕ). after_resize (bytes_from (page_at was.pages) 0 n) size) (sym few);
        behind = λ k i lt met within past.
            let page = made.met k (subst (λ (n : ℕ). k < n) made.blocks lt) met in
            ap (λ (o : Option (List ℕ)). byte_in o i) page.is ∙ page.rewritten i within
            ∙ resize_behind old size (4096 * k + i) (get_or page.over i 0) (subst (λ (n : ℕ). n ≤ 4096 * k + i) (length-after_resize (bytes_in was) size) past);
      },
    )

-- what follows for a stage holds where the stage is there
pub stage_ok : (A : Type 0) (result : Result A TreeFault) (stage : Option Staged) (T L : Type 0) (P Q : Staged → Type 0)
    → OnOk result (T → L → IfSome stage P) → (L → (s : Staged) → P s → Q s) → OnOk result (T → L → IfSome stage Q)
stage_ok A (Ok done) stage T L P Q was then = λ told loads. some_then stage P Q (then loads) (was told loads)
stage_ok A (Err fault) stage T L P Q was then = tt
