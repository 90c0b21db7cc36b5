use Rattle.std.proofs.Common.{◌≡◌, ◌∙◌, ◌-◌, ◌*◌, ◌++◌, ◌≤◌, ℕ, List, Bool, [], ◌∷◌, cond, length, filter, ap, arith}
use Rattle.std.specs.List.{range_with_len}
use Rattle.std.specs.Option.{is_none}
use Rattle.node_image.specs.Layout.{greatest_of}
use Rattle.node_image.proofs.Matching.{length-row}
use Rattle.htree_file.specs.Pages.{page_in}
use Rattle.page_bytes.specs.Pages.{page_at}
use Rattle.page_bytes.proofs.Content.{length-bytes_from}
use Rattle.store_model.specs.Data.{bytes_at}
use Rattle.object_file.specs.Held.{held_in, pages_in}
use Rattle.object_file.specs.Value.{size_in}
use Rattle.known_answers.proofs.DataBlocks.{bad-more, bytes-all, bytes-more}
use Rattle.known_answers.proofs.Pages.{kept_then}
use Rattle.known_answers.proofs.objects.data_of.Goals as goal

pub loop-block-preserved : goal.loop-block-preserved
loop-block-preserved g c =
    let object = c.args.object.now in
    let image = (g.F.StoreFile.state object.tree.file).reads in
    let now = c.loop-block.object in
    let before = c.loop-block.invariant in
    let k : ℕ = c.loop-block.block in
    let bytes : List ℕ = c.loop-block.bytes.items in
    let bad : List ℕ = c.loop-block.bad.items in
    record {
      bytes = bytes-more (held_in object image).bytes bytes c.add_block.new.bytes.items k c.loop-block.auto.block before.bytes
          (c.in_ok-add_block.ensures.bytes ∙ (λ i. bytes ++ bytes_at (held_in (before.same i) (before.kept.reads i)).bytes (4096 * (k - 1)) 4096));
      bad = bad-more (λ j. is_none (page_at (pages_in object.tree image) j)) bad c.add_block.new.bad.items k c.loop-block.auto.block before.bad
          (c.in_ok-add_block.ensures.bad ∙ (λ i. bad ++ cond (is_none (page_at (pages_in (before.same i).tree (before.kept.reads i)) k)) (k ∷ []) []));
      same = c.add_block.ensures.same ∙ (λ i. record (before.same i) { tree = record (before.same i).tree { file = c.add_block.new.object.tree.file } });
      kept = kept_then (g.F.StoreFile.state now.tree.file) (g.F.StoreFile.state c.add_block.new.object.tree.file) _ before.kept c.add_block.ensures.kept;
    }

pub returns-clause-bytes : goal.returns-clause-bytes
returns-clause-bytes g c =
    let object = c.args.object.now in
    let image = (g.F.StoreFile.state object.tree.file).reads in
    let last : greatest_of object.tree.tree.head.length ≤ c.loop-block.block = omega (arith, c.loop-block-test.false, c.block_count-block-end.ensures.needed) in
    bytes-all (held_in object image).bytes c.loop-block.bytes.items (size_in object) object.tree.tree.head.length c.loop-block.block
    (length-bytes_from (page_at (pages_in object.tree image)) 4096 (size_in object)) (omega arith) last c.loop-block.invariant.bytes

pub returns-clause-bad : goal.returns-clause-bad
returns-clause-bad g c =
    let object = c.args.object.now in
    let image = (g.F.StoreFile.state object.tree.file).reads in
    let p : ℕ → Bool = λ k. is_none (page_at (pages_in object.tree image) k) in
    let many = length-row (page_in image object.tree.key object.tree.tree) (length object.tree.tree.nodes) in
    let count : c.loop-block.block - 1 ≡ length (pages_in object.tree image) - 1 =
    omega (arith, many, c.loop-block-test.false, c.loop-block.auto.block, c.loop-block.auto.block-end, c.block_count-block-end.ensures.all) in
    c.loop-block.invariant.bad ∙ ap (λ (n : ℕ). filter p (range_with_len 1 n)) count
