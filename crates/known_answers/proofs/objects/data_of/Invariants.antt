use Rattle.std.proofs.Common.{◌≡◌, ◌-◌, ◌*◌, take, filter}
use Rattle.std.specs.List.{range_with_len}
use Rattle.std.specs.Option.{is_none}
use Rattle.page_bytes.specs.Pages.{page_at}
use Rattle.object_file.specs.Held.{held_in, pages_in}
use Rattle.known_answers.specs.Files.{IsKept}
use Rattle.known_answers.proofs.objects.data_of.Given as goal

abbrev pub invariant-loop-block : goal.invariant-loop-block
invariant-loop-block g l =
    let object = l.initial.object in
    let image = (g.F.StoreFile.state object.tree.file).reads in
    record {
      bytes : l.bytes.items ≡ take (4096 * (l.block - 1)) (held_in object image).bytes;
      bad : l.bad.items ≡ filter (λ k. is_none (page_at (pages_in object.tree image) k)) (range_with_len 1 (l.block - 1));
      same : l.object ≡ record object { tree = record object.tree { file = l.object.tree.file } };
      kept : IsKept (g.F.StoreFile.state l.object.tree.file) image;
    }
