use Rattle.std.proofs.Common.{◌≡◌, ◌∙◌, ◌+◌, ◌-◌, ◌*◌, ◌<◌, ◌≤◌, ℕ, List, length, min, refl, arith}
use Rattle.object_file.specs.Value.{size_in}
use Rattle.page_bytes.proofs.Laying.{length-part}
use Rattle.store_commit.proofs.Syncing.{ok_map}
use Rattle.object_calls.specs.ObjectReads.{ShowsPart}
use Rattle.object_calls.specs.ShownObjects.{ShowsBlock}
use Rattle.object_calls.proofs.Blocks.{part_shown}
use Rattle.object_calls.proofs.object_data.read_block.Goals as goal
use borrow.Rule.Slice.PartMut.{put_mid}

pub returns-clause-shows : goal.returns-clause-shows
returns-clause-shows g c =
    let o = c.args.object.now in
    let a = g.F.StoreFile.state o.tree.file in
    let b = g.F.StoreFile.state c.read_part.new.object.tree.file in
    let k : ℕ = c.args.k in
    let bytes : List ℕ = c.args.bytes.now in
    let part : List ℕ = c.read_part.new.into in
    let begin : ℕ = k * 4096 in
    let count : ℕ = c.min-end.result - begin in
    let place : begin ≡ 4096 * k = omega arith in
    let ends : c.min-end.result ≡ min (begin + 4096) (length bytes) = c.min-end.ensures in
    let within : begin < size_in o = omega (arith, place, c.requires.block) in
    let counts : count ≡ min (begin + 4096) (size_in o) - begin = omega (arith, ends, c.requires.whole) in
    let fits : begin + count ≤ length bytes = omega (arith, ends, c.requires.whole, within) in
    let own : length part ≡ count = c.read_part.auto.into ∙ length-part bytes begin count (length bytes) refl fits in
    ok_map c.read_part.result (ShowsPart o.tree.key o.tree.tree a b k part) (ShowsBlock o.tree.key o.tree.tree a b (size_in o) k (put_mid begin count bytes part))
    (λ good shows. part_shown o.tree.key o.tree.tree a b (size_in o) k begin count bytes part c.requires.whole own place counts within good shows) c.read_part.ensures.shows
