use Rattle.std.proofs.Common.{ℕ, ◌≡◌, ◌<◌, List, [], ◌∷◌, length, arith, refl, ◌∙◌}
use Rattle.std.specs.Prelude.{slice_index_or}
use Rattle.aes_block.specs.Planes.{block_in}
use Rattle.aes_block.specs.State.{IsBytes}
use Rattle.aes_block.proofs.Lanes.{eight_cases}
use Rattle.aes_block.proofs.PackedBlocks.{packed}
use Rattle.aes_block.proofs.planes.pack.Goals as goal

pub returns-clause-value : goal.returns-clause-value
returns-clause-value c =
    let vs : List (List ℕ) =
    c.load-v0.result ∷ c.load-v1.result ∷ c.load-v2.result ∷ c.load-v3.result
    ∷ c.load-v4.result ∷ c.load-v5.result ∷ c.load-v6.result ∷ c.load-v7.result ∷ [] in
    let whole = λ (t : ℕ) (low : t < 8) (long : length (slice_index_or vs t []) ≡ 16) (bytes : IsBytes (slice_index_or vs t []))
    (same : slice_index_or vs t [] ≡ slice_index_or c.args.blocks.now t []).
    packed vs c.transpose.result c.transpose.ensures.value t low (slice_index_or vs t []) refl long bytes ∙ same in
    eight_cases (λ t. block_in c.transpose.result t ≡ slice_index_or c.args.blocks.now t [])
    (whole 0 (omega arith) c.load-v0.ensures.long c.load-v0.ensures.bytes c.load-v0.ensures.same)
    (whole 1 (omega arith) c.load-v1.ensures.long c.load-v1.ensures.bytes c.load-v1.ensures.same)
    (whole 2 (omega arith) c.load-v2.ensures.long c.load-v2.ensures.bytes c.load-v2.ensures.same)
    (whole 3 (omega arith) c.load-v3.ensures.long c.load-v3.ensures.bytes c.load-v3.ensures.same)
    (whole 4 (omega arith) c.load-v4.ensures.long c.load-v4.ensures.bytes c.load-v4.ensures.same)
    (whole 5 (omega arith) c.load-v5.ensures.long c.load-v5.ensures.bytes c.load-v5.ensures.same)
    (whole 6 (omega arith) c.load-v6.ensures.long c.load-v6.ensures.bytes c.load-v6.ensures.same)
    (whole 7 (omega arith) c.load-v7.ensures.long c.load-v7.ensures.bytes c.load-v7.ensures.same)
