use Rattle.std.proofs.Common.{◌≡◌, ℕ, ◌*◌, List, ◌++◌, [], ◌∷◌, length, refl, ap, ◌∙◌}
use Rattle.std.specs.Int.{w64, w128, to_be_bytes, from_be_bytes}
use Rattle.aes_block.specs.Cipher.{cipher}
use Rattle.gcm_mode.specs.ByteBlocks.{blocks, padded, ghash_bytes}
use Rattle.gcm_mode.specs.CounterMode.{gctr}
use Rattle.gcm_mode.specs.Gcm.{gcm_tag, hash_subkey}
use Rattle.ghash_field.specs.Ghash.{ghash}
use Rattle.gcm_mode.proofs.WholeBlocks.{tag_blocks}
use Rattle.gcm_mode.proofs.tags.tag_of.Goals as goal

pub returns : goal.returns
unfolding gcm_tag
returns c = λ iv held first.
    let e : List ℕ → List ℕ = cipher c.args.key.now in
    let aad : List ℕ = c.args.aad.now in
    let text : List ℕ = c.args.text.now in
    let h : ℕ = hash_subkey e in
    let lens : List ℕ = to_be_bytes w64 (length aad * 8) ++ to_be_bytes w64 (length text * 8) in
    let taken = c.update.ensures h (blocks (padded aad) ++ blocks (padded text)) (c.absorb-2.ensures h (blocks (padded aad)) (c.absorb.ensures h _ held)) in
    let hash : c.finish-tag.result ≡ ghash_bytes h (padded aad ++ (padded text ++ lens)) =
    c.finish-tag.ensures h _ taken ∙ ap (λ bs. to_be_bytes w128 (ghash h bs)) (ap (λ l. (blocks (padded aad) ++ blocks (padded text)) ++ from_be_bytes w128 l ∷ []) c.lengths.ensures ∙ tag_blocks aad text lens refl) in
    c.apply_stream.ensures ∙ (λ t. gctr e (first t) (hash t))
