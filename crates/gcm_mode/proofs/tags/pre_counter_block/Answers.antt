use Rattle.std.proofs.Common.{◌≡◌, ℕ, ◌*◌, List, ◌++◌, [], ◌∷◌, length, replicate, refl, ap, sym, ◌∙◌, false, cond, eqb, ⊎_elim}
use Rattle.std.proofs.lemmas.Bool.Decides.{eqb_tells}
use Rattle.std.specs.Int.{w64, w128, to_be_bytes, from_be_bytes}
use Rattle.gcm_mode.specs.ByteBlocks.{blocks, padded, ghash_bytes}
use Rattle.gcm_mode.specs.Gcm.{hash_subkey, pre_counter_block}
use Rattle.ghash_field.specs.Ghash.{ghash}
use Rattle.gcm_mode.proofs.WholeBlocks.{counter_blocks, set_last}
use Rattle.gcm_mode.proofs.tags.pre_counter_block.Goals as goal

pub returns-then-iv-eq12-clause-block : goal.returns-then-iv-eq12-clause-block
unfolding pre_counter_block
returns-then-iv-eq12-clause-block c = λ e held.
    let iv : List ℕ = c.args.iv.now in
    let long : List ℕ = ghash_bytes (hash_subkey e) (padded iv ++ (replicate 8 0 ++ to_be_bytes w64 (length iv * 8))) in
    set_last c.copy_from_slice.new.self c.copy_from_slice.ensures.len
    ∙ ap (λ xs. xs ++ 0 ∷ 0 ∷ 0 ∷ 1 ∷ []) c.copy_from_slice.ensures.after
    ∙ sym (ap (λ n. cond (eqb n 12) (iv ++ 0 ∷ 0 ∷ 0 ∷ 1 ∷ []) long) c.if-iv-eq12.true)

pub returns-clause-block : goal.returns-clause-block
unfolding pre_counter_block
returns-clause-block c = λ e held.
    let iv : List ℕ = c.args.iv.now in
    let h : ℕ = hash_subkey e in
    let lens : List ℕ = replicate 8 0 ++ to_be_bytes w64 (length iv * 8) in
    let short : List ℕ = iv ++ 0 ∷ 0 ∷ 0 ∷ 1 ∷ [] in
    let long : List ℕ = ghash_bytes h (padded iv ++ lens) in
    let taken = c.update.ensures h (blocks (padded iv)) (c.absorb.ensures h _ held) in
    let hash : c.finish-block.result ≡ long =
    c.finish-block.ensures h _ taken ∙ ap (λ bs. to_be_bytes w128 (ghash h bs)) (ap (λ l. blocks (padded iv) ++ from_be_bytes w128 l ∷ []) c.lengths.ensures ∙ counter_blocks iv lens refl) in
    let test : eqb (length iv) 12 ≡ false = ⊎_elim (λ p. absurd (c.if-iv-eq12.false p.1)) (λ p. p.0) (eqb_tells (length iv) 12) in
    hash ∙ sym (ap (λ b. cond b short long) test)

pub returns-clause-hash : goal.returns-clause-hash
returns-clause-hash c = λ h held. c.restart.ensures h _ (c.update.ensures h _ (c.absorb.ensures h _ held))
