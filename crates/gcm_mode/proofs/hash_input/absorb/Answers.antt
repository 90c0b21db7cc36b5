use Rattle.std.proofs.Common.{◌≡◌, ℕ, ◌+◌, ◌*◌, ◌/◌, ◌%◌, ◌<◌, List, [], ◌∷◌, ◌++◌, length, get_or, map, arith, refl, ap, sym, subst, ◌∙◌, append_assoc}
use Rattle.std.proofs.lemmas.List.{append-nil, get_or-drop}
use Rattle.std.specs.Int.{w128, from_be_bytes}
use Rattle.gcm_mode.specs.ByteBlocks.{first_blocks}
use Rattle.ghash_field.specs.Hasher.{Holds}
use Rattle.gcm_mode.proofs.WholeBlocks.{blocks-whole, blocks-partial, first_blocks-none}
use Rattle.gcm_mode.proofs.Chunks.{block_more, group_more}
use Rattle.gcm_mode.proofs.hash_input.absorb.Goals as goal

pub groups-init : goal.groups-init
groups-init c = λ h xs held.
    subst (Holds c.args.hash.now h) (sym (append-nil xs) ∙ ap (λ bs. xs ++ bs) (first_blocks-none c.args.bytes.now)) held

pub groups-preserved : goal.groups-preserved
groups-preserved c = λ h xs held.
    let i : ℕ = c.groups.group-index in
    let bytes : List ℕ = c.args.bytes.now in
    let chunks : List (List ℕ) = c.as_chunks.result.0.now in
    let group : List (List ℕ) = get_or c.as_chunks-2.result.0.now i [] in
    let lt : i < length chunks / 4 = omega (arith, c.groups-test.true, c.as_chunks-2.ensures.front_len) in
    subst (Holds c.update_four.new.self h)
    (append_assoc xs (first_blocks bytes (4 * i)) (map (from_be_bytes w128) group)
    ∙ ap (λ bs. xs ++ bs) (group_more bytes chunks i group (c.as_chunks.ensures.front, c.as_chunks.ensures.front_len) lt (ap (λ gs. get_or gs i []) c.as_chunks-2.ensures.front)))
    (c.update_four.ensures h (xs ++ first_blocks bytes (4 * i)) (c.groups.invariant h xs held))

pub others-preserved : goal.others-preserved
others-preserved c = λ h xs held.
    let bytes : List ℕ = c.args.bytes.now in
    let chunks : List (List ℕ) = c.as_chunks.result.0.now in
    let n : ℕ = length bytes / 16 in
    let j : ℕ = 4 * (n / 4) + c.others.block-index in
    let place : length chunks / 4 * 4 + c.others.block-index ≡ j = omega (arith, c.as_chunks.ensures.front_len) in
    let block : List ℕ = get_or c.as_chunks-2.result.1.now c.others.block-index [] in
    let same : block ≡ get_or chunks j [] =
    ap (λ bs. get_or bs c.others.block-index []) c.as_chunks-2.ensures.back
    ∙ get_or-drop (length chunks / 4 * 4) chunks c.others.block-index [] ∙ ap (λ k. get_or chunks k []) place in
    let lt : j < n = omega (arith, c.others-test.true, c.as_chunks-2.ensures.back_len, c.as_chunks.ensures.front_len) in
    let next : j + 1 ≡ 4 * (n / 4) + (c.others.block-index + 1) = omega arith in
    subst (Holds c.update.new.self h)
    (append_assoc xs (first_blocks bytes j) (from_be_bytes w128 block ∷ [])
    ∙ ap (λ bs. xs ++ bs) (block_more bytes chunks j block (c.as_chunks.ensures.front, c.as_chunks.ensures.front_len) lt same ∙ ap (first_blocks bytes) next))
    (c.update.ensures h (xs ++ first_blocks bytes j) (c.others.invariant h xs held))

pub returns-then-rest-gt0 : goal.returns-then-rest-gt0
returns-then-rest-gt0 c = λ h xs held.
    let bytes : List ℕ = c.args.bytes.now in
    let n : ℕ = length bytes / 16 in
    let j : ℕ = 4 * (n / 4) + c.others.block-index in
    let at : j ≡ n = omega (arith, c.others-test.false, c.others.auto.block-index-end, c.as_chunks-2.ensures.back_len, c.as_chunks.ensures.front_len) in
    let part : List ℕ = c.as_chunks.result.1.now in
    subst (Holds c.update-then-rest-gt0.new.self h)
    (append_assoc xs (first_blocks bytes j) _
    ∙ ap (λ bs. xs ++ bs) ((λ t. first_blocks bytes (at t) ++ from_be_bytes w128 (c.filled.ensures t) ∷ [])
    ∙ blocks-partial bytes part n (length part) refl c.as_chunks.ensures.back refl c.if-rest-gt0.true))
    (c.update-then-rest-gt0.ensures h (xs ++ first_blocks bytes j) (c.others.invariant h xs held))

pub returns-else-rest-gt0 : goal.returns-else-rest-gt0
returns-else-rest-gt0 c = λ h xs held.
    let bytes : List ℕ = c.args.bytes.now in
    let n : ℕ = length bytes / 16 in
    let j : ℕ = 4 * (n / 4) + c.others.block-index in
    let at : j ≡ n = omega (arith, c.others-test.false, c.others.auto.block-index-end, c.as_chunks-2.ensures.back_len, c.as_chunks.ensures.front_len) in
    let whole : length bytes % 16 ≡ 0 = omega (arith, c.if-rest-gt0.false, c.as_chunks.ensures.back_len) in
    subst (Holds c.others.hash h) (ap (λ bs. xs ++ bs) (ap (first_blocks bytes) at ∙ blocks-whole bytes whole)) (c.others.invariant h xs held)
