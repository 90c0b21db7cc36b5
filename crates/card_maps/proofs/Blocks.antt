-- Block 0 stays.
use Rattle.std.proofs.Common.{◌≡◌, ◌≢◌, ◌⊎◌, ℕ, zero, suc, ◌==◌, Bool, true, false, cond, List, [], ◌∷◌, refl, ap, ◌∙◌}
use Rattle.std.specs.Prelude.{slice_index_or, slice_set}
use Rattle.rpmb_card.specs.Card.{CardState}
use Rattle.rpmb_card.specs.Protocol.{done_result}
use Rattle.rpmb_host.specs.Honest.{write_end}
use Rattle.card_maps.specs.Steps.{HasMap, HasPut, HasRemoved, IsCardRun, IsCardWrite, RunsKeepBlockZero}

first_stays : (blocks : List (List ℕ)) (address : ℕ) (block : List ℕ) → address ≢ 0 → slice_index_or (slice_set blocks address block) 0 [] ≡ slice_index_or blocks 0 []
first_stays [] zero block ne = absurd (ne refl)
first_stays [] (suc address) block ne = refl
first_stays (x ∷ blocks) zero block ne = absurd (ne refl)
first_stays (x ∷ blocks) (suc address) block ne = refl

write_keeps : (old new : CardState) → IsCardWrite old new → slice_index_or new.blocks 0 [] ≡ slice_index_or old.blocks 0 []
write_keeps old new w = ap (λ (c : CardState). slice_index_or c.blocks 0 []) w.is ∙ by_end (write_end old w.address w.counter == done_result)
  where
    by_end : (b : Bool) → slice_index_or (cond b (slice_set old.blocks w.address w.block) old.blocks) 0 [] ≡ slice_index_or old.blocks 0 []
    by_end true = first_stays old.blocks w.address w.block w.apart
    by_end false = refl

run_keeps : (Holds : CardState → Type 0) (old new : CardState) (between : List CardState) → IsCardRun Holds old between new → slice_index_or new.blocks 0 [] ≡ slice_index_or old.blocks 0 []
run_keeps Holds old new [] run = ap (λ (c : CardState). slice_index_or c.blocks 0 []) run.1
run_keeps Holds old new (next ∷ between) run = run_keeps Holds next new between run.2 ∙ write_keeps old next run.1

pub block_zero_stays : RunsKeepBlockZero
block_zero_stays m name bytes old new = (
  (λ runs. run_keeps (λ card. HasMap m card ⊎ HasPut m name bytes card) old new runs.between runs.run),
  (λ runs. run_keeps (λ card. HasMap m card ⊎ HasRemoved m name card) old new runs.between runs.run),
)
