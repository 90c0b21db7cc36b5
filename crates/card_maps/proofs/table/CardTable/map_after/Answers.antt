use Rattle.std.proofs.Common.{◌≡◌, ℕ, List, Option, None, false, get_or, ap, ◌∙◌}
use Rattle.std.specs.Prelude.{is_some}
use Rattle.card_maps.specs.TableStates.{TableState}
use Rattle.card_maps.specs.Tables.{live_changed, live_of}
use Rattle.card_maps.proofs.Bits.{map_block_alike}
use Rattle.card_maps.proofs.table.CardTable.map_after.Goals as goal

pub returns : goal.returns
returns c =
    let entries : c.deref.result.now ≡ c.args.self.now.entries = c.deref.ensures.value ∙ ap (λ (t : TableState). t.entries) c.self.view_is in
    c.map_block.ensures
    ∙ map_block_alike (λ d. get_or c.live_flags.result d false) (live_changed (live_of c.args.self.now) c.args.change.now) (λ d lt.
    c.live_flags.ensures d lt ∙ ap (λ (es : List (Option (List ℕ))). live_changed (λ k. is_some (get_or es k None)) c.args.change.now d) entries)
