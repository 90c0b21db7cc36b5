use Rattle.std.proofs.Common.{◌≡◌, ℕ, ◌<◌, false, get_or, length, None}
use Rattle.std.specs.Prelude.{is_some}
use Rattle.card_maps.specs.Tables.{live_changed}
use Rattle.card_maps.proofs.table.live_flags.Given as goal

abbrev pub invariant-loop-b : goal.invariant-loop-b
invariant-loop-b l =
    ((c : ℕ) → c < l.b → get_or l.live c false ≡ live_changed (λ k. is_some (get_or l.entries k None)) l.change c) × (length l.live ≡ 256)
