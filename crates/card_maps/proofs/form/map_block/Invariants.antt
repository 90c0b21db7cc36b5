use Rattle.std.proofs.Common.{◌≡◌, ℕ, ◌<◌, ◌≤◌, false, get_or, length}
use Rattle.card_maps.specs.Puts.{live_byte}
use Rattle.card_maps.proofs.form.map_block.Given as goal

abbrev pub invariant-loop-j : goal.invariant-loop-j
invariant-loop-j l =
    ((k : ℕ) → k < l.j → get_or l.block k 0 ≡ live_byte (λ c. get_or l.live c false) k) × ((k : ℕ) → l.j ≤ k → get_or l.block k 0 ≡ 0) × (length l.block ≡ 256)
