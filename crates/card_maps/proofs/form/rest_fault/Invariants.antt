use Rattle.std.proofs.Common.{◌≡◌, ◌+◌, ℕ, ◌<◌, ◌≤◌, ◌==◌, true}
use Rattle.card_maps.specs.Form.{byte_at, data_blocks, size_in}
use Rattle.card_maps.proofs.form.rest_fault.Given as goal

abbrev pub invariant-loop-at : goal.invariant-loop-at
invariant-loop-at l = (k : ℕ) → 84 + data_blocks (size_in l.block) ≤ k → k < l.at → (byte_at l.block k == 0) ≡ true
