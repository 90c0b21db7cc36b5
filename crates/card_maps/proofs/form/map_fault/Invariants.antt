use Rattle.std.proofs.Common.{◌≡◌, ℕ, ◌<◌, ◌≤◌, true}
use Rattle.card_maps.specs.Form.{is_map_byte}
use Rattle.card_maps.proofs.form.map_fault.Given as goal

abbrev pub invariant-loop-at : goal.invariant-loop-at
invariant-loop-at l = (k : ℕ) → 0 ≤ k → k < l.at → is_map_byte l.block k ≡ true
