use Rattle.std.proofs.Common.{◌≡◌, ℕ, ◌<◌, ◌≤◌, true}
use Rattle.card_maps.specs.Form.{is_id_byte}
use Rattle.card_maps.proofs.form.id_fault.Given as goal

abbrev pub invariant-loop-at : goal.invariant-loop-at
invariant-loop-at l = (k : ℕ) → 16 ≤ k → k < l.at → is_id_byte l.block k ≡ true
