use Rattle.std.proofs.Common.{◌≡◌, ℕ, ◌<◌, ◌≤◌, true}
use Rattle.card_maps.specs.Form.{is_field}
use Rattle.card_maps.proofs.form.field_fault.Given as goal

abbrev pub invariant-loop-at : goal.invariant-loop-at
invariant-loop-at l = (k : ℕ) → 80 ≤ k → k < l.at → is_field l.block k ≡ true
