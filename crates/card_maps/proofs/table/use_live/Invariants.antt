use Rattle.std.proofs.Common.{◌≡◌, ℕ, ◌<◌, ◌&&◌, ◌||◌, true, get_or}
use Rattle.std.specs.Prelude.{nat_lt}
use Rattle.card_maps.specs.Form.{is_live}
use Rattle.card_maps.proofs.table.use_live.Given as goal

abbrev pub invariant-loop-b : goal.invariant-loop-b
invariant-loop-b l = (d : ℕ) → d < 256 → get_or l.used d true ≡ (get_or l.initial.used d true || (nat_lt d l.b && is_live l.map d))
