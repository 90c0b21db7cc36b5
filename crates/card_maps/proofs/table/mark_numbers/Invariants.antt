use Rattle.std.proofs.Common.{◌≡◌, ℕ, ◌<◌, ◌==◌, cond, take, true, get_or}
use Rattle.std.specs.List.{list_any}
use Rattle.card_maps.proofs.table.mark_numbers.Given as goal

abbrev pub invariant-loop-number : goal.invariant-loop-number
invariant-loop-number l =
    (d : ℕ) → d < 256 → get_or l.used d true ≡ cond (list_any (λ n. n == d) (take l.number-index l.numbers)) l.is_used (get_or l.initial.used d true)
