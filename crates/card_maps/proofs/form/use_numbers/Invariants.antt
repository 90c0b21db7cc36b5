use Rattle.std.proofs.Common.{◌≡◌, ℕ, ◌<◌, ◌==◌, ◌||◌, true, get_or, length}
use Rattle.std.specs.List.{list_any, range_with_len}
use Rattle.card_maps.specs.Form.{number_at}
use Rattle.card_maps.specs.Tables.{is_fresh}
use Rattle.card_maps.proofs.form.use_numbers.Given as goal

abbrev pub invariant-loop-i : goal.invariant-loop-i
invariant-loop-i l =
    ((k : ℕ) → k < l.i → is_fresh (λ d. get_or l.initial.used d true) l.block k ≡ true)
    × ((d : ℕ) → d < 256 → get_or l.used d true ≡ (get_or l.initial.used d true || list_any (λ j. number_at l.block j == d) (range_with_len 0 l.i)))
    × (length l.used ≡ 256)
