-- A tally with one event more.
use Rattle.std.specs.Prelude.{ℕ, ◌+◌, ◌<◌, ◌^◌, Bool, true, if◌then◌else◌}
use Rattle.store_model.specs.declared.event.Event.{Event}
use Rattle.seed_words.specs.declared.soak_outcome.Tally.{Tally}
use Rattle.seed_words.specs.Outcome.{is_answered, is_good, is_other, is_refused}

-- one, where the test was passed
abbrev pub one_if : Bool → ℕ
one_if passed = if passed then 1 else 0

abbrev pub with_event : Tally → Event → Tally
with_event tally event = record {
  calls = tally.calls + one_if (is_answered (λ reply. true) event);
  good = tally.good + one_if (is_answered is_good event);
  refused = tally.refused + one_if (is_answered is_refused event);
  other = tally.other + one_if (is_answered is_other event);
}

-- Each number of a tally may rise by one.
pub record HasRoom (tally : Tally) : Type 0 where
  pub calls : tally.calls + 1 < 2 ^ 64
  pub good : tally.good + 1 < 2 ^ 64
  pub refused : tally.refused + 1 < 2 ^ 64
  pub other : tally.other + 1 < 2 ^ 64
