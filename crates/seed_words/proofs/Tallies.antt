-- A tally of some events, and of one more.
use Rattle.std.proofs.Common.{◌≡◌, ◌+◌, ◌<◌, ◌≤◌, ◌^◌, ℕ, Bool, true, false, List, length, take, get_or, Some, refl, sym, ap, ◌∙◌, arith}
use Rattle.std.specs.Prelude.{count_by, slice_get}
use Rattle.std.proofs.lemmas.List.{length-take-le, take_all}
use Rattle.std.proofs.lemmas.Option.{get_or_from_slice_get}
use Rattle.std.proofs.lemmas.List.Sums.{count_by-le-length, count_by_more_no, count_by_more_yes}
use Rattle.store_model.specs.declared.event.Event.{Event}
use Rattle.seed_words.specs.declared.soak_outcome.Tally.{Tally}
use Rattle.seed_words.specs.Outcome.{is_answered, is_good, is_other, is_refused, tally_of}
use Rattle.seed_words.specs.Tallies.{HasRoom, one_if, with_event}

count_more : (test : Event → Bool) (events : List Event) (i : ℕ) (event : Event) → i < length events → get_or events i event ≡ event → count_by test (take i events) + one_if (test event) ≡ count_by test (take (i + 1) events)
count_more test events i event lt at = cases (test event) refl
  where
    cases : (b : Bool) → test event ≡ b → count_by test (take i events) + one_if b ≡ count_by test (take (i + 1) events)
    cases true h = sym (count_by_more_yes test events i event lt (ap test at ∙ h))
    cases false h = omega (arith, count_by_more_no test events i event lt (ap test at ∙ h))

tally : (calls good refused other calls' good' refused' other' : ℕ) → calls ≡ calls' → good ≡ good' → refused ≡ refused' → other ≡ other'
    → (let t : Tally = record { calls = calls; good = good; refused = refused; other = other } in t) ≡ record { calls = calls'; good = good'; refused = refused'; other = other' }
tally calls good refused other calls' good' refused' other' a b c d = rw (a, b, c, d)

pub tally_of-more : (events : List Event) (i : ℕ) (event : Event) → i < length events → slice_get events i ≡ Some event → with_event (tally_of (take i events)) event ≡ tally_of (take (i + 1) events)
tally_of-more events i event lt is =
    let at : get_or events i event ≡ event = get_or_from_slice_get events i event event is in
    tally _ _ _ _ _ _ _ _
    (count_more (is_answered (λ reply. true)) events i event lt at) (count_more (is_answered is_good) events i event lt at) (count_more (is_answered is_refused) events i event lt at)
    (count_more (is_answered is_other) events i event lt at)

count_room : (test : Event → Bool) (events : List Event) (i : ℕ) → i < length events → length events < 2 ^ 64 → count_by test (take i events) + 1 < 2 ^ 64
count_room test events i lt small = omega (arith, count_by-le-length test (take i events), length-take-le i events (omega arith))

pub tally_of-room : (events : List Event) (i : ℕ) → i < length events → length events < 2 ^ 64 → HasRoom (tally_of (take i events))
tally_of-room events i lt small = record {
  calls = count_room (is_answered (λ reply. true)) events i lt small;
  good = count_room (is_answered is_good) events i lt small;
  refused = count_room (is_answered is_refused) events i lt small;
  other = count_room (is_answered is_other) events i lt small;
}

pub tally_of-all : (events : List Event) (i : ℕ) → length events ≤ i → tally_of (take i events) ≡ tally_of events
tally_of-all events i le = ap tally_of (take_all i events le)
