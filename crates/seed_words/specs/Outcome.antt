-- What came of a soak, in five lines.
use Rattle.std.specs.Prelude.{ℕ, Bool, true, false, not, ◌||◌, List, ◌++◌, count_by, codes, decimal, length}
use Rattle.hex.specs.Hex.{encode_lower}
use Rattle.sha2.specs.Sha256.{sha256}
use Rattle.tee_types.specs.declared.reply.Reply.{Reply}
use Rattle.tee_types.specs.declared.reply.Reply.TheVariants.{Done, Handle, Content, Info, Found, Refused}
use Rattle.store_model.specs.declared.event.Event.{Event}
use Rattle.store_model.specs.declared.event.Event.TheVariants.{Call as CallEvent, Landed}
use Rattle.store_model.specs.Commits.{commits_of}
use Rattle.seed_words.specs.declared.soak_outcome.Tally.{Tally}

-- the call was done
abbrev pub is_good : Reply → Bool
is_good Done = true
is_good (Handle number) = true
is_good (Content bytes) = true
is_good (Info size position flags attributes) = true
is_good (Found id size) = true
is_good _ = false

-- it was refused
abbrev pub is_refused : Reply → Bool
is_refused (Refused code) = true
is_refused _ = false

-- neither
abbrev pub is_other : Reply → Bool
is_other reply = not (is_good reply || is_refused reply)

-- the event is a call, and its reply passes the test
abbrev pub is_answered : (Reply → Bool) → Event → Bool
is_answered test (CallEvent session number call reply mark) = test reply
is_answered test (Landed commit) = false

-- how many calls there are, by their replies
abbrev pub tally_of : List Event → Tally
tally_of events = record {
  calls = count_by (is_answered (λ reply. true)) events;
  good = count_by (is_answered is_good) events;
  refused = count_by (is_answered is_refused) events;
  other = count_by (is_answered is_other) events;
}

abbrev pub number_line : ℕ → List ℕ
number_line number = codes "soak " ++ decimal number ++ codes "\n"

abbrev pub calls_line : Tally → List ℕ
calls_line tally = codes "apps 8 calls " ++ decimal tally.calls ++ codes "\n"

abbrev pub replies_line : Tally → List ℕ
replies_line tally = codes "ok " ++ decimal tally.good ++ codes " refused " ++ decimal tally.refused ++ codes " other " ++ decimal tally.other ++ codes "\n"

abbrev pub commits_line : (commits objects : ℕ) → List ℕ
commits_line commits objects = codes "commits " ++ decimal commits ++ codes " objects " ++ decimal objects ++ codes "\n"

-- the SHA-256 of the lines of the objects
abbrev pub digest_line : List ℕ → List ℕ
digest_line lines = codes "digest " ++ encode_lower (sha256 lines) ++ codes "\n"

-- the text of the soak of that number with these events, where so many objects are left, which have these lines
unfoldable pub soak_lines : (number : ℕ) → List Event → (objects : ℕ) → (lines : List ℕ) → List ℕ
soak_lines number events objects lines =
    number_line number ++ calls_line (tally_of events) ++ replies_line (tally_of events) ++ commits_line (length (commits_of events)) objects ++ digest_line lines
