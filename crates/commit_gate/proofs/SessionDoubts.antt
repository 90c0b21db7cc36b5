-- A session's own commit in doubt, in records that hold it.
use Rattle.std.proofs.Common.{◌≡◌, ◌==◌, ◌+◌, ◌≤◌, ℕ, suc, Bool, true, false, true≢false, List, [], ◌∷◌, ◌++◌, length, drop, Option, Some, None, refl, sym, ap, ◌∙◌, subst, append_assoc, add-one}
use Rattle.std.proofs.lemmas.Bool.{cond-false}
use Rattle.store_model.specs.declared.event.Event.{Event}
use Rattle.store_model.specs.declared.event.Event.TheVariants.{Call as CallEvent, Landed}
use Rattle.store_model.specs.declared.event.Mark.TheVariants.{Unchanged, Made, Doubtful}
use Rattle.store_model.specs.Doubt.{Doubt}
use Rattle.store_model.specs.Machine.{Session}
use Rattle.store_model.specs.Record.{file_of}
use Rattle.store_model.specs.ReplayState.{ReplayState, keeps_doubt, replay, replay_after}
use Rattle.store_model.proofs.Sessions.{replay-append}
use Rattle.history_seats.specs.Records.{HistoryRecord, is_event_of}
use Rattle.history_seats.specs.Settling.{HasMark, Pending, as_landed, calm, dropped, is_doubtful, is_landing, settled, settled_by, settles, settling}
use Rattle.history_seats.proofs.Lists.{neither, or_false}
use Rattle.history_seats.proofs.Places.{any_settles}
use Rattle.commit_gate.specs.CallerSessions.{IsOwnDoubt}

-- the doubt, if there is one, is of that session
abbrev pub IsOfSession : ℕ → Option Doubt → Type 0
IsOfSession i doubt = (d : Doubt) → doubt ≡ Some d → (d.session == i) ≡ true

quiet-of : (i : ℕ) (s : ReplayState) (event : Event) (file : Option ℕ) → settles event ≡ false → IsOfSession i s.doubt → IsOfSession i (replay_after s event file).doubt
quiet-of i s (CallEvent session number call reply Unchanged) file off own d is = by_test (keeps_doubt reply) is
  where
    by_test : (b : Bool) → elim b as (λ _. Option Doubt) [ true ↦ s.doubt | false ↦ None ] ≡ Some d → (d.session == i) ≡ true
    by_test true e = own d e
    by_test false e = absurd (cc (e))
quiet-of i s (CallEvent session number call reply (Made commit)) file off own d is = absurd (true≢false off)
quiet-of i s (CallEvent session number call reply (Doubtful commit)) file off own d is = absurd (true≢false off)
quiet-of i s (Landed commit) file off own d is = absurd (true≢false off)

own-after : (i : ℕ) (s : ReplayState) (records : List HistoryRecord) → any_settles records ≡ false → IsOfSession i s.doubt → IsOfSession i (replay s records).doubt
own-after i s [] none own = own
own-after i s (r ∷ records) none own =
    let parts = neither (settles r.event) (any_settles records) none in
    own-after i (replay_after s r.event (file_of r)) records parts.1 (quiet-of i s r.event (file_of r) parts.0 own)

own-doubtful : (i : ℕ) (s : ReplayState) (event : Event) (file : Option ℕ) → is_event_of i event ≡ true → is_doubtful event ≡ true
    → IsOfSession i (replay_after s event file).doubt
own-doubtful i s (CallEvent session number call reply (Doubtful commit)) file own doubtful d is =
    let same : session ≡ d.session = cc in
    ap (λ (n : ℕ). n == i) (sym same) ∙ own
own-doubtful i s (CallEvent session number call reply Unchanged) file own doubtful d is = absurd (true≢false (sym doubtful))
own-doubtful i s (CallEvent session number call reply (Made commit)) file own doubtful d is = absurd (true≢false (sym doubtful))
own-doubtful i s (Landed commit) file own doubtful d is = absurd (true≢false (sym doubtful))

-- behind the session's commit in doubt, with nothing that settles it, the replay's doubt is the session's
pub own-replay : (i : ℕ) (s : ReplayState) (front : List HistoryRecord) (doubted : HistoryRecord) (back : List HistoryRecord) → is_event_of i doubted.event ≡ true
    → is_doubtful doubted.event ≡ true → any_settles back ≡ false → IsOfSession i (replay s (front ++ doubted ∷ back)).doubt
own-replay i s front doubted back own doubtful none =
    subst (λ (t : ReplayState). IsOfSession i t.doubt) (sym (replay-append s front (doubted ∷ back)))
    (own-after i (replay_after (replay s front) doubted.event (file_of doubted)) back none (own-doubtful i (replay s front) doubted.event (file_of doubted) own doubtful))

-- the number of a commit in doubt
pub doubt-number : (event : Event) → is_doubtful event ≡ true → (commit : ℕ) × HasMark (Doubtful commit) event
doubt-number (CallEvent session number call reply (Doubtful commit)) doubtful = (commit, refl)
doubt-number (CallEvent session number call reply Unchanged) doubtful = absurd (true≢false (sym doubtful))
doubt-number (CallEvent session number call reply (Made commit)) doubtful = absurd (true≢false (sym doubtful))
doubt-number (Landed commit) doubtful = absurd (true≢false (sym doubtful))

-- what is behind one record of a list
pub drop-behind : (front : List HistoryRecord) (d : HistoryRecord) (back : List HistoryRecord) → drop (length front + 1) (front ++ d ∷ back) ≡ back
drop-behind front d back = rw add-one (one front)
  where
    one : (front : List HistoryRecord) → drop (suc (length front)) (front ++ d ∷ back) ≡ back
    one [] = refl
    one (x ∷ front) = one front

-- what settles is past records of which none does
pub settling-past : (back rest : List HistoryRecord) → any_settles back ≡ false → settling (back ++ rest) ≡ settling rest
settling-past [] rest none = refl
settling-past (r ∷ back) rest none =
    let parts = neither (settles r.event) (any_settles back) none in
    cond-false (settles r.event) (Some r.event) (settling (back ++ rest)) parts.0 ∙ settling-past back rest parts.1

pub none-both : (back rest : List HistoryRecord) → any_settles back ≡ false → any_settles rest ≡ false → any_settles (back ++ rest) ≡ false
none-both [] rest none also = also
none-both (r ∷ back) rest none also =
    let parts = neither (settles r.event) (any_settles back) none in
    or_false (settles r.event) (any_settles (back ++ rest)) parts.0 (none-both back rest parts.1 also)

-- the session's commit in doubt stays so behind records that settle nothing
pub longer-own : (i : ℕ) (seen rest whole : List HistoryRecord) (decided after place : ℕ) → IsOwnDoubt i seen decided place → seen ++ rest ≡ whole
    → any_settles rest ≡ false → after ≤ place → IsOwnDoubt i whole after place
longer-own i seen rest whole decided after place own is none late = record {
  front = own.front;
  doubted = own.doubted;
  back = own.back ++ rest;
  is = sym (append_assoc own.front (own.doubted ∷ own.back) rest) ∙ ap (λ (l : List HistoryRecord). l ++ rest) own.is ∙ is;
  at = own.at;
  own = own.own;
  doubtful = own.doubtful;
  last = none-both own.back rest own.last none;
  late = late;
}

-- a landing lands, and a commit drops
pub landing-lands : (event : Event) (p : Pending Session) → is_landing event ≡ true → settled_by event p ≡ as_landed p
landing-lands (CallEvent session number call reply mark) p lands = absurd (true≢false (sym lands))
landing-lands (Landed commit) p lands = refl

pub commit-drops : (event : Event) (p : Pending Session) → settles event ≡ true → is_landing event ≡ false → settled_by event p ≡ dropped p
commit-drops (CallEvent session number call reply Unchanged) p settled_ lands = absurd (true≢false (sym settled_))
commit-drops (CallEvent session number call reply (Made commit)) p settled_ lands = refl
commit-drops (CallEvent session number call reply (Doubtful commit)) p settled_ lands = refl
commit-drops (Landed commit) p settled_ lands = absurd (true≢false lands)

pub settled-calm : (event : Option Event) (x : Session) → settled event (calm x) ≡ calm x
settled-calm None x = refl
settled-calm (Some (CallEvent session number call reply Unchanged)) x = refl
settled-calm (Some (CallEvent session number call reply (Made commit))) x = refl
settled-calm (Some (CallEvent session number call reply (Doubtful commit))) x = refl
settled-calm (Some (Landed commit)) x = refl
