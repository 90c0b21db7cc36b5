-- The last event of a history that settles is one, and so is the doubt that it leaves open.
use Rattle.std.proofs.Common.{◌≡◌, ℕ, true, false, true≢false, List, [], ◌∷◌, ◌++◌, Some, None, refl, sym, ap, ◌∙◌, subst}
use Rattle.std.specs.List.{list_any}
use Rattle.store_model.specs.declared.event.Event.{Event}
use Rattle.store_model.specs.declared.event.Event.TheVariants.{Call as CallEvent, Landed}
use Rattle.store_model.specs.declared.event.Mark.TheVariants.{Doubtful}
use Rattle.store_model.specs.Record.{events_of}
use Rattle.history_seats.specs.Records.{HistoryRecord}
use Rattle.history_seats.specs.Settling.{HasMark, IsOpenDoubt, is_doubtful, is_doubtful_mark, is_settling_mark, settles}
use Rattle.history_seats.proofs.Lists.{or_left, or_right}
use Rattle.core_laws.proofs.Places.{head_same, tail_same}
use Rattle.core_laws.specs.EventAnswers.{OpenDoubtsAreHeld}

-- no event of these settles
abbrev pub NoneSettles : List HistoryRecord → Type 0
NoneSettles records = list_any settles (events_of records) ≡ false

one_settles : (front back : List HistoryRecord) (d : HistoryRecord) → settles d.event ≡ true → list_any settles (events_of (front ++ d ∷ back)) ≡ true
one_settles [] back d is = or_left (settles d.event) (list_any settles (events_of back)) is
one_settles (x ∷ front) back d is = or_right (settles x.event) (list_any settles (events_of (front ++ d ∷ back))) (one_settles front back d is)

-- where none settles, no event there does
not_within : (front back rest : List HistoryRecord) (d : HistoryRecord) → rest ≡ front ++ d ∷ back → NoneSettles rest → settles d.event ≡ true → ⊥
not_within front back rest d is none settled = true≢false (sym (one_settles front back d settled) ∙ ap (λ (l : List HistoryRecord). list_any settles (events_of l)) (sym is) ∙ none)

pub one_last : (front back more rest : List HistoryRecord) (d e : HistoryRecord) → front ++ d ∷ back ≡ more ++ e ∷ rest → NoneSettles back → NoneSettles rest
    → settles d.event ≡ true → settles e.event ≡ true → d ≡ e
one_last [] back [] rest d e is none other first second = head_same d e back rest is
one_last [] back (x ∷ more) rest d e is none other first second = absurd (not_within more rest back e (tail_same d x back (more ++ e ∷ rest) is) none second)
one_last (x ∷ front) back [] rest d e is none other first second = absurd (not_within front back rest d (sym (tail_same x e (front ++ d ∷ back) rest is)) other first)
one_last (x ∷ front) back (y ∷ more) rest d e is none other first second =
    one_last front back more rest d e (tail_same x y (front ++ d ∷ back) (more ++ e ∷ rest) is) none other first second

-- a doubtful event settles the doubt before it
doubtful_settles : (number : ℕ) (event : Event) → HasMark (Doubtful number) event → settles event ≡ true
doubtful_settles number (CallEvent session n call reply mark) is = ap is_settling_mark is
doubtful_settles number (Landed commit) is = absurd is

doubts : (number : ℕ) (event : Event) → HasMark (Doubtful number) event → is_doubtful event ≡ true
doubts number (CallEvent session n call reply mark) is = ap is_doubtful_mark is
doubts number (Landed commit) is = absurd is

-- behind an event that settles and leaves no doubt none is open
pub closed : (number z : ℕ) (all : List HistoryRecord) (r : HistoryRecord) → settles r.event ≡ true → is_doubtful r.event ≡ false → IsOpenDoubt number z (all ++ r ∷ []) → ⊥
closed number z all r settled off open_ =
    let same : open_.doubted ≡ r = one_last open_.front open_.back all [] open_.doubted r open_.is open_.last refl (doubtful_settles number open_.doubted.event open_.marked) settled in
    true≢false (sym (doubts number open_.doubted.event open_.marked) ∙ ap (λ (x : HistoryRecord). is_doubtful x.event) same ∙ off)

same_number : (a b : ℕ) (event : Event) → HasMark (Doubtful a) event → HasMark (Doubtful b) event → a ≡ b
same_number a b (CallEvent session n call reply mark) is other = let both : Doubtful a ≡ Doubtful b = sym is ∙ other in cc (both)
same_number a b (Landed commit) is other = absurd is

-- two doubts that are open are one
one_doubt : (a b z : ℕ) (records : List HistoryRecord) → IsOpenDoubt a z records → IsOpenDoubt b z records → a ≡ b
one_doubt a b z records one other =
    let same : one.doubted ≡ other.doubted =
    one_last one.front one.back other.front other.back one.doubted other.doubted (one.is ∙ sym other.is) one.last other.last (doubtful_settles a one.doubted.event one.marked) (doubtful_settles b other.doubted.event other.marked) in
    same_number a b other.doubted.event (subst (λ (x : HistoryRecord). HasMark (Doubtful a) x.event) same one.marked) other.marked

pub doubts_held : OpenDoubtsAreHeld
doubts_held store view entries counter None tied number open_ scenario answered = absurd (tied.doubt number open_)
doubts_held store view entries counter (Some d) tied number open_ scenario answered =
    let x = tied.doubt.stands scenario answered in
    (x.doubt, x.is_open, x.number ∙ one_doubt d.number number view.decided view.all tied.doubt.is_open open_)
