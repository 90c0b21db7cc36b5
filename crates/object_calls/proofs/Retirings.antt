-- Seats that are taken in for good: what they knew agreed with the history, whichever of them came before.
use Rattle.std.proofs.Common.{◌≡◌, ◌-◌, ◌<◌, ◌≤◌, ℕ, List, length, take, get_or, slice_index_or, refl, sym, ap, ◌∙◌, subst, inl, inr, arith}
use Rattle.std.proofs.lemmas.Bool.{cases_lt}
use Rattle.std.proofs.lemmas.List.{get_or_default, take_all}
use Rattle.disk_model.specs.State.{FileState}
use Rattle.store_model.specs.History.{AreNumbered, count_of}
use Rattle.store_model.specs.Record.{events_of}
use Rattle.history_seats.specs.Records.{HistoryRecord}
use Rattle.history_seats.specs.Rule.{PassFits, SlotFits}
use Rattle.history_seats.specs.Tags.{AreTagged}
use Rattle.history_seats.specs.Views.{GateView, PassView, SlotView}
use Rattle.history_seats.proofs.Keeping.{keep_pass, keep_slot}
use Rattle.core_laws.specs.Stores.{Store}
use Rattle.serial_calls.specs.Journals.{JournalValue}
use Rattle.serial_calls.specs.CallerSessions.{CallerSession}
use Rattle.serial_calls.specs.SessionViews.{BeginsAll}
use Rattle.serial_calls.specs.SlotValues.{SlotValue}
use Rattle.object_calls.specs.FinishedPhase.{HasCounted}
use Rattle.object_calls.specs.Retiring.{AreRecorded, IsPlaced, IsRetired}
use Rattle.object_calls.proofs.Stacks.{last_of_all, rest_of_all}

-- The views have the same history: they differ at most in which seats are out.
pub record IsSameHistory (old new : GateView) : Type 0 where
  pub mounted : new.mounted ≡ old.mounted
  pub all : new.all ≡ old.all
  pub decided : new.decided ≡ old.decided

pub same_itself : (view : GateView) → IsSameHistory view view
same_itself view = record { mounted = refl; all = refl; decided = refl }

pub same_then : (a b c : GateView) → IsSameHistory a b → IsSameHistory b c → IsSameHistory a c
same_then a b c x y = record { mounted = y.mounted ∙ x.mounted; all = y.all ∙ x.all; decided = y.decided ∙ x.decided }

-- the journal, but for the sessions whose seats are out
abbrev pub with_sessions : JournalValue → List ℕ → JournalValue
with_sessions j sessions = record j { knows = record j.knows { sessions = sessions } }

pub sessions_then : (a b c : JournalValue) (sessions : List ℕ) → b ≡ with_sessions a b.knows.sessions → c ≡ with_sessions b sessions → c ≡ with_sessions a c.knows.sessions
sessions_then a b c sessions first second =
    second ∙ ap (λ (j : JournalValue). with_sessions j sessions) first ∙ ap (with_sessions a) (sym (ap (λ (j : JournalValue). j.knows.sessions) second))

pub sessions_same : (a b : JournalValue) (sessions : List ℕ) → b ≡ with_sessions a sessions → IsSameHistory a.knows b.knows
sessions_same a b sessions is = record {
  mounted = ap (λ (j : JournalValue). j.knows.mounted) is;
  all = ap (λ (j : JournalValue). j.knows.all) is;
  decided = ap (λ (j : JournalValue). j.knows.decided) is;
}

-- and but for the files
abbrev pub with_files : JournalValue → List ℕ → JournalValue
with_files j files = record j { knows = record j.knows { files = files } }

pub files_then : (a b c : JournalValue) (files : List ℕ) → b ≡ with_files a b.knows.files → c ≡ with_files b files → c ≡ with_files a c.knows.files
files_then a b c files first second =
    second ∙ ap (λ (j : JournalValue). with_files j files) first ∙ ap (with_files a) (sym (ap (λ (j : JournalValue). j.knows.files) second))

pub files_same : (a b : JournalValue) (files : List ℕ) → b ≡ with_files a files → IsSameHistory a.knows b.knows
files_same a b files is = record {
  mounted = ap (λ (j : JournalValue). j.knows.mounted) is;
  all = ap (λ (j : JournalValue). j.knows.all) is;
  decided = ap (λ (j : JournalValue). j.knows.decided) is;
}

module _ (old new : GateView) (same : IsSameHistory old new) where
  slot_back : (s : SlotView) → SlotFits new s → SlotFits old s
  slot_back s fits = keep_slot new old s (sym same.all) (λ is. sym same.mounted ∙ is) (sym same.decided) fits

  pass_back : (p : PassView) → PassFits new p → PassFits old p
  pass_back p fits = keep_pass new old p (sym same.all) (λ is. sym same.mounted ∙ is) (sym same.decided) fits

  pub retired_back : (store : Store) (slot : SlotValue) → IsRetired store new slot → IsRetired store old slot
  retired_back store slot r = record { seat = r.seat; is = r.is; own = r.own; fits = slot_back r.seat.knows r.fits }

  pub placed_back : (store : Store) (slots : List SlotValue) (n : ℕ) (left : FileState) → IsPlaced store new slots n left → IsPlaced store old slots n left
  placed_back store slots n left p = record {
    slot = p.slot;
    among = p.among;
    number = p.number;
    file = p.file;
    seat = p.seat;
    is = p.is;
    own = p.own;
    fits = slot_back p.seat.knows p.fits;
  }

  pub counted_back : {E : Type 0} (s : CallerSession E) → BeginsAll new s.pass → s.made ≡ count_of s.number (events_of new.all) → HasCounted old s
  counted_back s begins made = record {
    begins = record { seat = begins.seat; is = begins.is; fits = pass_back begins.seat.knows begins.fits; within = subst (λ (x : ℕ × List HistoryRecord). x.0 ≤ length x.1) (λ i. (same.decided i, same.all i)) begins.within };
    made = made ∙ ap (λ (l : List HistoryRecord). count_of s.number (events_of l)) same.all;
  }

  pub recorded_back : AreRecorded new → AreRecorded old
  recorded_back r = record { numbered = subst (λ (l : List HistoryRecord). AreNumbered (events_of l)) same.all r.numbered; tagged = subst AreTagged same.all r.tagged }

-- THE SESSIONS
-- the last sessions are retired
pub record AreLastCounted {E : Type 0} (view : GateView) (sessions : List (CallerSession E)) (now : GateView) (left : List (CallerSession E)) : Type 0 where
  pub same : IsSameHistory view now
  pub few : length left ≤ length sessions
  pub left_are : left ≡ take (length left) sessions
  pub counted : (i : ℕ) (d : CallerSession E) → length left ≤ i → i < length sessions → HasCounted view (slice_index_or sessions i d)

module _ {E : Type 0} (view : GateView) (sessions : List (CallerSession E)) where
  pub none_counted : AreLastCounted view sessions view sessions
  none_counted = record {
    same = same_itself view;
    few = omega arith;
    left_are = sym (take_all (length sessions) sessions (omega arith));
    counted = λ i d from within. absurd (omega (arith, from, within));
  }

  module _ (now : GateView) (left : List (CallerSession E)) (s : AreLastCounted view sessions now left) (some : 0 < length left) where
    pub one_counted : (after : GateView) (session : CallerSession E) (rest : List (CallerSession E)) → session ≡ get_or left (length left - 1) session
        → rest ≡ take (length left - 1) left → BeginsAll now session.pass → session.made ≡ count_of session.number (events_of now.all) → IsSameHistory now after
        → AreLastCounted view sessions after rest
    one_counted after session rest is rest_is begins made next =
        let others = rest_of_all sessions left s.left_are rest rest_is in
        record {
          same = same_then view now after s.same next;
          few = omega (arith, others.0, s.few);
          left_are = others.1;
          counted = λ i d from within. elim (cases_lt i (length left)) [
            | inl here ↦
                let place : i ≡ length left - 1 = omega (arith, from, others.0, here) in
                let now_is : slice_index_or sessions i d ≡ session =
                ap (λ (k : ℕ). get_or sessions k d) place ∙ get_or_default sessions (length left - 1) d session (omega (arith, s.few, some)) ∙ sym (last_of_all sessions left s.left_are session some is) in
                subst (HasCounted view) (sym now_is) (counted_back view now s.same session begins made)
            | inr later ↦ s.counted i d (omega (arith, later)) within
          ];
        }

  pub all_counted : (now : GateView) (left : List (CallerSession E)) → AreLastCounted view sessions now left → length left ≡ 0 → (i : ℕ) (d : CallerSession E) → i < length sessions
      → HasCounted view (slice_index_or sessions i d)
  all_counted now left s none i d within = s.counted i d (omega (arith, none)) within
