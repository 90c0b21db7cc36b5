-- The views of a session: within the history, as it begins, and over what it was shown.
use Rattle.std.proofs.Common.{subst, ◌≡◌, ◌==◌, ◌≤◌, ◌<◌, ℕ, suc, Bool, true, false, cond, List, [], ◌∷◌, ◌++◌, length, map, Some, slice_index_or, refl, sym, ap, ◌∙◌, arith, append_assoc, length-append}
use Rattle.std.proofs.lemmas.List.{length-map}
use Rattle.std.proofs.Math.ListN.{get_or-map}
use Rattle.store_model.specs.declared.event.Event.{Event}
use Rattle.store_model.specs.declared.event.Event.TheVariants.{Call as CallEvent, Landed}
use Rattle.store_model.specs.History.{count_of, numbers_of}
use Rattle.store_model.specs.Machine.{Session, new_session}
use Rattle.store_model.specs.Record.{events_of}
use Rattle.history_seats.specs.Records.{HistoryRecord}
use Rattle.history_seats.specs.Settling.{IsDecidedBelow, calm}
use Rattle.history_seats.specs.Views.{GateView, PassView, Sight}
use Rattle.history_seats.specs.Known.{session_from}
use Rattle.history_seats.specs.Rule.{PassFits}
use Rattle.history_seats.proofs.Doubts.{decided-on}
use Rattle.history_seats.proofs.Numbering.{count-append, count-begins}
use Rattle.history_seats.proofs.Places.{open-calm}
use Rattle.core_laws.specs.Sessions.{IsSessionOf, SessionValue}
use Rattle.core_laws.specs.Stores.{Store, start_under}
use Rattle.commit_gate.specs.CallerSessions.{CallerSession, IsCallerOf, IsOwnDoubt}
use Rattle.commit_gate.specs.Beginnings.{FreshSessionsAreCallers}
use Rattle.commit_gate.specs.SessionViews.{ShownSessionsExtend}
use Rattle.commit_gate.proofs.SessionShowing.{some_same}

-- a doubt of the view stands within the history
pub own-below : (gate : GateView) (pass : PassView) (fits : PassFits gate pass) (i place : ℕ) → IsOwnDoubt i pass.seen pass.decided place → place < length gate.all
own-below gate pass fits i place own =
    let seen : length (own.front ++ own.doubted ∷ own.back) ≡ length pass.seen = ap length own.is in
    let whole : length (pass.seen ++ fits.sees.begins.rest) ≡ length gate.all = ap length fits.sees.begins.is in
    omega (arith, own.at, seen, whole, length-append own.front (own.doubted ∷ own.back), length-append pass.seen fits.sees.begins.rest)

one_more : (b : Bool) (number : ℕ) (numbers : List ℕ) (n : ℕ) → length numbers ≤ n → length (cond b (number ∷ numbers) numbers) ≤ suc n
one_more true number numbers n le = omega (arith, le)
one_more false number numbers n le = omega (arith, le)

count_within : (i : ℕ) (events : List Event) → count_of i events ≤ length events
count_within i [] = omega arith
count_within i (CallEvent session number call reply mark ∷ events) = one_more (session == i) number (numbers_of i events) (length events) (count_within i events)
count_within i (Landed commit ∷ events) = omega (arith, count_within i events)

-- a session has no more events than the history
pub made-below : (gate : GateView) (pass : PassView) → PassFits gate pass → (i made : ℕ) → i ≡ pass.session → made ≡ count_of i (events_of pass.seen) → made ≤ length gate.all
made-below gate pass fits i made own is =
    omega (
      arith,
      is ∙ ap (λ (n : ℕ). count_of n (events_of pass.seen)) own,
      count-begins pass.session pass.seen gate.all fits.sees.begins,
      count_within pass.session (events_of gate.all),
      length-map gate.all (λ (r : HistoryRecord). r.event),
    )

-- a session counts its events of the whole history
pub made-whole : (store : Store) (gate : GateView) (s : SessionValue) → IsSessionOf store s → (seat : Sight PassView) → s.pass ≡ Some seat → PassFits gate seat.knows
    → s.made ≡ count_of s.number (events_of gate.all)
made-whole store gate s x seat is fits =
    let same : x.pass ≡ seat = some_same x.pass seat (sym x.is ∙ is) in
    let own : s.number ≡ (seat.knows).session = x.number ∙ ap (λ (p : Sight PassView). (p.knows).session) same in
    x.made
    ∙ (λ i. count_of (own i) (events_of ((same i).knows).seen))
    ∙ sym (count-begins (seat.knows).session (seat.knows).seen gate.all fits.sees.begins)
    ∙ ap (λ (n : ℕ). count_of n (events_of gate.all)) (sym own)

-- what is drawn from its entropy leaves a session the store's
pub drawn-caller : {E : Type 0} (store : Store) (s : CallerSession E) (entropy : E) → IsCallerOf store s → IsCallerOf store (record s { entropy = entropy })
drawn-caller store s entropy x = record { session = x.session; doubt = x.doubt }

-- what is past a view has no call of its session
pub none-past : (gate : GateView) (pass : PassView) (fits : PassFits gate pass) → count_of pass.session (events_of fits.sees.begins.rest) ≡ 0
none-past gate pass fits =
    omega (
      arith,
      sym (count-append pass.session pass.seen fits.sees.begins.rest) ∙ ap (λ (l : List HistoryRecord). count_of pass.session (events_of l)) fits.sees.begins.is
          ∙ count-begins pass.session pass.seen gate.all fits.sees.begins,
    )

pub shown_extend : ShownSessionsExtend
shown_extend store gate before between after event place x begins sees number e = record {
  old = begins.seat;
  new = e.new;
  was = begins.is;
  is = e.is;
  between = rest ++ e.between;
  last = e.last;
  extends = e.extends ∙ ap (λ (l : List HistoryRecord). l ++ e.last ∷ []) begun;
  event_is = e.event_is;
  none_between = omega (
    arith,
    count-append before.number rest e.between,
    ap (λ (n : ℕ). count_of n (events_of rest)) own ∙ none-past gate begins.seat.knows begins.fits,
    ap (λ (n : ℕ). count_of n (events_of e.between)) (sym number) ∙ e.none_between,
  );
  at = ap length (sym begun) ∙ e.at;
  decided = subst (IsDecidedBelow z 0) (sym whole) (decided-on z gate.decided 0 gate.all (e.between ++ e.last ∷ []) begins.fits.sees.decided_before (omega (arith, begins.within)) begins.fits.sees.decided_below later);
  fair = e.fair;
  number = e.number ∙ number;
}
  where
    rest : List HistoryRecord
    rest = begins.fits.sees.begins.rest

    begun : (e.old.knows).seen ++ e.between ≡ (begins.seat.knows).seen ++ (rest ++ e.between)
    begun =
        ap (λ (l : List HistoryRecord). l ++ e.between)
        (ap (λ (p : Sight PassView). (p.knows).seen) (some_same e.old sees.seat (sym e.was ∙ sees.is)) ∙ sees.whole ∙ sym begins.fits.sees.begins.is)
        ∙ append_assoc (begins.seat.knows).seen rest e.between

    z : ℕ
    z = begins.seat.knows.decided

    same : e.old ≡ sees.seat
    same = some_same e.old sees.seat (sym e.was ∙ sees.is)

    whole : e.new.knows.seen ≡ gate.all ++ (e.between ++ e.last ∷ [])
    whole =
        e.extends
        ∙ ap (λ (l : List HistoryRecord). (l ++ e.between) ++ e.last ∷ []) (ap (λ (p : Sight PassView). (p.knows).seen) same ∙ sees.whole)
        ∙ append_assoc gate.all e.between (e.last ∷ [])

    later : IsDecidedBelow gate.decided 0 (gate.all ++ (e.between ++ e.last ∷ []))
    later =
        subst (λ (x : ℕ × List HistoryRecord). IsDecidedBelow x.0 0 x.1) (λ i. ((ap (λ (p : Sight PassView). (p.knows).decided) same ∙ sees.place) i, whole i)) e.decided

    own : before.number ≡ (begins.seat.knows).session
    own = x.number ∙ ap (λ (p : Sight PassView). (p.knows).session) (some_same x.pass begins.seat (sym x.is ∙ begins.is))

pub fresh_caller : (E : Type 0) → FreshSessionsAreCallers E
fresh_caller E store pass app entropy table mounted none known application = record {
  session = record {
    pass = pass;
    is = refl;
    table = table;
    mounted = mounted;
    number = refl;
    known = known;
    application = application;
    made = ap (λ (l : List HistoryRecord). count_of (pass.knows).session (events_of l)) (sym none);
    state = λ scenario answered.
        ap (session_from (pass.knows).decided (pass.knows).session (start_under store scenario)) none
        ∙ open-calm (pass.knows).decided [] (slice_index_or (map new_session store.mounted.applications) (pass.knows).session (new_session []))
        ∙ ap (λ (s : Session). calm s) (get_or-map new_session store.mounted.applications (pass.knows).session [] ∙ ap new_session (sym application));
  };
  doubt = λ seat of_pass doubt has. absurd (cc (has));
}
