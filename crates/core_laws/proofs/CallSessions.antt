-- The tag of a call, and the session behind it.
use Rattle.std.proofs.Common.{◌≡◌, ◌+◌, ◌<◌, ℕ, Bool, true, false, List, [], ◌∷◌, ◌++◌, length, Option, Some, None, option_map, option_and_then, slice_index_or, refl, sym, ap, ◌∙◌, subst, inl, inr, arith}
use Rattle.store_model.specs.declared.name.ObjectName.{ObjectName}
use Rattle.store_model.specs.declared.event.Event.{Event}
use Rattle.store_model.specs.declared.event.Event.TheVariants.{Call as CallEvent}
use Rattle.store_model.specs.Files.{IsFree, file_named}
use Rattle.store_model.specs.History.{count_of}
use Rattle.store_model.specs.Machine.{Session}
use Rattle.store_model.specs.Record.{events_of}
use Rattle.history_seats.specs.Records.{HistoryRecord}
use Rattle.history_seats.specs.Mounts.{Entry}
use Rattle.history_seats.specs.Settling.{Pending, calm, dropped, is_landing, open_from, settled, settling}
use Rattle.history_seats.specs.Known.{session_from}
use Rattle.history_seats.specs.SessionLaws.{MayBeDropped}
use Rattle.history_seats.specs.Views.{GateView, PassView}
use Rattle.history_seats.specs.Changes.{pass_renewed}
use Rattle.history_seats.specs.Rule.{PassFits}
use Rattle.history_seats.proofs.Doubts.{decided-snoc}
use Rattle.history_seats.proofs.Numbering.{count-append, count-begins, count-own}
use Rattle.core_laws.specs.TamperScenarios.{TamperScenario}
use Rattle.core_laws.specs.Stores.{entries_at, entry_named, replay_at, start_under}
use Rattle.core_laws.specs.Answered.{AreAnswered}
use Rattle.core_laws.specs.CallLaws.{CallsExtendSessions, EntriesTagCalls, FreeFilesTagCreates, SessionsRenew}
use Rattle.core_laws.proofs.Mending.{none_some, some_same}
use Rattle.core_laws.proofs.Answers.{answered-front}
use Rattle.core_laws.proofs.SessionSteps.{told_session}

pub entries_tag : EntriesTagCalls
entries_tag store scenario before session call reply mark name entry mapped of_call named makes faults = record {
  own = λ number is.
      subst (λ (b : Bool). elim b as (λ _. Type 0) [ true ↦ IsFree (replay_at store scenario before).files number | false ↦ file_named (replay_at store scenario before).files (replay_at store scenario before).state session call ≡ Some number ]) (sym makes)
      (ap (option_and_then (replay_at store scenario before).files) of_call ∙ mapped.files name ∙ ap (option_map (λ (e : Entry). e.file)) named ∙ is);
  needed = λ needs none. absurd (none_some entry.file (sym none));
  fault = λ number fault. ap Some (sym (faults number fault));
}

pub free_tag : FreeFilesTagCreates
free_tag store scenario before session call reply mark file mapped free makes faults = record {
  own = λ number is.
      subst (λ (b : Bool). elim b as (λ _. Type 0) [ true ↦ IsFree (replay_at store scenario before).files number | false ↦ file_named (replay_at store scenario before).files (replay_at store scenario before).state session call ≡ Some number ]) (sym makes)
      (subst (IsFree (replay_at store scenario before).files) (some_same file number is) is-free);
  needed = λ needs none. absurd (none_some file (sym none));
  fault = λ number fault. ap Some (sym (faults number fault));
}
  where
    by_entry : (name : ObjectName) (o : Option Entry) → entry_named name (entries_at store before).now ≡ o → option_map (λ (e : Entry). e.file) o ≡ Some file → ⊥
    by_entry name None found is = none_some file is
    by_entry name (Some e) found is = free name e found (some_same e.file file is)

    is-free : IsFree (replay_at store scenario before).files file
    is-free name is = by_entry name (entry_named name (entries_at store before).now) refl (sym (mapped.files name) ∙ is)

-- what is past a view has no call of its session
none-past : (gate : GateView) (pass : PassView) (fits : PassFits gate pass) → count_of pass.session (events_of fits.sees.begins.rest) ≡ 0
none-past gate pass fits =
    omega (
      arith,
      sym (count-append pass.session pass.seen fits.sees.begins.rest) ∙ ap (λ (l : List HistoryRecord). count_of pass.session (events_of l)) fits.sees.begins.is
          ∙ count-begins pass.session pass.seen gate.all fits.sees.begins,
    )

pub sessions_renew : SessionsRenew
sessions_renew store s x gate fits session settles application = record {
  pass = record { table = x.pass.table; knows = pass_renewed gate x.pass.knows };
  is = refl;
  table = x.table;
  mounted = x.mounted;
  number = refl;
  known = subst (λ (n : ℕ). n < length store.mounted.applications) x.number x.known;
  application = application ∙ ap (λ (n : ℕ). slice_index_or store.mounted.applications n []) x.number;
  made = x.made ∙ ap (λ (n : ℕ). count_of n (events_of x.pass.knows.seen)) x.number ∙ sym (count-begins x.pass.knows.session x.pass.knows.seen gate.all fits.sees.begins);
  state = λ scenario answered.
      by_told scenario
      (told_session store scenario gate x.pass.knows fits (subst (λ (n : ℕ). n < length store.mounted.applications) x.number x.known) answered)
      (ap (λ (p : Pending Session). open_from gate.decided gate.all (settled (settling fits.sees.begins.rest) p)) (view_is scenario answered) ∙ settles);
}
  where
    view_is : (scenario : TamperScenario) → AreAnswered store scenario gate.all
        → session_from x.pass.knows.decided x.pass.knows.session (start_under store scenario) x.pass.knows.seen ≡ s.state
    view_is scenario answered =
        ap (λ (n : ℕ). session_from x.pass.knows.decided n (start_under store scenario) x.pass.knows.seen) (sym x.number)
        ∙ x.state scenario (answered-front store scenario x.pass.knows.seen fits.sees.begins.rest (subst (AreAnswered store scenario) (sym fits.sees.begins.is) answered))

    by_told : (scenario : TamperScenario) {p q : Pending Session} → MayBeDropped p q → q ≡ calm session → p ≡ calm session
    by_told scenario (inl same) is = same ∙ is
    by_told scenario (inr gone) is = gone ∙ ap dropped is

pub calls_extend : CallsExtendSessions
calls_extend store s x gate fits r call reply mark event fair state application told = record {
  is = record {
    pass = record { table = x.pass.table; knows = pass_renewed (record gate { all = gate.all ++ r ∷ [] }) x.pass.knows };
    is = refl;
    table = x.table;
    mounted = x.mounted;
    number = refl;
    known = subst (λ (n : ℕ). n < length store.mounted.applications) x.number x.known;
    application = application ∙ ap (λ (n : ℕ). slice_index_or store.mounted.applications n []) x.number;
    made = count;
    state = λ scenario answered. ap (λ (n : ℕ). session_from gate.decided n (start_under store scenario) (gate.all ++ r ∷ [])) (sym x.number) ∙ told scenario answered;
  };
  extends = record {
    old = x.pass;
    new = record { table = x.pass.table; knows = pass_renewed (record gate { all = gate.all ++ r ∷ [] }) x.pass.knows };
    was = x.is;
    is = refl;
    between = fits.sees.begins.rest;
    last = r;
    extends = ap (λ (l : List HistoryRecord). l ++ r ∷ []) (sym fits.sees.begins.is);
    event_is = refl;
    none_between = ap (λ (n : ℕ). count_of n (events_of fits.sees.begins.rest)) x.number ∙ none-past gate x.pass.knows fits;
    at = ap length fits.sees.begins.is;
    decided = decided-snoc x.pass.knows.decided 0 gate.all r fits.sees.decided_below (ap is_landing event);
    fair = fair;
    number = sym x.number;
  };
}
  where
    one : count_of x.pass.knows.session (events_of (r ∷ [])) ≡ 1
    one =
        ap (λ (e : Event). count_of x.pass.knows.session (e ∷ [])) event
        ∙ ap (λ (n : ℕ). count_of x.pass.knows.session (CallEvent n s.made call reply mark ∷ [])) x.number
        ∙ count-own x.pass.knows.session s.made call reply mark r.tag

    count : s.made + 1 ≡ count_of x.pass.knows.session (events_of (gate.all ++ r ∷ []))
    count =
        omega (
          arith,
          x.made ∙ ap (λ (n : ℕ). count_of n (events_of x.pass.knows.seen)) x.number,
          count-begins x.pass.knows.session x.pass.knows.seen gate.all fits.sees.begins,
          count-append x.pass.knows.session gate.all (r ∷ []),
          one,
        )
