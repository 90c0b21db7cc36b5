-- What a store that was shared is, once it is closed.
use Rattle.std.proofs.Common.{◌≤◌, ◌≡◌, ◌∙◌, ◌+◌, ◌<◌, ◌⊎◌, ℕ, List, [], ◌++◌, length, slice_index_or, true, Option, sym, ap, subst, inl, inr, length-append, arith}
use Rattle.std.specs.List.{list_all}
use Rattle.std.proofs.lemmas.List.{append-nil}
use Rattle.std.proofs.lemmas.Bool.{cases_eq, cases_lt, eqb-true}
use Rattle.std.proofs.lemmas.List.Sums.{AllPass-from_list_all}
use Rattle.disk_model.specs.Calls.{GoesOn}
use Rattle.disk_model.specs.State.{FileState}
use Rattle.hmac_keys.specs.KeyTable.{rpmb_key}
use Rattle.tee_types.specs.Limits.{directory_file, file_count, last_file, old_directory_file}
use Rattle.tee_types.proofs.FileNumbers.{other_on_bench}
use Rattle.rpmb_card.specs.Port.{PortState}
use Rattle.tee_types.specs.declared.call.Call.{Call}
use Rattle.app_quota.specs.declared.quotas.Quota.{Quota}
use Rattle.store_model.specs.declared.event.Event.{Event}
use Rattle.store_model.specs.History.{calls_of}
use Rattle.store_model.specs.Record.{events_of}
use Rattle.history_seats.specs.Views.{GateView, PassView, Sight}
use Rattle.core_laws.specs.Stores.{Store}
use Rattle.core_laws.proofs.Mending.{some_same}
use Rattle.quota_store.specs.CallerSessions.{CallerSession, IsCallerOf}
use Rattle.script_text.specs.declared.script.Mode.TheVariants.{Threads}
use Rattle.script_text.specs.declared.script.Step.{Step}
use Rattle.quota_store.specs.SlotValues.{SlotValue}
use Rattle.quota_store.specs.GuardedGates.{GuardedGateValue}
use Rattle.tee_types.specs.declared.reply.Device.TheVariants.{Card, Dir, File}
use Rattle.quota_store.specs.Cards.{TellsCard}
use Rattle.quota_store.specs.DeviceCounts.{Rise, counts_of, draws_of}
use Rattle.quota_store.specs.Devices.{Devices, PortGoesOn}
use Rattle.quota_store.proofs.CountGrowth.{same_file_goes_on}
use Rattle.quota_store.proofs.Rises.{Rise-still}
use Rattle.object_calls.specs.OpeningFiles.{files_of}
use Rattle.object_calls.specs.FinishedPhase.{HasCounted, HaveCounted, LeavesStore}
use Rattle.object_calls.specs.Retiring.{IsPlaced}
use Rattle.object_calls.specs.OpeningSessions.{AreCallers, AreSeated, HaveNoEvents}
use Rattle.run_acts.specs.Reliable.{AreFresh, AreReliable}
use Rattle.run_acts.specs.ServedSteps.{AreCalls, ServesFront, calls_in}
use Rattle.run_acts.specs.Benches.{BenchState}
use Rattle.run_acts.specs.Closing.{BenchGoesOn}
use Rattle.quota_store.specs.Kept.{AreOfSessions, KeepsGate}
use Rattle.run_acts.specs.SharedClosing.{ClosesShared}
use Rattle.run_acts.specs.OwnCalls.{HasMade, HasStopped, HaveWorked, is_done, own_calls}
use Rattle.run_acts.specs.QuotaClosing.{ClosesSharedWithin}
use Rattle.run_acts.specs.QuotaRefusals.{KeepsPhaseQuotas, admitted}
use Rattle.run_acts.specs.declared.refused_call.RefusedCall.{RefusedCall}
use Rattle.run_acts.specs.OwnDraws.{own_draws}
use Rattle.run_acts.specs.Seen.{seen_by}
use Rattle.run_acts.specs.Sharing.{AreKept, IsBenchOf}
use Rattle.run_acts.proofs.Calls.{calls_in-past, calls_of-begins, calls_of-past}
use Rattle.run_acts.proofs.Lists.{at_each}
use Rattle.run_acts.proofs.Makings.{unmade-own}
use Rattle.run_acts.proofs.ThreadDraws.{draws_of-begins, draws_of-none}
use Rattle.history_seats.specs.Tags.{AreTagged}
use Rattle.run_acts.proofs.Sharings.{each_counted, each_goes_on}

module _ {E : Type 0} (is_reliable : E → Type 0) (draws : E → ℕ) (store : Store) where
  -- a session without events has drawn nothing
  unmade_draws : (s : CallerSession E) → IsCallerOf store s → s.made ≡ 0 → own_draws s ≡ []
  unmade_draws s caller none =
      let pass = caller.session.pass in
      ap (λ (p : Option (Sight PassView)). draws_of s.number (events_of (seen_by p))) caller.session.is
      ∙ draws_of-none s.number (events_of pass.knows.seen) (sym caller.session.made ∙ none)

  -- the whole history has the calls that the session's view has
  own_in_all : (view : GateView) (s : CallerSession E) → IsCallerOf store s → HasCounted view s → calls_of s.number (events_of view.all) ≡ own_calls s
  own_in_all view s caller counted =
      let seat = counted.begins.seat in
      let same : caller.session.pass ≡ seat = some_same caller.session.pass seat (sym caller.session.is ∙ counted.begins.is) in
      let number : s.number ≡ seat.knows.session = caller.session.number ∙ ap (λ (p : Sight PassView). p.knows.session) same in
      ap (λ (n : ℕ). calls_of n (events_of view.all)) number
      ∙ calls_of-begins seat.knows.session seat.knows.seen view.all counted.begins.fits.sees.begins
      ∙ ap (λ (n : ℕ). calls_of n (events_of seat.knows.seen)) (sym number)
      ∙ ap (λ (p : Option (Sight PassView)). calls_of s.number (events_of (seen_by p))) (sym counted.begins.is)

  draws_in_all : (view : GateView) (s : CallerSession E) → IsCallerOf store s → HasCounted view s → draws_of s.number (events_of view.all) ≡ own_draws s
  draws_in_all view s caller counted =
      let seat = counted.begins.seat in
      let same : caller.session.pass ≡ seat = some_same caller.session.pass seat (sym caller.session.is ∙ counted.begins.is) in
      let number : s.number ≡ seat.knows.session = caller.session.number ∙ ap (λ (p : Sight PassView). p.knows.session) same in
      ap (λ (n : ℕ). draws_of n (events_of view.all)) number
      ∙ draws_of-begins seat.knows.session seat.knows.seen view.all counted.begins.fits.sees.begins
      ∙ ap (λ (n : ℕ). draws_of n (events_of seat.knows.seen)) (sym number)
      ∙ ap (λ (p : Option (Sight PassView)). draws_of s.number (events_of (seen_by p))) (sym counted.begins.is)

  -- one that has as many events as calls has made them
  made_all : (was now : CallerSession E) (steps : List Step) → was.made ≡ 0 → is_done steps now ≡ true
      → HasMade is_reliable draws store was now (calls_in was.number steps) ⊎ HasStopped store was now (calls_in was.number steps) → HasMade is_reliable draws store was now (calls_in was.number steps)
  made_all was now steps none done (inl made) = made
  made_all was now steps none done (inr stopped) =
      let all : now.made ≡ length (calls_in was.number steps) = eqb-true now.made (length (calls_in now.number steps)) done ∙ ap (λ (n : ℕ). length (calls_in n steps)) stopped.number in
      absurd (omega (arith, stopped.made, stopped.left, none, all, ap length stopped.cut, length-append stopped.front stopped.rest))

  module _ (was now : List (CallerSession E)) (steps : List Step) (seated : AreSeated store was) (unmade : HaveNoEvents was) (many : length now ≡ length was)
      (worked : HaveWorked is_reliable draws store steps was now) (view : GateView) (counted : HaveCounted view now) where
    module _ (app : ℕ) (d : CallerSession E) (within : app < length was) where
      abbrev first : CallerSession E
      first = slice_index_or was app d

      abbrev last : CallerSession E
      last = slice_index_or now app d

      still : app < length now
      still = omega (arith, within, many)

      number : first.number ≡ app
      number = seated.numbered app d within

      -- the session made the first of its calls
      one_began : HasStopped store first last (calls_in first.number steps) → (rest : List Call) × (calls_in app steps ≡ calls_of app (events_of view.all) ++ rest)
      one_began stopped = (
        stopped.rest,
        ap (λ (n : ℕ). calls_in n steps) (sym number)
            ∙ stopped.cut
            ∙ ap (λ (l : List Call). l ++ stopped.rest) (sym (
            ap (λ (n : ℕ). calls_of n (events_of view.all)) (sym (stopped.number ∙ number))
            ∙ own_in_all view last stopped.caller (counted app d still)
            ∙ stopped.calls_are
            ∙ ap (λ (l : List Call). l ++ stopped.front) (unmade-own store first (seated.each app d within) (unmade app d within)))),
      )

      module _ (made : HasMade is_reliable draws store first last (calls_in first.number steps)) where
        one_serves : calls_of app (events_of view.all) ≡ calls_in app steps
        one_serves =
            ap (λ (n : ℕ). calls_of n (events_of view.all)) (sym (made.number ∙ number))
            ∙ own_in_all view last made.caller (counted app d still)
            ∙ made.calls_are
            ∙ ap (λ (l : List Call). l ++ calls_in first.number steps) (unmade-own store first (seated.each app d within) (unmade app d within))
            ∙ ap (λ (n : ℕ). calls_in n steps) number

        one_drawn : own_draws last ≡ draws_of app (events_of view.all)
        one_drawn = sym (draws_in_all view last made.caller (counted app d still)) ∙ ap (λ (n : ℕ). draws_of n (events_of view.all)) (made.number ∙ number)

        one_rises : (fresh : AreFresh draws was) → Rise 0 (draws last.entropy) (draws_of app (events_of view.all))
        one_rises fresh =
            subst (Rise 0 (draws last.entropy)) one_drawn
            (made.drawn.rises 0
            (subst (Rise 0 (draws first.entropy)) (sym (unmade_draws first (seated.each app d within) (unmade app d within))) (inl (fresh app d within))))

        -- none is carried for one that never fails
        one_still : (fresh : AreFresh draws was) → is_reliable first.entropy → draws_of app (events_of view.all) ≡ []
        one_still fresh reliable =
            let none : draws last.entropy ≡ 0 = (made.drawn.steady reliable).1 ∙ fresh app d within in
            Rise-still 0 (draws_of app (events_of view.all)) (omega arith) (subst (λ (n : ℕ). Rise 0 n (draws_of app (events_of view.all))) none (one_rises fresh))

    -- no session has a greater number
    other_serves : (app : ℕ) → length was ≤ app → (calls : AreCalls (length was) steps) → AreOfSessions (length store.mounted.applications) (events_of view.all) → calls_of app (events_of view.all) ≡ calls_in app steps
    other_serves app past calls known =
        calls_of-past (length store.mounted.applications) app (events_of view.all) (omega (arith, past, seated.many)) known ∙ sym (calls_in-past (length was) app steps past calls)

    all_of : (app : ℕ) → calls_of app (events_of view.all) ≡ calls_in app steps → (rest : List Call) × (calls_in app steps ≡ calls_of app (events_of view.all) ++ rest)
    all_of app serves = ([], sym (append-nil (calls_of app (events_of view.all)) ∙ serves))

    one_front : (app : ℕ) (d : CallerSession E) → app < length was → (rest : List Call) × (calls_in app steps ≡ calls_of app (events_of view.all) ++ rest)
    one_front app d within = elim (worked app d within) [
      | inl made ↦ all_of app (one_serves app d within made)
      | inr stopped ↦ one_began app d within stopped
    ]

    -- So the events of each application are its first calls.
    pub front_serves : AreCalls (length was) steps → AreOfSessions (length store.mounted.applications) (events_of view.all) → ServesFront Threads steps (events_of view.all)
    front_serves calls known app = elim (cases_lt app (length was)) [
      | inl within ↦ at_each was (λ n. (rest : List Call) × (calls_in n steps ≡ calls_of n (events_of view.all) ++ rest)) one_front app within
      | inr past ↦ all_of app (other_serves app (omega (arith, past)) calls known)
    ]

    -- Where all are done, the calls of each application in the history are those of the steps.
    module _ (done : list_all (is_done steps) now ≡ true) where
      made : (app : ℕ) (d : CallerSession E) (within : app < length was)
          → HasMade is_reliable draws store (slice_index_or was app d) (slice_index_or now app d) (calls_in (slice_index_or was app d).number steps)
      made app d within =
          made_all (first app d within) (last app d within) steps (unmade app d within) (AllPass-from_list_all (is_done steps) now done app d (still app d within)) (worked app d within)

      pub all_serve : AreCalls (length was) steps → AreOfSessions (length store.mounted.applications) (events_of view.all) → (app : ℕ) → calls_of app (events_of view.all) ≡ calls_in app steps
      all_serve calls known app = elim (cases_lt app (length was)) [
        | inl within ↦ at_each was (λ n. calls_of n (events_of view.all) ≡ calls_in n steps) (λ n d below. one_serves n d below (made n d below)) app within
        | inr past ↦ other_serves app (omega (arith, past)) calls known
      ]

      pub all_drawn : AreFresh draws was → (session : ℕ) → session < length store.mounted.applications → (last : ℕ) × Rise 0 last (draws_of session (events_of view.all))
      all_drawn fresh session within =
          at_each was (λ n. (last : ℕ) × Rise 0 last (draws_of n (events_of view.all))) (λ n d below. (draws (slice_index_or now n d).entropy, one_rises n d below (made n d below) fresh)) session
          (omega (arith, within, seated.many))

      pub all_undrawn : AreFresh draws was → AreReliable is_reliable was → (session : ℕ) → session < length store.mounted.applications → draws_of session (events_of view.all) ≡ []
      all_undrawn fresh reliable session within =
          at_each was (λ n. draws_of n (events_of view.all) ≡ []) (λ n d below. one_still n d below (made n d below) fresh (reliable n d below)) session (omega (arith, within, seated.many))

-- each session is the store's still
pub worked_callers : {E : Type 0} (is_reliable : E → Type 0) (draws : E → ℕ) (store : Store) (steps : List Step) (was now : List (CallerSession E)) → length now ≡ length was → HaveWorked is_reliable draws store steps was now → AreCallers store now
worked_callers is_reliable draws store steps was now many worked i d within = elim (worked i d (omega (arith, within, many))) [
  | inl made ↦ made.caller
  | inr stopped ↦ stopped.caller
]

-- The store was closed.
module _ {F R : Type 0} (of_file : F → FileState) (of_port : R → PortState) (store : Store) (before : Devices) (gate : GuardedGateValue F R) (keeps : KeepsGate of_file of_port store before gate)
    (slots : List SlotValue) (kept : AreKept before (length slots) slots) (files : List F) (card : R) (dir_is : files_of of_file files directory_file ≡ of_file gate.gate.dir.file)
    (spare_is : files_of of_file files old_directory_file ≡ before.file old_directory_file)
    (placed : (i : ℕ) → i < last_file → IsPlaced store gate.journal.knows slots (i + 1) (files_of of_file files (i + 1))) (tagged : AreTagged gate.journal.knows.all) where
  abbrev all : List Event
  all = events_of gate.journal.knows.all

  module _ (bench : BenchState) (is : IsBenchOf before bench) where
    file_shared : (file : ℕ) → file < file_count → GoesOn (bench.files file) (files_of of_file files file)
    file_shared file within = elim (cases_eq file directory_file) [
      | inl own ↦
          subst (λ (n : ℕ). GoesOn (bench.files n) (files_of of_file files n)) (sym own)
          (subst (λ (f : FileState). GoesOn f (files_of of_file files directory_file)) (sym is.dir) (subst (GoesOn before.dir) (sym dir_is) keeps.dir))
      | inr other ↦
          subst (λ (f : FileState). GoesOn f (files_of of_file files file)) (sym (is.each file other))
          (elim (other_on_bench file within other) [
            | inl old_dir ↦ subst (λ (n : ℕ). GoesOn (before.file n) (files_of of_file files n)) (sym old_dir) (same_file_goes_on (before.file old_directory_file) (files_of of_file files old_directory_file) spare_is)
            | inr object ↦ each_goes_on store before slots kept gate.journal.knows tagged (files_of of_file files) placed file object
          ])
    ]

    -- what is known of the bench goes on
    pub bench_shared : card ≡ gate.gate.host.port → BenchGoesOn (rpmb_key store.keys.huk) bench (record { files = files_of of_file files; card = of_port card })
    bench_shared port = record {
      files = file_shared;
      card = subst (λ (p : PortState × PortState). PortGoesOn (rpmb_key store.keys.huk) p.0 p.1) (λ i. (sym is.card i, of_port (sym port i))) keeps.card;
    }

  pub closes_shared : (Reliable : Type 0) (calls : List Step) (events : List Event) (doubt : Option ℕ) → events ≡ all
      → ((app : ℕ) → calls_of app all ≡ calls_in app calls) → ((session : ℕ) → session < length store.mounted.applications → (last : ℕ) × Rise 0 last (draws_of session all))
      → (Reliable → (session : ℕ) → session < length store.mounted.applications → draws_of session all ≡ [])
      → card ≡ gate.gate.host.port → LeavesStore store gate.journal.knows (files_of of_file files) (of_port card) doubt
      → ClosesShared Reliable store before calls (files_of of_file files) (of_port card) events
  closes_shared Reliable calls events doubt is serve drawn undrawn port leaves = record {
    view = gate.journal.knows;
    events_are = is;
    serves = λ app. ap (calls_of app) is ∙ serve app;
    doubt = doubt;
    leaves = leaves;
    dir = subst (GoesOn before.dir) (sym dir_is) keeps.dir;
    dir_counted = subst (λ (p : FileState × List Event). Rise (before.dir).faults (p.0).faults (counts_of Dir p.1)) (λ i. (sym dir_is i, sym is i)) keeps.dir_counted;
    each = each_goes_on store before slots kept gate.journal.knows tagged (files_of of_file files) placed;
    spare = spare_is;
    each_counted = λ file own. subst (λ (l : List Event). Rise (before.file file).faults (files_of of_file files file).faults (counts_of (File file) l)) (sym is)
        (each_counted store before slots kept gate.journal.knows tagged (files_of of_file files) placed file own);
    port = subst (λ (r : R). PortGoesOn (rpmb_key store.keys.huk) before.card (of_port r)) (sym port) keeps.card;
    port_counted = subst (λ (p : R × List Event). Rise (before.card).faults (of_port p.0).faults (counts_of Card p.1)) (λ i. (sym port i, sym is i)) keeps.card_counted;
    told = subst (TellsCard (rpmb_key store.keys.huk) before.card) (sym is) keeps.card_told;
    drawn = λ session within. subst (λ (l : List Event). (last : ℕ) × Rise 0 last (draws_of session l)) (sym is) (drawn session within);
    undrawn = λ reliable session within. ap (draws_of session) is ∙ undrawn reliable session within;
  }

  -- under quotas, which its history keeps
  pub closes_shared_within : (Reliable : Type 0) (quotas : List Quota) (calls : List Step) (refused : List RefusedCall) (events : List Event) (doubt : Option ℕ) → events ≡ all
      → ((app : ℕ) → calls_of app all ≡ calls_in app (admitted refused calls)) → ((session : ℕ) → session < length store.mounted.applications → (last : ℕ) × Rise 0 last (draws_of session all))
      → (Reliable → (session : ℕ) → session < length store.mounted.applications → draws_of session all ≡ [])
      → card ≡ gate.gate.host.port → LeavesStore store gate.journal.knows (files_of of_file files) (of_port card) doubt → KeepsPhaseQuotas quotas store gate.journal.knows.all calls refused
      → ClosesSharedWithin Reliable store quotas before calls (files_of of_file files) (of_port card) events refused
  unfolding closes_shared
  closes_shared_within Reliable quotas calls refused events doubt is serve drawn undrawn port leaves quotas_kept = record {
    closes = closes_shared Reliable (admitted refused calls) events doubt is serve drawn undrawn port leaves;
    quotas_kept = quotas_kept;
  }

-- under a narrower premise on the generators
pub closes_where : (A B : Type 0) (store : Store) (before : Devices) (calls : List Step) (files : ℕ → FileState) (card : PortState) (events : List Event) → (B → A)
    → ClosesShared A store before calls files card events → ClosesShared B store before calls files card events
closes_where A B store before calls files card events narrower c = record {
  view = c.view;
  events_are = c.events_are;
  serves = c.serves;
  doubt = c.doubt;
  leaves = c.leaves;
  dir = c.dir;
  dir_counted = c.dir_counted;
  each = c.each;
  spare = c.spare;
  each_counted = c.each_counted;
  port = c.port;
  port_counted = c.port_counted;
  told = c.told;
  drawn = c.drawn;
  undrawn = λ b. c.undrawn (narrower b);
}

pub closes_within_where : (A B : Type 0) (store : Store) (quotas : List Quota) (before : Devices) (calls : List Step) (files : ℕ → FileState) (card : PortState) (events : List Event) (refused : List RefusedCall) → (B → A)
    → ClosesSharedWithin A store quotas before calls files card events refused → ClosesSharedWithin B store quotas before calls files card events refused
unfolding closes_where
closes_within_where A B store quotas before calls files card events refused narrower c = record {
  closes = closes_where A B store before (admitted refused calls) files card events narrower c.closes;
  quotas_kept = c.quotas_kept;
}
