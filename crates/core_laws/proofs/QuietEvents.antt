-- An answered event that commits nothing leaves the objects.
use Rattle.std.proofs.Common.{◌≡◌, ℕ, Bool, true, false, List, [], ◌∷◌, ◌++◌, Option, refl, sym, ap, ◌∙◌, subst, inl, inr}
use Rattle.tee_types.specs.declared.call.Call.{Call}
use Rattle.tee_types.specs.declared.call.Call.TheVariants.{Info, Open, Read}
use Rattle.tee_types.specs.declared.reply.Reply.{Reply}
use Rattle.tee_types.specs.declared.reply.Reply.TheVariants.{Handle as HandleReply}
use Rattle.store_model.specs.declared.event.Event.{Event}
use Rattle.store_model.specs.declared.event.Event.TheVariants.{Call as CallEvent, Landed}
use Rattle.store_model.specs.declared.event.Mark.{Mark}
use Rattle.store_model.specs.declared.event.Mark.TheVariants.{Unchanged}
use Rattle.store_model.specs.Machine.{MachineState}
use Rattle.store_model.specs.Calls.{is_commit, reply_of, state_after}
use Rattle.store_model.specs.Legal.{IsLegalCall, IsLegalEvent}
use Rattle.store_model.specs.Record.{file_of}
use Rattle.store_model.specs.ReplayState.{ReplayState, is_undone, replay_after, replay_after_call}
use Rattle.store_model.proofs.QuietCalls.{others_keep_maps, unchanged_maps_stay}
use Rattle.history_seats.specs.Records.{HistoryRecord}
use Rattle.history_seats.specs.Settling.{HasMark}
use Rattle.core_laws.specs.Decodings.{Decoding}
use Rattle.core_laws.specs.Given.{DiffersInBytes, Tells, decoding_given}
use Rattle.core_laws.specs.TamperScenarios.{TamperScenario}
use Rattle.core_laws.specs.Shown.{IsClashedAt, meant_at}
use Rattle.core_laws.specs.Stores.{Store, replay_at}
use Rattle.core_laws.specs.Answered.{IsAnsweredAt}
use Rattle.core_laws.specs.MapLaws.{UnchangedEventsKeepMaps}
use Rattle.core_laws.proofs.Answers.{replay_state-snoc}
use Rattle.core_laws.proofs.MapSteps.{unchanged-both}

-- a reply that tells of an object, alike to the machine's, is no commit
no_commit : (sp : Decoding) (size attributes position : ℕ) (call : Call) (reply meant : Reply) → Tells sp size attributes position call reply → DiffersInBytes reply meant
    → (s : MachineState) (i : ℕ) → is_commit s i call meant ≡ false
no_commit sp size attributes position (Read handle count) reply meant tells alike s i = refl
no_commit sp size attributes position (Info handle) reply meant tells alike s i = refl
no_commit sp size attributes position (Open id flags) (HandleReply number) meant tells alike s i = absurd alike
no_commit sp size attributes position call reply meant tells alike s i = absurd tells

-- such a call leaves the objects, done or not
left_by : (s : ReplayState) (session : ℕ) (call : Call) (reply : Reply) (file : Option ℕ) → is_commit s.state session call (reply_of s.state session call) ≡ false
    → (replay_after_call s session call reply Unchanged file).state.objects ≡ s.state.objects
left_by s session call reply file none = by_test (is_undone reply)
  where
    by_test : (b : Bool) → (elim b as (λ _. MachineState) [ true ↦ s.state | false ↦ state_after s.state session call ]).objects ≡ s.state.objects
    by_test true = refl
    by_test false = others_keep_maps s.state session call none

module _ (store : Store) (scenario : TamperScenario) (all : List HistoryRecord) (r : HistoryRecord) where
  abbrev here : ReplayState
  here = replay_at store scenario all

  legal-left : (event : Event) (file : Option ℕ) → HasMark Unchanged event → IsLegalEvent scenario.tampered here event file
      → (replay_after here event file).state.objects ≡ here.state.objects
  legal-left (Landed commit) file is legal = absurd is
  legal-left (CallEvent session number call reply mark) file is legal =
      subst (λ (m : Mark). IsLegalCall scenario.tampered here session call reply m file → (replay_after_call here session call reply m file).state.objects ≡ here.state.objects) (sym is)
      (unchanged_maps_stay scenario.tampered here session call reply file) legal

  clash-left : IsClashedAt store scenario all r → (replay_after here r.event (file_of r)).state.objects ≡ here.state.objects
  clash-left clash =
      let g = clash.told.given in
      let event : r.event ≡ CallEvent g.session g.number g.call g.reply Unchanged = g.is ∙ ap (CallEvent g.session g.number g.call g.reply) clash.told.unchanged in
      ap (λ (e : Event). (replay_after here e (file_of r)).state.objects) event
      ∙ left_by here g.session g.call g.reply (file_of r)
      (no_commit (decoding_given g.gave) g.version.size g.version.attributes g.position g.call g.reply (meant_at g) clash.told.tells clash.alike here.state g.session)

  pub objects-left : HasMark Unchanged r.event → IsAnsweredAt store scenario all r → (replay_at store scenario (all ++ r ∷ [])).state.objects ≡ here.state.objects
  objects-left is (inl legal) = ap (λ (s : ReplayState). s.state.objects) (replay_state-snoc store scenario all r) ∙ legal-left r.event (file_of r) is legal.legal
  objects-left is (inr clash) = ap (λ (s : ReplayState). s.state.objects) (replay_state-snoc store scenario all r) ∙ clash-left clash

pub unchanged_keeps : UnchangedEventsKeepMaps
unchanged_keeps store scenario z records r unchanged right answered both =
    unchanged-both store scenario records r unchanged right z (objects-left store scenario records r unchanged answered) both
