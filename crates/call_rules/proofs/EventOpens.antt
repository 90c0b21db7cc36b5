-- The table keeps the open handles along a history that is answered, event by event.
use Rattle.std.proofs.Common.{◌≡◌, ◌<◌, ℕ, Bool, true, false, true≢false, List, [], ◌∷◌, ◌++◌, length, Option, Some, inl, inr, refl, sym, ap, ◌∙◌, subst}
use Rattle.tee_types.specs.declared.call.Call.{Call}
use Rattle.tee_types.specs.declared.call.Call.TheVariants.{Open, Read, Info}
use Rattle.tee_types.specs.declared.reply.Reply.{Reply}
use Rattle.tee_types.specs.declared.reply.Reply.TheVariants.{Content, Handle as HandleReply, Info as InfoReply}
use Rattle.dir_records.specs.declared.entry.DirEntry.{DirEntry}
use Rattle.open_table.specs.Table.{TableState}
use Rattle.store_model.specs.declared.event.Event.{Event}
use Rattle.store_model.specs.declared.event.Event.TheVariants.{Call as CallEvent, Landed}
use Rattle.store_model.specs.declared.event.Mark.{Mark}
use Rattle.store_model.specs.declared.event.Mark.TheVariants.{Unchanged, Made, Doubtful}
use Rattle.store_model.specs.Object.{Object}
use Rattle.store_model.specs.Machine.{MachineState}
use Rattle.store_model.specs.Makes.{MakesChange, MapChange}
use Rattle.store_model.specs.Calls.{is_commit, reply_of, state_after}
use Rattle.store_model.specs.Doubt.{Doubt}
use Rattle.store_model.specs.Legal.{IsLegalAnswer, IsLegalCall, IsLegalEvent, is_commit_due, mark_of, meant_by}
use Rattle.store_model.specs.Legal.IsLegalAnswer.{Answered, Unavailable, Doubted, FoundCorrupt, Spent}
use Rattle.store_model.specs.Record.{file_of}
use Rattle.store_model.specs.ReplayState.{ReplayState, is_undone, replay_after, replay_landed}
use Rattle.core_laws.specs.EntryLists.{AreDistinct}
use Rattle.core_laws.specs.declared.EntryChange.{EntryChange}
use Rattle.core_laws.specs.EntryChanges.{IsChange, changed, file_put}
use Rattle.open_table.specs.HandleChanges.{NotesReply}
use Rattle.core_laws.specs.Records.{HistoryRecord}
use Rattle.core_laws.specs.Given.{DiffersInBytes, Tells, decoding_given}
use Rattle.core_laws.specs.TamperScenarios.{TamperScenario}
use Rattle.core_laws.specs.Shown.{IsClashedAt}
use Rattle.core_laws.specs.Decodings.{Decoding}
use Rattle.core_laws.specs.Stores.{Store, replay_at}
use Rattle.core_laws.specs.Answered.{AreAnswered, IsAnsweredAt}
use Rattle.core_laws.proofs.Answers.{answered-front, answered-last, replay_state-snoc}
use Rattle.call_rules.specs.OpenHandles.{AreOpen}
use Rattle.call_rules.specs.OpenLaws.{IsOpenedFile, NotesLanding}
use Rattle.call_rules.proofs.CommitOpens.{landed-open, made-open}
use Rattle.call_rules.proofs.LinkedCalls.{linked}
use Rattle.call_rules.proofs.OpenCalls.{undone_open}
use Rattle.core_laws.proofs.DueEvents.{unmarked}
use Rattle.call_rules.proofs.ReplayHandles.{well_replay-answered}

-- what the table does at a call that the machine answers, and that is no commit
record IsQuiet (entries : List (Option DirEntry)) (old new : TableState) (s : MachineState) (i file : ℕ) (call : Call) : Type 0 where
  quiet : is_commit s i call (reply_of s i call) ≡ false
  opened : IsOpenedFile entries s i call (reply_of s i call) file
  notes : NotesReply old new file i call (reply_of s i call)

unmade : (counter : ℕ) (b : Bool) → Unchanged ≡ mark_of counter b → b ≡ false
unmade counter true is = absurd (cc (is))
unmade counter false is = refl

made-due : (counter commit : ℕ) (b : Bool) → Made commit ≡ mark_of counter b → b ≡ true
made-due counter commit true is = refl
made-due counter commit false is = absurd (cc (is))

module _ (entries : List (Option DirEntry)) (old new : TableState) (s : ReplayState) (i file : ℕ) where
  -- a reply that differs from the machine's in bytes of the object is one of a read, or tells of the object
  told-quiet : (sp : Decoding) (size attributes position : ℕ) (call : Call) (reply meant : Reply) → reply_of s.state i call ≡ meant → Tells sp size attributes position call reply → DiffersInBytes reply meant
      → NotesReply old new file i call reply → IsQuiet entries old new s.state i file call
  told-quiet sp size attributes position (Open id flags) (HandleReply number) meant is tells alike notes = absurd alike
  told-quiet sp size attributes position (Read handle count) (Content bytes) meant is tells alike notes = record { quiet = refl; opened = tt; notes = notes }
  told-quiet sp size attributes position (Info handle) (InfoReply long at flags told) meant is tells alike notes = record { quiet = refl; opened = tt; notes = notes }
  told-quiet sp size attributes position call reply meant is tells alike notes = absurd tells

  answered-quiet : (tampered : List ℕ) (call : Call) (reply : Reply) (tag : Option ℕ) → is_undone reply ≡ false → IsOpenedFile entries s.state i call reply file → NotesReply old new file i call reply
      → IsLegalAnswer tampered s i call reply Unchanged tag → IsQuiet entries old new s.state i file call
  answered-quiet tampered call reply tag done opened notes (Answered answered) = record {
    quiet = unmade s.counter (is_commit_due s i call) answered.marked;
    opened = subst (λ (x : Reply). IsOpenedFile entries s.state i call x file) answered.replied opened;
    notes = subst (λ (x : Reply). NotesReply old new file i call x) answered.replied notes;
  }
  answered-quiet tampered call reply tag done opened notes (Unavailable unavailable) = absurd (true≢false (sym (ap is_undone unavailable.replied) ∙ done))
  answered-quiet tampered call reply tag done opened notes (Doubted doubted) = absurd (cc (doubted.marked))
  answered-quiet tampered call reply tag done opened notes (FoundCorrupt corrupt) = absurd (true≢false (sym (ap is_undone corrupt.replied) ∙ done))
  answered-quiet tampered call reply tag done opened notes (Spent spent) = absurd (true≢false (sym (ap is_undone spent.replied) ∙ done))

module _ (store : Store) (scenario : TamperScenario) (before : List HistoryRecord) (r : HistoryRecord) (answered : AreAnswered store scenario (before ++ r ∷ [])) where
  abbrev here : ReplayState
  here = replay_at store scenario before

  after : (event : Event) → r.event ≡ event → replay_at store scenario (before ++ r ∷ []) ≡ replay_after here event (file_of r)
  after event is = replay_state-snoc store scenario before r ∙ ap (λ (e : Event). replay_after here e (file_of r)) is

  -- an event that shows a clash is marked Unchanged
  clash-unchanged : (session number : ℕ) (call : Call) (reply : Reply) (mark : Mark) → r.event ≡ CallEvent session number call reply mark → IsClashedAt store scenario before r → mark ≡ Unchanged
  clash-unchanged session number call reply mark is clash =
      let given = clash.told.given in
      let both : CallEvent session number call reply mark ≡ CallEvent given.session given.number given.call given.reply given.mark = sym is ∙ given.is in
      let same : mark ≡ given.mark = cc (both) in
      same ∙ clash.told.unchanged

  legal-call : (session number : ℕ) (call : Call) (reply : Reply) (mark : Mark) → r.event ≡ CallEvent session number call reply mark → (mark ≡ Unchanged → ⊥)
      → IsLegalCall scenario.tampered here session call reply mark (file_of r)
  legal-call session number call reply mark is changed_ = one (answered-last store scenario before r answered)
    where
      one : IsAnsweredAt store scenario before r → IsLegalCall scenario.tampered here session call reply mark (file_of r)
      one (inl legal) = subst (λ (e : Event). IsLegalEvent scenario.tampered here e (file_of r)) is legal.legal
      one (inr clash) = absurd (changed_ (clash-unchanged session number call reply mark is clash))

  module _ (entries : List (Option DirEntry)) (old new : TableState) (are_open : AreOpen entries old here.state.sessions) where
    module _ (session number file : ℕ) (call : Call) (reply : Reply) (notes : NotesReply old new file session call reply) where
      clash-quiet : r.event ≡ CallEvent session number call reply Unchanged → IsClashedAt store scenario before r → IsQuiet entries old new here.state session file call
      clash-quiet is clash =
          let given = clash.told.given in
          let both : CallEvent session number call reply Unchanged ≡ CallEvent given.session given.number given.call given.reply given.mark = sym is ∙ given.is in
          let sessions : session ≡ given.session = cc (both) in
          let calls : call ≡ given.call = cc (both) in
          let replies : reply ≡ given.reply = cc (both) in
          subst (λ (c : Call). IsQuiet entries old new here.state session file c) (sym calls)
          (subst (λ (j : ℕ). IsQuiet entries old new here.state j file given.call) (sym sessions)
          (told-quiet entries old new here given.session file (decoding_given given.gave) given.version.size given.version.attributes given.position given.call given.reply (meant_by here given.session given.call) refl clash.told.tells clash.alike
          (subst (λ (j : ℕ). NotesReply old new file j given.call given.reply) sessions
          (subst (λ (c : Call). NotesReply old new file session c given.reply) calls
          (subst (λ (x : Reply). NotesReply old new file session call x) replies notes)))))

      pub unchanged-event : r.event ≡ CallEvent session number call reply Unchanged → session < length here.state.sessions → IsOpenedFile entries here.state session call reply file
          → AreOpen entries new (replay_at store scenario (before ++ r ∷ [])).state.sessions
      unchanged-event is within opened =
          subst (λ (x : ReplayState). AreOpen entries new (x.state).sessions) (sym (after (CallEvent session number call reply Unchanged) is)) (by_reply (is_undone reply) refl)
        where
          quiet : is_undone reply ≡ false → IsAnsweredAt store scenario before r → IsQuiet entries old new here.state session file call
          quiet done (inl legal) =
              answered-quiet entries old new here session file scenario.tampered call reply (file_of r) done opened notes
              (subst (λ (e : Event). IsLegalEvent scenario.tampered here e (file_of r)) is legal.legal).answer
          quiet done (inr clash) = clash-quiet is clash

          by_reply : (b : Bool) → is_undone reply ≡ b → AreOpen entries new (elim b as (λ _. MachineState) [ true ↦ here.state | false ↦ state_after here.state session call ]).sessions
          by_reply true undone = undone_open entries old new here.state.sessions session file call reply are_open undone notes
          by_reply false done =
              let one = quiet done (answered-last store scenario before r answered) in
              linked entries old new here.state session file are_open within call one.quiet one.opened one.notes

      pub doubtful-event : (commit : ℕ) → r.event ≡ CallEvent session number call reply (Doubtful commit) → AreOpen entries new (replay_at store scenario (before ++ r ∷ [])).state.sessions
      doubtful-event commit is =
          subst (λ (x : ReplayState). AreOpen entries new (x.state).sessions) (sym (after (CallEvent session number call reply (Doubtful commit)) is))
          (undone_open entries old new here.state.sessions session file call reply are_open (undone (legal-call session number call reply (Doubtful commit) is (λ same. cc (same))).answer) notes)
        where
          undone : IsLegalAnswer scenario.tampered here session call reply (Doubtful commit) (file_of r) → is_undone reply ≡ true
          undone (Answered answer) = absurd (unmarked here.counter commit (is_commit_due here session call) answer.marked)
          undone (Unavailable unavailable) = absurd (cc (unavailable.marked))
          undone (Doubted doubted) = ap is_undone doubted.replied
          undone (FoundCorrupt corrupt) = absurd (cc (corrupt.marked))
          undone (Spent spent) = absurd (cc (spent.marked))

      pub made-event : (commit counter : ℕ) (made : MapChange) (change : EntryChange) (object : Object) → r.event ≡ CallEvent session number call reply (Made commit) → AreDistinct entries
          → MakesChange here.state session call made → IsChange here.state.objects entries counter made change object → ((put : ℕ) → file_put change ≡ Some put → file ≡ put)
          → AreOpen (changed entries change) new (replay_at store scenario (before ++ r ∷ [])).state.sessions
      made-event commit counter made change object is distinct makes entered puts =
          subst (λ (x : ReplayState). AreOpen (changed entries change) new (x.state).sessions) (sym (after (CallEvent session number call reply (Made commit)) is)) (by_answer legal.answer)
        where
          legal : IsLegalCall scenario.tampered here session call reply (Made commit) (file_of r)
          legal = legal-call session number call reply (Made commit) is (λ same. cc (same))

          by_answer : IsLegalAnswer scenario.tampered here session call reply (Made commit) (file_of r) → AreOpen (changed entries change) new (state_after here.state session call).sessions
          by_answer (Answered answer) =
              made-open entries old new here.state session are_open (well_replay-answered store scenario before (answered-front store scenario before (r ∷ []) answered)).opened distinct counter file
              legal.declared call made change object
              (record { due = made-due here.counter commit (is_commit_due here session call) answer.marked; makes = makes; enters = entered.enters; place = entered.place }) puts
              (subst (λ (x : Reply). NotesReply old new file session call x) answer.replied notes)
          by_answer (Unavailable unavailable) = absurd (cc (unavailable.marked))
          by_answer (Doubted doubted) = absurd (cc (doubted.marked))
          by_answer (FoundCorrupt corrupt) = absurd (cc (corrupt.marked))
          by_answer (Spent spent) = absurd (cc (spent.marked))

    pub landed-event : (commit counter : ℕ) (doubt : Doubt) (made : MapChange) (change : EntryChange) (object : Object) → r.event ≡ Landed commit → here.doubt ≡ Some doubt → AreDistinct entries
        → MakesChange here.state doubt.session doubt.call made → IsChange here.state.objects entries counter made change object → NotesLanding old new doubt.session doubt.call
        → AreOpen (changed entries change) new (replay_at store scenario (before ++ r ∷ [])).state.sessions
    landed-event commit counter doubt made change object is is_open distinct makes entered notes =
        let well = well_replay-answered store scenario before (answered-front store scenario before (r ∷ []) answered) in
        let landed : replay_at store scenario (before ++ r ∷ []) ≡ replay_landed here (Some doubt) = after (Landed commit) is ∙ ap (replay_landed here) is_open in
        subst (λ (x : ReplayState). AreOpen (changed entries change) new (x.state).sessions) (sym landed)
        (landed-open entries old new here.state doubt.session are_open well.opened distinct counter doubt.call made change object
        (record { due = well.due doubt is_open; makes = makes; enters = entered.enters; place = entered.place }) notes)
