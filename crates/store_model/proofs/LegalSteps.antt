-- A legal event over two maps that differ only in damage leaves two such maps.
use Rattle.std.proofs.Common.{◌≡◌, ◌⊎◌, ℕ, Bool, true, false, not, ◌&&◌, ◌||◌, List, ◌∷◌, ap, sym, ◌∙◌, refl, subst, inl, inr, Option, Some, None, true≢false}
use Rattle.tee_types.specs.declared.call.Call.{Call}
use Rattle.tee_types.specs.declared.call.Call.TheVariants.{Rename}
use Rattle.tee_types.specs.declared.reply.Reply.{Reply}
use Rattle.tee_types.specs.declared.reply.Reply.TheVariants.{Misuse, NotAvailable}
use Rattle.tee_types.specs.declared.reply.Cause.{Cause}
use Rattle.store_model.specs.declared.event.Event.{Event}
use Rattle.store_model.specs.declared.event.Event.TheVariants.{Call as CallEvent, Landed}
use Rattle.store_model.specs.declared.event.Mark.{Mark}
use Rattle.store_model.specs.declared.event.Mark.TheVariants.{Unchanged, Made, Doubtful}
use Rattle.store_model.specs.declared.session.Handle.{Handle}
use Rattle.store_model.specs.Object.{ObjectMap, object_at}
use Rattle.store_model.specs.Machine.{MachineState, session_at, handle_at, with_session}
use Rattle.store_model.specs.Calls.{state_after, is_commit}
use Rattle.store_model.specs.Record.{Record, file_of, is_file, concerns_file, is_named}
use Rattle.store_model.specs.Files.{files_after, reads_file, is_misuse, is_corrupt}
use Rattle.store_model.specs.Doubt.{Doubt, follows, session_landed}
use Rattle.store_model.specs.ReplayState.{ReplayState, is_of_card, is_undone, doubt_after, replay_after_call, replay_landed}
use Rattle.store_model.specs.Legal.{mark_of, meant_by, is_commit_due, tells_object, IsHindered, IsLegalAnswer, stands_for_doubt, IsTagged, IsLegalCall, IsLegalLanding, IsLegalEvent}
use Rattle.store_model.specs.Legal.IsHindered.{NotMade, Unread, Unresolved}
use Rattle.store_model.specs.Legal.IsLegalAnswer.{Answered, Unavailable, Doubted, FoundCorrupt, Spent}
use Rattle.store_model.proofs.QuietCalls.{unchanged_maps_stay}
use Rattle.store_model.proofs.Closeness.{IsRising, AreClose, IsUnnamed}
use Rattle.store_model.proofs.InStep.{over, Matches, agree}
use Rattle.store_model.proofs.CloseCommits.{misuse-same, commit-same, close-commit, rising-after}
use Rattle.store_model.proofs.EventSteps.{replay_over, AreCloseLanded, IsInStep, IsStep, fewer, or-left, no-commit, answer, own-same, tagged-same, unread, makes-same}

-- a reply of the machine that no device has a part in, where the mark is that of a commit
made-due : (counter commit : ℕ) (due : Bool) → Made commit ≡ mark_of counter due → due ≡ true
made-due counter commit true is = refl
made-due counter commit false is = absurd (cc (is))

-- whether a misuse was found, by the ways in which a call may be answered for an open doubt
module _ (tampered : List ℕ) (s : ReplayState) (session : ℕ) (call : Call) (cause : Cause) (file : Option ℕ) where
  tells-no_misuse : (meant : Reply) → (tells_object meant || is_corrupt meant) ≡ true → is_misuse meant ≡ false
  tells-no_misuse (Misuse reason) tells = absurd (true≢false (sym tells))
  tells-no_misuse meant tells = refl

  due-no_misuse : (meant : Reply) → is_commit s.state session call meant ≡ true → (c : Bool) → is_misuse meant ≡ c → is_misuse meant ≡ false
  due-no_misuse meant due true is = absurd (true≢false (sym due ∙ no-commit s.state session call meant is))
  due-no_misuse meant due false is = is

  hindered-no_misuse : IsHindered s session call cause file → is_misuse (meant_by s session call) ≡ false
  hindered-no_misuse (NotMade due) = due-no_misuse (meant_by s session call) due (is_misuse (meant_by s session call)) refl
  hindered-no_misuse (Unread unread_) = tells-no_misuse (meant_by s session call) unread_.tells
  hindered-no_misuse (Unresolved unresolved) = unresolved.no_misuse

  same-cause : (other : Cause) → NotAvailable cause ≡ NotAvailable other → cause ≡ other
  same-cause other is = cc

  -- no misuse, where the answer is that the storage is not available
  unavailable-no_misuse : IsLegalAnswer tampered s session call (NotAvailable cause) Unchanged file → is_misuse (meant_by s session call) ≡ false
  unavailable-no_misuse (Answered a) = ap is_misuse (sym a.replied)
  unavailable-no_misuse (Unavailable a) = hindered-no_misuse (subst (λ (c : Cause). IsHindered s session call c file) (sym (same-cause a.cause a.replied)) a.due)
  unavailable-no_misuse (Doubted a) = absurd (cc (a.marked))
  unavailable-no_misuse (FoundCorrupt a) = absurd (cc (a.replied))
  unavailable-no_misuse (Spent a) = absurd (cc (a.replied))

module _ {Root : Type 0} (tampered : List ℕ) (s : ReplayState) (b : ObjectMap) (r : Record Root) (records : List (Record Root)) (in_step : IsInStep s b (r ∷ records)) where
  abbrev t : ReplayState
  t = replay_over s b

  fewer-landed : (doubt : Doubt) → AreCloseLanded s b (r ∷ records) doubt → AreCloseLanded s b records doubt
  fewer-landed doubt landed = record { close = fewer _ r records _ _ landed.close; rising = landed.rising }

  -- a reply that stands for the open doubt leaves all
  module _ (session number : ℕ) (call : Call) (file : Option ℕ) where
    pub for-doubt : (reply : Reply) (mark : Mark) (doubt : Option Doubt) → s.doubt ≡ doubt → stands_for_doubt doubt reply mark ≡ true → IsLegalCall tampered s session call reply mark file
        → IsStep tampered s b (CallEvent session number call reply mark) file records
    for-doubt (NotAvailable cause) Unchanged (Some d) is for legal = record {
      left = b;
      legal = record {
        declared = legal.declared;
        tagged = record {
          own = λ n named. own-same tampered s b file records session call (NotAvailable cause) Unchanged (makes-same s b session call in_step.close.listed) n (legal.tagged.own n named);
          needed = λ needs none. absurd (true≢false (sym needs ∙ (λ k. not (stands_for_doubt (is k) (NotAvailable cause) Unchanged) && reads_file call (meant_by t session call)) ∙ ap (λ (c : Bool). not c && reads_file call (meant_by t session call)) for));
          fault = legal.tagged.fault;
        };
        answer = Unavailable (record {
          cause = cause;
          replied = refl;
          marked = refl;
          due = Unresolved (record {
            doubt = d;
            is_open = is;
            no_misuse = misuse-same s.state b session in_step.close.listed call ∙ unavailable-no_misuse tampered s session call cause file legal.answer;
            of_card = for;
          });
        });
      };
      after = refl;
      in_step = record {
        close = fewer s.files r records s.state.objects b in_step.close;
        rising = in_step.rising;
        landed = λ doubt open_. let landed = fewer-landed doubt (in_step.landed doubt (kept (is_of_card cause) for doubt open_)) in record { close = landed.close; rising = landed.rising };
      };
    }
      where
        kept : (c : Bool) → c ≡ true → (doubt : Doubt) → elim c as (λ _. Option Doubt) [ true ↦ s.doubt | false ↦ None ] ≡ Some doubt → s.doubt ≡ Some doubt
        kept true on doubt open_ = open_
        kept false on doubt open_ = absurd (true≢false (sym on))
    for-doubt reply mark None is for legal = absurd (true≢false (sym for))
    for-doubt reply mark (Some d) is for legal = absurd (true≢false (sym for))

    matches : (reply : Reply) (mark : Mark) → IsTagged s session call reply mark file → file_of r ≡ file → stands_for_doubt s.doubt reply mark ≡ false
        → Matches s.state b session in_step.close.listed call (meant_by s session call)
    matches reply mark tagged is unexempt name named = one (in_step.close.each name)
      where
        off : (n : ℕ) → is_named (r ∷ records) n ≡ false → is_file n file ≡ false
        off n unnamed = ap (is_file n) (sym is) ∙ or-left (concerns_file n r) (is_named records n) unnamed

        tell : (read : Bool) → reads_file call (meant_by s session call) ≡ read → (n : ℕ) → s.files name ≡ Some n → is_file n file ≡ false → reads_file call (meant_by s session call) ≡ false
        tell true reads n has away =
            absurd (unread tampered s b file (r ∷ records) session call reply mark in_step.close tagged unexempt name named n has file refl away reads)
        tell false reads n has away = reads

        one : (object_at b name ≡ object_at s.state.objects name) ⊎ IsUnnamed s.files (r ∷ records) name → (object_at b name ≡ object_at s.state.objects name) ⊎ (reads_file call (meant_by s session call) ≡ false)
        one (inl same) = inl same
        one (inr u) = inr (tell (reads_file call (meant_by s session call)) refl u.file u.of_object (off u.file u.unnamed))

  -- an event that the machine answers alike over both maps
  module _ (session number : ℕ) (call : Call) (reply : Reply) (file : Option ℕ) (alike : Matches s.state b session in_step.close.listed call (meant_by s session call)) where
    same : meant_by t session call ≡ meant_by s session call
    same = (agree s.state b session in_step.close.listed call alike).reply

    due-same : is_commit_due t session call ≡ is_commit_due s session call
    due-same = commit-same s.state b session in_step.close.listed call (meant_by t session call) ∙ ap (is_commit s.state session call) same

    sessions : (state_after (over s.state b) session call).sessions ≡ (state_after s.state session call).sessions
    sessions = (agree s.state b session in_step.close.listed call alike).sessions

    legal-over : (mark : Mark) → IsLegalCall tampered s session call reply mark file → IsLegalCall tampered t session call reply mark file
    legal-over mark legal = record {
      declared = legal.declared;
      tagged = tagged-same tampered s b file records session call reply mark same legal.tagged;
      answer = answer tampered s b file records session call reply mark same due-same legal.answer;
    }

    close-after : is_commit_due s session call ≡ true → AreClose (files_after s.files s.state session call file) records (state_after s.state session call).objects (state_after (over s.state b) session call).objects
    close-after due = close-commit s.files records s.state b session (fewer s.files r records s.state.objects b in_step.close) in_step.rising call file alike due

    -- the state over both maps
    state-over : (undone : Bool) → elim undone as (λ _. MachineState) [ true ↦ over s.state b | false ↦ state_after (over s.state b) session call ]
        ≡ over (elim undone as (λ _. MachineState) [ true ↦ s.state | false ↦ state_after s.state session call ]) (elim undone as (λ _. MachineState) [ true ↦ over s.state b | false ↦ state_after (over s.state b) session call ]).objects
    state-over true = refl
    state-over false = λ k. record { objects = (state_after (over s.state b) session call).objects; sessions = sessions k }

    unchanged : IsLegalCall tampered s session call reply Unchanged file → IsStep tampered s b (CallEvent session number call reply Unchanged) file records
    unchanged legal =
        let legal_t : IsLegalCall tampered t session call reply Unchanged file = legal-over Unchanged legal in
        let left : ObjectMap = ((replay_after_call t session call reply Unchanged file).state).objects in
        let same_a : ((replay_after_call s session call reply Unchanged file).state).objects ≡ s.state.objects = unchanged_maps_stay tampered s session call reply file legal in
        let same_b : left ≡ b = unchanged_maps_stay tampered t session call reply file legal_t in
        record {
          left = left;
          legal = legal_t;
          after = λ k. record (replay_after_call s session call reply Unchanged file) { state = state-over (is_undone reply) k };
          in_step = record {
            close = subst (λ (m : ObjectMap). AreClose s.files records m left) (sym same_a)
                (subst (λ (m : ObjectMap). AreClose s.files records s.state.objects m) (sym same_b) (fewer s.files r records s.state.objects b in_step.close));
            rising = subst IsRising (sym same_a) in_step.rising;
            landed = landed reply;
          };
        }
      where
        -- an open doubt is left where nothing was done
        landed : (reply : Reply) (doubt : Doubt) → doubt_after reply s.doubt ≡ Some doubt
            → AreCloseLanded (replay_after_call s session call reply Unchanged file) ((replay_after_call t session call reply Unchanged file).state).objects records doubt
        landed (Misuse reason) doubt is = let landed = fewer-landed doubt (in_step.landed doubt is) in record { close = landed.close; rising = landed.rising }
        landed (NotAvailable cause) doubt is = kept (is_of_card cause) is
          where
            kept : (c : Bool) → elim c as (λ _. Option Doubt) [ true ↦ s.doubt | false ↦ None ] ≡ Some doubt
                → AreCloseLanded (replay_after_call s session call (NotAvailable cause) Unchanged file) b records doubt
            kept true is = let landed = fewer-landed doubt (in_step.landed doubt is) in record { close = landed.close; rising = landed.rising }
            kept false is = absurd (cc (is))
        landed reply doubt is = absurd (cc (is))

    made : (commit : ℕ) → IsLegalCall tampered s session call reply (Made commit) file → IsStep tampered s b (CallEvent session number call reply (Made commit)) file records
    made commit legal = record {
      left = (state_after (over s.state b) session call).objects;
      legal = legal-over (Made commit) legal;
      after = λ k. record (replay_after_call s session call reply (Made commit) file) { state = state-over false k };
      in_step = record {
        close = close-after (due legal.answer);
        rising = rising-after s.state session call in_step.rising;
        landed = λ doubt is. absurd (cc (is));
      };
    }
      where
        due : IsLegalAnswer tampered s session call reply (Made commit) file → is_commit_due s session call ≡ true
        due (Answered a) = made-due s.counter commit (is_commit_due s session call) a.marked
        due (Unavailable a) = absurd (cc (a.marked))
        due (Doubted a) = absurd (cc (a.marked))
        due (FoundCorrupt a) = absurd (cc (a.marked))
        due (Spent a) = absurd (cc (a.marked))

    doubtful : (commit : ℕ) → IsLegalCall tampered s session call reply (Doubtful commit) file → IsStep tampered s b (CallEvent session number call reply (Doubtful commit)) file records
    doubtful commit legal = record {
      left = b;
      legal = legal-over (Doubtful commit) legal;
      after = refl;
      in_step = record {
        close = fewer s.files r records s.state.objects b in_step.close;
        rising = in_step.rising;
        landed = λ doubt is. subst (AreCloseLanded (replay_after_call s session call reply (Doubtful commit) file) b records) (own doubt is)
            (record { close = close-after (due legal.answer); rising = rising-after s.state session call in_step.rising });
      };
    }
      where
        own : (doubt : Doubt) → Some (record { commit = commit; session = session; call = call; file = file }) ≡ Some doubt → record { commit = commit; session = session; call = call; file = file } ≡ doubt
        own doubt is = cc

        undoubted : (due : Bool) → Doubtful commit ≡ mark_of s.counter due → ⊥
        undoubted true is = cc
        undoubted false is = cc

        due : IsLegalAnswer tampered s session call reply (Doubtful commit) file → is_commit_due s session call ≡ true
        due (Answered a) = absurd (undoubted (is_commit_due s session call) a.marked)
        due (Unavailable a) = absurd (cc (a.marked))
        due (Doubted a) = a.due
        due (FoundCorrupt a) = absurd (cc (a.marked))
        due (Spent a) = absurd (cc (a.marked))

    call-alike : (mark : Mark) → IsLegalCall tampered s session call reply mark file → IsStep tampered s b (CallEvent session number call reply mark) file records
    call-alike Unchanged legal = unchanged legal
    call-alike (Made commit) legal = made commit legal
    call-alike (Doubtful commit) legal = doubtful commit legal

  call-step : (session number : ℕ) (call : Call) (reply : Reply) (mark : Mark) (file : Option ℕ) → file_of r ≡ file → IsLegalCall tampered s session call reply mark file
      → IsStep tampered s b (CallEvent session number call reply mark) file records
  call-step session number call reply mark file is legal = one (stands_for_doubt s.doubt reply mark) refl
    where
      one : (exempt : Bool) → stands_for_doubt s.doubt reply mark ≡ exempt → IsStep tampered s b (CallEvent session number call reply mark) file records
      one true for = for-doubt session number call file reply mark s.doubt refl for legal
      one false for = call-alike session number call reply file (matches session number call file reply mark legal.tagged is for) mark legal

  -- a landing
  session_over : (i : ℕ) (call : Call) → session_landed (over s.state b) i call ≡ session_landed s.state i call
  session_over i (Rename handle id) = one (handle_at (session_at s.state i) handle)
    where
      one : (o : Option Handle) → follows (over s.state b) i handle id o ≡ follows s.state i handle id o
      one None = refl
      one (Some h) = refl
  session_over i call = refl

  landed-step : (commit : ℕ) (file : Option ℕ) → IsLegalLanding s commit file → IsStep tampered s b (Landed commit) file records
  landed-step commit file legal =
      let d : Doubt = legal.doubt in
      let landed = in_step.landed d legal.is_open in
      let left : ObjectMap = (state_after (over s.state b) d.session d.call).objects in
      record {
        left = left;
        legal = record { doubt = d; is_open = legal.is_open; number = legal.number; untagged = legal.untagged };
        after = ap (replay_landed t) legal.is_open ∙ over-landed d ∙ ap (λ (o : Option Doubt). replay_over (replay_landed s o) left) (sym legal.is_open);
        in_step = subst (λ (o : Option Doubt). IsInStep (replay_landed s o) left records) (sym legal.is_open) (record {
          close = fewer _ r records _ _ landed.close;
          rising = landed.rising;
          landed = λ doubt is. absurd (cc (is));
        });
      }
    where
      over-landed : (d : Doubt) → replay_landed t (Some d) ≡ replay_over (replay_landed s (Some d)) (state_after (over s.state b) d.session d.call).objects
      over-landed d = λ k. record (replay_landed t (Some d)) {
        state = with_session (record s.state { objects = (state_after (over s.state b) d.session d.call).objects }) d.session (session_over d.session d.call k);
      }

  pub event-step : (event : Event) (file : Option ℕ) → file_of r ≡ file → IsLegalEvent tampered s event file → IsStep tampered s b event file records
  event-step (CallEvent session number call reply mark) file is legal = call-step session number call reply mark file is legal
  event-step (Landed commit) file is legal = landed-step commit file legal
