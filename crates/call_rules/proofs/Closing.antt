-- What closing a handle is answered.
use Rattle.std.proofs.Common.{◌≡◌, ◌∙◌, ℕ, Option, Some, None, refl, sym, ap}
use Rattle.tee_types.specs.declared.call.Call.TheVariants.{Close}
use Rattle.tee_types.specs.declared.reply.Reply.TheVariants.{Done, Misuse}
use Rattle.tee_types.specs.declared.reply.Reason.TheVariants.{BadHandle}
use Rattle.store_model.specs.declared.session.Handle.{Handle}
use Rattle.store_model.specs.Machine.{Session, MachineState, Outcome, session_at, with_session, handle_at, without_handle, by_handle}
use Rattle.store_model.specs.Handles.{close_of}
use Rattle.call_rules.specs.Told.{IsTold, told}
use Rattle.call_rules.proofs.Refusals.{refused_told}

module _ (s : MachineState) (i : ℕ) (caller : Session) (is : session_at s i ≡ caller) (number : ℕ) where
  abbrev closed : Handle → Outcome
  closed handle = record { reply = Done; next = with_session s i (without_handle (session_at s i) number) }

  pub close_refused : handle_at caller number ≡ None → IsTold s i (Close number) (Misuse BadHandle) caller
  unfolding close_of
  close_refused none = record {
    outcome = ap (λ (h : Option Handle). by_handle s h closed) (ap (λ (x : Session). handle_at x number) is ∙ none) ∙ refused_told s i caller (Misuse BadHandle) is;
    no_commit = refl;
    no_file = refl;
  }

  pub close_done : (handle : Handle) → handle_at caller number ≡ Some handle → (new : Session) → new ≡ without_handle caller number → IsTold s i (Close number) Done new
  unfolding close_of
  close_done handle live new gone = record {
    outcome = ap (λ (h : Option Handle). by_handle s h closed) (ap (λ (x : Session). handle_at x number) is ∙ live)
        ∙ ap (told s i Done) (ap (λ (x : Session). without_handle x number) is ∙ sym gone);
    no_commit = refl;
    no_file = refl;
  }
