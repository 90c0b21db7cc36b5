-- Rows of refusals, and what a refused call leaves.
use Rattle.std.proofs.Common.{◌≡◌, ◌∙◌, ◌++◌, ◌||◌, ℕ, Bool, true, false, List, [], ◌∷◌, Option, Some, None, refl, sym, ap}
use Rattle.std.proofs.lemmas.List.{set-get_or}
use Rattle.tee_types.specs.declared.call.Call.TheVariants.{Create, Open}
use Rattle.tee_types.specs.declared.flags.Flags.{Flags}
use Rattle.tee_types.specs.declared.reply.Reply.{Reply}
use Rattle.tee_types.specs.declared.reply.Reply.TheVariants.{Done, Handle, Content, Info, Found, Refused, Misuse, Corrupt, NotAvailable, CounterSpent, NoMemory}
use Rattle.store_model.specs.Machine.{Session, MachineState, Outcome, session_at, with_session, new_session, name_in, first_refusal, refuse}
use Rattle.store_model.specs.Object.{Sound, with_object}
use Rattle.store_model.specs.Handles.{create_of, create_refusals, open_of, open_refusals, open_handle}
use Rattle.store_model.specs.Calls.{reply_of, is_handle}
use Rattle.store_model.specs.Files.{is_misuse, is_corrupt}
use Rattle.store_model.specs.Refusal.{is_refusal}
use Rattle.tee_types.specs.Rights.{without_overwrite}
use Rattle.call_rules.specs.Told.{IsTold, told}

pub rows_before : (rows more : List (Bool × Reply)) (reply : Reply) → first_refusal rows ≡ Some reply → first_refusal (rows ++ more) ≡ Some reply
rows_before [] more reply h = absurd (cc (h))
rows_before ((true, r) ∷ rows) more reply h = h
rows_before ((false, r) ∷ rows) more reply h = rows_before rows more reply h

pub rows_after : (rows more : List (Bool × Reply)) → first_refusal rows ≡ None → first_refusal (rows ++ more) ≡ first_refusal more
rows_after [] more h = refl
rows_after ((true, r) ∷ rows) more h = absurd (cc (h))
rows_after ((false, r) ∷ rows) more h = rows_after rows more h

-- the same session in its own place
pub same_session : (s : MachineState) (i : ℕ) (caller : Session) → session_at s i ≡ caller → with_session s i caller ≡ s
same_session s i caller is = ap (λ (x : Session). with_session s i x) (sym is) ∙ ap (λ (xs : List Session). record s { sessions = xs }) (set-get_or s.sessions i (new_session []))

pub refused_told : (s : MachineState) (i : ℕ) (caller : Session) (reply : Reply) → session_at s i ≡ caller → refuse s reply ≡ told s i reply caller
refused_told s i caller reply is = ap (λ (next : MachineState). let o : Outcome = record { reply = reply; next = next } in o) (sym (same_session s i caller is))

no_handle : (reply : Reply) → is_refusal reply ≡ true → is_handle reply ≡ false
no_handle Done h = refl
no_handle (Handle number) h = absurd (cc (h))
no_handle (Content bytes) h = refl
no_handle (Info size position flags attributes) h = refl
no_handle (Found id size) h = refl
no_handle (Refused code) h = refl
no_handle (Misuse reason) h = refl
no_handle Corrupt h = refl
no_handle (NotAvailable cause) h = refl
no_handle (CounterSpent counter) h = refl
no_handle NoMemory h = refl

pub misuse_no_file : (reply : Reply) → is_misuse reply ≡ true → (is_handle reply || is_corrupt reply) ≡ false
misuse_no_file Done h = absurd (cc (h))
misuse_no_file (Handle number) h = absurd (cc (h))
misuse_no_file (Content bytes) h = absurd (cc (h))
misuse_no_file (Info size position flags attributes) h = absurd (cc (h))
misuse_no_file (Found id size) h = absurd (cc (h))
misuse_no_file (Refused code) h = absurd (cc (h))
misuse_no_file (Misuse reason) h = refl
misuse_no_file Corrupt h = absurd (cc (h))
misuse_no_file (NotAvailable cause) h = absurd (cc (h))
misuse_no_file (CounterSpent counter) h = absurd (cc (h))
misuse_no_file NoMemory h = absurd (cc (h))

module _ (s : MachineState) (i : ℕ) (caller : Session) (is : session_at s i ≡ caller) (id : List ℕ) (flags : Flags) where
  pub create_told : (attributes bytes : List ℕ) (reply : Reply) → first_refusal (create_refusals s i (name_in s i id) flags attributes bytes) ≡ Some reply
      → is_refusal reply ≡ true → IsTold s i (Create id flags attributes bytes) reply caller
  unfolding create_of
  create_told attributes bytes reply refused refusal = record {
    outcome = ap (λ (r : Option Reply). elim r [
      | Some x ↦ refuse s x
      | None ↦ open_handle (record s { objects = with_object s.objects (name_in s i id) (Sound (record { attributes = attributes; bytes = bytes; bad = [] })) }) i (name_in s i id) (without_overwrite flags)
    ]) refused ∙ refused_told s i caller reply is;
    no_commit = no_handle reply refusal;
    no_file = refl;
  }

  -- a create that is not refused gives the next handle
  pub create_makes : (attributes bytes : List ℕ) → first_refusal (create_refusals s i (name_in s i id) flags attributes bytes) ≡ None
      → reply_of s i (Create id flags attributes bytes) ≡ Handle caller.next_handle
  unfolding create_of
  create_makes attributes bytes passed =
      ap (λ (r : Option Reply). let o : Outcome = elim r [
        | Some x ↦ refuse s x
        | None ↦ open_handle (record s { objects = with_object s.objects (name_in s i id) (Sound (record { attributes = attributes; bytes = bytes; bad = [] })) }) i (name_in s i id) (without_overwrite flags)
      ] in o.reply) passed
      ∙ ap (λ (x : Session). Handle x.next_handle) is

  pub open_told : (reply : Reply) → first_refusal (open_refusals s i (name_in s i id) flags) ≡ Some reply → (is_handle reply || is_corrupt reply) ≡ false
      → IsTold s i (Open id flags) reply caller
  unfolding open_of
  open_told reply refused no_file = record {
    outcome = ap (λ (r : Option Reply). elim r [ Some x ↦ refuse s x | None ↦ open_handle s i (name_in s i id) flags ]) refused
        ∙ refused_told s i caller reply is;
    no_commit = refl;
    no_file = no_file;
  }
