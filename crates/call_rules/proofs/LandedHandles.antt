-- The landing of a commit that is due leaves the machine's handles well opened.
use Rattle.std.proofs.Common.{◌≡◌, ℕ, Bool, true, false, true≢false, cond, List, [], Option, Some, None, refl, sym, ap, ◌∙◌, subst}
use Rattle.tee_types.specs.declared.call.Call.{Call}
use Rattle.tee_types.specs.declared.call.Call.TheVariants.{Create, Write, Truncate, Rename, Delete}
use Rattle.tee_types.specs.declared.reply.Reply.TheVariants.{Misuse}
use Rattle.tee_types.specs.declared.reply.Reason.TheVariants.{NoRight}
use Rattle.tee_types.specs.Rights.{has, write_meta_bit}
use Rattle.store_model.specs.declared.session.Handle.{Handle}
use Rattle.store_model.specs.Object.{Contents, ObjectMap, changed_object}
use Rattle.store_model.specs.Machine.{MachineState, Outcome, by_right, handle_at, name_in, refuse, session_at, with_session}
use Rattle.store_model.specs.Naming.{delete_of, rename_of}
use Rattle.store_model.specs.Calls.{is_commit, is_done, reply_of, state_after}
use Rattle.store_model.specs.Doubt.{Doubt, follows, session_landed, state_landed}
use Rattle.store_model.proofs.CloseCommits.{ChangedBy, put-left, write-left, truncate-left, rename-left, delete-left}
use Rattle.call_rules.specs.WellOpened.{WellOpened}
use Rattle.call_rules.specs.HandleLaws.{IsDue}
use Rattle.call_rules.proofs.HandleSteps.{same_itself}
use Rattle.call_rules.proofs.QuietSteps.{KeepsSound, quiet_set}
use Rattle.call_rules.proofs.NewHandles.{keeps_sound-changed, keeps_sound-with}
use Rattle.call_rules.proofs.AloneHandles.{well_opened-delete, well_opened-rename}

-- what is done by a right is done with that right
done-right : (s : MachineState) (right : ℕ) (o : Option Handle) (done : Handle → Outcome) (h : Handle) → o ≡ Some h → is_done (by_right s right o done).reply ≡ true
    → has h.flags right ≡ true
done-right s right None done h is made = absurd (cc (is))
done-right s right (Some g) done h is made = let same : g ≡ h = cc (is) in ap (λ (x : Handle). has x.flags right) (sym same) ∙ one (has g.flags right) made
  where
    one : (b : Bool) → is_done (cond b (done g) (refuse s (Misuse NoRight))).reply ≡ true → b ≡ true
    one true m = refl
    one false m = absurd (true≢false (sym m))

pub rename-right : (s : MachineState) (i number : ℕ) (id : List ℕ) (h : Handle) → handle_at (session_at s i) number ≡ Some h → is_done (rename_of s i number id).reply ≡ true → has h.flags write_meta_bit ≡ true
unfolding rename_of
rename-right s i number id h live made = done-right s write_meta_bit (handle_at (session_at s i) number) _ h live made

pub delete-right : (s : MachineState) (i number : ℕ) (h : Handle) → handle_at (session_at s i) number ≡ Some h → is_done (delete_of s i number).reply ≡ true → has h.flags write_meta_bit ≡ true
unfolding delete_of
delete-right s i number h live made = done-right s write_meta_bit (handle_at (session_at s i) number) _ h live made

module _ (s : MachineState) (well : WellOpened s) (i : ℕ) where
  same_handles : (objects : ObjectMap) → KeepsSound s.objects objects → WellOpened (with_session (record s { objects = objects }) i (session_at s i))
  same_handles objects sound = quiet_set s objects i (session_at s i) well (well.numbered i) (same_itself (session_at s i)) sound

  changed_handles : (number : ℕ) (change : Handle → Contents → Contents) (objects : ObjectMap) → ChangedBy s i number change objects
      → WellOpened (with_session (record s { objects = objects }) i (session_at s i))
  changed_handles number change objects by =
      same_handles objects
      (subst (KeepsSound s.objects) (sym (by.leaves ∙ ap (changed_object s.objects by.name) by.has.is))
      (keeps_sound-changed s.objects by.name (change by.has.handle by.has.old) (record { contents = by.has.old; is = by.has.was })))

  landed_call : (call : Call) → is_commit s i call (reply_of s i call) ≡ true
      → WellOpened (with_session (record s { objects = (state_after s i call).objects }) i (session_landed s i call))
  landed_call (Create id flags attributes bytes) due =
      same_handles (state_after s i (Create id flags attributes bytes)).objects
      (subst (KeepsSound s.objects) (sym (put-left s i id flags attributes bytes due))
      (keeps_sound-with s.objects (name_in s i id) (record { attributes = attributes; bytes = bytes; bad = [] })))
  landed_call (Write number bytes) due = changed_handles number _ (state_after s i (Write number bytes)).objects (write-left s i number bytes due)
  landed_call (Truncate number size) due = changed_handles number _ (state_after s i (Truncate number size)).objects (truncate-left s i number size due)
  landed_call (Rename number id) due =
      let by = rename-left s i number id due in
      subst (λ (o : Option Handle). WellOpened (with_session (record s { objects = (state_after s i (Rename number id)).objects }) i (follows s i number id o))) (sym by.live)
      (subst (λ (m : ObjectMap). WellOpened (with_session (record s { objects = m }) i (follows s i number id (Some by.handle)))) (sym by.leaves)
      (well_opened-rename s well i number by.handle by.live (rename-right s i number id by.handle by.live due) (name_in s i id) by.free))
  landed_call (Delete number) due =
      let by = delete-left s i number due in
      subst (λ (m : ObjectMap). WellOpened (with_session (record s { objects = m }) i (session_landed s i (Delete number)))) (sym by.leaves)
      (well_opened-delete s well i number by.handle by.live (delete-right s i number by.handle by.live due))
  landed_call call due = absurd (true≢false (sym due))

pub well_opened-landed : (s : MachineState) (doubt : Doubt) → IsDue s doubt → WellOpened s → WellOpened (state_landed s doubt)
well_opened-landed s doubt due well = landed_call s well doubt.session doubt.call due
