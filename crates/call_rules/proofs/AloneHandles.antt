-- The handle that may rename is alone on its object: the object is moved or taken away under no other handle.
use Rattle.std.proofs.Common.{◌≡◌, ◌≢◌, ◌<◌, ◌⊎◌, ℕ, true, false, true≢false, [], length, Some, is_some, inl, inr, sym, ap, ◌∙◌, subst}
use Rattle.std.proofs.lemmas.Bool.{cases_Bool}
use Rattle.tee_types.specs.Rights.{has, write_meta_bit}
use Rattle.store_model.specs.declared.name.ObjectName.{ObjectName}
use Rattle.store_model.specs.declared.session.Handle.{Handle}
use Rattle.store_model.specs.Object.{ObjectMap, Sound, holds, moved_object, object_at, without_object}
use Rattle.store_model.specs.Machine.{MachineState, Session, handle_at, new_session, session_at, with_handle, with_session, without_handle}
use Rattle.store_model.proofs.Maps.{at, moved_object-held}
use Rattle.store_model.proofs.MapLaws.{alike}
use Rattle.core_laws.proofs.Names.{alike_is}
use Rattle.call_rules.specs.WellOpened.{IsSoundAt, WellOpened}
use Rattle.call_rules.proofs.EntryLists.{put-found, taken-found}
use Rattle.call_rules.proofs.Sharing.{are_compatible-alone}
use Rattle.call_rules.proofs.HandleSteps.{IsNewHandle, IsOld, NoNew, same_itself, well_after}
use Rattle.call_rules.proofs.NewHandles.{keeps_sound-with, sound-put, without-other}
use Rattle.call_rules.proofs.QuietSteps.{no_new, numbers-with, numbers-without, set_numbers}
use Rattle.call_rules.proofs.SessionLists.{live-within, set-in}

pub names-apart : (a b : ObjectName) → b ≢ a → at a b ≡ false
names-apart a b apart = elim (cases_Bool (at a b)) [ inl alike ↦ absurd (apart (sym (alike_is a b alike))) | inr other ↦ other ]

-- objects of other names stay sound
sound-without : (objects : ObjectMap) (name q : ObjectName) → q ≢ name → IsSoundAt objects q → IsSoundAt (without_object objects name) q
sound-without objects name q apart sound = record { contents = sound.contents; is = without-other objects name q (names-apart name q apart) ∙ sound.is }

sound-moved : (objects : ObjectMap) (old new q : ObjectName) → IsSoundAt objects old → q ≢ old → IsSoundAt objects q → IsSoundAt (moved_object objects old new) q
sound-moved objects old new q was apart sound =
    subst (λ (m : ObjectMap). IsSoundAt m q) (sym (moved_object-held objects old new (Sound was.contents) was.is))
    (keeps_sound-with (without_object objects old) new was.contents q (sound-without objects old q apart sound))

moved-sound : (objects : ObjectMap) (old new : ObjectName) → IsSoundAt objects old → IsSoundAt (moved_object objects old new) new
moved-sound objects old new was =
    subst (λ (m : ObjectMap). IsSoundAt m new) (sym (moved_object-held objects old new (Sound was.contents) was.is))
    (sound-put (without_object objects old) new was.contents)

module _ (s : MachineState) (well : WellOpened s) (i number : ℕ) (handle : Handle) (live : handle_at (session_at s i) number ≡ Some handle) (right : has handle.flags write_meta_bit ≡ true) where
  pub alone : (j other : ℕ) (g : Handle) → handle_at (session_at s j) other ≡ Some g → g.name ≡ handle.name → (i ≡ j) × (number ≡ other)
  alone j other g found same = elim (well.compatible i j number other handle g live found (sym same)) [
    | inl one ↦ one
    | inr shares ↦ absurd (true≢false (sym shares ∙ are_compatible-alone handle.flags g.flags right))
  ]

  range : i < length s.sessions
  range = live-within s.sessions i number handle live

  was : IsSoundAt s.objects handle.name
  was = well.sound i number handle live

  -- another handle is on another object
  other_name : (k n : ℕ) (h : Handle) → handle_at (session_at s k) n ≡ Some h → (k ≢ i) ⊎ (n ≢ number) → h.name ≢ handle.name
  other_name k n h found (inl other) same = other (sym (alone k n h found same).0)
  other_name k n h found (inr other) same = other (sym (alone k n h found same).1)

  module _ (new : ObjectName) (free : holds s.objects new ≡ false) where
    abbrev renamed : Session
    renamed = with_handle (session_at s i) number (record handle { name = new })

    abbrev moved : ObjectMap
    moved = moved_object s.objects handle.name new

    pub record IsRenamed (k n : ℕ) (h : Handle) : Type 0 where
      pub session : k ≡ i
      pub number_is : n ≡ number
      pub name_is : h.name ≡ new
      pub flags_are : h.flags ≡ handle.flags

    new_renamed : IsNewHandle s moved IsRenamed
    new_renamed = record {
      sound = λ k n h is. subst (IsSoundAt moved) (sym is.name_is) (moved-sound s.objects handle.name new was);
      one = λ k j n m h g a b. (a.session ∙ sym b.session, a.number_is ∙ sym b.number_is);
      shares = λ k j n m h g is old same.
          let found : IsSoundAt s.objects (old.same.before).name = well.sound j m old.same.before old.same.live in
          let named : (old.same.before).name ≡ new = sym old.same.name ∙ sym same ∙ is.name_is in
          absurd (true≢false (sym (ap is_some (ap (object_at s.objects) (sym named) ∙ found.is)) ∙ free));
    }

    kept : (k n : ℕ) (h : Handle) → handle_at (session_at s k) n ≡ Some h → (k ≢ i) ⊎ (n ≢ number) → IsOld s moved k n h
    kept k n h found other = record {
      same = same_itself (session_at s k) n h found;
      sound = sound-moved s.objects handle.name new h.name was (other_name k n h found other) (well.sound k n h found);
    }

    from : (k n : ℕ) (h : Handle) → handle_at (session_at (with_session s i renamed) k) n ≡ Some h → IsRenamed k n h ⊎ IsOld s moved k n h
    from k n h found = elim (set-in s.sessions i k renamed (new_session []) range) [
      | inl set_ ↦ elim (put-found (session_at s i).handles number (record handle { name = new }) h handle n live (ap (λ (y : Session). handle_at y n) (sym set_.1) ∙ found)) [
        | inl here ↦ inl (record { session = set_.0; number_is = here.0; name_is = ap (λ (x : Handle). x.name) here.1; flags_are = ap (λ (x : Handle). x.flags) here.1 })
        | inr old ↦ inr (kept k n h (ap (λ (m : ℕ). handle_at (session_at s m) n) set_.0 ∙ old.1) (inr old.0))
      ]
      | inr stays ↦ inr (kept k n h (ap (λ (y : Session). handle_at y n) (sym stays.1) ∙ found) (inl stays.0))
    ]

    pub well_opened-rename : WellOpened (with_session (record s { objects = moved_object s.objects handle.name new }) i (with_handle (session_at s i) number (record handle { name = new })))
    well_opened-rename = well_after s (with_session (record s { objects = moved }) i renamed) IsRenamed well new_renamed
        (set_numbers s i renamed well.numbered (numbers-with (session_at s i) number (record handle { name = new }) (well.numbered i))) from

  abbrev closed : Session
  closed = without_handle (session_at s i) number

  abbrev rest : ObjectMap
  rest = without_object s.objects handle.name

  left : (k n : ℕ) (h : Handle) → handle_at (session_at s k) n ≡ Some h → (k ≢ i) ⊎ (n ≢ number) → IsOld s rest k n h
  left k n h found other = record {
    same = same_itself (session_at s k) n h found;
    sound = sound-without s.objects handle.name h.name (other_name k n h found other) (well.sound k n h found);
  }

  stays_open : (k n : ℕ) (h : Handle) → handle_at (session_at (with_session s i closed) k) n ≡ Some h → NoNew k n h ⊎ IsOld s rest k n h
  stays_open k n h found = elim (set-in s.sessions i k closed (new_session []) range) [
    | inl set_ ↦
        let old = taken-found (session_at s i).handles (session_at s i).next_handle number n h (well.numbered i) (ap (λ (y : Session). handle_at y n) (sym set_.1) ∙ found) in
        inr (left k n h (ap (λ (m : ℕ). handle_at (session_at s m) n) set_.0 ∙ old.1) (inr old.0))
    | inr stays ↦ inr (left k n h (ap (λ (y : Session). handle_at y n) (sym stays.1) ∙ found) (inl stays.0))
  ]

  pub well_opened-delete : WellOpened (with_session (record s { objects = without_object s.objects handle.name }) i (without_handle (session_at s i) number))
  well_opened-delete = well_after s (with_session (record s { objects = rest }) i closed) NoNew well (no_new s rest)
      (set_numbers s i closed well.numbered (numbers-without (session_at s i) number (well.numbered i))) stays_open
