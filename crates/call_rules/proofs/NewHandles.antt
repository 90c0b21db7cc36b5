-- Steps that give a handle, and those of the handle that may rename: it is alone on its object.
use Rattle.std.proofs.Common.{◌≡◌, ◌⊎◌, ◌+◌, ℕ, Bool, true, false, true≢false, cond, [], ◌∷◌, ◌++◌, Option, Some, is_some, inl, inr, refl, sym, ap, ◌∙◌, subst}
use Rattle.std.specs.Ordering.{is_eq}
use Rattle.enumerators.proofs.Numbering.{IsNumbered-append}
use Rattle.tee_types.specs.declared.flags.Flags.{Flags}
use Rattle.tee_types.specs.Rights.{are_compatible}
use Rattle.store_model.specs.declared.name.ObjectName.{ObjectName}
use Rattle.store_model.specs.declared.session.Handle.{Handle}
use Rattle.store_model.specs.Object.{Contents, Object, ObjectMap, Sound, object_at, with_object, without_object, changed_object}
use Rattle.store_model.specs.Machine.{MachineState, Session, handle_at, new_session, session_at, with_session}
use Rattle.store_model.proofs.Maps.{at, name_cmp_total}
use Rattle.std.proofs.lemmas.Cmp.{tied_itself}
use Rattle.store_model.proofs.MapLaws.{alike, object_at-with, object_at-changed}
use Rattle.core_laws.proofs.Names.{alike_is}
use Rattle.call_rules.specs.WellOpened.{IsSoundAt, WellOpened}
use Rattle.call_rules.proofs.EntryLists.{added-found}
use Rattle.call_rules.proofs.HandleSteps.{IsNewHandle, IsOld, same_itself, well_after}
use Rattle.call_rules.proofs.QuietSteps.{KeepsSound, set_numbers}
use Rattle.call_rules.proofs.SessionLists.{set-cases}

-- objects that are put and changed are sound, and the others stay
sound_cond : (b : Bool) (c : Contents) (old : Option Object) (objects : ObjectMap) (name : ObjectName) → object_at objects name ≡ cond b (Some (Sound c)) old
    → (b ≡ false → (x : Contents) × (old ≡ Some (Sound x))) → IsSoundAt objects name
sound_cond true c old objects name is stays = record { contents = c; is = is }
sound_cond false c old objects name is stays = record { contents = (stays refl).0; is = is ∙ (stays refl).1 }

pub keeps_sound-with : (objects : ObjectMap) (name : ObjectName) (c : Contents) → KeepsSound objects (with_object objects name (Sound c))
keeps_sound-with objects name c q sound =
    sound_cond (at name q) c (object_at objects q) (with_object objects name (Sound c)) q (object_at-with objects name q (Sound c)) (λ _. (sound.contents, sound.is))

pub sound-put : (objects : ObjectMap) (name : ObjectName) (c : Contents) → IsSoundAt (with_object objects name (Sound c)) name
sound-put objects name c =
    sound_cond (at name name) c (object_at objects name) (with_object objects name (Sound c)) name (object_at-with objects name name (Sound c)) (λ other. absurd (true≢false (sym (ap is_eq (tied_itself name_cmp_total name)) ∙ other)))

pub keeps_sound-changed : (objects : ObjectMap) (name : ObjectName) (c : Contents) → IsSoundAt objects name → KeepsSound objects (changed_object objects name (Sound c))
keeps_sound-changed objects name c here q sound =
    sound_cond (at name q) c (object_at objects q) (changed_object objects name (Sound c)) q
    (object_at-changed objects name q (Sound c) (ap is_some here.is)) (λ _. (sound.contents, sound.is))

-- an object of another name stays where one is taken away
pub without-other : (objects : ObjectMap) (name q : ObjectName) → at name q ≡ false → object_at (without_object objects name) q ≡ object_at objects q
without-other [] name q apart = refl
without-other (e ∷ objects) name q apart = (elim (at name e.0) as (λ b. at name e.0 ≡ b → object_at (cond b objects (e ∷ without_object objects name)) q ≡ object_at (e ∷ objects) q) [
  | true ↦ λ hit.
      let one : name ≡ e.0 = alike_is name e.0 hit in
      let miss : at q e.0 ≡ false = alike.symm q e.0 ∙ ap (λ (n : ObjectName). at n q) (sym one) ∙ apart in
      sym (ap (λ (b : Bool). cond b (Some e.1) (object_at objects q)) miss)
  | false ↦ λ _. ap (λ (o : Option Object). cond (at q e.0) (Some e.1) o) (without-other objects name q apart)
]) refl

module _ (s : MachineState) (well : WellOpened s) where
  -- a new handle, where it is compatible with each live one on its object
  module _ (objects : ObjectMap) (i : ℕ) (name : ObjectName) (flags : Flags) (sound : KeepsSound s.objects objects) (here : IsSoundAt objects name)
      (shares : (j other : ℕ) (g : Handle) → handle_at (session_at s j) other ≡ Some g → g.name ≡ name → are_compatible flags g.flags ≡ true) where
    abbrev next : ℕ
    next = (session_at s i).next_handle

    abbrev opened : Session
    opened = record (session_at s i) { handles = (session_at s i).handles ++ (next, record { name = name; flags = flags; position = 0 }) ∷ []; next_handle = next + 1 }

    pub record IsOpened (k number : ℕ) (h : Handle) : Type 0 where
      pub session : k ≡ i
      pub number_is : number ≡ next
      pub name_is : h.name ≡ name
      pub flags_are : h.flags ≡ flags

    after : MachineState
    after = with_session (record s { objects = objects }) i opened

    is_new : IsNewHandle s objects IsOpened
    is_new = record {
      sound = λ k number h new. subst (IsSoundAt objects) (sym new.name_is) here;
      one = λ k j number other h g a b. (a.session ∙ sym b.session, a.number_is ∙ sym b.number_is);
      shares = λ k j number other h g new old alike.
          (λ m. are_compatible (new.flags_are m) (old.same.flags m)) ∙ shares j other old.same.before old.same.live (sym old.same.name ∙ sym alike ∙ new.name_is);
    }

    old_live : (k number : ℕ) (h : Handle) → handle_at (session_at s k) number ≡ Some h → IsOld s objects k number h
    old_live k number h live = record { same = same_itself (session_at s k) number h live; sound = sound h.name (well.sound k number h live) }

    from : (k number : ℕ) (h : Handle) → handle_at (session_at (with_session s i opened) k) number ≡ Some h → IsOpened k number h ⊎ IsOld s objects k number h
    from k number h live = elim (set-cases s.sessions i k opened (new_session [])) [
      | inl set_ ↦ elim (added-found (session_at s i).handles next (record { name = name; flags = flags; position = 0 }) h number (ap (λ (y : Session). handle_at y number) (sym set_.1) ∙ live)) [
        | inl old ↦ inr (old_live k number h (ap (λ (m : ℕ). handle_at (session_at s m) number) set_.0 ∙ old))
        | inr new ↦ inl (record { session = set_.0; number_is = new.0; name_is = ap (λ (x : Handle). x.name) new.1; flags_are = ap (λ (x : Handle). x.flags) new.1 })
      ]
      | inr stays ↦ inr (old_live k number h (ap (λ (y : Session). handle_at y number) (sym stays) ∙ live))
    ]

    pub well_opened-open : WellOpened (with_session (record s { objects = objects }) i opened)
    well_opened-open = well_after s (with_session (record s { objects = objects }) i opened) IsOpened well is_new
        (set_numbers s i opened well.numbered (IsNumbered-append 0 (session_at s i).handles next (record { name = name; flags = flags; position = 0 }) (well.numbered i))) from
