-- A step of the machine keeps its handles well opened: each live handle after it is one of before, or the one that is new.
use Rattle.std.proofs.Common.{◌≡◌, ◌⊎◌, ℕ, true, Some, inl, inr, refl, sym, ◌∙◌}
use Rattle.tee_types.specs.Rights.{are_compatible}
use Rattle.store_model.specs.declared.session.Handle.{Handle}
use Rattle.store_model.specs.Object.{ObjectMap}
use Rattle.store_model.specs.Machine.{MachineState, Session, handle_at, session_at}
use Rattle.call_rules.specs.Numbers.{HasNumbers}
use Rattle.call_rules.specs.WellOpened.{IsSoundAt, WellOpened}
use Rattle.call_rules.proofs.Sharing.{are_compatible-turned}

-- the handle is a live one of the session but for its position
pub record IsSame (session : Session) (number : ℕ) (h : Handle) : Type 0 where
  pub before : Handle
  pub live : handle_at session number ≡ Some before
  pub name : h.name ≡ before.name
  pub flags : h.flags ≡ before.flags

-- the handle is a live one of before, and its object is sound after
pub record IsOld (s : MachineState) (objects : ObjectMap) (i number : ℕ) (h : Handle) : Type 0 where
  pub same : IsSame (session_at s i) number h
  pub sound : IsSoundAt objects h.name

pub same_itself : (session : Session) (number : ℕ) (h : Handle) → handle_at session number ≡ Some h → IsSame session number h
same_itself session number h live = record { before = h; live = live; name = refl; flags = refl }

-- the new handle: at most one, on a sound object, and compatible with each old one on its object
pub record IsNewHandle (s : MachineState) (objects : ObjectMap) (New : ℕ → ℕ → Handle → Type 0) : Type 0 where
  pub sound : (i number : ℕ) (h : Handle) → New i number h → IsSoundAt objects h.name
  pub one : (i j number other : ℕ) (h g : Handle) → New i number h → New j other g → (i ≡ j) × (number ≡ other)
  pub shares : (i j number other : ℕ) (h g : Handle) → New i number h → IsOld s objects j other g → h.name ≡ g.name → are_compatible h.flags g.flags ≡ true

module _ (s t : MachineState) (New : ℕ → ℕ → Handle → Type 0) (well : WellOpened s) (new : IsNewHandle s t.objects New) where
  private_compatible : (i j number other : ℕ) (h g : Handle) → New i number h ⊎ IsOld s t.objects i number h → New j other g ⊎ IsOld s t.objects j other g → h.name ≡ g.name
      → ((i ≡ j) × (number ≡ other)) ⊎ (are_compatible h.flags g.flags ≡ true)
  private_compatible i j number other h g (inl a) (inl b) alike = inl (new.one i j number other h g a b)
  private_compatible i j number other h g (inl a) (inr b) alike = inr (new.shares i j number other h g a b alike)
  private_compatible i j number other h g (inr a) (inl b) alike =
      inr (are_compatible-turned h.flags g.flags ∙ new.shares j i other number g h b a (sym alike))
  private_compatible i j number other h g (inr a) (inr b) alike =
      elim (well.compatible i j number other a.same.before b.same.before a.same.live b.same.live (sym a.same.name ∙ alike ∙ b.same.name)) [
        | inl same ↦ inl same
        | inr shares ↦ inr ((λ k. are_compatible (a.same.flags k) (b.same.flags k)) ∙ shares)
      ]

  pub well_after : ((i : ℕ) → HasNumbers (session_at t i))
      → ((i number : ℕ) (h : Handle) → handle_at (session_at t i) number ≡ Some h → New i number h ⊎ IsOld s t.objects i number h) → WellOpened t
  well_after numbered from = record {
    numbered = numbered;
    sound = λ i number h live. elim (from i number h live) [ inl a ↦ new.sound i number h a | inr b ↦ b.sound ];
    compatible = λ i j number other h g live live' alike. private_compatible i j number other h g (from i number h live) (from j other g live') alike;
  }

-- no handle is new
abbrev pub NoNew : ℕ → ℕ → Handle → Type 0
NoNew i number h = ⊥
