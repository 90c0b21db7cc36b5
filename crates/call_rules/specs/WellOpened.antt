-- What holds of the open handles of the machine at all times.
use Rattle.std.specs.Prelude.{◌≡◌, ◌⊎◌, ℕ, true, Some}
use Rattle.tee_types.specs.Rights.{are_compatible}
use Rattle.store_model.specs.declared.name.ObjectName.{ObjectName}
use Rattle.store_model.specs.declared.session.Handle.{Handle}
use Rattle.store_model.specs.Object.{Contents, Sound, ObjectMap, object_at}
use Rattle.store_model.specs.Machine.{MachineState, handle_at, session_at}
use Rattle.call_rules.specs.Numbers.{HasNumbers}

-- The object of that name is there and sound.
pub record IsSoundAt (objects : ObjectMap) (name : ObjectName) : Type 0 where
  pub contents : Contents
  pub is : object_at objects name ≡ Some (Sound contents)

-- The object of each live handle is there and sound, any two live handles on one object are compatible, and each has a number of its own
-- in its session.
pub record WellOpened (s : MachineState) : Type 0 where
  pub numbered : (i : ℕ) → HasNumbers (session_at s i)
  pub sound : (i number : ℕ) (h : Handle) → handle_at (session_at s i) number ≡ Some h → IsSoundAt s.objects h.name
  pub compatible : (i j number other : ℕ) (h g : Handle) → handle_at (session_at s i) number ≡ Some h → handle_at (session_at s j) other ≡ Some g
      → h.name ≡ g.name → ((i ≡ j) × (number ≡ other)) ⊎ (are_compatible h.flags g.flags ≡ true)
