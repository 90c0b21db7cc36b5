-- Calls that rename and delete an open object.
use Rattle.std.specs.Prelude.{ℕ, List, [], ◌∷◌}
use Rattle.tee_types.specs.Rights.{write_meta_bit}
use Rattle.tee_types.specs.declared.reply.Reply.TheVariants.{Done, Refused}
use Rattle.tee_types.specs.declared.reply.Code.TheVariants.{AccessConflict}
use Rattle.store_model.specs.Object.{holds, moved_object, without_object}
use Rattle.store_model.specs.Machine.{MachineState, Outcome, session_at, with_session, name_in, handle_at, with_handle, without_handle, unless_refused, by_right}

-- TEE_RenamePersistentObject: the object has the new identifier, and the handle stays open on it. An identifier that is held
-- conflicts, the object's own too.
unfoldable pub rename_of : MachineState → ℕ → ℕ → List ℕ → Outcome
rename_of s i number id = by_right s write_meta_bit (handle_at (session_at s i) number)
    (λ handle.
    let name = name_in s i id in
    unless_refused ((holds s.objects name, Refused AccessConflict) ∷ []) s
    (record {
      reply = Done;
      next = with_session (record s { objects = moved_object s.objects handle.name name }) i
          (with_handle (session_at s i) number (record handle { name = name }));
    }))

-- TEE_CloseAndDeletePersistentObject1: the object and the handle are gone.
unfoldable pub delete_of : MachineState → ℕ → ℕ → Outcome
delete_of s i number = by_right s write_meta_bit (handle_at (session_at s i) number)
    (λ handle. record {
      reply = Done;
      next = with_session (record s { objects = without_object s.objects handle.name }) i (without_handle (session_at s i) number);
    })
