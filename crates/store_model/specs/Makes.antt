-- What a commit does to the map of objects.
use Rattle.std.specs.Prelude.{◌≡◌, ℕ, true, false, [], Some}
use Rattle.tee_types.specs.declared.call.Call.{Call}
use Rattle.tee_types.specs.declared.call.Call.TheVariants.{Create, Write, Truncate, Rename, Delete}
use Rattle.store_model.specs.declared.session.Handle.{Handle}
use Rattle.store_model.specs.declared.name.ObjectName.{ObjectName}
use Rattle.store_model.specs.Object.{Object, Contents, Sound, ObjectMap, object_at, holds, with_object, changed_object, without_object, moved_object}
use Rattle.store_model.specs.Machine.{MachineState, session_at, handle_at, name_in}
use Rattle.store_model.specs.Data.{written_contents, resized_contents}
use Rattle.store_model.specs.Calls.{reply_of, state_after, is_commit}

pub data MapChange : Type 0 where
  -- an object stands under the name, in place of the one that was there
  Put : ObjectName → Object → MapChange
  -- the object of that name is another
  Change : ObjectName → Object → MapChange
  -- the object of one name has another
  Move : ObjectName → ObjectName → MapChange
  -- the object of that name is gone
  Remove : ObjectName → MapChange

abbrev pub changed_map : MapChange → ObjectMap → ObjectMap
changed_map (Put name object) objects = with_object objects name object
changed_map (Change name object) objects = changed_object objects name object
changed_map (Move old new) objects = moved_object objects old new
changed_map (Remove name) objects = without_object objects name

-- the session's live handle of that number stands for the object of that name
pub record IsNamedBy (s : MachineState) (i number : ℕ) (name : ObjectName) : Type 0 where
  pub handle : Handle
  pub live : handle_at (session_at s i) number ≡ Some handle
  pub named : handle.name ≡ name

-- The handle's object is sound, and has new contents.
pub record HasContents (s : MachineState) (i number : ℕ) (name : ObjectName) (object : Object) (change : Handle → Contents → Contents) : Type 0 where
  pub handle : Handle
  pub live : handle_at (session_at s i) number ≡ Some handle
  pub named : handle.name ≡ name
  pub old : Contents
  pub was : object_at s.objects name ≡ Some (Sound old)
  pub is : object ≡ Sound (change handle old)

-- the change that the commit of a call makes
abbrev pub MakesChange : MachineState → ℕ → Call → MapChange → Type 0
MakesChange s i (Create id flags attributes bytes) (Put name object) =
    (name ≡ name_in s i id) × (object ≡ Sound (record { attributes = attributes; bytes = bytes; bad = [] }))
MakesChange s i (Write handle bytes) (Change name object) =
    HasContents s i handle name object (λ live old. written_contents old live.position bytes)
MakesChange s i (Truncate handle size) (Change name object) = HasContents s i handle name object (λ live old. resized_contents old size)
MakesChange s i (Rename handle id) (Move old new) = IsNamedBy s i handle old × (new ≡ name_in s i id) × (holds s.objects new ≡ false)
MakesChange s i (Delete handle) (Remove name) = IsNamedBy s i handle name
MakesChange s i _ _ = ⊥

-- What the commit of a call does to the map.
pub record IsMadeChange (s : MachineState) (i : ℕ) (call : Call) (change : MapChange) : Type 0 where
  pub makes : MakesChange s i call change
  pub leaves : (state_after s i call).objects ≡ changed_map change s.objects

-- A call that is a commit makes its change.
abbrev pub CommitsMakeChanges : Type 0
CommitsMakeChanges =
    (s : MachineState) (i : ℕ) (call : Call) → is_commit s i call (reply_of s i call) ≡ true → (change : MapChange) × IsMadeChange s i call change
