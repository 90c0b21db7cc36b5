-- The state after a change of one object.
use Rattle.std.proofs.Common.{◌≡◌, ℕ, List, [], Some, None, ap, ◌∙◌, sym, unwrap_or, is_some}
use Rattle.std.proofs.lemmas.Map.Steps.{set_value_same}
use Rattle.std.proofs.lemmas.Bool.{false≢true}
use Rattle.store_model.specs.declared.name.ObjectName.{ObjectName}
use Rattle.store_model.specs.Object.{Object, Sound, ObjectMap, object_at, changed_object, attributes_of, bytes_of}
use Rattle.store_model.specs.Machine.{MachineState, Session}

pub change_ok : (old : MachineState) (entries changed : ObjectMap) (sessions : List Session) (name : ObjectName) (object new : Object) (attributes bytes : List ℕ) (after : List ℕ → List ℕ)
    → record { objects = entries; sessions = sessions } ≡ old
    → Some object ≡ object_at entries name
    → changed ≡ changed_object entries name new
    → new ≡ Sound (record { attributes = attributes_of object; bytes = after (bytes_of object); bad = [] })
    → object_at old.objects name ≡ Some (Sound (record { attributes = attributes; bytes = bytes; bad = [] }))
    → record { objects = changed; sessions = sessions } ≡ record old { objects = changed_object old.objects name (Sound (record { attributes = attributes; bytes = after bytes; bad = [] })) }
change_ok old entries changed sessions name object new attributes bytes after view at change is found =
    let sound : Object = Sound (record { attributes = attributes; bytes = bytes; bad = [] }) in
    let same : Some object ≡ Some sound = at ∙ ap (λ s. object_at s.objects name) view ∙ found in
    let object-is : object ≡ sound = ap (λ o. unwrap_or o object) same in
    let new-is : new ≡ Sound (record { attributes = attributes; bytes = after bytes; bad = [] }) =
    is ∙ ap (λ o. Sound (record { attributes = attributes_of o; bytes = after (bytes_of o); bad = [] })) object-is in
    ap (λ es. record { objects = es; sessions = sessions }) change
    ∙ ap (λ o. record { objects = changed_object entries name o; sessions = sessions }) new-is
    ∙ ap (λ s. record { objects = changed_object s.objects name (Sound (record { attributes = attributes; bytes = after bytes; bad = [] })); sessions = s.sessions }) view

pub change_err : (old : MachineState) (entries changed : ObjectMap) (sessions : List Session) (name : ObjectName) (object new : Object)
    → record { objects = entries; sessions = sessions } ≡ old
    → Some object ≡ object_at entries name
    → changed ≡ changed_object entries name new
    → new ≡ object
    → record { objects = changed; sessions = sessions } ≡ old
change_err old entries changed sessions name object new view at change is =
    ap (λ es. record { objects = es; sessions = sessions }) (change ∙ ap (λ o. changed_object entries name o) is ∙ set_value_same _ entries object (sym at))
    ∙ view

-- a name that is held has an object
pub none_at_held : (old : MachineState) (entries : ObjectMap) (sessions : List Session) (name : ObjectName) (object : Object) → record { objects = entries; sessions = sessions } ≡ old → None ≡ object_at entries name → object_at old.objects name ≡ Some object → ⊥
none_at_held old entries sessions name object view none found =
    false≢true (ap is_some (none ∙ ap (λ s. object_at s.objects name) view ∙ found))
