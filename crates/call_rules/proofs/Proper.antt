-- Calls that are no misuse.
use Rattle.std.proofs.Common.{◌≡◌, ◌∙◌, ℕ, Bool, true, false, List, [], ◌∷◌, Option, Some, refl, ap}
use Rattle.tee_types.specs.declared.call.Call.{Call}
use Rattle.tee_types.specs.declared.reply.Reply.{Reply}
use Rattle.store_model.specs.declared.name.ObjectName.{ObjectName}
use Rattle.store_model.specs.Object.{Object, Contents, Sound, Damaged, object_at}
use Rattle.store_model.specs.Machine.{MachineState, Outcome, of_sound, unless_refused}
use Rattle.store_model.specs.Calls.{outcome_of}
use Rattle.store_model.specs.Files.{is_misuse}
use Rattle.call_rules.specs.Objects.{HasObject, IsOfObject}

-- no row refuses a misuse
abbrev pub AreProper : List (Bool × Reply) → Type 0
AreProper [] = Unit {0}
AreProper (row ∷ rows) = (is_misuse row.1 ≡ false) × AreProper rows

pub proper_unless : (rows : List (Bool × Reply)) (s : MachineState) (done : Outcome) → AreProper rows → is_misuse done.reply ≡ false
    → is_misuse (unless_refused rows s done).reply ≡ false
proper_unless [] s done rows h = h
proper_unless ((true, reply) ∷ rest) s done rows h = rows.0
proper_unless ((false, reply) ∷ rest) s done rows h = proper_unless rest s done rows.1 h

proper_sound : (s : MachineState) (object : Object) (done : Contents → Outcome) → ((c : Contents) → is_misuse (done c).reply ≡ false)
    → is_misuse (of_sound s (Some object) done).reply ≡ false
proper_sound s (Sound c) done h = h c
proper_sound s (Damaged size) done h = refl

-- a call on an object that is there
pub of_object : (s : MachineState) (i : ℕ) (call : Call) (name : ObjectName) (size : ℕ) (done : Contents → Outcome) → HasObject s.objects name size
    → outcome_of s i call ≡ of_sound s (object_at s.objects name) done → ((c : Contents) → is_misuse (done c).reply ≡ false)
    → IsOfObject s i call name size done
of_object s i call name size done there outcome proper = record {
  there = there;
  outcome = outcome;
  proper = ap (λ (o : Outcome). is_misuse o.reply) outcome ∙ ap (λ (o : Option Object). is_misuse (of_sound s o done).reply) there.at
      ∙ proper_sound s there.object done proper;
}
