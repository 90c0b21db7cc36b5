-- The controls of a script carry devices of the bench.
use Rattle.std.proofs.Common.{◌≡◌, ◌≤◌, ◌<◌, ◌^◌, ◌∙◌, ◌&&◌, nat_le, ℕ, Bool, true, false, cond, List, [], ◌∷◌, length, ap, refl, sym, subst, Option, Some, None, arith}
use Rattle.std.specs.Prelude.{codes}
use Rattle.std.specs.Option.{option_map}
use Rattle.std.specs.Str.Parse.{digits_value}
use Rattle.std.proofs.lemmas.Bool.{and_parts}
use Rattle.std.proofs.lemmas.Bool.Decides.{nat_tests}
use Rattle.tee_types.specs.Limits.{IsObjectFile, last_file, most_objects}
use Rattle.tee_types.specs.declared.reply.Device.{Device}
use Rattle.tee_types.specs.declared.reply.Device.TheVariants.{Dir, File, Card, Entropy}
use Rattle.script_text.specs.declared.controls.ControlVerb.{ControlVerb}
use Rattle.script_text.specs.declared.controls.ControlVerb.TheVariants.{Serial as SerialVerb, Threads as ThreadsVerb, Phase as PhaseVerb, Stop as StopVerb, Fail as FailVerb, Lose as LoseVerb, Taint as TaintVerb, Crash as CrashVerb, Save as SaveVerb, Restore as RestoreVerb, Flip as FlipVerb, Quota as QuotaVerb, List as ListVerb}
use Rattle.script_text.specs.declared.script.Arm.{Arm}
use Rattle.script_text.specs.declared.script.Arm.TheVariants.{Stop, Fail, Lose, Taint}
use Rattle.script_text.specs.declared.script.Control.{Control}
use Rattle.script_text.specs.declared.script.Control.TheVariants.{Mode as ModeControl, Phase, Arm as ArmControl, Crash, Save, Restore, Flip, Quota, List as ListControl}
use Rattle.script_text.specs.declared.script.Mode.TheVariants.{Serial, Threads}
use Rattle.script_text.specs.Words.{same_word, are_digits, numeral_of, uuid_of, number_of, object_count_of, if_positive, positive_of, place_of_call, seed_of, device_of, file_of, is_mark, mark_of, mask_of}
use Rattle.script_text.specs.Controls.{stop_words, fail_words, lose_words, taint_words, crash_words, save_words, restore_words, flip_words, quota_words, alone, arming, control_verb_of, control_words, control_of}
use Rattle.script_text.specs.Laws.{IsArmable, IsFileDevice, IsMask, IsArm, IsControl}
use Rattle.script_text.proofs.FormedCalls.{mask-formed, from_bind, cond-some}

numeral-most : (base greatest : ℕ) (word : List ℕ) (n : ℕ) → numeral_of base greatest word ≡ Some n → n ≤ greatest
unfolding numeral_of
numeral-most base greatest word n is =
    let parts = cond-some (nat_le 1 (length word) && are_digits base word && nat_le (digits_value base word) greatest) (Some (digits_value base word)) n is in
    let bounds = and_parts (nat_le 1 (length word) && are_digits base word) (nat_le (digits_value base word) greatest) parts.0 in
    let same : digits_value base word ≡ n = cc (parts.1) in
    let within : digits_value base word ≤ greatest = grind (arith, nat_tests, bounds.1) in
    subst (λ v. v ≤ greatest) same within

positive-least : (number n : ℕ) → if_positive number ≡ Some n → (number ≡ n) × (1 ≤ n)
positive-least number n is =
    let parts = cond-some (nat_le 1 number) (Some number) n is in
    let same : number ≡ n = cc (parts.1) in
    let least : 1 ≤ number = grind (arith, nat_tests, parts.0) in
    (same, subst (λ v. 1 ≤ v) same least)

positive-within : (greatest : ℕ) (word : List ℕ) (n : ℕ) → positive_of greatest word ≡ Some n → (1 ≤ n) × (n ≤ greatest)
unfolding positive_of
positive-within greatest word n is =
    let read = from_bind (numeral_of 10 greatest word) if_positive n is in
    let least = positive-least read.0 n read.2 in
    (least.1, subst (λ v. v ≤ greatest) least.0 (numeral-most 10 greatest word read.0 read.1))

numbered-file : (file : Option ℕ) (device : Device) → ((n : ℕ) → file ≡ Some n → IsObjectFile n) → option_map File file ≡ Some device → IsFileDevice device
numbered-file (Some n) device within is = let same : File n ≡ device = cc (is) in subst IsFileDevice same (within n refl)
numbered-file None device within is = absurd (cc (is))

file-formed : (word : List ℕ) (device : Device) → file_of word ≡ Some device → IsFileDevice device
unfolding file_of
file-formed word device is = one (same_word word (codes "dir")) is
  where
    one : (a : Bool) → cond a (Some Dir) (option_map File (positive_of last_file word)) ≡ Some device → IsFileDevice device
    one true is = let same : Dir ≡ device = cc (is) in subst IsFileDevice same tt
    one false is = numbered-file (positive_of last_file word) device (positive-within last_file word) is

-- a file can be armed
file-armable : (device : Device) → IsFileDevice device → IsArmable device
file-armable Dir is = tt
file-armable (File number) is = is
file-armable Card is = tt
file-armable Entropy is = is

device-armable : (word : List ℕ) (device : Device) → device_of word ≡ Some device → IsArmable device
unfolding device_of
device-armable word device is = one (same_word word (codes "card")) is
  where
    one : (a : Bool) → cond a (Some Card) (file_of word) ≡ Some device → IsArmable device
    one true is = let same : Card ≡ device = cc (is) in subst IsArmable same tt
    one false is = file-armable device (file-formed word device is)

number-formed : (word : List ℕ) (n : ℕ) → number_of word ≡ Some n → n < 2 ^ 32
number-formed word n is = let most : n ≤ 4294967295 = numeral-most 10 4294967295 word n is in omega (arith, most)

laid-formed : (place word : List ℕ) (at : ℕ) (mask : List ℕ) → number_of place ≡ Some at → mask_of word ≡ Some mask → IsMask at mask
laid-formed place word at mask placed masked = let formed = mask-formed word mask masked in (number-formed place at placed, formed.0, formed.1)

mark-formed : (word mark : List ℕ) → mark_of word ≡ Some mark → is_mark mark ≡ true
unfolding mark_of
mark-formed word mark is =
    let parts = cond-some (is_mark word) (Some word) mark is in
    let same : word ≡ mark = cc (parts.1) in
    ap is_mark (sym same) ∙ parts.0

stop-formed : (words : List (List ℕ)) (arm : Arm) → stop_words words ≡ Some arm → IsArm arm
unfolding stop_words
stop-formed (device ∷ calls ∷ []) arm is =
    let d = from_bind (device_of device) _ arm is in
    let n = from_bind (number_of calls) _ arm d.2 in
    let same : Stop d.0 n.0 ≡ arm = cc (n.2) in
    subst IsArm same (device-armable device d.0 d.1)
stop-formed [] arm is = absurd (cc (is))
stop-formed (device ∷ []) arm is = absurd (cc (is))
stop-formed (device ∷ calls ∷ more ∷ words) arm is = absurd (cc (is))

fail-formed : (words : List (List ℕ)) (arm : Arm) → fail_words words ≡ Some arm → IsArm arm
unfolding fail_words
fail-formed (device ∷ call ∷ []) arm is =
    let d = from_bind (device_of device) _ arm is in
    let n = from_bind (place_of_call call) _ arm d.2 in
    let same : Fail d.0 n.0 ≡ arm = cc (n.2) in
    subst IsArm same (device-armable device d.0 d.1, (positive-within 4294967295 call n.0 n.1).0)
fail-formed [] arm is = absurd (cc (is))
fail-formed (device ∷ []) arm is = absurd (cc (is))
fail-formed (device ∷ call ∷ more ∷ words) arm is = absurd (cc (is))

lose-formed : (words : List (List ℕ)) (arm : Arm) → lose_words words ≡ Some arm → IsArm arm
unfolding lose_words
lose-formed (card ∷ call ∷ []) arm is =
    let parts = cond-some (same_word card (codes "card")) _ arm is in
    let n = from_bind (place_of_call call) _ arm parts.1 in
    let same : Lose n.0 ≡ arm = cc (n.2) in
    subst IsArm same (positive-within 4294967295 call n.0 n.1).0
lose-formed [] arm is = absurd (cc (is))
lose-formed (card ∷ []) arm is = absurd (cc (is))
lose-formed (card ∷ call ∷ more ∷ words) arm is = absurd (cc (is))

taint-formed : (words : List (List ℕ)) (arm : Arm) → taint_words words ≡ Some arm → IsArm arm
unfolding taint_words
taint-formed (file ∷ call ∷ at ∷ mask ∷ []) arm is =
    let f = from_bind (file_of file) _ arm is in
    let n = from_bind (place_of_call call) _ arm f.2 in
    let a = from_bind (number_of at) _ arm n.2 in
    let m = from_bind (mask_of mask) _ arm a.2 in
    let same : Taint f.0 n.0 a.0 m.0 ≡ arm = cc (m.2) in
    subst IsArm same (file-formed file f.0 f.1, (positive-within 4294967295 call n.0 n.1).0, laid-formed at mask a.0 m.0 a.1 m.1)
taint-formed [] arm is = absurd (cc (is))
taint-formed (file ∷ []) arm is = absurd (cc (is))
taint-formed (file ∷ call ∷ []) arm is = absurd (cc (is))
taint-formed (file ∷ call ∷ at ∷ []) arm is = absurd (cc (is))
taint-formed (file ∷ call ∷ at ∷ mask ∷ more ∷ words) arm is = absurd (cc (is))

save-formed : (words : List (List ℕ)) (control : Control) → save_words words ≡ Some control → IsControl control
unfolding save_words
save-formed (mark ∷ []) control is =
    let m = from_bind (mark_of mark) _ control is in
    let same : Save m.0 ≡ control = cc (m.2) in
    subst IsControl same (mark-formed mark m.0 m.1)
save-formed [] control is = absurd (cc (is))
save-formed (mark ∷ more ∷ words) control is = absurd (cc (is))

restore-formed : (words : List (List ℕ)) (control : Control) → restore_words words ≡ Some control → IsControl control
unfolding restore_words
restore-formed (file ∷ mark ∷ []) control is =
    let f = from_bind (file_of file) _ control is in
    let m = from_bind (mark_of mark) _ control f.2 in
    let same : Restore f.0 m.0 ≡ control = cc (m.2) in
    subst IsControl same (file-formed file f.0 f.1, mark-formed mark m.0 m.1)
restore-formed [] control is = absurd (cc (is))
restore-formed (file ∷ []) control is = absurd (cc (is))
restore-formed (file ∷ mark ∷ more ∷ words) control is = absurd (cc (is))

flip-formed : (words : List (List ℕ)) (control : Control) → flip_words words ≡ Some control → IsControl control
unfolding flip_words
flip-formed (file ∷ at ∷ mask ∷ []) control is =
    let f = from_bind (file_of file) _ control is in
    let a = from_bind (number_of at) _ control f.2 in
    let m = from_bind (mask_of mask) _ control a.2 in
    let same : Flip f.0 a.0 m.0 ≡ control = cc (m.2) in
    subst IsControl same (file-formed file f.0 f.1, laid-formed at mask a.0 m.0 a.1 m.1)
flip-formed [] control is = absurd (cc (is))
flip-formed (file ∷ []) control is = absurd (cc (is))
flip-formed (file ∷ at ∷ []) control is = absurd (cc (is))
flip-formed (file ∷ at ∷ mask ∷ more ∷ words) control is = absurd (cc (is))

quota-formed : (words : List (List ℕ)) (control : Control) → quota_words words ≡ Some control → IsControl control
unfolding quota_words
quota-formed (app ∷ objects ∷ bytes ∷ []) control is =
    let a = from_bind (uuid_of app) _ control is in
    let o = from_bind (object_count_of objects) _ control a.2 in
    let b = from_bind (number_of bytes) _ control o.2 in
    let same : Quota a.0 o.0 b.0 ≡ control = cc (b.2) in
    subst IsControl same (numeral-most 10 most_objects objects o.0 o.1, number-formed bytes b.0 b.1)
quota-formed [] control is = absurd (cc (is))
quota-formed (app ∷ []) control is = absurd (cc (is))
quota-formed (app ∷ objects ∷ []) control is = absurd (cc (is))
quota-formed (app ∷ objects ∷ bytes ∷ more ∷ words) control is = absurd (cc (is))

crash-formed : (words : List (List ℕ)) (control : Control) → crash_words words ≡ Some control → IsControl control
unfolding crash_words
crash-formed (seed ∷ []) control is =
    let s = from_bind (seed_of seed) _ control is in
    let same : Crash s.0 ≡ control = cc (s.2) in
    let most : s.0 ≤ 18446744073709551615 = numeral-most 10 18446744073709551615 seed s.0 s.1 in
    subst IsControl same (omega (arith, most))
crash-formed [] control is = absurd (cc (is))
crash-formed (seed ∷ more ∷ words) control is = absurd (cc (is))

alone-formed : (words : List (List ℕ)) (made control : Control) → IsControl made → alone made words ≡ Some control → IsControl control
alone-formed [] made control fine is = let same : made ≡ control = cc (is) in subst IsControl same fine
alone-formed (word ∷ words) made control fine is = absurd (cc (is))

arming-formed : (arm : Option Arm) (control : Control) → ((a : Arm) → arm ≡ Some a → IsArm a) → arming arm ≡ Some control → IsControl control
arming-formed (Some a) control fine is = let same : ArmControl a ≡ control = cc (is) in subst IsControl same (fine a refl)
arming-formed None control fine is = absurd (cc (is))

verb-formed : (verb : ControlVerb) (words : List (List ℕ)) (control : Control) → control_words verb words ≡ Some control → IsControl control
verb-formed SerialVerb words control is = alone-formed words (ModeControl Serial) control tt is
verb-formed ThreadsVerb words control is = alone-formed words (ModeControl Threads) control tt is
verb-formed PhaseVerb words control is = alone-formed words Phase control tt is
verb-formed StopVerb words control is = arming-formed (stop_words words) control (stop-formed words) is
verb-formed FailVerb words control is = arming-formed (fail_words words) control (fail-formed words) is
verb-formed LoseVerb words control is = arming-formed (lose_words words) control (lose-formed words) is
verb-formed TaintVerb words control is = arming-formed (taint_words words) control (taint-formed words) is
verb-formed CrashVerb words control is = crash-formed words control is
verb-formed SaveVerb words control is = save-formed words control is
verb-formed RestoreVerb words control is = restore-formed words control is
verb-formed FlipVerb words control is = flip-formed words control is
verb-formed QuotaVerb words control is = quota-formed words control is
verb-formed ListVerb words control is = alone-formed words ListControl control tt is

-- the control of a line is well formed
pub control-formed : (word : List ℕ) (words : List (List ℕ)) (control : Control) → control_of word words ≡ Some control → IsControl control
unfolding control_of
control-formed word words control is =
    let v = from_bind (control_verb_of word) (λ (v : ControlVerb). control_words v words) control is in
    verb-formed v.0 words control v.2
