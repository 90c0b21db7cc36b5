-- Arms, one after another, and what they leave of a store that is mounted.
use Rattle.std.proofs.Common.{◌≡◌, ◌∙◌, ℕ, List, [], ◌∷◌, ◌++◌, Option, refl, sym, ap, subst}
use Rattle.disk_model.specs.State.{FileState}
use Rattle.rpmb_card.specs.Port.{PortState}
use Rattle.hmac_keys.specs.declared.Keys.{Keys}
use Rattle.tee_types.specs.declared.reply.Device.{Device}
use Rattle.tee_types.specs.declared.reply.Device.TheVariants.{Dir, File, Card, Entropy}
use Rattle.dir_records.specs.declared.entry.DirEntry.{DirEntry}
use Rattle.crash_core.specs.Mounting.{all_held_in, map_of}
use Rattle.crash_core.specs.Opening.{opening_map}
use Rattle.script_text.specs.declared.script.Arm.{Arm}
use Rattle.script_text.specs.Laws.{IsArmable, IsFileDevice}
use Rattle.object_calls.specs.OpeningArms.{IsFileOnBench, IsOnBench}
use Rattle.object_calls.specs.Opening.{OpeningValue}
use Rattle.run_acts.specs.Benches.{BenchState, opening_state}
use Rattle.run_acts.specs.PhaseArms.{ArmsAll, ArmsOneOf, OnlyDevices}
use Rattle.run_acts.proofs.ArmedFiles.{arms_keep}

-- what can be armed is of the bench
pub armable-on_bench : (device : Device) → IsArmable device → IsOnBench device
armable-on_bench Dir is = tt
armable-on_bench (File number) is = is
armable-on_bench Card is = tt
armable-on_bench Entropy is = is

-- a file that masks can be armed for is of the bench
pub file-on_bench : (device : Device) → IsFileDevice device → IsFileOnBench device
file-on_bench Dir is = tt
file-on_bench (File number) is = is
file-on_bench Card is = is
file-on_bench Entropy is = is

-- nothing was armed
pub arms-none : (old : BenchState) → ArmsAll [] old old
arms-none old = (λ file. refl, refl)

-- one arm more
pub arms_push : (arms : List Arm) (arm : Arm) (old new after : BenchState) → ArmsAll arms old new → ArmsOneOf arm new after → ArmsAll (arms ++ arm ∷ []) old after
arms_push [] arm old new after (files, card) one =
    let same : new ≡ old = λ i. record { files = λ file. files file i; card = card i } in
    (after, subst (λ (b : BenchState). ArmsOneOf arm b after) same one, (λ file. refl, refl))
arms_push (first ∷ arms) arm old new after (between, its, others) one = (between, its, arms_push arms arm between new after others one)

-- nothing was armed behind them
pub arms_stay : (arms : List Arm) (old new after : BenchState) → ArmsAll arms old new → ArmsAll [] new after → ArmsAll arms old after
arms_stay [] old new after (files, card) stay = (λ file. stay.0 file ∙ files file, stay.1 ∙ card)
arms_stay (first ∷ arms) old new after (between, its, others) stay = (between, its, arms_stay arms between new after others stay)

-- Files that read as before.
abbrev pub ReadTheSame : (old new : BenchState) → Type 0
ReadTheSame old new = (file : ℕ) → (new.files file).reads ≡ (old.files file).reads

pub arms_read : (arms : List Arm) (old new : BenchState) → ArmsAll arms old new → ReadTheSame old new
arms_read arms old new s k = arms_keep (λ f. f.reads ≡ (old.files k).reads) (λ f calls same. same) (λ f call same. same) (λ f taint same. same) arms old new s k refl

-- so the objects are the same
pub armed-map : (keys : Keys) (old new : ℕ → FileState) (entries : List (Option DirEntry)) → ((file : ℕ) → (new file).reads ≡ (old file).reads)
    → opening_map keys new entries ≡ opening_map keys old entries
armed-map keys old new entries reads = λ i. map_of (all_held_in keys (λ file. reads file i) entries)

-- ONLY DEVICES
module _ {F R : Type 0} where
  pub devices-none : (o : OpeningValue F R) → OnlyDevices o o
  devices-none o = refl

  pub devices_then : (a b c : OpeningValue F R) → OnlyDevices a b → OnlyDevices b c → OnlyDevices a c
  devices_then a b c first then =
      subst (λ (x : OpeningValue F R). c ≡ record x {
        gate = record x.gate { dir = record x.gate.dir { file = c.gate.dir.file }; host = record x.gate.host { port = c.gate.host.port } };
        files = c.files;
      }) first then

  -- only the port changed
  pub devices_of_port : (a b : OpeningValue F R) → b ≡ record a { gate = record a.gate { host = record a.gate.host { port = b.gate.host.port } } } → OnlyDevices a b
  devices_of_port a b is =
      let armed : OpeningValue F R = record a { gate = record a.gate { host = record a.gate.host { port = b.gate.host.port } } } in
      subst (OnlyDevices a) (sym is) (let same : OnlyDevices a armed = refl in same)

  pub files_of_port : (of_file : F → FileState) (of_port : R → PortState) (a b : OpeningValue F R) → b ≡ record a { gate = record a.gate { host = record a.gate.host { port = b.gate.host.port } } }
      → (file : ℕ) → (opening_state of_file of_port b).files file ≡ (opening_state of_file of_port a).files file
  files_of_port of_file of_port a b is file = ap (λ (o : OpeningValue F R). (opening_state of_file of_port o).files file) is
