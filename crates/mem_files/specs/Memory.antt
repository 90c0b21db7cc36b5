-- A file in memory, as what is known of a file.
use Rattle.std.specs.Prelude.{◌≡◌, ℕ, List, [], ◌∷◌, map, Bool, true, false, Option, Some, None, is_none, ◌&&◌, IsTrue, refl}
use Rattle.disk_model.specs.Arms.{Taint, NamesNone}
use Rattle.disk_model.specs.declared.span.Change.{Change}
use Rattle.disk_model.specs.State.{BytesAgree, FileState, Sound}
use Rattle.mem_files.specs.declared.memory.MemFile.{MemFile}
use Rattle.mem_files.specs.Held.{settled_bytes}
use Rattle.mem_files.specs.Taints.{taint_of}

abbrev pub is_empty : {A : Type 0} → List A → Bool
is_empty [] = true
is_empty (x ∷ xs) = false

-- it is calm and steady where it has no arms that end that
abbrev pub file_state : MemFile → FileState
file_state file = record {
  settled = settled_bytes file.content.settled file.content.bytes.items;
  reads = file.content.bytes.items;
  trail = file.content.trail.items;
  pending_from = file.content.pending_from;
  honest = file.content.honest;
  steady = is_empty (map taint_of file.taints.items);
  tells = true;
  calm = is_none file.stop_after && is_empty file.failing.items;
  faults = file.faults;
  starved = file.starved;
  written = file.written;
  tells_arms = true;
  arms = record { calls = file.calls; stop_after = file.stop_after; failing = file.failing.items; taints = map taint_of file.taints.items };
}

calm_unarmed : (stop : Option ℕ) (failing : List ℕ) → (stop ≡ None) × (failing ≡ []) → IsTrue (is_none stop && is_empty failing)
calm_unarmed None [] none = refl
calm_unarmed None (call ∷ failing) none = cc
calm_unarmed (Some calls) failing none = cc

steady_unarmed : (taints : List Taint) → taints ≡ [] → IsTrue (is_empty taints)
steady_unarmed [] none = refl
steady_unarmed (taint ∷ taints) none = cc

-- calm and steadiness of a file that tells its arms are that it has none
pub record IsArmed (s : FileState) : Type 0 where
  pub calm : IsTrue s.calm → NamesNone s.arms
  pub steady : IsTrue s.steady → s.arms.taints ≡ []

pub file_armed : (file : MemFile) → IsArmed (file_state file)
file_armed file = record { calm = calm_only file.stop_after file.failing.items; steady = steady_only (map taint_of file.taints.items) }
  where
    calm_only : (stop : Option ℕ) (failing : List ℕ) → IsTrue (is_none stop && is_empty failing) → (stop ≡ None) × (failing ≡ [])
    calm_only None [] calm = (refl, refl)
    calm_only None (call ∷ failing) calm = cc
    calm_only (Some calls) failing calm = cc

    steady_only : (taints : List Taint) → IsTrue (is_empty taints) → taints ≡ []
    steady_only [] steady = refl
    steady_only (taint ∷ taints) steady = cc

agree_any : (settled reads : List ℕ) (trail : List Change) (from : ℕ) (honest : Bool) → BytesAgree settled reads trail from true → BytesAgree settled reads trail from honest
agree_any settled reads trail from honest agree = record { agrees = λ h. agree.agrees refl; within = agree.within; bases = agree.bases }

-- what holds of every file holds of a file in memory
pub file_sound : (file : MemFile) → Sound (file_state file)
file_sound file = record {
  bytes = agree_any _ _ _ _ file.content.honest file.content.agree;
  reads = file.content.are_bytes;
  told = λ honest. refl;
  calm = λ tells none. calm_unarmed file.stop_after file.failing.items none;
  steady = λ tells none. steady_unarmed (map taint_of file.taints.items) none;
}
