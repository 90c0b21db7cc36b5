-- A file of a folder, as what is known of a file: its counts, and how many syncs succeeded. It tells no bytes.
use Rattle.std.specs.Prelude.{ℕ, ◌≤◌, ◌-◌, List, [], ◌++◌, length, replicate, codes, decimal, Bool, false}
use Rattle.disk_model.specs.Arms.{no_arms}
use Rattle.disk_model.specs.Faults.{next_count}
use Rattle.disk_model.specs.State.{FileState, Sound}
use Rattle.std.proofs.Common.{arith}
use Rattle.host_folder.specs.declared.access.Access.{Access}
use Rattle.host_folder.specs.Syncs.{bases_below, length-syncs, syncs_of}

-- a number with zeros in front, where it has fewer than three digits
abbrev pub three_digits : ℕ → List ℕ
three_digits number = replicate (3 - length (decimal number)) 48 ++ decimal number

-- where the file of a number stands
abbrev pub file_path : List ℕ → ℕ → List ℕ
file_path folder number = folder ++ (codes "/" ++ (three_digits number ++ codes ".bin"))

pub record FolderState : Type 0 where
  pub path : List ℕ
  -- what it is opened for
  pub access : Access
  pub faults : ℕ
  pub written : ℕ
  -- how many syncs succeeded, and whether one failed
  pub syncs : ℕ
  pub sync_failed : Bool
  -- whether it holds a lock of the folder
  pub holds_lock : Bool

-- a file of which no call was made yet
abbrev pub fresh_file : List ℕ → Access → FolderState
fresh_file path access = record { path = path; access = access; faults = 0; written = 0; syncs = 0; sync_failed = false; holds_lock = false }

-- after a call that failed, which counted a fault and nothing else
abbrev pub failed_once : FolderState → FolderState
failed_once s = record s { faults = next_count s.faults }

-- nothing of it is honest or steady, and its trail holds its syncs alone
abbrev pub folder_file : FolderState → FileState
folder_file s = record {
  settled = [];
  reads = [];
  trail = syncs_of s.syncs;
  pending_from = s.syncs;
  honest = false;
  steady = false;
  tells = false;
  calm = false;
  faults = s.faults;
  starved = 0;
  written = s.written;
  tells_arms = false;
  arms = no_arms;
}

pub folder_sound : (s : FolderState) → Sound (folder_file s)
folder_sound s = record {
  bytes = record { agrees = λ honest. absurd (cc (honest)); within = bounded s.syncs; bases = λ moment. bases_below s.syncs moment };
  reads = λ place. omega arith;
  told = λ honest. honest;
  calm = λ tells none. tells;
  steady = λ tells none. tells;
}
  where
    bounded : (n : ℕ) → n ≤ length (syncs_of n)
    bounded n = omega (arith, length-syncs n)
