-- The crash prefix of a closed store: what its pictures mount to, once all its parts are at rest.
use Rattle.std.specs.Prelude.{◌≡◌, ◌⊎◌, ℕ, Some, Ok}
use Rattle.tee_types.specs.Limits.{directory_file}
use Rattle.store_model.specs.Object.{ObjectMap}
use Rattle.store_model.specs.Doubt.{Doubt}
use Rattle.store_model.specs.ReplayState.{ReplayState}
use Rattle.store_model.specs.Commits.{with_doubt}
use Rattle.crash_core.specs.Pictures.{IsPictureOf, Picture}
use Rattle.crash_core.specs.Mounting.{mounted}
use Rattle.crash_core.specs.CoreState.{IsTrusted, PendingCommit, Phase}
use Rattle.crash_core.specs.Theorem.{MountsTo}
use Rattle.core_laws.specs.GateParts.{GatePart, replay_of}
use Rattle.core_laws.specs.Joined.{Parts, PartsHold, files_of}

-- The pending commit is the one that the history has in doubt.
pub record IsInDoubt (s : ReplayState) (p : PendingCommit) : Type 0 where
  pub doubt : Doubt
  pub is_open : s.doubt ≡ Some doubt
  pub session : p.session ≡ doubt.session
  pub call : p.call ≡ doubt.call

-- While no call of the gate is under way, a commit is pending only in doubt.
abbrev pub IsAtRest : Phase → GatePart → Type 0
IsAtRest phase g = (p : PendingCommit) → g.pending ≡ Some p → IsInDoubt (replay_of phase g.view) p

-- The picture mounts to the map that the history leaves, or to that with the commit in doubt.
abbrev pub MountsAfter : Phase → Picture → ReplayState → Type 0
MountsAfter phase picture s =
    MountsTo phase picture (s.state).objects ⊎ ((objects : ObjectMap) × (with_doubt s ≡ Some objects) × MountsTo phase picture objects)

-- So it is of every picture of the files and the card, where the directory's file is honest; that the history is legal is not asked.
abbrev pub FinishMounts : Type 0
FinishMounts =
    (phase : Phase) (p : Parts) (picture : Picture) → PartsHold phase p → IsAtRest phase p.gate → IsPictureOf (files_of p.gate p.slots) p.gate.card picture
    → IsTrusted phase directory_file → MountsAfter phase picture (replay_of phase p.gate.view)

-- the same, where every file is honest: it mounts to that map itself
abbrev pub IsMapAfter : Phase → Picture → ReplayState → Type 0
IsMapAfter phase picture s =
    (mounted phase.keys picture ≡ Ok (s.state).objects) ⊎ ((objects : ObjectMap) × (with_doubt s ≡ Some objects) × (mounted phase.keys picture ≡ Ok objects))

abbrev pub HonestFinishMounts : Type 0
HonestFinishMounts =
    (phase : Phase) (p : Parts) (picture : Picture) → PartsHold phase p → IsAtRest phase p.gate → IsPictureOf (files_of p.gate p.slots) p.gate.card picture
    → ((file : ℕ) → IsTrusted phase file) → IsMapAfter phase picture (replay_of phase p.gate.view)
