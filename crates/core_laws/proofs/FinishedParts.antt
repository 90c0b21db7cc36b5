-- Once all parts are at rest, every picture mounts to the map that the history leaves, or to that with the commit in doubt.
use Rattle.std.proofs.Common.{◌≡◌, ℕ, ◌+◌, Option, Some, None, inl, inr, refl, sym, ◌∙◌, ap}
use Rattle.disk_model.specs.State.{FileState}
use Rattle.node_image.specs.declared.node.RootRef.{RootRef}
use Rattle.tee_types.specs.Limits.{directory_file}
use Rattle.tee_types.specs.declared.call.Call.{Call}
use Rattle.store_model.specs.Calls.{state_after}
use Rattle.store_model.specs.Commits.{with_doubt}
use Rattle.store_model.specs.Doubt.{Doubt}
use Rattle.store_model.specs.ReplayState.{ReplayState}
use Rattle.crash_core.specs.Pictures.{IsPictureOf, Picture}
use Rattle.crash_core.specs.CoreState.{IsTrusted, PendingCommit, Phase}
use Rattle.crash_core.specs.EntryChanges.{changed}
use Rattle.crash_core.specs.Holding.{CardNames, PendingStands, SealedStands}
use Rattle.crash_core.proofs.MountedPictures.{directory_mounts, mounts_whole}
use Rattle.core_laws.specs.GateParts.{replay_of}
use Rattle.core_laws.specs.Joined.{Parts, PartsHold, files_of}
use Rattle.core_laws.specs.Finished.{HonestFinishMounts, IsAtRest, IsInDoubt, MountsAfter}
use Rattle.core_laws.proofs.JoinedParts.{committed_stands, pending_stands}

-- the map that a commit in doubt leaves is that with the doubt
doubted_map : (s : ReplayState) (p : PendingCommit) (d : IsInDoubt s p) → with_doubt s ≡ Some (state_after s.state p.session p.call).objects
doubted_map s p d =
    ap (λ (o : Option Doubt). with_doubt (record s { doubt = o })) d.is_open
    ∙ ap (λ (n : ℕ). Some (state_after s.state n d.doubt.call).objects) (sym d.session)
    ∙ ap (λ (call : Call). Some (state_after s.state p.session call).objects) (sym d.call)

module _ (phase : Phase) (p : Parts) (picture : Picture) (h : PartsHold phase p) (is : IsPictureOf (files_of p.gate p.slots) p.gate.card picture) (trusted : IsTrusted phase directory_file) where
  -- the card names the directory of the history, or that of the commit in doubt
  abbrev s : ReplayState
  s = replay_of phase p.gate.view

  abbrev files : ℕ → FileState
  files = files_of p.gate p.slots

  committed_mounts : CardNames p.gate.card p.gate.root (replay_of phase p.gate.view).counter → MountsAfter phase picture (replay_of phase p.gate.view)
  committed_mounts names = inl (directory_mounts phase files p.gate.card picture is p.gate.root p.gate.entries (s.state).objects s.counter names (committed_stands phase p h trusted))

  sealed_mounts : (commit : PendingCommit) (sealed : Option RootRef) → IsInDoubt (replay_of phase p.gate.view) commit
      → SealedStands phase (files_of p.gate p.slots) p.gate.card p.gate.root p.gate.entries (replay_of phase p.gate.view) commit sealed → MountsAfter phase picture (replay_of phase p.gate.view)
  sealed_mounts commit None d names = committed_mounts names
  sealed_mounts commit (Some dir) d stands = inr (
    (state_after s.state commit.session commit.call).objects,
    doubted_map s commit d,
    directory_mounts phase files p.gate.card picture is dir (changed p.gate.entries commit.change) (state_after s.state commit.session commit.call).objects (s.counter + 1) stands.0 (stands.1 trusted),
  )

  pending_mounts : (pending : Option PendingCommit) → ((commit : PendingCommit) → pending ≡ Some commit → IsInDoubt (replay_of phase p.gate.view) commit)
      → PendingStands phase (files_of p.gate p.slots) p.gate.card p.gate.root p.gate.entries (replay_of phase p.gate.view) pending → MountsAfter phase picture (replay_of phase p.gate.view)
  pending_mounts None doubts names = committed_mounts names
  pending_mounts (Some commit) doubts stands = sealed_mounts commit commit.sealed (doubts commit refl) stands

pub finish_mounts : (phase : Phase) (p : Parts) (picture : Picture) → PartsHold phase p → IsAtRest phase p.gate → IsPictureOf (files_of p.gate p.slots) p.gate.card picture → IsTrusted phase directory_file
    → MountsAfter phase picture (replay_of phase p.gate.view)
finish_mounts phase p picture h rests is trusted = pending_mounts phase p picture h is trusted p.gate.pending rests (pending_stands phase p h p.gate.pending h.gate.pending)

-- Where every file is honest, to that map itself.
pub honest_finish_mounts : HonestFinishMounts
honest_finish_mounts phase p picture h rests is trusted = elim (finish_mounts phase p picture h rests is (trusted directory_file)) [
  | inl mounts ↦ inl (mounts_whole phase picture ((replay_of phase p.gate.view).state).objects trusted mounts)
  | inr doubt ↦ inr (doubt.0, doubt.1, mounts_whole phase picture doubt.0 trusted doubt.2)
]
