-- A directory that is loaded after a sync stands in every image.
use Rattle.std.proofs.Common.{◌≡◌, ◌∙◌, ℕ, [], List, Option, Ok, sym, ap, inl, drop}
use Rattle.std.specs.Prelude.{IsTrue}
use Rattle.disk_model.specs.State.{FileState, pending, spans_of}
use Rattle.disk_model.specs.Calls.{Rests, Syncs}
use Rattle.disk_model.proofs.ImageLaws.{exact_none}
use Rattle.disk_model.proofs.Laws.{synced_pending}
use Rattle.node_image.specs.declared.node.RootRef.{RootRef}
use Rattle.htree_file.specs.Making.{IsSynced}
use Rattle.htree_file.specs.Opening.{Loaded, load_of}
use Rattle.htree_file.proofs.Firmness.{synced_firm}
use Rattle.dir_records.specs.declared.entry.DirEntry.{DirEntry}
use Rattle.crash_core.specs.Directory.{directory_of}
use Rattle.dir_file.specs.Held.{IsDurable}

-- after a sync, calls that change nothing leave nothing pending
pub rests_pending : (a b c : FileState) → Syncs a b → Rests b c → pending c ≡ []
rests_pending a b c syncs rests = (λ i. spans_of (drop (rests.pending_from i) (rests.trail i))) ∙ synced_pending a b syncs

-- and leave the file synced
pub synced_rests : (a b c : FileState) → Syncs a b → Rests b c → IsSynced c
synced_rests a b c syncs rests honest image left =
    let none : pending c ≡ [] = rests_pending a b c syncs rests in
    let before : IsTrue b.honest = rests.goes_on.honest honest in
    exact_none c.settled (pending c) image none (left honest) ∙ rests.settled honest ∙ syncs.settled before ∙ sym (rests.reads (inl honest))

-- the directory that is loaded then is held
pub mounted_held : (s : FileState) (tsk : List ℕ) (root : RootRef) (tree : Loaded) (entries : List (Option DirEntry)) → IsSynced s → IsTrue s.honest
    → load_of s.reads root ≡ Ok tree → directory_of tsk s.reads root ≡ Ok entries → IsDurable s tsk root tree entries
mounted_held s tsk root tree entries synced honest loads is = record {
  firm = synced_firm s root tree synced honest loads;
  entries_are = λ image left. ap (λ (b : List ℕ). directory_of tsk b root) (synced honest image left) ∙ is;
}
