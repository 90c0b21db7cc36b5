-- A directory that is held in every image of its file reads so there.
use Rattle.std.proofs.Common.{◌≡◌, ℕ, List, Option, sym, ◌∙◌}
use Rattle.disk_model.specs.State.{FileState, Sound}
use Rattle.disk_model.proofs.ImageLaws.{reads_left}
use Rattle.node_image.specs.References.{IsCurrent}
use Rattle.node_image.specs.declared.node.RootRef.{RootRef}
use Rattle.node_image.specs.Selection.{selected_tree}
use Rattle.hmac_keys.specs.declared.Keys.{Keys}
use Rattle.htree_file.specs.Opening.{Loaded, load_of}
use Rattle.htree_file.specs.Pages.{opened_of}
use Rattle.htree_file.specs.Standing.{IsFirm}
use Rattle.dir_records.specs.declared.entry.DirEntry.{DirEntry}
use Rattle.crash_core.specs.DeviceKeys.{directory_key}
use Rattle.crash_core.specs.Sights.{Stands, sight_of}
use Rattle.crash_core.proofs.SameDirectory.{directory_seen, opened_same}
use Rattle.core_laws.specs.GateParts.{DirectoryReads}
use Rattle.store_commit.specs.Held.{IsDurable}

-- a firm tree stands as the file reads
pub firm_seen : (key : List ℕ) (s : FileState) (root : RootRef) (tree : Loaded) → Sound s → IsCurrent root → IsFirm s root tree → Stands s key root (sight_of key s.reads root)
firm_seen key s root tree sound current firm =
    let here = firm s.reads (reads_left s sound) in
    record {
      current = current;
      alike = λ image left.
          let selects : selected_tree image root ≡ selected_tree s.reads root = (firm image left).selects in
          let loads : load_of image root ≡ load_of s.reads root = (firm image left).opens ∙ sym here.opens in
          let opened : opened_of key image root ≡ opened_of key s.reads root = opened_same key image s.reads root selects loads in
          (λ j. record { tree = selects j; loads = loads j; opened = opened j });
    }

pub held_reads : (keys : Keys) (s : FileState) (root : RootRef) (tree : Loaded) (entries : List (Option DirEntry)) → Sound s → IsCurrent root
    → IsDurable s (directory_key keys) root tree entries → DirectoryReads keys s root entries
held_reads keys s root tree entries sound current held = record {
  sight = sight_of (directory_key keys) s.reads root;
  stands = firm_seen (directory_key keys) s root tree sound current held.firm;
  reads = directory_seen (directory_key keys) s.reads root entries (held.entries_are s.reads (reads_left s sound));
}
