-- What was seen of a directory's file, told from an earlier state of it, and from a later one.
use Rattle.std.proofs.Common.{◌≡◌, ℕ, List, Bool, Option, Result, sym, subst}
use Rattle.std.specs.Prelude.{IsTrue}
use Rattle.disk_model.specs.State.{FileState, Sound}
use Rattle.disk_model.specs.Calls.{GoesOn, Rests, Syncs}
use Rattle.disk_model.specs.Keeps.{Runs, rest, sync}
use Rattle.disk_model.specs.Seen.{WasSeen}
use Rattle.disk_model.proofs.Masks.{reads_armed, reads_masked_then}
use Rattle.disk_model.proofs.Seen.{run_masked, runs_one, seen_anew, seen_later, seen_then}
use Rattle.aes_block.specs.WrappedKey.{unwrapped_of}
use Rattle.node_image.specs.declared.node.RootRef.{RootRef}
use Rattle.htree_file.specs.Opening.{Loaded}
use Rattle.dir_records.specs.declared.entry.DirEntry.{DirEntry}
use Rattle.crash_core.specs.declared.fault.DirFault.{DirFault}
use Rattle.dir_file.specs.Loading.{SeesDirectory, SeesPages}
use Rattle.dir_file.specs.Pages.{AreSeen}
use Rattle.dir_file.specs.Seen.{SeesBlock, SeesTree}

-- A call that changes nothing comes after.
pub seen_on : (K : ℕ → Type 0) (a b d : FileState) (Shown : List ℕ → Type 0) → Sound b → Rests b d → WasSeen K a b Shown → WasSeen K a d Shown
seen_on K a b d Shown sound rests seen = seen_later K a b d Shown (runs_one K rest b d sound rests tt) seen

pub seen_all : (a b d : FileState) (key : List ℕ) (tree : Loaded) (items : List (List ℕ)) → Sound b → Rests b d → AreSeen a b key tree items → AreSeen a d key tree items
seen_all a b d key tree items sound rests seen k lt = ((seen k lt).0, seen_on _ a b d _ sound rests (seen k lt).1)

-- It is told from the end.
pub all_anew : (a d : FileState) (key : List ℕ) (tree : Loaded) (items : List (List ℕ)) → Rests a d → AreSeen a d key tree items → AreSeen d d key tree items
all_anew a d key tree items rests seen k lt = ((seen k lt).0, seen_anew _ a d _ rests (seen k lt).1)

pub tree_anew : (a b d : FileState) (root : RootRef) (tree : Loaded) → Sound b → Rests a b → Rests b d → SeesTree a b root tree → SeesTree d d root tree
tree_anew a b d root tree sound first second seen = seen_anew _ b d _ second (seen_on _ b b d _ sound second (seen_anew _ a b _ first seen))

-- Pages that were seen between other states.
pages_between : (a b c d : FileState) (key : List ℕ) (tree : Loaded) (answer : Result (List (Option DirEntry)) DirFault)
    → ((k : ℕ) (ciphertext : List ℕ) → SeesBlock a b tree k ciphertext → SeesBlock c d tree k ciphertext) → SeesPages a b key tree answer → SeesPages c d key tree answer
pages_between a b c d key tree answer each seen = record { pages = seen.pages; blocks = λ k among. each k (seen.pages.sealed k among).0 (seen.blocks k among) }

-- The tree was seen first, and its pages behind that.
pub directory_seen : (a b d : FileState) (tsk key : List ℕ) (root : RootRef) (tree : Loaded) (answer : Result (List (Option DirEntry)) DirFault) → Sound b → Rests a b → Rests b d
    → key ≡ unwrapped_of tsk tree.head.wrapped → SeesTree a b root tree → SeesPages b d key tree answer → SeesDirectory a d tsk root tree answer
directory_seen a b d tsk key root tree answer sound first second keyed table seen = record {
  table = seen_on _ a b d _ sound second table;
  entries = subst (λ (k : List ℕ). SeesPages a d k tree answer) keyed (pages_between b d a d key tree answer (λ k ciphertext. seen_then _ a b d _ first) seen);
}

-- A run of calls that writes at no kept place comes before.
seen_behind : (K : ℕ → Type 0) (a b c : FileState) (Shown : List ℕ → Type 0) → GoesOn a b → Runs K a b → WasSeen K b c Shown → WasSeen K a c Shown
seen_behind K a b c Shown goes_on runs seen = record {
  past = seen.past;
  since = seen.since;
  shown = seen.shown;
  masked = λ tells.
      let still : IsTrue b.tells_arms = subst (λ (t : Bool). IsTrue t) (sym goes_on.tells_arms) tells in
      reads_masked_then K a.arms a.reads b.reads seen.past.reads (run_masked K a b runs tells) (reads_armed K b.arms a.arms b.reads seen.past.reads (goes_on.arms tells).taints (seen.masked still));
}

-- A sync comes before.
pub directory_behind : (a b c : FileState) (tsk : List ℕ) (root : RootRef) (tree : Loaded) (answer : Result (List (Option DirEntry)) DirFault) → Sound a → Syncs a b
    → SeesDirectory b c tsk root tree answer → SeesDirectory a c tsk root tree answer
directory_behind a b c tsk root tree answer sound synced seen = record {
  table = seen_behind _ a b c _ synced.goes_on (runs_one _ sync a b sound synced tt) seen.table;
  entries = pages_between b c a c (unwrapped_of tsk tree.head.wrapped) tree answer (λ k ciphertext. seen_behind _ a b c _ synced.goes_on (runs_one _ sync a b sound synced tt)) seen.entries;
}
