-- Looking at a directory and copying it: what the calls of the two files leave.
use Rattle.std.proofs.Common.{◌≡◌, ◌⊎◌, ◌∙◌, ℕ, List, [], ap, inl, inr}
use Rattle.disk_model.specs.State.{FileState, Sound, pending}
use Rattle.disk_model.specs.Calls.{GoesOn, Known, Rests, Syncs}
use Rattle.disk_model.specs.Keeps.{Keeps}
use Rattle.disk_model.proofs.Goings.{first_known, goes_on_then, then_known}
use Rattle.node_image.specs.declared.node.RootRef.{RootRef}
use Rattle.node_image.specs.References.{current_format}
use Rattle.hmac_keys.specs.declared.Keys.{Keys}
use Rattle.htree_file.specs.Answers.{FilePassed}
use Rattle.htree_file.specs.Copies.{CopyOpens}
use Rattle.htree_file.specs.Making.{Nowhere}
use Rattle.htree_file.specs.Standing.{Told}
use Rattle.htree_file.proofs.Causes.{passed_then, rests_none, rests_then, told_then}
use Rattle.htree_file.proofs.CopyRuns.{told_first}
use Rattle.crash_core.specs.DeviceKeys.{directory_key}
use Rattle.crash_core.specs.Directory.{directory_of}
use Rattle.store_commit.specs.DirectoryLooks.{HasDirectory, Looks}
use Rattle.object_calls.specs.DirectoryMoves.{CopiesBetween, CopiesDirectory}

-- LOOKING AT A FILE
pub looks_none : (s : FileState) → Sound s → Looks s s
looks_none s sound = record { mid = s; first = inl (rests_none s); behind = rests_none s; sound = sound }

pub looks_then : (a b c : FileState) → Looks a b → Rests b c → Looks a c
looks_then a b c looks rests = record { mid = looks.mid; first = looks.first; behind = rests_then looks.mid b c looks.behind rests; sound = looks.sound }

module _ (a b : FileState) where
  first_goes : Rests a b ⊎ Syncs a b → GoesOn a b
  first_goes (inl rests) = rests.goes_on
  first_goes (inr syncs) = syncs.goes_on

  first_reads : Rests a b ⊎ Syncs a b → Known a b → b.reads ≡ a.reads
  first_reads (inl rests) = rests.reads
  first_reads (inr syncs) = syncs.reads

pub looks_goes_on : (a b : FileState) → Looks a b → GoesOn a b
looks_goes_on a b looks = goes_on_then a looks.mid b (first_goes a looks.mid looks.first) looks.behind.goes_on

pub looks_reads : (a b : FileState) → Looks a b → Known a b → b.reads ≡ a.reads
looks_reads a b looks known =
    looks.behind.reads (then_known a looks.mid b (first_goes a looks.mid looks.first) known)
    ∙ first_reads a looks.mid looks.first (first_known a looks.mid b looks.behind.goes_on known)

-- A COPY
-- A directory is looked at, and read behind that; another file is written.
module _ (keys : Keys) (a b c x y : FileState) (root : RootRef) (looks : Looks a b) (rests : Rests b c) where
  pub copies_between : Keeps Nowhere x y → CopiesBetween a c x y
  copies_between keeps = record { old_looks = looks_then a b c looks rests; new_run = keeps }

  pub copies_directory : FilePassed a b → HasDirectory keys a b root → Keeps Nowhere x y → pending y ≡ [] → (Told b c → Known x y → CopyOpens c.reads y.reads root current_format)
      → FilePassed b c × FilePassed x y → CopiesDirectory keys a c x y root
  copies_directory passed has keeps settled opens both = record {
    between = copies_between keeps;
    has = λ told.
        let is = has (told_first a b c rests told) in
        let later = told_then a b c (looks_goes_on a b looks) told in
        (is.0, ap (λ (l : List ℕ). directory_of (directory_key keys) l root) (rests.reads later.1) ∙ is.1);
    settled = settled;
    opens = λ told known. opens (told_then a b c (looks_goes_on a b looks) told) known;
    old_passed = passed_then a b c passed both.0;
    new_passed = both.1;
  }
