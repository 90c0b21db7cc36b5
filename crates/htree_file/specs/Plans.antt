-- A version that is to be written.
use Rattle.std.specs.Prelude.{◌↔◌, ℕ, ◌<◌, ◌≤◌, length, IsTrue}
use Rattle.node_image.specs.Layout.{is_sized}
use Rattle.tree_paths.specs.Paths.{holds}
use Rattle.tree_paths.specs.Staged.{IsStaged}
use Rattle.htree_file.specs.declared.staging.NewVersion.{NewVersion}
use Rattle.htree_file.specs.Changes.{AreApart, AreChanges, changed_blocks, changes_of}
use Rattle.htree_file.specs.WriteSets.{IsWriteSet}

-- its numbers fit, and it writes what a stage may write and the write budget has
pub record Fits (v : NewVersion) : Type 0 where
  pub few : (1 ≤ v.head.now.greatest) × (v.head.now.greatest ≤ 256)
  pub bits : (v.root < 2) × (v.before ≤ 256)
  pub sized : IsTrue (is_sized v.head.now)
  pub changes : AreChanges v.before v.head.now.greatest (changes_of v.pages)
  pub apart : AreApart v.head.now.greatest (changes_of v.pages)
  pub fits : length (changes_of v.pages) ≤ 256
  pub closed : IsWriteSet v.before v.head.now.greatest (changes_of v.pages) (holds v.set.nodes) (holds v.set.blocks)
  pub budget : (m : ℕ) → IsTrue (holds v.set.nodes m) ↔ IsStaged (changed_blocks (changes_of v.pages)) v.before v.head.now.greatest m
