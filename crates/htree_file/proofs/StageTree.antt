-- A stage, as the tree that it belongs to sees it.
use Rattle.std.proofs.Common.{◌≡◌, ℕ, ◌+◌, ◌-◌, ◌≤◌, List, ◌++◌, length, take, drop, Option, Some, None, IfSome, option_map, subst, arith}
use Rattle.std.proofs.lemmas.List.{take_at}
use Rattle.disk_model.specs.State.{FileState}
use Rattle.disk_model.specs.Keeps.{Keeps}
use Rattle.node_image.specs.declared.node.NodeImage.{NodeImage}
use Rattle.node_image.specs.declared.node.RootRef.{RootRef}
use Rattle.node_image.specs.Parts.{Layout}
use Rattle.tree_paths.specs.Paths.{holds}
use Rattle.tree_paths.specs.Staged.{IsWithinBudget, count_to, write_budget}
use Rattle.htree_file.specs.declared.change.BlockChange.{BlockChange}
use Rattle.htree_file.specs.declared.staging.NewVersion.{NewVersion}
use Rattle.htree_file.specs.Changes.{changed_blocks, changes_of}
use Rattle.htree_file.specs.Opening.{Loaded}
use Rattle.htree_file.specs.Plans.{Fits}
use Rattle.htree_file.specs.Selected.{Lies}
use Rattle.htree_file.specs.Stages.{IsStage}
use Rattle.std.proofs.lemmas.List.{length-map}

-- a table that was lent is what its vector holds
pub held : (table items : List NodeImage) (len : ℕ) → length table ≡ len → take len (table ++ drop (length table) items) ≡ table
held table items len is = take_at table (drop (length table) items) len is

-- what a stage keeps, by the committed table and its reference's version
pub keeps_over : (la lb : Layout) → la ≡ lb → (nodes items : List NodeImage) (n v root : ℕ) (a b : FileState) → nodes ≡ items → 1 - v ≡ root → Keeps (Lies la (take n nodes) (1 - v)) a b → Keeps (Lies lb (take n items) root) a b
keeps_over la lb there nodes items n v root a b same turn keeps =
    subst (λ (y : Layout). Keeps (Lies y (take n items) root) a b) there
    (subst (λ (m : ℕ). Keeps (Lies la (take n items) m) a b) turn (subst (λ (l : List NodeImage). Keeps (Lies la (take n l) (1 - v)) a b) same keeps))

-- a stage by terms that are the same
pub stage_over : (known : Type 0) (before after : List ℕ) (root r : RootRef) (ka kb : List ℕ) (oa ob ta tb : Loaded) (ca cb : List BlockChange) → ka ≡ kb → oa ≡ ob → ta ≡ tb → ca ≡ cb
    → IsStage known before after ka root oa r ta ca → IsStage known before after kb root ob r tb cb
stage_over known before after root r ka kb oa ob ta tb ca cb ek eo et ec stage =
    subst (λ (c : List BlockChange). IsStage known before after kb root ob r tb c) ec (subst (λ (t : Loaded). IsStage known before after kb root ob r t ca) et
    (subst (λ (t : Loaded). IsStage known before after kb root t r ta ca) eo (subst (λ (k : List ℕ). IsStage known before after k root oa r ta ca) ek stage)))

-- where no stage is open, nothing is said of it
pub none_open : {A B : Type 0} (f : A → B) (P : A → Type 0) (o : Option A) → option_map f o ≡ None → IfSome o P
none_open f P None is = tt
none_open f P (Some a) is = absurd (cc (is))

-- what the version may write is the budget of its changes
pub within : (v : NewVersion) (changes : List BlockChange) (before after old new : ℕ) → Fits v → changes_of v.pages ≡ changes → v.before ≡ before → v.head.now.greatest ≡ after
    → new ≤ old + write_budget (length (changes_of v.pages)) (count_to (holds v.set.nodes) 256) → IsWithinBudget (changed_blocks changes) before after old new
within v changes before after old new fits pages was greatest most =
    subst (λ (l : List BlockChange). IsWithinBudget (changed_blocks l) before after old new) pages
    (subst (λ (n : ℕ). IsWithinBudget (changed_blocks (changes_of v.pages)) n after old new) was
    (subst (λ (n : ℕ). IsWithinBudget (changed_blocks (changes_of v.pages)) v.before n old new) greatest
    (record { set = holds v.set.nodes; nodes = fits.budget; most = omega (arith, most, length-map (changes_of v.pages) (λ (c : BlockChange). c.block)) })))
