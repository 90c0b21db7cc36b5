-- The file of a content, and a stage's reference.
use Rattle.std.proofs.Common.{◌≡◌, ◌∙◌, ◌-◌, Option, Some, None, IfSome, false, arith}
use Rattle.disk_model.specs.State.{FileState, Sound}
use Rattle.node_image.specs.References.{IsCurrent}
use Rattle.node_image.specs.declared.head.Head.{Head}
use Rattle.node_image.specs.declared.node.RootRef.{RootRef}
use Rattle.htree_file.specs.Value.{Staged}
use Rattle.object_slots.specs.declared.content.Content.{Content}
use Rattle.object_slots.specs.declared.content.Content.TheVariants.{Free, Made, Live, Staged as Kept}
use Rattle.object_slots.specs.SlotInside.{IsFilled, file_in, file_of}

-- what holds of every file holds of a content's
pub sound_in : {F : Type 0} (state : F → FileState) → ((file : F) → Sound (state file)) → (content : Content F) → Sound (file_in state content)
sound_in state sound (Free file) = sound file
sound_in state sound (Made o) = sound o.tree.file
sound_in state sound (Live o) = sound o.tree.file
sound_in state sound (Kept o) = sound o.tree.file

pub sound_of : {F : Type 0} (state : F → FileState) → ((file : F) → Sound (state file)) → (content : Option (Content F)) → IsFilled content → Sound (file_of state content)
sound_of state sound None filled = absurd filled
sound_of state sound (Some content) filled = sound_in state sound content

-- the reference of a stage is current where the committed one is
pub next_current : (stage : Option Staged) (root : RootRef) (head : Head) → IsCurrent root → IfSome stage (λ s. (s.root.version ≡ 1 - root.version) × (s.settled ≡ false) × (s.tree.head ≡ head))
    → IfSome stage (λ s. s.root.format ≡ root.format) → IfSome stage (λ s. IsCurrent s.root)
next_current None root head current next format = tt
next_current (Some s) root head current next format = (omega (arith, next.0), format ∙ current.1)
