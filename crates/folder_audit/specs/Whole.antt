-- What the card's block of a folder names.
use Rattle.std.specs.Prelude.{◌≡◌, ℕ, List, Result, Ok, Err}
use Rattle.disk_model.specs.State.{FileState}
use Rattle.node_image.specs.declared.node.RootRef.{RootRef}
use Rattle.node_image.specs.References.{current_format}
use Rattle.hmac_keys.specs.declared.Keys.{Keys}
use Rattle.crash_core.specs.CardBlock.{IsReference, root_in}
use Rattle.folder_audit.specs.declared.fault.AuditFault.{AuditFault}
use Rattle.folder_audit.specs.declared.fault.AuditFault.TheVariants.{Refused}
use Rattle.folder_audit.specs.Reading.{IsStoreRefused}

-- it names a directory of the current format
pub record NamesRoot (block : List ℕ) (root : RootRef) : Type 0 where
  pub named : root_in block ≡ Ok root
  pub form : IsReference root
  pub current : root.format ≡ current_format

-- or the store is refused for the block alone
abbrev pub RootAnswer : (block : List ℕ) → Result RootRef AuditFault → Type 0
RootAnswer block (Ok root) = NamesRoot block root
RootAnswer block (Err (Refused fault)) = (keys : Keys) (old new : FileState) → IsStoreRefused keys block old new fault
RootAnswer block (Err fault) = ⊥
