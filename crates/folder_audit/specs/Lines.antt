-- The lines of an audit.
use Rattle.std.specs.Prelude.{ℕ, List, [], ◌∷◌, ◌++◌, codes, decimal, length}
use Rattle.hex.specs.Hex.{encode_lower}
use Rattle.sha2.specs.Sha256.{sha256}
use Rattle.script_text.specs.Forms.{uuid_text}
use Rattle.script_text.specs.BadBlocks.{bad_text, members_of}
use Rattle.dir_records.specs.declared.entry.DirEntry.{DirEntry}
use Rattle.folder_audit.specs.declared.finding.Finding.{Finding}
use Rattle.folder_audit.specs.declared.finding.Finding.TheVariants.{Certified as CertifiedFinding, Bad as BadFinding, Damaged}

-- What is told of an object: a certificate of it, or the numbers of its bad blocks, or that it is damaged as a whole.
pub data AuditLine : Type 0 where
  Certified : (certificate : List ℕ) → AuditLine
  Bad : (numbers : List ℕ) → AuditLine
  WhollyDamaged : AuditLine

-- of a certificate its length and its SHA-256
abbrev pub line_words : AuditLine → List ℕ
line_words (Certified certificate) = codes "cert " ++ decimal (length certificate) ++ codes " " ++ encode_lower (sha256 certificate)
line_words (Bad numbers) = bad_text numbers
line_words WhollyDamaged = codes "damaged"

-- the line of an object: `# UUID ID SIZE cert LENGTH HEX`, `# UUID ID SIZE bad:NUMBERS` or `# UUID ID SIZE damaged`
unfoldable pub audit_line : DirEntry → AuditLine → List ℕ
audit_line e line =
    codes "# " ++ uuid_text e.app ++ codes " " ++ encode_lower e.id ++ codes " " ++ decimal e.size ++ codes " " ++ line_words line ++ codes "\n"

-- an entry, and what is told of its object
pub record AuditStep : Type 0 where
  pub entry : DirEntry
  pub line : AuditLine

-- the lines of some
unfoldable pub steps_text : List AuditStep → List ℕ
steps_text [] = []
steps_text (step ∷ steps) = audit_line step.entry step.line ++ steps_text steps

-- what was found, as it is told
abbrev pub line_found : Finding → AuditLine
line_found (CertifiedFinding certificate) = Certified certificate.items
line_found (BadFinding numbers) = Bad (members_of numbers)
line_found Damaged = WhollyDamaged
