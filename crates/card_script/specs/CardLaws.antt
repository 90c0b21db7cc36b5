-- What holds of every line.
use Rattle.std.specs.Prelude.{◌≡◌, ◌∷◌, ◌++◌, ◌<◌, ◌^◌, ℕ, [], List, length, Some}
use Rattle.tee_types.specs.Identifier.{IsIdentifier}
use Rattle.store_model.specs.Sound.{AreBytes}
use Rattle.card_script.specs.declared.card_line.CardLine.{CardLine}
use Rattle.card_script.specs.declared.card_line.CardLine.TheVariants.{Put, Get, Remove, List as ListLine, Stop, Remount}
use Rattle.card_script.specs.CardScripts.{line_of}
use Rattle.card_script.specs.CardText.{line_text}

-- a UUID, and an identifier
pub record IsNamed (app id : List ℕ) : Type 0 where
  pub app_size : length app ≡ 16
  pub app_bytes : AreBytes app
  pub id_size : IsIdentifier id
  pub id_bytes : AreBytes id

-- what the line carries is well formed
abbrev pub IsFormed : CardLine → Type 0
IsFormed (Put app id bytes) = IsNamed app id × AreBytes bytes
IsFormed (Get app id) = IsNamed app id
IsFormed (Remove app id) = IsNamed app id
IsFormed ListLine = Unit {0}
IsFormed (Stop exchanges) = exchanges < 2 ^ 32
IsFormed Remount = Unit {0}

-- A line that is printed is read again as itself.
abbrev pub LinesReadAgain : Type 0
LinesReadAgain = (above : List CardLine) (line : CardLine) → IsFormed line → line_of above (line_text line) ≡ Some (above ++ line ∷ [])
