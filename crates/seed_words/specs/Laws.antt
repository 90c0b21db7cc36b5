-- What the text of a soak is.
use Rattle.std.specs.Prelude.{ℕ, ◌≡◌, Ok}
use Rattle.script_text.specs.Grammar.{script_of}
use Rattle.seed_words.specs.Scripts.{soak_script}
use Rattle.seed_words.specs.Texts.{soak_text}

-- The text of a soak is in the grammar of scripts, and means its script.
abbrev pub SoakTextsAreScripts : Type 0
SoakTextsAreScripts = (number : ℕ) → script_of (soak_text number) ≡ Ok (soak_script number)
