-- The forms of the command line.
use Rattle.std.specs.Prelude.{ℕ, List, [], ◌∷◌, Bool, true, false, not, ◌==◌, if◌then◌else◌, Option, Some, None, option_map, codes}
use Rattle.script_text.specs.Words.{same_word}
use Rattle.seed_words.specs.Numbers.{soak_number_of}
use Rattle.script_runner.specs.declared.forms.Form.{Form}
use Rattle.script_runner.specs.declared.forms.Form.TheVariants.{Audit, Card, Export, Migrate, Run, Soak}

-- the path of a folder: some characters, of which the first is no `-`
abbrev pub is_path : List ℕ → Bool
is_path [] = false
is_path (first ∷ rest) = not (first == 45)

-- a form that needs a folder
abbrev pub at_folder : Form → (path : List ℕ) → Option Form
at_folder form path = if is_path path then Some form else None

-- `run`, `migrate` or `card`; or `soak` and a number; or `export` or `audit` and a path; other words have no form
abbrev pub form_of : List (List ℕ) → Option Form
form_of (word ∷ []) = if same_word word (codes "run") then Some Run else if same_word word (codes "migrate") then Some Migrate else
    if same_word word (codes "card") then Some Card else None
form_of (word ∷ argument ∷ []) = if same_word word (codes "soak") then option_map Soak (soak_number_of argument) else
    if same_word word (codes "export") then at_folder Export argument else if same_word word (codes "audit") then at_folder Audit argument else None
form_of _ = None

-- the form needs a folder
abbrev pub has_folder : Option Form → Bool
has_folder (Some Export) = true
has_folder (Some Audit) = true
has_folder form = false

-- the second of two words, and for all others the folder `.`
abbrev pub path_of : List (List ℕ) → List ℕ
path_of (word ∷ path ∷ []) = path
path_of words = codes "."

-- the folder that words speak of: PATH of a form that needs one, and for all others the folder `.`
abbrev pub folder_of : List (List ℕ) → List ℕ
folder_of words = if has_folder (form_of words) then path_of words else codes "."
