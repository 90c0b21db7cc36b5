-- The text of a soak's script.
use Rattle.std.specs.Prelude.{ℕ, ◌+◌, List, ◌++◌, codes, decimal}
use Rattle.std.specs.List.{flat_map}
use Rattle.tee_types.specs.declared.call.Call.{Call}
use Rattle.script_text.specs.Forms.{call_text}
use Rattle.seed_words.specs.Joined.{joined}
use Rattle.seed_words.specs.Scripts.{app_calls, soak_name}

-- `app aK 00000000-0000-0000-0000-00000000000J`, where J is K + 1
abbrev pub declaration_line : ℕ → List ℕ
declaration_line app = codes "app " ++ soak_name app ++ codes " 00000000-0000-0000-0000-00000000000" ++ decimal (app + 1) ++ codes "\n"

-- `aK CALL`
unfoldable pub line_of_call : (app : ℕ) → Call → List ℕ
line_of_call app call = soak_name app ++ codes " " ++ call_text call ++ codes "\n"

-- the lines of an application's calls
abbrev pub app_text : (number app : ℕ) → List ℕ
app_text number app = flat_map (line_of_call app) (app_calls number app)

-- the lines of the applications, the mode, and the lines of the calls
abbrev pub soak_text : ℕ → List ℕ
soak_text number = joined declaration_line 8 ++ codes "threads\n" ++ joined (app_text number) 8
