-- The commands, by their words.
use Rattle.std.specs.Prelude.{ℕ, List, [], ◌∷◌, if◌then◌else◌, Option, Some, None, codes, bytes_eq}
use Rattle.tee_store.specs.declared.words.Verb.{Verb}
use Rattle.tee_store.specs.declared.words.Verb.TheVariants.{Check, Create, Dump, Get, Info, List as ListVerb, Put, Remove, Rename}

unfoldable pub folder_verb : List ℕ → Option Verb
folder_verb verb =
    if bytes_eq verb (codes "create") then Some Create else if bytes_eq verb (codes "list") then Some ListVerb else
    if bytes_eq verb (codes "check") then Some Check else if bytes_eq verb (codes "dump") then Some Dump else None

unfoldable pub object_verb : List ℕ → Option Verb
object_verb verb =
    if bytes_eq verb (codes "put") then Some Put else if bytes_eq verb (codes "get") then Some Get else
    if bytes_eq verb (codes "info") then Some Info else if bytes_eq verb (codes "remove") then Some Remove else None

unfoldable pub pair_verb : List ℕ → Option Verb
pair_verb verb = if bytes_eq verb (codes "rename") then Some Rename else None

-- a command and a folder; these and an object; or these and two identifiers
abbrev pub verb_of : List (List ℕ) → Option Verb
verb_of (verb ∷ folder ∷ []) = folder_verb verb
verb_of (verb ∷ folder ∷ id ∷ []) = object_verb verb
verb_of (verb ∷ folder ∷ id ∷ new ∷ []) = pair_verb verb
verb_of words = None
