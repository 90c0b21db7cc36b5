-- The declarations that a map of names holds.
use Rattle.std.proofs.Common.{◌≡◌, ◌+◌, ℕ, Bool, false, not, cond, nat_eq, nat_lt, List, [], ◌∷◌, ◌++◌, map, length, Option, Some, None, is_some, position, refl, sym, ap, ◌∙◌, suc, Vec, Global}
use Rattle.std.proofs.lemmas.Bool.{false≢true}
use Rattle.std.proofs.lemmas.List.{map-append}
use Rattle.std.specs.Cmp.Lexicographic.{pointwise}
use Rattle.std.specs.List.{position_or_len}
use Rattle.std.specs.Map.{keys_of, values_of, lookup}
use Rattle.indexmap.proofs.MapLemmas.{some_index, absent_from_lookup, insert_entry-absent}
use Rattle.indexmap.specs.IndexMap.{insert_entry}
use Rattle.script_text.specs.Words.{same_word}
use Rattle.script_text.specs.Script.{Declaration, declarations_of}
use Rattle.script_text.specs.Grammar.{place_of}

-- the key is that name
abbrev pub names : List ℕ → Vec ℕ Global → Bool
names name key = pointwise nat_eq name key.items

pub apps-declarations : (entries : List (Vec ℕ Global × List ℕ)) → values_of entries ≡ map (λ d. d.app) (declarations_of entries)
apps-declarations [] = refl
apps-declarations (e ∷ entries) = ap (λ apps. e.1 ∷ apps) (apps-declarations entries)

length-keys : (entries : List (Vec ℕ Global × List ℕ)) → length (keys_of entries) ≡ length (declarations_of entries)
length-keys [] = refl
length-keys (e ∷ entries) = ap suc (length-keys entries)

passed : (name : List ℕ) (entries : List (Vec ℕ Global × List ℕ)) → position_or_len (names name) (keys_of entries) ≡ position_or_len (λ d. same_word name d.name) (declarations_of entries)
passed name [] = refl
passed name (e ∷ entries) = ap (λ n. cond (not (same_word name (e.0).items)) (1 + n) 0) (passed name entries)

-- a name stands at the place of its key
pub position-names : (name : List ℕ) (entries : List (Vec ℕ Global × List ℕ)) → position (names name) (keys_of entries) ≡ place_of name (declarations_of entries)
position-names name entries =
    let at = position_or_len (λ (d : Declaration). same_word name d.name) (declarations_of entries) in
    ap (λ n. cond (nat_lt n (length (keys_of entries))) (Some n) None) (passed name entries)
    ∙ ap (λ n. cond (nat_lt at n) (Some at) None) (length-keys entries)

none_from_is_some : {X : Type 0} (o : Option X) → is_some o ≡ false → o ≡ None
none_from_is_some None e = refl
none_from_is_some (Some x) e = absurd (false≢true (sym e))

-- a new name goes last
pub declarations-insert : (entries : List (Vec ℕ Global × List ℕ)) (name : Vec ℕ Global) (app : List ℕ) → place_of name.items (declarations_of entries) ≡ None
    → declarations_of (insert_entry (λ x y. pointwise nat_eq x.items y.items) entries name app) ≡ declarations_of entries ++ record { name = name.items; app = app } ∷ []
declarations-insert entries name app new =
    let eq = λ (x y : Vec ℕ Global). pointwise nat_eq x.items y.items in
    let missing : is_some (lookup (eq name) entries) ≡ false = sym (some_index (eq name) entries) ∙ ap is_some (position-names name.items entries ∙ new) in
    let absent = absent_from_lookup (eq name) entries (none_from_is_some _ missing) in
    ap declarations_of (insert_entry-absent eq name app entries absent) ∙ map-append _ entries ((name, app) ∷ [])
