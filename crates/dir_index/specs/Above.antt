-- The names of one application above an identifier.
use Rattle.std.specs.Prelude.{◌≡◌, ℕ, Bool, true, ◌&&◌, List, Option, Some, None, IsSome}
use Rattle.std.specs.List.{find}
use Rattle.std.specs.Option.{option_map}
use Rattle.std.specs.Ordering.{is_eq, is_lt, is_le}
use Rattle.tee_types.specs.Identifier.{bytes_cmp}
use Rattle.store_model.specs.declared.name.ObjectName.{ObjectName}
use Rattle.dir_index.specs.Index.{IndexEntry, IndexEntries, IndexState, named, index_at}

-- the name is one of that application, and above the identifier where one is given
abbrev pub is_above : List ℕ → Option (List ℕ) → ObjectName → Bool
is_above app None name = is_eq (bytes_cmp app name.app)
is_above app (Some after) name = is_eq (bytes_cmp app name.app) && is_lt (bytes_cmp after name.id)

-- the identifier and the index of an entry
abbrev pub shown : IndexEntry → List ℕ × ℕ
shown entry = ((entry.0).id, entry.1)

-- the first of the entries that are above; entries lie in the order of the names
abbrev pub next_above : IndexEntries → List ℕ → Option (List ℕ) → Option (List ℕ × ℕ)
next_above entries app after = option_map shown (find (λ e. is_above app after e.0) entries)

-- that identifier is held with that index, is above, and no other that is held and above is less
pub record IsLeastAbove (s : IndexState) (app : List ℕ) (after : Option (List ℕ)) (id : List ℕ) (index : ℕ) : Type 0 where
  pub held : index_at s (named app id) ≡ Some index
  pub above : is_above app after (named app id) ≡ true
  pub least : (other : List ℕ) → IsSome (index_at s (named app other)) → is_above app after (named app other) ≡ true
      → is_le (bytes_cmp id other) ≡ true
