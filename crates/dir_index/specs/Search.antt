-- Where a search among entries in order ends.
use Rattle.std.specs.Prelude.{◌≡◌, ℕ, ◌<◌, ◌≤◌, Bool, true, false, List, Option, Some, None, length, slice_index_or}
use Rattle.std.specs.declared.cmp.Ordering.TheVariants.{Less, Equal, Greater}
use Rattle.std.specs.Ordering.{is_le, match_ordering}
use Rattle.tee_types.specs.Identifier.{bytes_cmp}
use Rattle.store_model.specs.declared.name.ObjectName.{ObjectName}
use Rattle.store_model.specs.Name.{name_cmp}
use Rattle.dir_index.specs.Index.{IndexEntry, IndexEntries}

-- the entry at that place has the name, and those before it have lesser ones
pub record IsAt (entries : IndexEntries) (name : ObjectName) (place : ℕ) : Type 0 where
  pub within : place < length entries
  pub below : (k : ℕ) (d : IndexEntry) → k < place → name_cmp name (slice_index_or entries k d).0 ≡ Greater
  pub alike : (d : IndexEntry) → name_cmp name (slice_index_or entries place d).0 ≡ Equal

-- the entries before that place have lesser names, and those from it on have greater ones
pub record IsGapFor (entries : IndexEntries) (name : ObjectName) (place : ℕ) : Type 0 where
  pub within : place ≤ length entries
  pub below : (k : ℕ) (d : IndexEntry) → k < place → name_cmp name (slice_index_or entries k d).0 ≡ Greater
  pub above : (k : ℕ) (d : IndexEntry) → place ≤ k → k < length entries → name_cmp name (slice_index_or entries k d).0 ≡ Less

-- the identifier is none above the given one
abbrev pub is_upto : Option (List ℕ) → List ℕ → Bool
is_upto None id = false
is_upto (Some after) id = is_le (bytes_cmp id after)

-- the name lies before those of the application that are above the identifier
abbrev pub precedes : List ℕ → Option (List ℕ) → ObjectName → Bool
precedes app after name = match_ordering (bytes_cmp name.app app) true (is_upto after name.id) false

-- the entries before that place precede those that are above, and the others don't
pub record IsBoundary (entries : IndexEntries) (app : List ℕ) (after : Option (List ℕ)) (place : ℕ) : Type 0 where
  pub within : place ≤ length entries
  pub before : (k : ℕ) (d : IndexEntry) → k < place → precedes app after (slice_index_or entries k d).0 ≡ true
  pub behind : (k : ℕ) (d : IndexEntry) → place ≤ k → k < length entries → precedes app after (slice_index_or entries k d).0 ≡ false
