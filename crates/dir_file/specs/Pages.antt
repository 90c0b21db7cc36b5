-- Pages of a directory's tree that were read, and the entries in them.
use Rattle.std.specs.Prelude.{◌≡◌, ℕ, ◌<◌, List, [], ◌∷◌, ◌++◌, length, get_or, map, is_none, false, nat_lt, if◌then◌else◌, Option, Some, Result, Ok, Err}
use Rattle.disk_model.specs.State.{FileState}
use Rattle.htree_file.specs.declared.fault.TreeFault.TheVariants.{NoMemory}
use Rattle.htree_file.specs.Changes.{Seals}
use Rattle.htree_file.specs.Opening.{Loaded}
use Rattle.htree_file.specs.Pages.{page_in}
use Rattle.dir_records.specs.declared.entry.DirEntry.{DirEntry}
use Rattle.crash_core.specs.declared.fault.DirFault.{DirFault}
use Rattle.crash_core.specs.declared.fault.DirFault.TheVariants.{Tree, WrongLength, Record, Double}
use Rattle.crash_core.specs.Entries.{distinct, entries_of}
use Rattle.dir_file.specs.EntryForms.{AreEntriesOf}
use Rattle.dir_file.specs.Seen.{SeesBlock}

abbrev pub some_pages : List (List ℕ) → List (Option (List ℕ))
some_pages pages = map (λ page. Some page) pages

-- no block before block n is bad, and these are the pages of the first eight of them
pub record ArePages (image key : List ℕ) (tree : Loaded) (items : List (List ℕ)) (n : ℕ) : Type 0 where
  pub good : (k : ℕ) → k < n → is_none (page_in image key tree k) ≡ false
  pub pages : (k : ℕ) → k < n → k < 8 → page_in image key tree k ≡ Some (get_or items k [])

-- each page is the deciphering of a ciphertext with the tag of its block's node
abbrev pub AreSealed : (key : List ℕ) → Loaded → (items : List (List ℕ)) → Type 0
AreSealed key tree items = (k : ℕ) → k < length items → Seals key tree k (get_or items k [])

-- and that ciphertext was seen in the block
abbrev pub SeesPage : (old new : FileState) → (key : List ℕ) → Loaded → (k : ℕ) → (page : List ℕ) → Type 0
SeesPage old new key tree k page = (seals : Seals key tree k page) × SeesBlock old new tree k seals.0

abbrev pub AreSeen : (old new : FileState) → (key : List ℕ) → Loaded → (items : List (List ℕ)) → Type 0
AreSeen old new key tree items = (k : ℕ) → k < length items → SeesPage old new key tree k (get_or items k [])

-- the pages that are kept, with that of block k where it is one of the first eight
abbrev pub kept : List (List ℕ) → (k : ℕ) → List ℕ → List (List ℕ)
kept items k page = if nat_lt k 8 then items ++ page ∷ [] else items

-- what parsing eight pages answers: the entries, or the first that is refused; or memory ran out
abbrev pub Parses : (pages : List (Option (List ℕ))) → {V : Type 0} → (V → List (Option DirEntry)) → Result V DirFault → Type 0
Parses pages items (Ok v) = entries_of pages 256 ≡ Ok (items v)
Parses pages items (Err (Record index offset)) = entries_of pages 256 ≡ Err (Record index offset)
Parses pages items (Err (Tree fault)) = fault ≡ NoMemory
Parses pages items (Err (WrongLength bytes)) = ⊥
Parses pages items (Err (Double index first)) = ⊥

-- what reading the entries in eight pages answers: besides, the first double
abbrev pub ReadsEntries : (pages : List (List ℕ)) → {V : Type 0} → (V → List (Option DirEntry)) → Result V DirFault → Type 0
ReadsEntries pages items (Ok v) = (distinct (entries_of (some_pages pages) 256) ≡ Ok (items v)) × AreEntriesOf (items v)
ReadsEntries pages items (Err (Record index offset)) = distinct (entries_of (some_pages pages) 256) ≡ Err (Record index offset)
ReadsEntries pages items (Err (Double index first)) = distinct (entries_of (some_pages pages) 256) ≡ Err (Double index first)
ReadsEntries pages items (Err (Tree fault)) = fault ≡ NoMemory
ReadsEntries pages items (Err (WrongLength bytes)) = ⊥
