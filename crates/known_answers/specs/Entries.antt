-- The lines on entries of the directory.
use Rattle.std.specs.Prelude.{ℕ, List, ◌++◌, length, codes, decimal, Option, Some, None, Result, Ok, Err}
use Rattle.dir_records.specs.declared.entry.BadRecord.{BadRecord}
use Rattle.dir_records.specs.declared.entry.DirEntry.{DirEntry}
use Rattle.dir_records.specs.Form.{record_of}
use Rattle.known_answers.specs.Lines.{two_words, hex_word}

-- whose object it is: the application, the identifier, without the zero bytes behind it, and its length
abbrev pub name_words : DirEntry → List ℕ
name_words e = two_words e.app e.id ++ codes " " ++ decimal (length e.id)

-- where it is, each word behind a space: the version of its root, its file, and the hash of its root
abbrev pub place_words : DirEntry → List ℕ
place_words e = codes " " ++ decimal e.version ++ codes " " ++ decimal e.file ++ codes " " ++ hex_word e.hash

-- its sizes, of the data and of the attributes, its format and its generation, each behind a space
abbrev pub size_words : DirEntry → List ℕ
size_words e =
    codes " " ++ decimal e.size ++ codes " " ++ decimal e.attributes ++ codes " " ++ decimal e.format ++ codes " " ++ decimal e.generation

-- the fields of an entry, in their order
abbrev pub entry_words : DirEntry → List ℕ
entry_words e = name_words e ++ place_words e ++ size_words e

-- what is said of an entry, or that the bytes are free, or the first offset that is wrong
abbrev pub record_line : (DirEntry → List ℕ) → Result (Option DirEntry) BadRecord → List ℕ
record_line words (Ok None) = codes "free"
record_line words (Ok (Some e)) = words e
record_line words (Err bad) = codes "record " ++ decimal bad.offset

-- what 128 bytes hold
abbrev pub entry_line : List ℕ → List ℕ
entry_line bytes = record_line entry_words (record_of bytes)
