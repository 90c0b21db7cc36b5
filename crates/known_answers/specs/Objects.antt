-- The lines on objects that entries of the directory mount as.
use Rattle.std.specs.Prelude.{ℕ, nat_le, List, [], ◌∷◌, ◌++◌, length, codes, decimal, if◌then◌else◌}
use Rattle.hex.specs.Hex.{encode_lower}
use Rattle.sha2.specs.Sha256.{sha256}
use Rattle.dir_records.specs.Form.{record_of}
use Rattle.store_model.specs.Object.{Object, Damaged, Sound}
use Rattle.crash_core.specs.MountedObject.{mounted_object}
use Rattle.known_answers.specs.Lines.{hex_word}
use Rattle.known_answers.specs.Entries.{record_line}
use Rattle.known_answers.specs.declared.questions.ObjectImage.{ObjectImage}

-- numbers, each behind a comma
abbrev pub behind_commas : List ℕ → List ℕ
behind_commas [] = []
behind_commas (n ∷ rest) = codes "," ++ decimal n ++ behind_commas rest

-- the numbers of bad blocks, commas between them
abbrev pub bad_word : (first : ℕ) → (rest : List ℕ) → List ℕ
bad_word first rest = codes "bad:" ++ decimal first ++ behind_commas rest

-- bytes in hex, `-` for none, or their hash where they are more than 64
abbrev pub bytes_word : List ℕ → List ℕ
bytes_word bytes = if nat_le (length bytes) 64 then hex_word bytes else codes "sha256:" ++ encode_lower (sha256 bytes)

-- the numbers of the bad blocks, where there are any, and else the bytes
abbrev pub content_word : (bytes bad : List ℕ) → List ℕ
content_word bytes [] = bytes_word bytes
content_word bytes (first ∷ rest) = bad_word first rest

-- how many bytes of data an object has, and then its attributes and its content, or that it is damaged
abbrev pub object_words : Object → List ℕ
object_words (Sound c) = decimal (length c.bytes) ++ codes " " ++ hex_word c.attributes ++ codes " " ++ content_word c.bytes c.bad
object_words (Damaged size) = decimal size ++ codes " damaged"

-- the object that the entry mounts as over the image
abbrev pub object_line : ObjectImage → List ℕ
object_line o = record_line (λ e. object_words (mounted_object o.tsk o.image.items e)) (record_of o.entry)
