-- The calls of a round.
use Rattle.std.specs.Prelude.{ℕ, ◌+◌, ◌%◌, ◌==◌, pos, List, [], ◌∷◌, if◌then◌else◌}
use Rattle.tee_types.specs.declared.flags.Flags.{Flags}
use Rattle.tee_types.specs.declared.call.Call.{Call}
use Rattle.tee_types.specs.declared.call.Call.TheVariants.{Create, Seek, Write, Rename, Read, Delete, Close}
use Rattle.tee_types.specs.declared.call.Whence.TheVariants.{Set}
use Rattle.tee_types.specs.Rights.{read_bit, write_bit, write_meta_bit, overwrite_bit}
use Rattle.seed_words.specs.declared.soak_words.RoundWords.{RoundWords}
use Rattle.seed_words.specs.Joined.{joined}

-- so many bytes that rise by one from the first on, and go on at 0 behind 255
abbrev pub rising : (first count : ℕ) → List ℕ
rising first count = joined (λ j. (first + j) % 256 ∷ []) count

-- the identifier of round i: sixteen take turns
abbrev pub id_of_round : ℕ → List ℕ
id_of_round i = i % 16 ∷ []

-- READ, WRITE, WRITE_META and OVERWRITE
abbrev pub all_rights : Flags
all_rights = record { bits = read_bit + write_bit + write_meta_bit + overwrite_bit }

-- an object of 1 to 4,096 bytes is made, in the place of one that has its identifier
abbrev pub create_of : RoundWords → ℕ → Call
create_of w i = Create (id_of_round i) all_rights [] (rising w.first (1 + w.created % 4096))

-- to a place below 16,384; a handle has the number of its round
abbrev pub seek_of : RoundWords → ℕ → Call
seek_of w i = Seek i (pos (w.offset % 16384)) Set

-- 1 to 1,024 bytes
abbrev pub write_of : RoundWords → ℕ → Call
write_of w i = Write i (rising (w.first + 128) (1 + w.written % 1024))

-- a rename to the object's own identifier, which is refused, in every fifth round; else a read
abbrev pub fourth_of : ℕ → Call
fourth_of i = if i % 5 == 4 then Rename i (id_of_round i) else Read i 4096

-- a delete in every fourth round; else the handle is closed
abbrev pub last_of : ℕ → Call
last_of i = if i % 4 == 3 then Delete i else Close i

-- the calls of round i
unfoldable pub round_calls : RoundWords → (i : ℕ) → List Call
round_calls w i = create_of w i ∷ seek_of w i ∷ write_of w i ∷ fourth_of i ∷ last_of i ∷ []
