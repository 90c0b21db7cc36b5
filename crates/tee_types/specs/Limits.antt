-- How large a part of an object may be, how many there are of each thing, and how far numbers go. The limits of identifiers and of
-- positions are the standard's (TEE Internal Core API, Trusted Storage: TEE_OBJECT_ID_MAX_LEN, TEE_DATA_MAX_POSITION); the others are this
-- store's.
use Rattle.std.specs.Prelude.{◌≤◌, ◌&&◌, nat_le, ℕ, Bool}

abbrev pub most_identifier_bytes : ℕ
most_identifier_bytes = 64

abbrev pub most_attribute_bytes : ℕ
most_attribute_bytes = 2048

-- 255 blocks of 4096 bytes
abbrev pub most_data_bytes : ℕ
most_data_bytes = 1044480

-- files of objects are numbered from 1 on
abbrev pub last_file : ℕ
last_file = 272

-- a file that may hold an object
abbrev pub IsObjectFile : (file : ℕ) → Type 0
IsObjectFile file = (1 ≤ file) × (file ≤ last_file)

-- the test of it
abbrev pub may_hold_object : (file : ℕ) → Bool
may_hold_object file = nat_le 1 file && nat_le file last_file

-- how many files a bench has: that of an old directory, those of objects, and the directory's
abbrev pub file_count : ℕ
file_count = 274

-- the number of the directory's file, of which proofs use a few laws (FileNumbers)
unfoldable pub directory_file : ℕ
directory_file = 273

-- and of a directory's of the old format
abbrev pub old_directory_file : ℕ
old_directory_file = 0

abbrev pub most_objects : ℕ
most_objects = 256

abbrev pub most_sessions : ℕ
most_sessions = 16

abbrev pub most_handles : ℕ
most_handles = 1024

abbrev pub most_enumerators : ℕ
most_enumerators = 64

abbrev pub greatest_position : ℕ
greatest_position = 4294967295

abbrev pub most_script_bytes : ℕ
most_script_bytes = 16777216

abbrev pub most_applications : ℕ
most_applications = 16
