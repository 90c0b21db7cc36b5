-- Access flags of an open object, and the rule by which two handles share it
-- (TEE Internal Core API, Trusted Storage: data flag constants, and TEE_OpenPersistentObject's table of sharing).
use Rattle.std.specs.Prelude.{ℕ, Bool, ◌==◌, ◌&&◌, ◌||◌, not, bit_and}
use Rattle.tee_types.specs.declared.flags.Flags.{Flags}

-- TEE_DATA_FLAG_ACCESS_READ
abbrev pub read_bit : ℕ
read_bit = 0x1

-- TEE_DATA_FLAG_ACCESS_WRITE
abbrev pub write_bit : ℕ
write_bit = 0x2

-- TEE_DATA_FLAG_ACCESS_WRITE_META
abbrev pub write_meta_bit : ℕ
write_meta_bit = 0x4

-- TEE_DATA_FLAG_SHARE_READ
abbrev pub share_read_bit : ℕ
share_read_bit = 0x10

-- TEE_DATA_FLAG_SHARE_WRITE
abbrev pub share_write_bit : ℕ
share_write_bit = 0x20

-- TEE_DATA_FLAG_OVERWRITE
abbrev pub overwrite_bit : ℕ
overwrite_bit = 0x400

-- each of these bits is set
abbrev pub has : Flags → ℕ → Bool
has flags bits = bit_and flags.bits bits == bits

-- no bit but the six above is set
abbrev pub is_known : Flags → Bool
is_known flags = bit_and flags.bits 0x437 == flags.bits

-- Neither may rename or delete; if either may read, both share reading; if either may write, both share writing.
abbrev pub are_compatible : Flags → Flags → Bool
are_compatible a b =
    not (has a write_meta_bit || has b write_meta_bit)
    && (not (has a read_bit || has b read_bit) || (has a share_read_bit && has b share_read_bit))
    && (not (has a write_bit || has b write_bit) || (has a share_write_bit && has b share_write_bit))

-- the same rights, without OVERWRITE (and no unknown bit)
abbrev pub without_overwrite : Flags → Flags
without_overwrite flags = record { bits = bit_and flags.bits 0x37 }
