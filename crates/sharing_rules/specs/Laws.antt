-- What follows from the rule of sharing (TEE Internal Core API, Trusted Storage: TEE_OpenPersistentObject).
use Rattle.std.specs.Prelude.{◌≡◌, true, false}
use Rattle.tee_types.specs.declared.flags.Flags.{Flags}
use Rattle.tee_types.specs.Rights.{read_bit, write_bit, write_meta_bit, has, are_compatible}

abbrev pub SharingIsSymmetric : Type 0
SharingIsSymmetric = (a b : Flags) → are_compatible a b ≡ are_compatible b a

-- no right to the object's data or its name
pub record HasNoRight (flags : Flags) : Type 0 where
  pub no_read : has flags read_bit ≡ false
  pub no_write : has flags write_bit ≡ false
  pub no_write_meta : has flags write_meta_bit ≡ false

abbrev pub HandlesWithoutRightsAreCompatible : Type 0
HandlesWithoutRightsAreCompatible = (a b : Flags) → HasNoRight a → HasNoRight b → are_compatible a b ≡ true

abbrev pub WriteMetaIsExclusive : Type 0
WriteMetaIsExclusive = (a b : Flags) → has a write_meta_bit ≡ true → are_compatible a b ≡ false
