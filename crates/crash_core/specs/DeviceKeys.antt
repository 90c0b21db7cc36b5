-- The keys of the store's trees, each derived from the device's hardware unique key and its chip's identity (OP-TEE,
-- core/tee/tee_fs_key_manager.c).
use Rattle.std.specs.Prelude.{ℕ, List}
use Rattle.hmac_keys.specs.declared.Keys.{Keys}
use Rattle.hmac_keys.specs.KeyTable.{ssk, tsk, dir_tsk}

-- the key of the directory's tree
abbrev pub directory_key : Keys → List ℕ
directory_key keys = dir_tsk (ssk keys.huk keys.chip)

-- the key of the trees of an application's objects
abbrev pub object_key : Keys → (app : List ℕ) → List ℕ
object_key keys app = tsk (ssk keys.huk keys.chip) app
