-- The keys that a device derives from its hardware unique key, each by HMAC.
use Rattle.std.specs.Prelude.{ℕ, List, [], ◌∷◌, ◌++◌, codes}
use Rattle.hmac_keys.specs.Hmac.{hmac}

-- SSK, the secure storage key: of the chip's identity and a fixed text, under the hardware unique key
abbrev pub ssk : List ℕ → List ℕ → List ℕ
ssk huk chip = hmac huk (chip ++ codes "trusted storage key")

-- TSK, the storage key of a trusted application: of its UUID, under SSK
abbrev pub tsk : List ℕ → List ℕ → List ℕ
tsk ssk app = hmac ssk app

-- the storage key of the directory: of one zero byte, under SSK
abbrev pub dir_tsk : List ℕ → List ℕ
dir_tsk ssk = hmac ssk (0 ∷ [])

-- the key that authenticates frames of the replay-protected memory block: of a fixed text, under the
-- hardware unique key
abbrev pub rpmb_key : List ℕ → List ℕ
rpmb_key huk = hmac huk (codes "RPMB key")
