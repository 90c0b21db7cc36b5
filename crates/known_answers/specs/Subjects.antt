-- What a question is about, by the first word of its line.
use Rattle.std.specs.Prelude.{ℕ, List, codes, bytes_eq, if◌then◌else◌, Option, Some, None}
use Rattle.known_answers.specs.declared.subjects.Subject.{Subject}
use Rattle.known_answers.specs.declared.subjects.Subject.TheVariants.{Aes, AesInverse, Ghash, GcmSeal, GcmOpen, Hmac, Ssk, Tsk, DirTsk, RpmbKey, Wrap, Unwrap, FrameMac, FrameFields, Card, WornCard, Tree, TreeMake, Entry, Object}

abbrev pub subject_word : Subject → List ℕ
subject_word Aes = codes "aes"
subject_word AesInverse = codes "aes-inverse"
subject_word Ghash = codes "ghash"
subject_word GcmSeal = codes "gcm-seal"
subject_word GcmOpen = codes "gcm-open"
subject_word Hmac = codes "hmac"
subject_word Ssk = codes "ssk"
subject_word Tsk = codes "tsk"
subject_word DirTsk = codes "dir-tsk"
subject_word RpmbKey = codes "rpmb-key"
subject_word Wrap = codes "wrap"
subject_word Unwrap = codes "unwrap"
subject_word FrameMac = codes "frame-mac"
subject_word FrameFields = codes "frame-fields"
subject_word Card = codes "card"
subject_word WornCard = codes "worn-card"
subject_word Tree = codes "tree"
subject_word TreeMake = codes "tree-make"
subject_word Entry = codes "entry"
subject_word Object = codes "object"

-- the subject whose word this is
abbrev pub subject_named : (name : List ℕ) → Option Subject
subject_named name =
    if bytes_eq name (codes "aes") then Some Aes
    else if bytes_eq name (codes "aes-inverse") then Some AesInverse
    else if bytes_eq name (codes "ghash") then Some Ghash
    else if bytes_eq name (codes "gcm-seal") then Some GcmSeal
    else if bytes_eq name (codes "gcm-open") then Some GcmOpen
    else if bytes_eq name (codes "hmac") then Some Hmac
    else if bytes_eq name (codes "ssk") then Some Ssk
    else if bytes_eq name (codes "tsk") then Some Tsk
    else if bytes_eq name (codes "dir-tsk") then Some DirTsk
    else if bytes_eq name (codes "rpmb-key") then Some RpmbKey
    else if bytes_eq name (codes "wrap") then Some Wrap
    else if bytes_eq name (codes "unwrap") then Some Unwrap
    else if bytes_eq name (codes "frame-mac") then Some FrameMac
    else if bytes_eq name (codes "frame-fields") then Some FrameFields
    else if bytes_eq name (codes "card") then Some Card
    else if bytes_eq name (codes "worn-card") then Some WornCard
    else if bytes_eq name (codes "tree") then Some Tree
    else if bytes_eq name (codes "tree-make") then Some TreeMake
    else if bytes_eq name (codes "entry") then Some Entry
    else if bytes_eq name (codes "object") then Some Object
    else None
