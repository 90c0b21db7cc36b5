-- What a file gave for a call, whatever the file is: a tree that is verified under the version's reference, and good ciphertexts.
use Rattle.std.specs.Prelude.{◌≡◌, ℕ, ◌+◌, ◌-◌, ◌==◌, ◌||◌, List, length, take, min, Bool, true, false, Option, Some, None, IsSome, ⊤}
use Rattle.tee_types.specs.declared.call.Call.{Call}
use Rattle.tee_types.specs.declared.call.Call.TheVariants.{Info, Open, Read, Truncate, Write}
use Rattle.tee_types.specs.declared.reply.Reply.{Reply}
use Rattle.tee_types.specs.declared.reply.Reply.TheVariants.{Content, Handle as HandleReply, Info as InfoReply}
use Rattle.node_image.specs.declared.node.RootRef.{RootRef}
use Rattle.htree_file.specs.Opening.{IsVerified, Loaded}
use Rattle.page_bytes.specs.Pages.{bytes_from}
use Rattle.page_bytes.specs.Ranges.{meets, needs, resize_range, write_range}
use Rattle.store_model.specs.declared.session.Handle.{Handle}
use Rattle.store_model.specs.Machine.{MachineState, handle_at, session_at}
use Rattle.core_laws.specs.Decodings.{Decoding, page_decoded, tree_decoding}

-- the position of a handle, where it is live
abbrev pub position_of : Option Handle → ℕ
position_of None = 0
position_of (Some handle) = handle.position

-- the position from which a call of session i reads or writes
abbrev pub position_by : MachineState → (i : ℕ) → Call → ℕ
position_by s i (Read handle size) = position_of (handle_at (session_at s i) handle)
position_by s i (Write handle bytes) = position_of (handle_at (session_at s i) handle)
position_by s i _ = 0

-- the data blocks that a call at that position has to know of an object of that size; the data begin with block 1
abbrev pub is_data_asked : (size position : ℕ) → Call → (k : ℕ) → Bool
is_data_asked size position (Read handle count) k = meets (4096 + position) (4096 + position + min count (size - position)) k
is_data_asked size position (Write handle bytes) k = needs (write_range (4096 + size) (4096 + position) (length bytes)) k
is_data_asked size position (Truncate handle length) k = needs (resize_range (4096 + size) (4096 + length)) k
is_data_asked size position _ k = false

-- these, and block 0 with the attributes
abbrev pub is_asked : (size position : ℕ) → Call → (k : ℕ) → Bool
is_asked size position call k = (k == 0) || is_data_asked size position call k

-- What a file gave of the blocks that were asked, where `wrap` is the key that wraps its own, of an object of that size.
pub record Gave (wrap : List ℕ) (root : RootRef) (size : ℕ) (asked : ℕ → Bool) : Type 0 where
  pub tree : Loaded
  pub verified : IsVerified root tree
  pub long : tree.head.length ≡ 4096 + size
  pub block : ℕ → List ℕ
  pub good : (k : ℕ) → asked k ≡ true → IsSome (page_decoded (tree_decoding wrap block tree) k)

-- the tree and the ciphertexts
abbrev pub decoding_given : {wrap : List ℕ} {root : RootRef} {size : ℕ} {asked : ℕ → Bool} → Gave wrap root size asked → Decoding
decoding_given {wrap = wrap} gave = tree_decoding wrap gave.block gave.tree

-- The reply is what a spelling tells of an object with so many bytes of data and of attributes, to a call at that position.
abbrev pub Tells : Decoding → (size attributes position : ℕ) → Call → Reply → Type 0
Tells sp size attributes position (Open id flags) (HandleReply number) = ⊤
Tells sp size attributes position (Read handle count) (Content bytes) =
    bytes ≡ bytes_from (page_decoded sp) (4096 + position) (min count (size - position))
Tells sp size attributes position (Info handle) (InfoReply long at flags told) = (page : List ℕ) × (page_decoded sp 0 ≡ Some page) × (told ≡ take attributes page)
Tells sp size attributes position _ _ = ⊥

-- the replies are alike but for bytes of the object
abbrev pub DiffersInBytes : Reply → Reply → Type 0
DiffersInBytes (Content bytes) (Content other) = length bytes ≡ length other
DiffersInBytes (InfoReply long at flags told) (InfoReply other_long other_at other_flags other) =
    (long ≡ other_long) × (at ≡ other_at) × (flags ≡ other_flags)
DiffersInBytes _ _ = ⊥
