-- The data frame of the replay-protected memory block (JESD84-B51, 6.6.22): 512 bytes, numbers
-- big-endian, each field at its offset.
use Rattle.std.specs.Prelude.{◌≡◌, ℕ, ◌^◌, ◌<◌, List, ◌++◌, length}
use Rattle.std.specs.Int.{w16, w32, from_be_bytes, to_be_bytes}
use Rattle.byte_fields.specs.Field.{field}
use Rattle.rpmb_frame.specs.declared.frame.Frame.{Frame}

-- the frame that 512 bytes hold
unfoldable pub frame_of : List ℕ → Frame
frame_of bytes = record {
  stuff = field 0 196 bytes;
  key_or_mac = field 196 32 bytes;
  block = field 228 256 bytes;
  nonce = field 484 16 bytes;
  counter = from_be_bytes w32 (field 500 4 bytes);
  address = from_be_bytes w16 (field 504 2 bytes);
  count = from_be_bytes w16 (field 506 2 bytes);
  result = from_be_bytes w16 (field 508 2 bytes);
  kind = from_be_bytes w16 (field 510 2 bytes);
}

-- the fields one after the other
unfoldable pub frame_bytes : Frame → List ℕ
frame_bytes f =
    f.stuff ++ (f.key_or_mac ++ (f.block ++ (f.nonce ++ (to_be_bytes w32 f.counter ++ (to_be_bytes w16 f.address
    ++ (to_be_bytes w16 f.count ++ (to_be_bytes w16 f.result ++ to_be_bytes w16 f.kind)))))))

-- each field has its width
abbrev pub HasWidths : Frame → Type 0
HasWidths f =
    (length f.stuff ≡ 196) × (length f.key_or_mac ≡ 32) × (length f.block ≡ 256) × (length f.nonce ≡ 16)
    × (f.counter < 2 ^ 32) × (f.address < 2 ^ 16) × (f.count < 2 ^ 16) × (f.result < 2 ^ 16) × (f.kind < 2 ^ 16)
