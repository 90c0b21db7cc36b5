-- The frames that a host sends (JESD84-B51, 6.6.22). Each field that is not named is zero.
use Rattle.std.specs.Prelude.{ℕ, List}
use Rattle.rpmb_frame.specs.declared.frame.Frame.{Frame}
use Rattle.rpmb_frame.specs.Layout.{frame_bytes}
use Rattle.rpmb_frame.specs.Authentication.{sealed}
use Rattle.rpmb_card.specs.EmptyFrame.{empty_frame}
use Rattle.rpmb_card.specs.Protocol.{read_counter_kind, read_block_kind, read_result_kind, write_block_kind}

abbrev pub counter_request : (nonce : List ℕ) → List ℕ
counter_request nonce = frame_bytes (record empty_frame { nonce = nonce; kind = read_counter_kind })

abbrev pub block_request : ℕ → (nonce : List ℕ) → List ℕ
block_request address nonce = frame_bytes (record empty_frame { nonce = nonce; address = address; kind = read_block_kind })

abbrev pub write_fields : (address counter : ℕ) (block : List ℕ) → Frame
write_fields address counter block =
    record empty_frame { block = block; counter = counter; address = address; count = 1; kind = write_block_kind }

-- a write carries its MAC
abbrev pub write_request : (key : List ℕ) (address counter : ℕ) (block : List ℕ) → List ℕ
write_request key address counter block = sealed key (frame_bytes (write_fields address counter block))

abbrev pub result_request : List ℕ
result_request = frame_bytes (record empty_frame { kind = read_result_kind })
