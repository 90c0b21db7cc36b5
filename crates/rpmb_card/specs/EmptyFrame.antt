-- The frame from which requests and answers are made.
use Rattle.std.specs.Prelude.{replicate}
use Rattle.rpmb_frame.specs.declared.frame.Frame.{Frame}

-- every field is zero
unfoldable pub empty_frame : Frame
empty_frame = record {
  stuff = replicate 196 0;
  key_or_mac = replicate 32 0;
  block = replicate 256 0;
  nonce = replicate 16 0;
  counter = 0;
  address = 0;
  count = 0;
  result = 0;
  kind = 0;
}
