use Rattle.std.proofs.Common.{ap, ◌∙◌}
use Rattle.std.specs.Int.{w16, w32, from_be_bytes}
use Rattle.rpmb_frame.specs.Layout.{frame_bytes, frame_of}
use Rattle.rpmb_frame.proofs.RoundTrips.{frame_bytes-frame_of}
use Rattle.rpmb_frame.proofs.frame.Frame.parse.Goals as goal

pub returns-clause-fields : goal.returns-clause-fields
unfolding frame_of
returns-clause-fields c = λ i. record {
  stuff = c.field.ensures i;
  key_or_mac = c.field-2.ensures i;
  block = c.field-3.ensures i;
  nonce = c.field-4.ensures i;
  counter = (c.from_be_bytes.ensures ∙ ap (from_be_bytes w32) c.field-5.ensures) i;
  address = (c.from_be_bytes-2.ensures ∙ ap (from_be_bytes w16) c.field-6.ensures) i;
  count = (c.from_be_bytes-3.ensures ∙ ap (from_be_bytes w16) c.field-7.ensures) i;
  result = (c.from_be_bytes-4.ensures ∙ ap (from_be_bytes w16) c.field-8.ensures) i;
  kind = (c.from_be_bytes-5.ensures ∙ ap (from_be_bytes w16) c.field-9.ensures) i;
}

pub returns-clause-written : goal.returns-clause-written
returns-clause-written c =
    ap frame_bytes (returns-clause-fields c) ∙ frame_bytes-frame_of c.args.bytes.now c.told-bytes c.fits-bytes
