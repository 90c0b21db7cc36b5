use Rattle.std.proofs.Common.{ap, ◌∙◌, slice_index_or}
use Rattle.std.specs.Int.{w16, w32, from_be_bytes}
use Rattle.dir_records.specs.Layout.{entry_of}
use Rattle.dir_records.proofs.entry.entry_with.Goals as goal

pub returns : goal.returns
unfolding entry_of
returns c = λ i. record {
  app = (c.from_uuid.ensures ∙ c.from_bytes.ensures ∙ c.field.ensures) i;
  id = c.requires i;
  version = slice_index_or c.args.bytes.now 81 0;
  file = (c.from_be_bytes.ensures ∙ ap (from_be_bytes w16) c.field-2.ensures) i;
  hash = c.field-3.ensures i;
  size = (c.from_be_bytes-2.ensures ∙ ap (from_be_bytes w32) c.field-4.ensures) i;
  attributes = (c.from_be_bytes-3.ensures ∙ ap (from_be_bytes w16) c.field-5.ensures) i;
  format = slice_index_or c.args.bytes.now 122 0;
  generation = (c.from_be_bytes-4.ensures ∙ ap (from_be_bytes w32) c.field-6.ensures) i;
}
