-- What a file in memory holds, as contracts see it.
use Rattle.std.specs.Prelude.{◌≡◌}
use Rattle.disk_model.specs.Controls.{Stored}
use Rattle.mem_files.specs.declared.content.Content.{Content}
use Rattle.mem_files.specs.Held.{settled_bytes, Held}

abbrev pub held : Content → Held
held content = record {
  settled = settled_bytes content.settled content.bytes.items;
  reads = content.bytes.items;
  trail = content.trail.items;
  pending_from = content.pending_from;
  honest = content.honest;
}

-- the part that a mask strikes
abbrev pub stored_in : Content → Stored
stored_in content = record {
  settled = settled_bytes content.settled content.bytes.items;
  reads = content.bytes.items;
  honest = content.honest;
}

-- no entry of the trail came
pub record Rest (old new : Content) : Type 0 where
  pub trail : new.trail ≡ old.trail
  pub pending_from : new.pending_from ≡ old.pending_from
