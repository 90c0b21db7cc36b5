-- Masks that wait for a call, as contracts see them.
use Rattle.std.specs.Prelude.{ℕ, List, map, filter, ◌==◌, fold}
use Rattle.disk_model.specs.Arms.{Taint}
use Rattle.disk_model.specs.Controls.{Stored, strike}
use Rattle.mem_files.specs.declared.taint.Taint.{Taint as StoredTaint}

abbrev pub taint_of : StoredTaint → Taint
taint_of taint = record { call = taint.call; at = taint.at; mask = taint.mask.items }

-- what the masks for this call leave
abbrev pub struck_by : Stored → List StoredTaint → ℕ → Stored
struck_by stored taints call = fold strike stored (filter (λ taint. taint.call == call) (map taint_of taints))
