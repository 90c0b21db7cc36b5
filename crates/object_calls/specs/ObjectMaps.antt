-- The objects that a mounted store opens with are a map of objects.
use Rattle.disk_model.specs.State.{FileState}
use Rattle.hmac_keys.specs.declared.Keys.{Keys}
use Rattle.store_model.specs.Sound.{IsObjectMap}
use Rattle.crash_core.specs.Opening.{opening_map}
use Rattle.object_calls.specs.Opening.{OpeningValue, bench_files, entries_in}

-- under whatever keys
abbrev pub OpensObjectMap : {F R : Type 0} → (F → FileState) → OpeningValue F R → Type 0
OpensObjectMap state o = (keys : Keys) → IsObjectMap (opening_map keys (bench_files state o) (entries_in o))
