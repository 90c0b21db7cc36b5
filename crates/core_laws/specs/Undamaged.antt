-- Objects without damage, and that legal histories damage none.
use Rattle.std.specs.Prelude.{◌≡◌, ℕ, List, [], Some, None, Contains}
use Rattle.store_model.specs.declared.name.ObjectName.{ObjectName}
use Rattle.store_model.specs.Object.{Damaged, Object, ObjectMap, Sound, object_at}
use Rattle.store_model.specs.Files.{FileMap}
use Rattle.store_model.specs.Legal.{IsLegalFrom}
use Rattle.store_model.specs.ReplayState.{ReplayState, replay}
use Rattle.history_seats.specs.Records.{HistoryRecord}
use Rattle.core_laws.specs.TieLaws.{AreRising}

-- the object is sound, and no block of it is bad
abbrev pub IsUndamaged : Object → Type 0
IsUndamaged (Sound c) = c.bad ≡ []
IsUndamaged (Damaged size) = ⊥

-- so is each object whose file is among these
abbrev pub AreUndamagedIn : (numbers : List ℕ) → FileMap → ObjectMap → Type 0
AreUndamagedIn numbers files objects =
    (name : ObjectName) (object : Object) (file : ℕ) → object_at objects name ≡ Some object → files name ≡ Some file → Contains numbers file → IsUndamaged object

-- A legal history leaves them so.
abbrev pub LegalHistoriesDamageNone : Type 0
LegalHistoriesDamageNone =
    (tampered numbers : List ℕ) (s : ReplayState) (records : List HistoryRecord) → s.doubt ≡ None → AreRising s.state.objects → IsLegalFrom tampered s records
    → AreUndamagedIn numbers s.files s.state.objects → AreUndamagedIn numbers (replay s records).files (replay s records).state.objects
