-- What a file keeps of a card over its calls, and what a crash leaves of it.
use Rattle.std.proofs.Common.{◌≡◌, ◌∙◌, inl, inr, refl, sym, ap, subst, ℕ, ◌+◌, ◌<◌, ◌≤◌, List, ◌++◌, length, get_or, Bool, false, IsTrue, Option, Some, None, Result, Ok, Err, OnOk, OnErr, arith}
use Rattle.disk_model.specs.Images.{Every, Has}
use Rattle.disk_model.specs.State.{FileState, LeftNow, LeftSince, Sound, moment}
use Rattle.disk_model.specs.Calls.{GoesOn, Known, Rests, Syncs}
use Rattle.disk_model.specs.Keeps.{Anywhere, IsKeptWhole, Keeps, Outside}
use Rattle.disk_model.proofs.Goings.{known_at_end, known_at_start}
use Rattle.disk_model.proofs.ImageLaws.{left_since_now, now_since}
use Rattle.disk_model.proofs.Laws.{keeps_fewer, keeps_none, keeps_then, rest_keeps, sync_keeps}
use Rattle.tee_ports.specs.declared.failed.Failed.{Failed}
use Rattle.disk_model.specs.Bytes.{after_write}
use Rattle.rpmb_frame.specs.Layout.{frame_of}
use Rattle.rpmb_card.specs.Card.{CardState, IsCard, card_after, does_write}
use Rattle.host_card.specs.declared.card_file.Place.{Place}
use Rattle.host_card.specs.CardFile.{file_length, IsWhole}
use Rattle.host_card.specs.Places.{IsSpare, IsSpareOrNone, Off, Stands, begin, without, zeros}
use Rattle.host_card.specs.Kept.{Holds, HoldsCard, IsLeft, IsPut, Nowhere}
use Rattle.host_card.proofs.Acting.{stands_marked, stands_written}
use Rattle.host_card.proofs.Standing.{AreSame, stands_cleared, stands_same, stands_torn}

pub tells_before : (a b : FileState) → GoesOn a b → IsTrue b.tells → IsTrue a.tells
tells_before a b goes tells = subst (λ (t : Bool). IsTrue t) goes.tells tells

-- the last place of a file is off each version
last_off : (key bytes : List ℕ) (torn : Option Place) → IsSpareOrNone key bytes torn → Off torn 525_311
last_off key bytes None spare = omega arith
last_off key bytes (Some place) all = let spare = all place refl in (omega arith, inr (omega (arith, spare.address, spare.version)))

-- where each byte off a version is there still, the file is the same but for that version
same_kept : (key bytes a b : List ℕ) (torn : Option Place) → IsSpareOrNone key bytes torn → file_length ≤ length a
    → ((p byte : ℕ) → Off torn p → Has a p byte → Has b p byte) → AreSame torn a b
same_kept key bytes a b torn spare room kept =
    let low : (p : ℕ) → Off torn p → p < length a = λ p off. below torn p off in
    let at_end = kept 525_311 (get_or a 525_311 0) (last_off key bytes torn spare) (record { below = omega (arith, room); is = refl }) in
    record {
      room = room;
      there = omega (arith, at_end.below);
      same = λ p off. sym (kept p (get_or a p 0) off (record { below = low p off; is = refl })).is;
    }
  where
    below : (torn : Option Place) (p : ℕ) → Off torn p → p < length a
    below None p off = omega (arith, off, room)
    below (Some place) p off = omega (arith, off.0, room)

pub off_within : (torn : Option Place) (p : ℕ) → Off torn p → p < file_length
off_within None p off = off
off_within (Some place) p off = off.0

-- places off a version are kept by whole sectors
whole_off : (torn : Option Place) (bytes : List ℕ) (p : ℕ) → file_length ≤ length bytes → Off torn p → IsKeptWhole (Off torn) bytes p
whole_off None bytes p room off = λ other same.
    let low : other < file_length = omega (arith, off, same) in
    (low, omega (arith, low, room))
whole_off (Some place) bytes p room off = λ other same.
    let low : other < file_length = omega (arith, off.0, same) in
    ((low, elim off.1 [ inl before ↦ inl (omega (arith, before, same)) | inr behind ↦ inr (omega (arith, behind, same)) ]), omega (arith, low, room))

still : (key : List ℕ) (old new : FileState) (card : CardState) (torn : Option Place) (p byte : ℕ) → Keeps (Off torn) old new → file_length ≤ length old.reads → Holds key old card torn → IsTrue new.honest
    → Off torn p → Has old.reads p byte → Every (LeftSince new (moment old)) p byte
still key old new card torn p byte keeps room holds honest off has =
    keeps.places honest (moment old) p byte (omega arith) (whole_off torn old.reads p room off)
    (λ image left. holds.left (keeps.goes_on.honest honest) p byte off has image (left_since_now old image left))

-- over calls that change nothing off the version, the file keeps the card
pub holds_on : (key : List ℕ) (old new : FileState) (card : CardState) (torn : Option Place) → Sound old → Sound new → Keeps (Off torn) old new → Holds key old card torn → Holds key new card torn
holds_on key old new card torn sound later keeps holds = record {
  stands = λ tells known.
      let known_on : Known old new = known_at_end old new keeps.goes_on known in
      let stands = holds.stands (tells_before old new keeps.goes_on tells) (known_at_start old new keeps.goes_on known_on) in
      stands_same key old.reads new.reads torn card (same_kept key (without old.reads torn) old.reads new.reads torn stands.spare stands.file.whole (keeps.reads known_on)) stands;
  left = λ honest p byte off has image left.
      let was : IsTrue old.honest = keeps.goes_on.honest honest in
      let stands = holds.stands (sound.told was) (inl was) in
      let first : ℕ = get_or old.reads p 0 in
      let stood : Has old.reads p first = record { below = omega (arith, off_within torn p off, stands.file.whole); is = refl } in
      let same : first ≡ byte = sym (keeps.reads (inl honest) p first off stood).is ∙ has.is in
      subst (λ (b : ℕ). Has image p b) same (still key old new card torn p first keeps stands.file.whole holds honest off stood image (now_since new (moment old) image later left));
}

-- and so does what a crash leaves at each moment
pub holds_card : (key : List ℕ) (old new : FileState) (card : CardState) (torn : Option Place) → Sound old → Keeps (Off torn) old new → Holds key old card torn → HoldsCard key old new card
holds_card key old new card torn sound keeps holds = λ honest image left.
    let was : IsTrue old.honest = keeps.goes_on.honest honest in
    let stands = holds.stands (sound.told was) (inl was) in
    (torn, stands_same key old.reads image torn card (same_kept key (without old.reads torn) old.reads image torn stands.spare stands.file.whole (λ p byte off has. still key old new card torn p byte keeps stands.file.whole holds honest off has image left)) stands)

-- what is settled is what a crash leaves
pub holds_settled : (key : List ℕ) (s : FileState) (card : CardState) → (IsTrue s.tells → Known s s → Stands key s.reads None card)
    → (IsTrue s.honest → (image : List ℕ) → LeftNow s image → image ≡ s.reads) → Holds key s card None
holds_settled key s card stands settled = record {
  stands = stands;
  left = λ honest p byte off has image left. subst (λ (l : List ℕ). Has l p byte) (sym (settled honest image left)) has;
}

-- a spare version may be torn
pub holds_torn : (key : List ℕ) (s : FileState) (card : CardState) (place : Place) → (IsTrue s.tells → Known s s → IsSpare key s.reads place) → Holds key s card None → Holds key s card (Some place)
holds_torn key s card place spare holds = record {
  stands = λ tells known. stands_torn key s.reads place card (spare tells known) (holds.stands tells known);
  left = λ honest p byte off has. holds.left honest p byte off.0 has;
}

pub rests_off : (torn : Option Place) (old new : FileState) → Sound old → Rests old new → Keeps (Off torn) old new
rests_off torn old new sound rests = keeps_fewer Anywhere (Off torn) old new (λ p off. tt) (rest_keeps old new sound rests)

pub outside_off : (place : Place) (old new : FileState) → Keeps (Outside (begin place) (begin place + 1024)) old new → Keeps (Off (Some place)) old new
outside_off place old new keeps = keeps_fewer (Outside (begin place) (begin place + 1024)) (Off (Some place)) old new (λ p off. off.1) keeps

pub nowhere : (K : ℕ → Type 0) (old new : FileState) → Keeps K old new → Keeps Nowhere old new
nowhere K old new keeps = keeps_fewer K Nowhere old new (λ p off. absurd off) keeps

-- calls that changed nothing came before
pub held_behind : (key : List ℕ) (old mid new : FileState) (card : CardState) → Rests old mid → HoldsCard key mid new card → HoldsCard key old new card
held_behind key old mid new card rests held = λ honest image left. held honest image (subst (λ (t : ℕ). LeftSince new t image) (sym (ap length rests.trail)) left)

-- a write, and a sync that came behind it or failed
pub synced_keeps : {A : Type 0} (K : ℕ → Type 0) (old mid new : FileState) (outcome : Result A Failed) → Sound mid → Keeps K old mid → OnOk outcome (Syncs mid new) → OnErr outcome (Rests mid new) → Keeps K old new
synced_keeps K old mid new (Ok a) sound first s r = keeps_then K old mid new first (keeps_fewer Anywhere K mid new (λ place lt. tt) (sync_keeps mid new sound s))
synced_keeps K old mid new (Err e) sound first s r = keeps_then K old mid new first (keeps_fewer Anywhere K mid new (λ place lt. tt) (rest_keeps mid new sound r))

pub on_ok : {A E P Q : Type 0} (outcome : Result A E) → OnOk outcome P → (P → Q) → OnOk outcome Q
on_ok (Ok a) holds then = then holds
on_ok (Err e) holds then = tt

pub on_err : {A E Q : Type 0} (outcome : Result A E) → Q → OnErr outcome Q
on_err (Ok a) holds = tt
on_err (Err e) holds = holds

-- A spare version was found: it may be torn from then on.
module _ (key : List ℕ) (old mid new : FileState) (place : Place) (card : CardState) (sound : Sound old) (later : Sound mid) (rests : Rests old mid)
    (spare : IsTrue old.tells → Known old mid → IsWhole key old.reads → IsSpare key old.reads place) (holds : Holds key old card None) where
  found : Holds key mid card (Some place)
  found =
      let first = holds_on key old mid card None sound later (rests_off None old mid sound rests) holds in
      holds_torn key mid card place (λ tells known.
      let known_on : Known old mid = known_at_end old mid rests.goes_on known in
      let told : IsTrue old.tells = tells_before old mid rests.goes_on tells in
      let whole = (holds.stands told (known_at_start old mid rests.goes_on known_on)).whole in
      subst (λ (l : List ℕ). IsSpare key l place) (sym (rests.reads known_on)) (spare told known_on whole)) first

  -- a put over it that failed
  pub found_torn : Sound new → Keeps (Outside (begin place) (begin place + 1024)) mid new → Holds key new card (Some place)
  found_torn last keeps = holds_on key mid new card (Some place) later last (outside_off place mid new keeps) found

  -- at each moment of a put
  pub found_held : Keeps (Outside (begin place) (begin place + 1024)) mid new → HoldsCard key old new card
  found_held keeps = held_behind key old mid new card rests (holds_card key mid new card (Some place) later (outside_off place mid new keeps) found)

  -- and one that succeeded
  pub found_written : (request bytes : List ℕ) → Keeps (Outside (begin place) (begin place + 1024)) mid new → IsPut mid new (begin place) bytes → bytes ≡ request ++ request → length request ≡ 512
      → place.address ≡ (frame_of request).address → IsCard card → IsTrue (does_write card request) → Holds key new (card_after card request) None
  found_written request bytes keeps put twice long at is_card does = holds_settled key new (card_after card request) (λ tells known.
      let known_on : Known mid new = known_at_end mid new keeps.goes_on known in
      let stands = found.stands (tells_before mid new keeps.goes_on tells) (known_at_start mid new keeps.goes_on known_on) in
      subst (λ (l : List ℕ). Stands key l None (card_after card request)) (sym (put.reads known_on ∙ ap (after_write mid.reads (begin place)) twice))
      (stands_written key mid.reads place card request long is_card does at stands)) put.settled

-- a torn version was made zero
pub mended : (key : List ℕ) (old new : FileState) (place : Place) (card : CardState) (bytes : List ℕ) → GoesOn old new → IsPut old new (begin place) bytes → bytes ≡ zeros → Holds key old card (Some place) → Holds key new card None
mended key old new place card bytes goes put is holds = holds_settled key new card (λ tells known.
    let known_on : Known old new = known_at_end old new goes known in
    let stands = holds.stands (tells_before old new goes tells) (known_at_start old new goes known_on) in
    subst (λ (l : List ℕ). Stands key l None card) (sym (put.reads known_on ∙ ap (after_write old.reads (begin place)) is)) (stands_cleared key old.reads place card stands)) put.settled

-- a request that is no write that is done changes nothing that is kept
pub holds_marked : (key : List ℕ) (s : FileState) (card : CardState) (torn : Option Place) (request : List ℕ) → does_write card request ≡ false → Holds key s card torn → Holds key s (card_after card request) torn
holds_marked key s card torn request not holds = record { stands = λ tells known. stands_marked key s.reads torn card request not (holds.stands tells known); left = holds.left }

-- where no version is torn, each image keeps the card
pub left_card : (key : List ℕ) (s : FileState) (card : CardState) (torn : Option Place) → Sound s → Holds key s card torn → torn ≡ None → IsLeft key s card
left_card key s card torn sound holds none = λ honest image left.
    let whole : Holds key s card None = subst (Holds key s card) none holds in
    let stands = whole.stands (sound.told honest) (inl honest) in
    stands_same key s.reads image None card (same_kept key s.reads s.reads image None stands.spare stands.file.whole (λ p byte off has. whole.left honest p byte off has image left)) stands

-- before a call and behind it, nothing happened
pub held_still : (key : List ℕ) (s : FileState) (card : CardState) (torn : Option Place) → Sound s → Holds key s card torn → HoldsCard key s s card
held_still key s card torn sound holds = holds_card key s s card torn sound (keeps_none (Off torn) s) holds
