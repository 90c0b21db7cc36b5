-- What is done in an application's part of the state as it is in the whole.
use Rattle.std.proofs.Common.{◌≡◌, ◌<◌, ℕ, zero, suc, Bool, true, false, cond, List, [], ◌∷◌, length, refl, sym, ap, ◌∙◌, subst, Option, Some, None, arith, slice_set, slice_index_or}
use Rattle.std.specs.List.{AllByRecursion}
use Rattle.std.specs.Ordering.{is_eq}
use Rattle.std.proofs.lemmas.List.{map-set}
use Rattle.tee_types.specs.Identifier.{bytes_cmp}
use Rattle.tee_types.specs.Rights.{has}
use Rattle.tee_types.specs.declared.reply.Reply.{Reply}
use Rattle.tee_types.specs.declared.reply.Reply.TheVariants.{Misuse, Corrupt}
use Rattle.tee_types.specs.declared.reply.Reason.TheVariants.{BadHandle, NoRight}
use Rattle.enumerators.specs.declared.cursor.Cursor.{Cursor}
use Rattle.store_model.specs.declared.session.Handle.{Handle}
use Rattle.store_model.specs.Object.{Object, Contents, Sound, Damaged, ObjectMap}
use Rattle.store_model.specs.Machine.{MachineState, Session, Outcome, new_session, session_at, with_session, unless_refused, first_refusal, refuse, by_handle, by_right, of_sound}
use Rattle.store_model.specs.Enumerating.{by_cursor}
use Rattle.app_totals.specs.Totals.{objects_of}
use Rattle.app_quota.specs.Parts.{session_part, part_of}
use Rattle.app_totals.proofs.Names.{itself}

-- what is known of each session is known of one
pub session_has : (P : Session → Type 0) (sessions : List Session) (i : ℕ) → i < length sessions → AllByRecursion P sessions → P (slice_index_or sessions i (new_session []))
session_has P [] i lt all = absurd (omega (arith, lt))
session_has P (x ∷ xs) zero lt all = all.0
session_has P (x ∷ xs) (suc i) lt all = session_has P xs i (omega (arith, lt)) all.1

module _ (s : MachineState) (i : ℕ) where
  abbrev pub me : Session
  me = session_at s i

  abbrev pub app : List ℕ
  app = me.application

  abbrev pub t : MachineState
  t = part_of app s

  -- a session of the application stays in its part
  pub stays : (x : Session) → x.application ≡ app → session_part app x ≡ x
  stays x its = ap (λ b. elim b [ true ↦ x | false ↦ new_session x.application ]) (ap (λ a. is_eq (bytes_cmp app a)) its ∙ itself app)

  -- the one outcome is the other's part
  pub record Stands (one other : Outcome) : Type 0 where
    pub reply : other.reply ≡ one.reply
    pub next : other.next ≡ part_of app one.next

  pub Stands-refuse : (reply : Reply) → Stands (refuse s reply) (refuse t reply)
  Stands-refuse reply = record { reply = refl; next = refl }

  -- the session becomes another of its application, and the map another
  pub set_both : (a b : ObjectMap) (x y : Session) → a ≡ objects_of app b → x ≡ y → y.application ≡ app → record { objects = a; sessions = slice_set t.sessions i x } ≡ part_of app (record { objects = b; sessions = slice_set s.sessions i y })
  set_both a b x y objects equal its k = record {
    objects = objects k;
    sessions = (ap (slice_set t.sessions i) (equal ∙ sym (stays y its)) ∙ sym (map-set (session_part app) s.sessions i y)) k;
  }

  pub set_own : (x y : Session) → x ≡ y → y.application ≡ app → with_session t i x ≡ part_of app (with_session s i y)
  set_own x y equal its = set_both t.objects s.objects x y refl equal its

  pub Stands-rows : (rows : List (Bool × Reply)) (one other : Outcome) → Stands one other → Stands (unless_refused rows s one) (unless_refused rows t other)
  Stands-rows rows one other stands = elim (first_refusal rows) as (λ first. Stands (elim first [ Some reply ↦ refuse s reply | None ↦ one ]) (elim first [ Some reply ↦ refuse t reply | None ↦ other ])) [
    | Some reply ↦ Stands-refuse reply
    | None ↦ stands
  ]

  pub Stands-unless : (rows rows' : List (Bool × Reply)) (one other : Outcome) → rows' ≡ rows → Stands one other → Stands (unless_refused rows s one) (unless_refused rows' t other)
  Stands-unless rows rows' one other is stands =
      subst (λ r. Stands (unless_refused rows s one) (unless_refused r t other)) (sym is) (Stands-rows rows one other stands)

  pub Stands-cond : (b : Bool) (one one' other other' : Outcome) → Stands one other → Stands one' other' → Stands (cond b one one') (cond b other other')
  Stands-cond true one one' other other' p q = p
  Stands-cond false one one' other other' p q = q

  pub Stands-by_handle : (o o' : Option Handle) (done done' : Handle → Outcome) → o' ≡ o → ((h : Handle) → o ≡ Some h → Stands (done h) (done' h)) → Stands (by_handle s o done) (by_handle t o' done')
  Stands-by_handle o o' done done' is q = subst (λ x. Stands (by_handle s o done) (by_handle t x done')) (sym is) (one o refl)
    where
      one : (x : Option Handle) → o ≡ x → Stands (by_handle s x done) (by_handle t x done')
      one None e = Stands-refuse (Misuse BadHandle)
      one (Some h) e = q h e

  pub Stands-by_right : (right : ℕ) (o o' : Option Handle) (done done' : Handle → Outcome) → o' ≡ o → ((h : Handle) → o ≡ Some h → Stands (done h) (done' h)) → Stands (by_right s right o done) (by_right t right o' done')
  Stands-by_right right o o' done done' is q = subst (λ x. Stands (by_right s right o done) (by_right t right x done')) (sym is) (one o refl)
    where
      one : (x : Option Handle) → o ≡ x → Stands (by_right s right x done) (by_right t right x done')
      one None e = Stands-refuse (Misuse BadHandle)
      one (Some h) e = Stands-cond (has h.flags right) (done h) (refuse s (Misuse NoRight)) (done' h) (refuse t (Misuse NoRight)) (q h e) (Stands-refuse (Misuse NoRight))

  pub Stands-of_sound : (o o' : Option Object) (done done' : Contents → Outcome) → o' ≡ o → ((c : Contents) → Stands (done c) (done' c)) → Stands (of_sound s o done) (of_sound t o' done')
  Stands-of_sound o o' done done' is q = subst (λ x. Stands (of_sound s o done) (of_sound t x done')) (sym is) (one o)
    where
      one : (x : Option Object) → Stands (of_sound s x done) (of_sound t x done')
      one None = Stands-refuse (Misuse BadHandle)
      one (Some (Damaged n)) = Stands-refuse Corrupt
      one (Some (Sound c)) = q c

  pub Stands-by_cursor : (o o' : Option Cursor) (done done' : Cursor → Outcome) → o' ≡ o → ((c : Cursor) → Stands (done c) (done' c)) → Stands (by_cursor s o done) (by_cursor t o' done')
  Stands-by_cursor o o' done done' is q = subst (λ x. Stands (by_cursor s o done) (by_cursor t x done')) (sym is) (one o)
    where
      one : (x : Option Cursor) → Stands (by_cursor s x done) (by_cursor t x done')
      one None = record { reply = refl; next = refl }
      one (Some c) = q c
