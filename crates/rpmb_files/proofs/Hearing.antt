-- Frames that were heard, and what the host made of them.
use Rattle.std.proofs.Common.{◌≡◌, ◌∙◌, ◌+◌, ◌-◌, ◌≤◌, ℕ, List, [], ◌∷◌, length, drop, get_or, Result, Ok, Err, refl, sym, ap, subst, inl, inr, arith, length-append, length-drop}
use Rattle.std.proofs.lemmas.List.{get_or-drop, get_or_append_left}
use Rattle.tee_ports.specs.declared.failed.Failed.{Failed}
use Rattle.rpmb_frame.specs.declared.frame.Frame.{Frame}
use Rattle.rpmb_card.specs.Port.{Exchanged, IsHeard, PortState, last_heard}
use Rattle.rpmb_host.specs.declared.fault.HostFault.{HostFault}
use Rattle.rpmb_host.specs.declared.fault.HostFault.TheVariants.{Failed as NoAnswer, BadFrame, CardResult as RefusedBy, Spent}
use Rattle.rpmb_host.specs.declared.verdict.Wanted.{Wanted}
use Rattle.rpmb_host.specs.Calls.{WriteExchanges, counter_wanted, judged, received, told}
use Rattle.rpmb_host.specs.Verdict.{verdict}
use Rattle.tee_types.specs.declared.reply.Cause.{Cause}
use Rattle.rpmb_files.specs.Causes.{HeardCause, IsAsked, IsCounterHeard, LastStays}
use Rattle.rpmb_files.specs.Links.{FaultIs}

-- an answer is heard last
some_heard : (old new : PortState) (frame answer : List ℕ) → Exchanged old new frame (Ok answer) → 1 ≤ length new.heard
some_heard old new frame answer x = omega (arith, ap length x.heard, length-append (drop (length old.heard - 2) old.heard) (answer ∷ []))

pub last_is : (port : PortState) → 1 ≤ length port.heard → IsHeard port (last_heard port)
last_is port some = record { place = length port.heard - 1; below = omega arith; is = refl }

-- the last frame stays over one more exchange
pub last_stays : (old new : PortState) (frame : List ℕ) (outcome : Result (List ℕ) Failed) → Exchanged old new frame outcome → LastStays old new
last_stays old new frame (Err failed) x k last = record { place = k; below = omega (arith, ap length x.heard, last); is = ap (λ (l : List (List ℕ)). get_or l k []) x.heard }
last_stays old new frame (Ok answer) x k last =
    let n : ℕ = length old.heard - 2 in
    let front : List (List ℕ) = drop n old.heard in
    let long : length front ≡ length old.heard - n = length-drop n old.heard in
    let at : n + (k - n) ≡ k = omega (arith, last) in
    record {
      place = k - n;
      below = omega (arith, ap length x.heard, length-append front (answer ∷ []), long, last);
      is = ap (λ (l : List (List ℕ)). get_or l (k - n) []) x.heard
          ∙ get_or_append_left front (answer ∷ []) [] (k - n) (omega (arith, long, last))
          ∙ get_or-drop n old.heard (k - n) [] ∙ ap (λ (m : ℕ). get_or old.heard m []) at;
    }

-- without an exchange it stays
pub same_stays : (old : PortState) → LastStays old old
same_stays old k last = record { place = k; below = omega (arith, last); is = refl }

-- what the host answers of a frame it made by the verdict
pub told_err : {A : Type 0} (field : Frame → A) (r : Result Frame HostFault) (fault : HostFault) → (let x : Result A HostFault = Err fault in x ≡ told field r) → r ≡ Err fault
told_err field (Ok f) fault is = absurd (cc (is))
told_err field (Err e) fault is = let same : fault ≡ e = cc (is) in ap (λ (x : HostFault). let r : Result Frame HostFault = Err x in r) (sym same)

pub told_ok : (r : Result Frame HostFault) (n : ℕ) → (let x : Result ℕ HostFault = Ok n in x ≡ told (λ f. f.counter) r) → (f : Frame) × (r ≡ Ok f) × (f.counter ≡ n)
told_ok (Ok f) n is = let e : n ≡ f.counter = cc (is) in (f, refl, sym e)
told_ok (Err e) n is = absurd (cc (is))

-- a refusal by a frame
pub refused : {A : Type 0} (field : Frame → A) (key : List ℕ) (wanted : Wanted) (port new : PortState) (fault : HostFault) (cause : Cause) → IsAsked wanted → FaultIs fault cause
    → ((let x : Result A HostFault = Err fault in x ≡ told field (judged key wanted (received port x))))
    → (received port (let x : Result A HostFault = Err fault in x) ≡ Ok (last_heard port) → IsHeard new (last_heard port)) → HeardCause key new cause
refused field key wanted port new (NoAnswer count) cause asked is answer heard = subst (HeardCause key new) (sym is) tt
refused {A} field key wanted port new (BadFrame f) cause asked is answer heard = subst (HeardCause key new) (sym is)
    (inl (record { frame = last_heard port; heard = heard refl; wanted = wanted; asked = asked; refused = told_err {A = A} field (verdict key wanted (last_heard port)) (BadFrame f) answer }))
refused {A} field key wanted port new (RefusedBy r) cause asked is answer heard = subst (HeardCause key new) (sym is)
    (record { frame = last_heard port; heard = heard refl; wanted = wanted; asked = asked; refused = told_err {A = A} field (verdict key wanted (last_heard port)) (RefusedBy r) answer })
refused field key wanted port new Spent cause asked is answer heard = absurd is

-- the exchanges behind an answer
pub some_read : (old new : PortState) (frame : List ℕ) (outcome : Result (List ℕ) Failed) → Exchanged old new frame outcome → outcome ≡ Ok (last_heard new) → 1 ≤ length new.heard
some_read old new frame outcome x is = some_heard old new frame (last_heard new) (subst (Exchanged old new frame) is x)

pub some_written : (old new : PortState) (write : List ℕ) (outcome : Result (List ℕ) Failed) → WriteExchanges old new write outcome → outcome ≡ Ok (last_heard new) → 1 ≤ length new.heard
some_written old new write outcome (inl (failed, x)) is = some_read old new write outcome x is
some_written old new write outcome (inr (between, answer, first, second)) is = some_read between new _ outcome second is

-- a counter that was read
pub counter_heard : (key : List ℕ) (now : ℕ) (nonce : List ℕ) (port : PortState)
    → ((let x : Result ℕ HostFault = Ok now in x ≡ told (λ f. f.counter) (judged key (counter_wanted nonce) (received port x)))) → 1 ≤ length port.heard → IsCounterHeard key port now
counter_heard key now nonce port answer some =
    let t = told_ok (verdict key (counter_wanted nonce) (last_heard port)) now answer in
    record { frame = last_heard port; heard = last_is port some; nonce = nonce; answer = t.0; verified = t.1; is = t.2 }
