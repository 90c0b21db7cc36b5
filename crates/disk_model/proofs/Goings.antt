-- What every call, and so every run of calls, leaves of a file's meanings and counts.
use Rattle.std.proofs.Common.{◌≡◌, ◌⊎◌, inl, inr, Bool, IsTrue, refl, sym, subst, ◌∙◌, arith}
use Rattle.disk_model.specs.Faults.{Rose}
use Rattle.disk_model.specs.State.{FileState}
use Rattle.disk_model.specs.Calls.{Known, GoesOn, Rests}
use Rattle.disk_model.proofs.Masks.{masked_armed, masked_none, masked_then}

pub goes_on_none : (s : FileState) → GoesOn s s
goes_on_none s = record {
  honest = λ h. h;
  stays_honest = λ tells none h. h;
  steady = refl;
  calm = λ h. h;
  tells = refl;
  tells_arms = refl;
  arms = λ tells. record { stop_after = refl; failing = refl; taints = refl };
  faults = omega arith;
  starved = omega arith;
  quiet = λ h. inl refl;
  written = omega arith;
}

pub goes_on_then : (a b c : FileState) → GoesOn a b → GoesOn b c → GoesOn a c
goes_on_then a b c first second = record {
  honest = λ h. first.honest (second.honest h);
  stays_honest = λ tells none h. second.stays_honest (still_tells tells) ((first.arms tells).taints ∙ none) (first.stays_honest tells none h);
  steady = second.steady ∙ first.steady;
  calm = λ h. second.calm (first.calm h);
  tells = second.tells ∙ first.tells;
  tells_arms = second.tells_arms ∙ first.tells_arms;
  arms = λ tells.
      let before = first.arms tells in
      let behind = second.arms (still_tells tells) in
      record { stop_after = behind.stop_after ∙ before.stop_after; failing = behind.failing ∙ before.failing; taints = behind.taints ∙ before.taints };
  faults = omega (arith, first.faults, second.faults);
  starved = omega (arith, first.starved, second.starved);
  quiet = quiet;
  written = omega (arith, first.written, second.written);
}
  where
    still_tells : IsTrue a.tells_arms → IsTrue b.tells_arms
    still_tells tells = subst (λ (t : Bool). IsTrue t) (sym first.tells_arms) tells

    quiet : IsTrue a.calm → (c.faults ≡ a.faults) ⊎ Rose a.starved c.starved
    quiet calm = elim (first.quiet calm) [
      | inr rose ↦ inr (omega (arith, rose, second.starved))
      | inl same ↦ elim (second.quiet (first.calm calm)) [
        | inr rose ↦ inr (omega (arith, rose, first.starved))
        | inl again ↦ inl (again ∙ same)
      ]
    ]

-- what is followed to the end is followed to a point between, and from there
pub first_known : (a b c : FileState) → GoesOn b c → Known a c → Known a b
first_known a b c second (inl honest) = inl (second.honest honest)
first_known a b c second (inr steady) = inr steady

pub then_known : (a b c : FileState) → GoesOn a b → Known a c → Known b c
then_known a b c first (inl honest) = inl honest
then_known a b c first (inr steady) = inr (subst (λ (t : Bool). IsTrue t) (sym first.steady) steady)

-- A file that can be followed at the end of a run, since it is honest then or steady, can be followed through it.
pub known_at_end : (a b : FileState) → GoesOn a b → Known b b → Known a b
known_at_end a b goes (inl honest) = inl honest
known_at_end a b goes (inr steady) = inr (subst (λ (t : Bool). IsTrue t) goes.steady steady)

-- and could be at its start
pub known_at_start : (a b : FileState) → GoesOn a b → Known a b → Known a a
known_at_start a b goes (inl honest) = inl (goes.honest honest)
known_at_start a b goes (inr steady) = inr steady

-- calls that change nothing, one after another
pub rests_none : (s : FileState) → Rests s s
rests_none s = record { trail = refl; settled = λ h. refl; pending_from = refl; reads = λ known. refl; masked = λ tells. masked_none s.arms s.reads; written = refl; goes_on = goes_on_none s }

pub rests_then : (a b c : FileState) → Rests a b → Rests b c → Rests a c
rests_then a b c first second = record {
  trail = second.trail ∙ first.trail;
  settled = λ honest. second.settled honest ∙ first.settled (second.goes_on.honest honest);
  pending_from = second.pending_from ∙ first.pending_from;
  reads = λ known. second.reads (then_known a b c first.goes_on known) ∙ first.reads (first_known a b c second.goes_on known);
  masked = λ tells.
      let still : IsTrue b.tells_arms = subst (λ (t : Bool). IsTrue t) (sym first.goes_on.tells_arms) tells in
      masked_then a.arms a.reads b.reads c.reads (first.masked tells) (masked_armed b.arms a.arms b.reads c.reads ((first.goes_on.arms tells).taints) (second.masked still));
  written = second.written ∙ first.written;
  goes_on = goes_on_then a b c first.goes_on second.goes_on;
}
