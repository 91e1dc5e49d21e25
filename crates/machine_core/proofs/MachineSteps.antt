-- One step: what is decided at a place, and a machine that made the event.
use Rattle.machine_core.proofs.Common.{InRange, ◌≡◌, ℕ, ◌<◌, [], ◌∷◌, ◌++◌, length, sym, ap, ◌∙◌, subst, arith, Option, Some, None, Ok, Err, Result, choice_of, Choice, Entry, Hart, Inside, IsBlockRun, IsMachine, Parts, Seen, seen, Why, decide, entry_in, history, done_of, refusal_of, here_of, plain_after, plain_seen, stand_of, standing, IsAfter, IsTied, answer_to, answered, plain_made, unless, apply, at_kind, decided_is, next_event, run_on, IsPlace}
use Rattle.block_model.specs.declared.refusals.Refused.TheVariants.{NotEnabled}

answer_ok : (made e : Entry) (o : Option Why) → answered made o ≡ Ok e → unless made o ≡ Ok e
answer_ok made e None is = cc
answer_ok made e (Some why) is = cc

answer_err : (made : Entry) (why : Why) (o : Option Why) → answered made o ≡ Err why → unless made o ≡ Err (NotEnabled why)
answer_err made why None is = cc
answer_err made why (Some found) is = cc

-- a block run, and the parts stand at the place that it has come to
pub record IsLogPlace (v : Seen) (m : Parts) (h : ℕ) : Type 0 where
  pub run : IsBlockRun v.setting v.log
  pub at : IsPlace (stand_of v) m h

-- what is decided there
pub decided_at : (v : Seen) (m : Parts) (h : ℕ) (c : Choice) → IsLogPlace v m h
    → decide v.setting (history v.setting v.log) h c ≡ unless (entry_in c (here_of v h)) (refusal_of c (here_of v h))
decided_at v m h c place =
    let made = plain_made v place.run in
    at_kind v h c place.run place.at.goes (omega (arith, made, place.at.room)) place.at.lt

-- a choice that is refused
pub refused : (v : Seen) (m : Parts) (h : ℕ) (c : Choice) (r : Result Entry Why) (why : Why) → IsLogPlace v m h → r ≡ answer_to (stand_of v) h c → r ≡ Err why → decide v.setting (history v.setting v.log) h c ≡ Err (NotEnabled why)
refused v m h c r why place answer is =
    decided_at v m h c place ∙ answer_err (entry_in c (here_of v h)) why (refusal_of c (here_of v h)) (sym answer ∙ is)

-- a choice that is allowed
pub allowed : (v : Seen) (m : Parts) (h : ℕ) (c : Choice) (r : Result Entry Why) (e : Entry) → IsLogPlace v m h → r ≡ answer_to (stand_of v) h c → r ≡ Ok e → decide v.setting (history v.setting v.log) h c ≡ Ok e
allowed v m h c r e place answer is =
    decided_at v m h c place ∙ answer_ok (entry_in c (here_of v h)) e (refusal_of c (here_of v h)) (sym answer ∙ is)

-- a choice that is made
pub record IsStep (v : Seen) (h : Hart) (c : Choice) (e : Entry) (m' : Parts) : Type 0 where
  pub decided : decide v.setting (history v.setting v.log) h.0 c ≡ Ok e
  pub hart : e.hart ≡ h
  pub choice : choice_of e ≡ c
  pub run : IsBlockRun v.setting (v.log ++ e ∷ [])
  pub tied : IsTied v.setting (plain_after v.setting (v.log ++ e ∷ [])) m'

pub stepped : (v : Seen) (m m' : Parts) (h : Hart) (c : Choice) (r : Result Entry Why) (e : Entry) → IsLogPlace v m h.0 → r ≡ answer_to (stand_of v) h.0 c → r ≡ Ok e → IsAfter (stand_of v) h.0 (done_of c (here_of v h.0)) m m' → IsStep v h c e m'
stepped v m m' h c r e place answer is after =
    let decided = allowed v m h.0 c r e place answer is in
    let of = decided_is v.setting (history v.setting v.log) h.0 c e decided in
    let d = done_of c (here_of v h.0) in
    let asked = ap (λ k. decide v.setting (history v.setting v.log) k (choice_of e)) of.0 ∙ (ap (decide v.setting (history v.setting v.log) h.0) of.1 ∙ decided) in
    let done : d ≡ done_of (choice_of e) (here_of v e.hart.0) = sym (ap (λ k. done_of (choice_of e) (here_of v k)) of.0 ∙ ap (λ z. done_of z (here_of v h.0)) of.1) in
    let next = (next_event v e d place.run asked done).next ∙ ap (λ k. apply k d (plain_seen v)) of.0 in
    record {
      decided = decided;
      hart = ap (λ n. record { 0 = n }) of.0;
      choice = of.1;
      run = run_on v h.0 c e place.run decided;
      tied = subst (λ p. IsTied v.setting p m') (sym next) after.tied;
    }

-- the place that a log has come to, whose run goes on
pub log_place : (v : Seen) (m : Parts) (h : ℕ) → IsBlockRun v.setting v.log → IsTied v.setting (plain_seen v) m → InRange v.setting.limits → m.ended ≡ None
    → length v.log < v.setting.limits.steps → h < v.setting.limits.harts → IsLogPlace v m h
log_place v m h run tied limits goes room lt = record {
  run = run;
  at = record {
    stands = standing v run;
    tied = tied;
    limits = limits;
    goes = sym tied.ended ∙ goes;
    room = let made = plain_made v run in omega (arith, made, room);
    lt = lt;
  };
}

-- that of a machine
pub place_of : (m : Inside) (h : ℕ) → IsMachine m → m.parts.ended ≡ None → length m.log.items < m.limits.steps → h < m.limits.harts → IsLogPlace (seen m) m.parts h
place_of m h machine goes room lt = log_place (seen m) m.parts h machine.run machine.tied machine.limits goes room lt
