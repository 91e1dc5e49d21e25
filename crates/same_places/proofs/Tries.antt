-- What a choice that is tried at a place of a run shows.
use Rattle.std.proofs.Common.{◌≡◌, ℕ, ◌<◌, List, [], ◌∷◌, ◌++◌, length, Option, Some, None, Ok, Err, refl, sym, ap, ◌∙◌, subst, arith}
use Rattle.elf_load.specs.declared.image.ImagePage.{ImagePage}
use Rattle.mach_types.specs.Events.{choice_of}
use Rattle.mach_types.specs.declared.events.Choice.{Choice}
use Rattle.mach_types.specs.declared.events.Entry.{Entry}
use Rattle.mach_types.specs.declared.events.Why.{Why}
use Rattle.block_model.specs.Deciding.{decide, entry_in, unless}
use Rattle.block_model.specs.Events.{done_of, refusal_of}
use Rattle.block_model.specs.Plain.{Plain, apply, here_of, plain_seen}
use Rattle.block_model.specs.Setting.{Seen, Setting}
use Rattle.block_model.proofs.Laws.{at_kind, decided_is, next_event, plain_made, run_on, standing}
unfoldable use Rattle.block_model.specs.Deciding.{history}
unfoldable use Rattle.block_model.specs.Plain.{plain_after}
use Rattle.process.specs.Refinement.{HasCode, IsPlace, IsTied, answer_to, answered}
use Rattle.process.specs.declared.parts.Parts.{Parts}
use Rattle.same_places.specs.Places.{alone, plain_after_choice, rested}
use Rattle.same_places.specs.Trying.{IsGoing, IsLonger, MayTry}

pub place_of : (s : Setting) (log : List Entry) (code : List ImagePage) (m : Parts) (h : ℕ) → IsGoing s log code m h → IsPlace (alone s (rested (plain_after s log))) m h
place_of s log code m h at =
    let v : Seen = record { setting = s; seed = 0; log = log } in
    let stands = standing v at.run in
    let made : (plain_seen v).made ≡ length log = plain_made v at.run in
    let room : length log < s.limits.steps = at.room in
    record {
      stands = record {
        good = stands.good;
        sound = stands.sound;
        held = stands.held;
        events = λ k. omega arith;
        ran = λ k. omega arith;
        given = stands.given;
      };
      tied = at.stands;
      limits = at.limits;
      goes = at.goes;
      room = omega arith;
      lt = at.lt;
    }

pub code_of : (code : List ImagePage) (m : Parts) (h : ℕ) → MayTry code m h → HasCode code m h
code_of code m h may = record {
  stand = alone may.setting (rested (plain_after may.setting may.log));
  place = place_of may.setting may.log code m h may.going;
  alone = record { none = refl; pages = may.going.pages };
}

answer_ok : (made e : Entry) (o : Option Why) → Ok e ≡ answered made o → unless made o ≡ Ok e
answer_ok made e None is = cc
answer_ok made e (Some why) is = cc

pub answer_err : (made : Entry) (why : Why) (o : Option Why) → Err why ≡ answered made o → o ≡ Some why
answer_err made why None is = cc
answer_err made why (Some found) is = cc

pub longer : (s : Setting) (log : List Entry) (code : List ImagePage) (m m' : Parts) (h : ℕ) (c : Choice) (e : Entry) → IsGoing s log code m h → Ok e ≡ answer_to (alone s (plain_after s log)) h c
    → IsTied s (rested (plain_after_choice s (plain_after s log) h c)) m' → IsLonger s log h c e m'
longer s log code m m' h c e at answer tied =
    let v : Seen = record { setting = s; seed = 0; log = log } in
    let d = done_of c (here_of v h) in
    let decided : decide s (history s log) h c ≡ Ok e = at_kind v h c at.run at.goes at.room at.lt ∙ answer_ok (entry_in c (here_of v h)) e (refusal_of c (here_of v h)) answer in
    let of = decided_is s (history s log) h c e decided in
    let asked = ap (λ k. decide s (history s log) k (choice_of e)) of.0 ∙ (ap (decide s (history s log) h) of.1 ∙ decided) in
    let done : d ≡ done_of (choice_of e) (here_of v e.hart.0) = sym (ap (λ k. done_of (choice_of e) (here_of v k)) of.0 ∙ ap (λ z. done_of z (here_of v h)) of.1) in
    let next : plain_after s (log ++ e ∷ []) ≡ plain_after_choice s (plain_after s log) h c = (next_event v e d at.run asked done).next ∙ ap (λ k. apply k d (plain_seen v)) of.0 in
    record {
      run = run_on v h c e at.run decided;
      stands = subst (λ (p : Plain). IsTied s (rested p) m') (sym next) tied;
      hart = of.0;
      choice = of.1;
      next = next;
    }
