-- What is known of an event of a run, by its place.
use Rattle.std.proofs.Common.{◌≡◌, ℕ, ◌<◌, ◌∷◌, refl, sym, ap, ◌∙◌, subst, cond, Bool, true, false, leb, Option, Some, None, Result, Ok, Err}
use Rattle.std.specs.Option.{option_or}
use Rattle.mach_types.specs.Events.{choice_of}
use Rattle.mach_types.specs.declared.events.Choice.{Choice}
use Rattle.mach_types.specs.declared.events.Entry.{Entry}
use Rattle.mach_types.specs.declared.events.Why.TheVariants.{NoHart}
use Rattle.mach_types.specs.declared.limits.End.{End}
use Rattle.block_model.specs.Deciding.{decide, decide_in, done, entry_in, over_at, unless}
use Rattle.block_model.specs.Events.{done_of, refusal_of}
use Rattle.block_model.specs.Here.{Here}
use Rattle.block_model.specs.History.{Event, History, ended, here_in_history}
use Rattle.block_model.specs.Plain.{here_of}
use Rattle.block_model.specs.Run.{IsRunHistory}
use Rattle.block_model.specs.Setting.{Seen, Setting}
use Rattle.block_model.specs.Whole.{IsWholeEvent, IsWholeHistory}
use Rattle.block_model.specs.declared.refusals.Refused.{Refused}
use Rattle.block_model.specs.declared.refusals.Refused.TheVariants.{Full, NotEnabled}
use Rattle.block_model.proofs.Laws.{IsFit, IsGoodHere, next_event, same_here}
use Rattle.block_view.proofs.Logs.{entries, history_of_entries, is_block_run}

-- an event of hart h of the machine was allowed, did what is done there, and is whole
pub record IsMade (s : Setting) (e : Event) (before : History) (here : Here) : Type 0 where
  pub lt : e.entry.hart.0 < s.limits.harts
  pub free : refusal_of (choice_of e.entry) here ≡ None
  pub is : e.entry ≡ entry_in (choice_of e.entry) here
  pub did : e.done ≡ done_of (choice_of e.entry) here
  pub good : IsGoodHere here
  pub fit : IsFit here e.done

-- what is done there
pub what_is_done : (s : Setting) (before : History) (entry : Entry) → done s before entry ≡ done_of (choice_of entry) (here_in_history s before entry.hart.0)
unfolding done
what_is_done s before entry = refl

pub made_at : (s : Setting) (e : Event) (before : History) → IsRunHistory s (e ∷ before)
    → IsMade s e before (here_in_history s before e.entry.hart.0)
made_at s e before run =
    let h = e.entry.hart.0 in
    let c = choice_of e.entry in
    let v : Seen = record { setting = s; seed = 0; log = entries before } in
    let same = history_of_entries s before run.0 in
    let block = is_block_run s before run.0 in
    let decided = ap (λ events. decide s events h c) same ∙ run.1 in
    let here : here_of v h ≡ here_in_history s before h = same_here v h block ∙ ap (λ events. here_in_history s events h) same in
    let did : e.done ≡ done_of c (here_in_history s before h) = ap (λ (x : Event). x.done) run.2 ∙ what_is_done s before e.entry in
    let next = next_event v e.entry e.done block decided (did ∙ ap (done_of c) (sym here)) in
    record {
      lt = next.lt;
      free = subst (λ (x : Here). refusal_of c x ≡ None) here next.free;
      is = subst (λ (x : Here). e.entry ≡ entry_in c x) here next.is;
      did = did;
      good = subst IsGoodHere here next.good;
      fit = subst (λ (x : Here). IsFit x e.done) here next.fit;
    }

pub whole_at : (s : Setting) (e : Event) (before : History) → IsRunHistory s (e ∷ before) → IsWholeEvent s e before
whole_at s e before run =
    let whole = subst (IsWholeHistory s) (history_of_entries s (e ∷ before) run) (is_block_run s (e ∷ before) run).whole in
    whole.1

-- WHAT IS DECIDED

-- where an entry is decided the run hasn't ended, and the machine has the hart
pub record IsOpen (s : Setting) (before : History) (h : ℕ) : Type 0 where
  pub goes : ended before ≡ None
  pub lt : leb s.limits.harts h ≡ false

none_or : (a b : Option End) → option_or a b ≡ None → a ≡ None
none_or None b is = refl
none_or (Some end) b is = absurd cc

has_hart : (full none : Bool) (why other : Refused) (answer : Result Entry Refused) (entry : Entry)
    → cond full (Err why) (cond none (Err other) answer) ≡ Ok entry → none ≡ false
has_hart true none why other answer entry is = absurd cc
has_hart false true why other answer entry is = absurd cc
has_hart false false why other answer entry is = refl

open_by : (made : ℕ) (o : Option End) (c : Choice) (here : Here) (entry : Entry) → decide_in made o c here ≡ Ok entry
    → (o ≡ None) × (leb here.setting.limits.harts here.hart ≡ false)
open_by made None c here entry is = (
  refl,
  has_hart (leb here.setting.limits.steps made) (leb here.setting.limits.harts here.hart) Full (NotEnabled NoHart)
      (unless (entry_in c here) (refusal_of c here)) entry is,
)
open_by made (Some end) c here entry is = absurd cc

pub open_at : (s : Setting) (before : History) (h : ℕ) (c : Choice) (entry : Entry) → decide s before h c ≡ Ok entry → IsOpen s before h
unfolding decide
open_at s before h c entry is =
    let there = open_by _ (over_at s before) c (here_in_history s before h) entry is in
    record { goes = none_or (ended before) _ there.0; lt = there.1 }
