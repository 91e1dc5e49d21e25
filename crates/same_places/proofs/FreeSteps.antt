-- What is decided where no step limit counts, and that each block run is a free run.
use Rattle.std.proofs.Common.{◌≡◌, ℕ, ◌<◌, Bool, true, false, cond, leb, leb-false, List, [], ◌∷◌, ◌++◌, length, Option, Some, None, Result, Ok, Err, refl, sym, ap, ◌∙◌, subst, arith, append_assoc}
use Rattle.std.proofs.lemmas.Bool.{lt-leb}
use Rattle.mach_types.specs.Events.{choice_of}
use Rattle.mach_types.specs.declared.events.Choice.{Choice}
use Rattle.mach_types.specs.declared.events.Entry.{Entry}
use Rattle.mach_types.specs.declared.events.Why.{Why}
use Rattle.mach_types.specs.declared.events.Why.TheVariants.{NoHart}
use Rattle.mach_types.specs.declared.limits.End.{End}
use Rattle.block_model.specs.declared.refusals.Refused.{Refused}
use Rattle.block_model.specs.declared.refusals.Refused.TheVariants.{Full, NotEnabled}
use Rattle.block_model.specs.Deciding.{decide_in, entry_in, event, unless}
use Rattle.block_model.specs.Events.{done_of, refusal_of}
use Rattle.block_model.specs.Here.{Here}
use Rattle.block_model.specs.Plain.{Plain, here_of, plain_after, plain_over}
use Rattle.block_model.specs.Run.{IsBlockRun, IsRunHistory}
use Rattle.block_model.specs.Setting.{Seen, Setting}
use Rattle.block_model.proofs.Laws.{decided, history-append, next_event, run_before}
unfoldable use Rattle.block_model.specs.Deciding.{history}
use Rattle.same_places.specs.FreeRuns.{IsFreeFrom}

-- a choice that is allowed, where so many events count
pub record IsAllowed (made : ℕ) (over : Option End) (c : Choice) (here : Here) (e : Entry) : Type 0 where
  pub goes : over ≡ None
  pub room : made < here.setting.limits.steps
  pub lt : here.hart < here.setting.limits.harts
  pub free : refusal_of c here ≡ None
  pub is : e ≡ entry_in c here

past : (b : Bool) (w : Refused) (r : Result Entry Refused) (e : Entry) → cond b (Err w) r ≡ Ok e → (b ≡ false) × (r ≡ Ok e)
past true w r e h = cc
past false w r e h = (refl, h)

pub allowed : (made : ℕ) (over : Option End) (c : Choice) (here : Here) (e : Entry) → decide_in made over c here ≡ Ok e → IsAllowed made over c here e
allowed made (Some x) c here e is = cc
allowed made None c here e is =
    let p = past (leb here.setting.limits.steps made) Full _ e is in
    let q = past (leb here.setting.limits.harts here.hart) (NotEnabled NoHart) _ e p.1 in
    go (refusal_of c here) refl (leb-false here.setting.limits.steps made p.0) (leb-false here.setting.limits.harts here.hart q.0) q.1
  where
    go : (o : Option Why) → refusal_of c here ≡ o → made < here.setting.limits.steps → here.hart < here.setting.limits.harts → unless (entry_in c here) o ≡ Ok e → IsAllowed made None c here e
    go None free room lt d = record { goes = refl; room = room; lt = lt; free = free; is = cc }
    go (Some why) free room lt d = cc

-- and one that was allowed is allowed where none counts
pub free_allowed : (made : ℕ) (over : Option End) (c : Choice) (here : Here) (e : Entry) → IsAllowed made over c here e → decide_in 0 over c here ≡ Ok e
free_allowed made over c here e a =
    let some : 0 < here.setting.limits.steps = let room = a.room in omega arith in
    ap (λ o. decide_in 0 o c here) a.goes
    ∙ (rw (lt-leb here.setting.limits.steps 0 some, lt-leb here.setting.limits.harts here.hart a.lt) refl
    ∙ (ap (unless (entry_in c here)) a.free ∙ ap Ok (sym a.is)))

-- the rest of a block run is free
pub free_rest : (s : Setting) (rest log : List Entry) → IsBlockRun s (log ++ rest) → IsFreeFrom s (plain_after s log) rest
free_rest s [] log run = tt
free_rest s (e ∷ rest) log run =
    let v : Seen = record { setting = s; seed = 0; log = log } in
    let joined : (log ++ e ∷ []) ++ rest ≡ log ++ e ∷ rest = append_assoc log (e ∷ []) rest in
    let whole : IsBlockRun s ((log ++ e ∷ []) ++ rest) = subst (λ (l : List Entry). IsBlockRun s l) (sym joined) run in
    let longer : IsBlockRun s (log ++ e ∷ []) = run_before s (log ++ e ∷ []) rest whole in
    let before : IsBlockRun s log = run_before s log (e ∷ []) longer in
    let last : IsRunHistory s (event s (history s log) e ∷ history s log) = subst (IsRunHistory s) (history-append s log e) longer.allowed in
    let next = next_event v e (done_of (choice_of e) (here_of v e.hart.0)) before last.1 refl in
    let is = sym (decided v e.hart.0 (choice_of e) before) ∙ last.1 in
    let a = allowed (length log) (plain_over (plain_after s log)) (choice_of e) (here_of v e.hart.0) e is in (
      free_allowed (length log) (plain_over (plain_after s log)) (choice_of e) (here_of v e.hart.0) e a,
      subst (λ (p : Plain). IsFreeFrom s p rest) next.next (free_rest s rest (log ++ e ∷ []) whole),
    )
