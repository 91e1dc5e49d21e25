-- A run by choices from the end of a run that no step limit ends goes on with it.
use Rattle.std.proofs.Common.{◌≡◌, ℕ, ◌+◌, ◌<◌, Bool, List, [], ◌∷◌, ◌++◌, length, Option, Ok, fold, refl, sym, ap, ◌∙◌, subst, arith, append_assoc, zero-add}
use Rattle.std.proofs.lemmas.Bool.{lt-leb}
use Rattle.std.proofs.lemmas.List.Sums.{fold-append}
use Rattle.mach_types.specs.Events.{choice_of}
use Rattle.mach_types.specs.declared.events.Choice.{Choice}
use Rattle.mach_types.specs.declared.events.Choice.TheVariants as asked
use Rattle.mach_types.specs.declared.events.Entry.{Entry}
use Rattle.mach_types.specs.declared.limits.End.{End}
use Rattle.block_model.specs.Deciding.{decide_in, entry_in, unless}
use Rattle.block_model.specs.Here.{Here}
use Rattle.block_model.specs.Plain.{Plain, here_in_plain, plain_next, plain_over, plain_start}
use Rattle.block_model.specs.Run.{IsBlockRun}
use Rattle.block_model.specs.Setting.{Setting}
use Rattle.block_model.proofs.Laws.{run_before, start_plain}
unfoldable use Rattle.block_model.specs.Plain.{plain_after}
use Rattle.local_steps.specs.Runs.{MayCome, choices, instructions_by, next_of, total}
use Rattle.local_steps.specs.Explorations.{Tally}
use Rattle.local_steps.proofs.CanEnd.{CanEndFrom}
use Rattle.local_steps.proofs.Notions.{Goes, gone}
use Rattle.local_steps.proofs.Tallies.{AllPass, kept_after}
use Rattle.prompt_runs.specs.Owed.{owed_after, owed_from, owed_next}
use Rattle.prompt_runs.specs.Prompt.{AreInTime, IsInTime, IsSpokenOf}
use Rattle.search_reductions.specs.declared.signals.Signals.{Signals}
use Rattle.prompt_runs.proofs.InTime.{spoken_more, spoken_parts}
use Rattle.same_places.specs.FreeRuns.{IsFreeFrom, IsFreeRun}
use Rattle.same_places.proofs.Laws.{IsAllowed}
use Rattle.settled_places.specs.Endings.{CanEnd, executed}
use Rattle.settled_places.proofs.Closed.{free_of_charge}
use Rattle.settled_places.proofs.OwedSignals.{run_tally}
use Rattle.settled_places.proofs.Runs.{may_come, pass_from}
use Rattle.settled_places.proofs.Settled.{last_event}

-- WHAT IS DECIDED WHERE NO EVENT COUNTS

choice_in : (c : Choice) (here : Here) → choice_of (entry_in c here) ≡ c
choice_in asked.Exec here = refl
choice_in asked.Drain here = refl
choice_in asked.Take here = refl
choice_in asked.Done here = refl
choice_in asked.Preempt here = refl
choice_in (asked.Run t) here = refl
choice_in asked.Signal here = refl

free_allowed : (made : ℕ) (over : Option End) (c : Choice) (here : Here) (e : Entry) → IsAllowed made over c here e → decide_in 0 over c here ≡ Ok e
free_allowed made over c here e a =
    let some : 0 < here.setting.limits.steps = let room = a.room in omega arith in
    ap (λ o. decide_in 0 o c here) a.goes
    ∙ (rw (lt-leb here.setting.limits.steps 0 some, lt-leb here.setting.limits.harts here.hart a.lt) refl
    ∙ (ap (unless (entry_in c here)) a.free ∙ ap Ok (sym a.is)))

-- the rest of a block run is free
free_rest : (s : Setting) (rest log : List Entry) → IsBlockRun s (log ++ rest) → IsFreeFrom s (plain_after s log) rest
free_rest s [] log run = tt
free_rest s (e ∷ rest) log run =
    let joined : (log ++ e ∷ []) ++ rest ≡ log ++ e ∷ rest = append_assoc log (e ∷ []) rest in
    let whole : IsBlockRun s ((log ++ e ∷ []) ++ rest) = subst (λ (l : List Entry). IsBlockRun s l) (sym joined) run in
    let last = last_event s log e (run_before s (log ++ e ∷ []) rest whole) in (
      free_allowed (length log) (plain_over (plain_after s log)) (choice_of e) (here_in_plain s (plain_after s log) e.hart.0) e
          (record { goes = last.goes; room = last.room; lt = last.lt; free = last.free; is = last.is }),
      subst (λ (p : Plain). IsFreeFrom s p rest) last.next (free_rest s rest (log ++ e ∷ []) whole),
    )

-- FROM ENTRIES TO CHOICES

pub goes_from : (s : Setting) (log : List Entry) (p : Plain) → IsFreeFrom s p log → Goes s p (choices log)
goes_from s [] p free = tt
goes_from s (x ∷ log) p free = (may_come s p x.hart.0 (choice_of x) x free.0, goes_from s log (plain_next s p x) free.1)

pub gone_from : (s : Setting) (log : List Entry) (p : Plain) → gone s p (choices log) ≡ fold (plain_next s) p log
gone_from s [] p = refl
gone_from s (x ∷ log) p = gone_from s log (plain_next s p x)

-- a run executes what its parts execute
pub executed_joined : (log more : List Entry) → executed (log ++ more) ≡ executed log + executed more
executed_joined [] more = sym (zero-add (executed more))
executed_joined (x ∷ log) more = let rest = executed_joined log more in omega (arith, rest)

-- where the parts of a run lead
pub after_more : (s : Setting) (log more : List Entry) → plain_after s (log ++ more) ≡ fold (plain_next s) (plain_after s log) more
unfolding plain_after
after_more s log more = fold-append (plain_next s) (plain_start s) log more

free_split : (s : Setting) (log more : List Entry) (p : Plain) → IsFreeFrom s p (log ++ more) → IsFreeFrom s (fold (plain_next s) p log) more
free_split s [] more p free = free
free_split s (x ∷ log) more p free = free_split s log more (plain_next s p x) free.1

pub free_after : (s : Setting) (log more : List Entry) → IsFreeRun s (log ++ more) → IsFreeFrom s (plain_after s log) more
unfolding plain_after
free_after s log more free = free_split s log more (plain_start s) free

pub goes_start : (s : Setting) (log : List Entry) → IsFreeRun s log → Goes s (plain_start s) (choices log)
goes_start s log free = goes_from s log (plain_start s) free

pub gone_start : (s : Setting) (log : List Entry) → gone s (plain_start s) (choices log) ≡ plain_after s log
unfolding plain_after
gone_start s log = gone_from s log (plain_start s)

-- FROM CHOICES TO ENTRIES

-- the entries that choices make
abbrev pub entries : Setting → Plain → List (ℕ × Choice) → List Entry
entries s p [] = []
entries s p (a ∷ log) = entry_in a.1 (here_in_plain s p a.0) ∷ entries s (next_of s p a) log

-- and they execute as many instructions
pub executed_entries : (s : Setting) (log : List (ℕ × Choice)) (p : Plain) → executed (entries s p log) ≡ total instructions_by log
executed_entries s [] p = refl
executed_entries s (a ∷ log) p =
    let first = ap instructions_by (choice_in a.1 (here_in_plain s p a.0)) in
    let rest = executed_entries s log (next_of s p a) in
    omega (arith, first, rest)

module _ (s : Setting) (some : 0 < s.limits.steps) where
  entry_next : (p : Plain) (a : ℕ × Choice) → plain_next s p (entry_in a.1 (here_in_plain s p a.0)) ≡ next_of s p a
  entry_next p a = ap (λ c. next_of s p (a.0, c)) (choice_in a.1 (here_in_plain s p a.0))

  decided : (p : Plain) (a : ℕ × Choice) → MayCome s p a → (c : Choice) → c ≡ a.1 → decide_in 0 (plain_over p) c (here_in_plain s p a.0) ≡ Ok (entry_in a.1 (here_in_plain s p a.0))
  decided p a may c is =
      ap (λ c. decide_in 0 (plain_over p) c (here_in_plain s p a.0)) is
      ∙ free_allowed 0 (plain_over p) a.1 (here_in_plain s p a.0) (entry_in a.1 (here_in_plain s p a.0)) (record { goes = may.goes; room = some; lt = may.lt; free = may.free; is = refl })

  pub free_entries : (log : List (ℕ × Choice)) (p : Plain) → Goes s p log → IsFreeFrom s p (entries s p log)
  free_entries [] p goes = tt
  free_entries (a ∷ log) p goes = (
    decided p a goes.0 (choice_of (entry_in a.1 (here_in_plain s p a.0))) (choice_in a.1 (here_in_plain s p a.0)),
    subst (λ (q : Plain). IsFreeFrom s q (entries s (next_of s p a) log)) (sym (entry_next p a)) (free_entries log (next_of s p a) goes.1),
  )

  pub gone_entries : (log : List (ℕ × Choice)) (p : Plain) → fold (plain_next s) p (entries s p log) ≡ gone s p log
  gone_entries [] p = refl
  gone_entries (a ∷ log) p = ap (λ (q : Plain). fold (plain_next s) q (entries s (next_of s p a) log)) (entry_next p a) ∙ gone_entries log (next_of s p a)

free_joined : (s : Setting) (log more : List Entry) (p : Plain) → IsFreeFrom s p log → IsFreeFrom s (fold (plain_next s) p log) more → IsFreeFrom s p (log ++ more)
free_joined s [] more p first second = second
free_joined s (x ∷ log) more p first second = (first.0, free_joined s log more (plain_next s p x) first.1 second)

-- a run goes on with them
pub free_more : (s : Setting) (log more : List Entry) → IsFreeRun s log → IsFreeFrom s (plain_after s log) more → IsFreeRun s (log ++ more)
unfolding plain_after
free_more s log more first second = free_joined s log more (plain_start s) first second

-- a block run is one
pub free_block : (s : Setting) (log : List Entry) → IsBlockRun s log → IsFreeRun s log
free_block s log run = subst (λ (p : Plain). IsFreeFrom s p log) (start_plain s) (free_rest s log [] run)

-- WHICH OF THEM COME IN TIME

module _ (s : Setting) (signals : Signals) (private : ℕ → ℕ → Bool) where
  -- what is kept along runs where choices cost nothing
  abbrev tally : Tally
  tally = run_tally s signals private (λ c. 0)

  pub pass_all : (log : List Entry) (owed : ℕ → Bool) (p : Plain) → AreInTime signals s p owed log → AllPass s tally (0, owed) p (choices log)
  pass_all log owed p in_time = pass_from s signals private (λ c. 0) log 0 owed p (free_of_charge (choices log)) in_time

  pub kept_all : (log : List Entry) (owed : ℕ → Bool) (p : Plain) → kept_after s tally (0, owed) p (choices log) ≡ (0, owed_from signals s p owed log)
  kept_all [] owed p = refl
  kept_all (x ∷ log) owed p = kept_all log (owed_next signals s p owed x.hart.0 (choice_of x)) (plain_next s p x)

  pub entries_in_time : (log : List (ℕ × Choice)) (owed : ℕ → Bool) (p : Plain) → AllPass s tally (0, owed) p log → AreInTime signals s p owed (entries s p log)
  entries_in_time [] owed p pass = tt
  entries_in_time (a ∷ log) owed p pass =
      let rest = entries s (next_of s p a) log in
      subst (λ c. IsInTime p owed a.0 c × AreInTime signals s (next_of s p (a.0, c)) (owed_next signals s p owed a.0 c) rest) (sym (choice_in a.1 (here_in_plain s p a.0)))
      (pass.0.1, entries_in_time log (owed_next signals s p owed a.0 a.1) (next_of s p a) pass.1)

-- WHETHER IT CAN END

module _ (s : Setting) (signals : Signals) (private : ℕ → ℕ → Bool) (log : List Entry) where
  -- what is kept after the log
  abbrev kept : ℕ × (ℕ → Bool)
  kept = (0, owed_after signals s log)

  abbrev here_tally : Tally
  here_tally = run_tally s signals private (λ c. 0)

  pub can_from : CanEnd s signals log → CanEndFrom s here_tally kept (plain_after s log)
  can_from can = record {
    log = choices can.more;
    passes = pass_all s signals private can.more (owed_after signals s log) (plain_after s log) (spoken_parts signals s log can.more can.spoken).1;
    goes = goes_from s can.more (plain_after s log) (free_after s log can.more can.run);
    end = can.end;
    over = ap plain_over (gone_from s can.more (plain_after s log) ∙ sym (after_more s log can.more)) ∙ can.over;
  }

  module _ (run : IsFreeRun s log) (spoken : IsSpokenOf signals s log) (some : (a : ℕ × Choice) → MayCome s (plain_after s log) a → 0 < s.limits.steps) where
    some_goes : (more : List (ℕ × Choice)) → Goes s (plain_after s log) more → IsFreeFrom s (plain_after s log) (entries s (plain_after s log) more)
    some_goes [] goes = tt
    some_goes (a ∷ more) goes = free_entries s (some a goes.0) (a ∷ more) (plain_after s log) goes

    some_gone : (more : List (ℕ × Choice)) → Goes s (plain_after s log) more → fold (plain_next s) (plain_after s log) (entries s (plain_after s log) more) ≡ gone s (plain_after s log) more
    some_gone [] goes = refl
    some_gone (a ∷ more) goes = gone_entries s (some a goes.0) (a ∷ more) (plain_after s log)

    -- or go on so long
    pub run_of : (more : List (ℕ × Choice)) → Goes s (plain_after s log) more → IsFreeRun s (log ++ entries s (plain_after s log) more)
    run_of more goes = free_more s log (entries s (plain_after s log) more) run (some_goes more goes)

    pub spoken_of : (more : List (ℕ × Choice)) → AllPass s here_tally kept (plain_after s log) more → IsSpokenOf signals s (log ++ entries s (plain_after s log) more)
    spoken_of more pass = spoken_more signals s log (entries s (plain_after s log) more) spoken (entries_in_time s signals private more (owed_after signals s log) (plain_after s log) pass)

    pub can_of : CanEndFrom s here_tally kept (plain_after s log) → CanEnd s signals log
    can_of can =
        let more = entries s (plain_after s log) can.log in
        record {
          more = more;
          run = run_of can.log can.goes;
          spoken = spoken_of can.log can.passes;
          end = can.end;
          over = ap plain_over (after_more s log more ∙ some_gone can.log can.goes) ∙ can.over;
        }
