-- A run that is drawn without a script is prompt: what its harts owe is the same as it is read off its history and off the plain machine.
use Rattle.std.proofs.Common.{◌≡◌, ℕ, ◌<◌, ◌≤◌, ◌&&◌, Bool, true, false, not, cond, eqb, ltb, List, [], ◌∷◌, ◌++◌, length, Option, Some, None, is_some, refl, sym, ap, ◌∙◌, subst, arith, append-nil, append_assoc}
use Rattle.std.proofs.lemmas.Bool.{eqb-true, le-ltb, lt-ltb}
use Rattle.mach_types.specs.Events.{choice_for, choice_of, kind_of, maker_of, nature_of}
use Rattle.mach_types.specs.declared.events.Choice.{Choice}
use Rattle.mach_types.specs.declared.events.Choice.TheVariants as asked
use Rattle.mach_types.specs.declared.events.Entry.{Entry}
use Rattle.mach_types.specs.declared.events.Kind.{Kind}
use Rattle.mach_types.specs.declared.events.Kind.TheVariants as kind
use Rattle.mach_types.specs.declared.events.Maker.{Maker}
use Rattle.mach_types.specs.declared.events.Tid.{Tid}
use Rattle.mach_types.specs.declared.user_memory.Store.{Store}
use Rattle.drawings.specs.Drawings.{Drawn}
use Rattle.block_model.specs.Deciding.{entry_in, event, history}
use Rattle.block_model.specs.Events.{done_of}
use Rattle.block_model.specs.Here.{Here}
use Rattle.block_model.specs.History.{here_in_history}
use Rattle.block_model.specs.Plain.{Plain, here_in_plain, here_of, plain_after, plain_next}
use Rattle.block_model.specs.Run.{IsBlockRun}
use Rattle.block_model.specs.Setting.{Seen, Setting}
use Rattle.block_model.proofs.Laws.{history-append, history-nil, next_event, run_before, same_here}
use Rattle.block_model.proofs.Swaps.Logs.{last_decided}
use Rattle.drawn_runs.specs.DrawnRuns.{IsDrawn, IsDrawnHistory, drawn_at, entry_of, scene_at}
use Rattle.drawn_runs.specs.OwnSignals.{owes}
use Rattle.drawn_runs.specs.declared.manner.Manner.{Manner}
use Rattle.drawn_runs.proofs.Logs.{event_of_entry}
use Rattle.drawn_runs.proofs.OneRun.{drawn_before, last_drawn}
use Rattle.drawn_runs.proofs.OwnSignals.{own-signal}
use Rattle.prompt_runs.specs.Owed.{can_owe, is_back_by, owed_after, owed_next, traps}
use Rattle.prompt_runs.specs.Prompt.{IsInTime, IsPrompt, due}
use Rattle.search_reductions.specs.declared.signals.Signals.TheVariants.{Prompt}
use Rattle.prompt_runs.proofs.InTime.{owed_more, spoken_more}

-- the choice of an entry has its kind, and the entry of a choice that choice
kind_for : (k : Kind) (t : Tid) → kind_of (choice_for k t) ≡ k
kind_for kind.Exec t = refl
kind_for kind.Drain t = refl
kind_for kind.Take t = refl
kind_for kind.Done t = refl
kind_for kind.Preempt t = refl
kind_for kind.Run t = refl
kind_for kind.Signal t = refl

choice_in : (c : Choice) (here : Here) → choice_of (entry_in c here) ≡ c
choice_in asked.Exec here = refl
choice_in asked.Drain here = refl
choice_in asked.Take here = refl
choice_in asked.Done here = refl
choice_in asked.Preempt here = refl
choice_in (asked.Run t) here = refl
choice_in asked.Signal here = refl

-- what is due
emptied : (stores : List Store) → cond (ltb 0 (length stores)) asked.Drain asked.Signal ≡ due stores
emptied [] = refl
emptied (w ∷ ws) = ap (λ b. cond b asked.Drain asked.Signal) (lt-ltb 0 (length (w ∷ ws)) (omega arith))

none_is : (o : Option ℕ) → o ≡ None → is_some o ≡ false
none_is o none = ap (λ (x : Option ℕ). is_some x) none

module _ (s : Setting) (m : Manner) (unscripted : m.scripted ≡ 0) where
  -- a hart owes the same, looking back and going on
  abbrev OwesAlike : List Entry → Type 0
  OwesAlike log = (h : ℕ) → owes s m h (history s log) ≡ owed_after Prompt s log h

  drawn_all : (n : ℕ) → not (ltb n m.scripted) ≡ true
  drawn_all n = ap not (ap (ltb n) unscripted ∙ le-ltb n 0 (omega arith))

  module _ (first : List Entry) (e : Entry) (longer : IsBlockRun s (first ++ e ∷ [])) (alike : OwesAlike first) where
    abbrev v : Seen
    v = record { setting = s; seed = 0; log = first }

    abbrev w : Seen
    w = record { setting = s; seed = 0; log = first ++ e ∷ [] }

    abbrev p : Plain
    p = plain_after s first

    run : IsBlockRun s first
    run = run_before s first (e ∷ []) longer

    -- the places are the same, before it and after it
    before_same : (h : ℕ) → here_in_plain s p h ≡ here_in_history s (history s first) h
    before_same h = same_here v h run

    after_same : (h : ℕ) → here_in_plain s (plain_next s p e) h ≡ here_in_history s (event s (history s first) e ∷ history s first) h
    after_same h =
        let next = next_event v e (done_of (choice_of e) (here_of v e.hart.0)) run (last_decided s first e longer) refl in
        ap (λ (q : Plain). here_in_plain s q h) (sym next.next) ∙ same_here w h longer ∙ ap (λ before. here_in_history s before h) (history-append s first e)

    maker_same : (nature_of e.kind).maker ≡ maker_of (choice_of e)
    maker_same = ap (λ k. (nature_of k).maker) (sym (kind_for e.kind e.tid))

    back_same : (h : ℕ) (b : Bool) → eqb e.hart.0 h ≡ b
        → cond b (is_back_by (nature_of e.kind).maker (traps (here_in_history s (history s first) h)) (owes s m h (history s first))) (owes s m h (history s first))
        ≡ cond b (is_back_by (maker_of (choice_of e)) (traps (here_in_plain s p e.hart.0)) (owed_after Prompt s first e.hart.0)) (owed_after Prompt s first h)
    back_same h true is =
        let same : h ≡ e.hart.0 = sym (eqb-true e.hart.0 h is) in
        λ i. is_back_by (maker_same i) ((ap traps (sym (before_same h)) ∙ ap (λ k. traps (here_in_plain s p k)) same) i) ((alike h ∙ ap (owed_after Prompt s first) same) i)
    back_same h false is = alike h

    owes_next : (h : ℕ) → owes s m h (event s (history s first) e ∷ history s first) ≡ owed_next Prompt s p (owed_after Prompt s first) e.hart.0 (choice_of e) h
    owes_next h =
        let can = can_owe Prompt (here_in_history s (event s (history s first) e ∷ history s first) h) in
        let was = cond (eqb e.hart.0 h) (is_back_by (nature_of e.kind).maker (traps (here_in_history s (history s first) h)) (owes s m h (history s first))) (owes s m h (history s first)) in
        ap (λ b. b && can && was) (drawn_all (length (history s first)))
        ∙ (λ i. can_owe Prompt (sym (after_same h) i) && back_same h (eqb e.hart.0 h) refl i)

    pub owes_on : OwesAlike (first ++ e ∷ [])
    owes_on h = ap (owes s m h) (history-append s first e) ∙ owes_next h ∙ (λ i. sym (owed_more Prompt s first (e ∷ [])) i h)

  -- what is drawn comes in time
  module _ (some : 0 < s.limits.harts) (few : s.limits.harts ≤ 8) (first : List Entry) (e : Entry) (longer : IsBlockRun s (first ++ e ∷ [])) (drawn : IsDrawn s m (first ++ e ∷ []))
      (alike : OwesAlike first) where
    drawn_first : IsDrawn s m first
    drawn_first = drawn_before s m first (e ∷ []) drawn

    made : (x : Drawn) × (drawn_at s m (history s first) ≡ Some x) × (entry_of s (history s first) x ≡ e)
    made =
        let last = last_drawn s m first e drawn in
        event_of_entry s m (history s first) e (last.1 (ap (ltb (length (history s first))) unscripted ∙ le-ltb (length (history s first)) 0 (omega arith)))

    own : (x : Drawn) → drawn_at s m (history s first) ≡ Some x → IsInTime (plain_after s first) (owed_after Prompt s first) x.hart x.choice
    own x at owed apart =
        let here = here_in_history s (history s first) x.hart in
        let place = before_same first e longer alike x.hart in
        own-signal s m first x some few drawn_first at (alike x.hart ∙ owed) (none_is here.awaits (ap (λ (y : Here). y.awaits) (sym place) ∙ apart))
        ∙ emptied (here.waiting x.hart) ∙ ap (λ (y : Here). due (y.waiting x.hart)) (sym place)

    pub in_time : IsInTime (plain_after s first) (owed_after Prompt s first) e.hart.0 (choice_of e)
    in_time =
        let x = made.0 in
        let here = here_in_history s (history s first) x.hart in
        subst (λ (y : Entry). IsInTime (plain_after s first) (owed_after Prompt s first) y.hart.0 (choice_of y)) made.2
        (subst (IsInTime (plain_after s first) (owed_after Prompt s first) x.hart) (sym (choice_in x.choice here)) (own x made.1))

  -- entry by entry
  on : (more first : List Entry) → 0 < s.limits.harts → s.limits.harts ≤ 8 → IsBlockRun s (first ++ more) → IsDrawn s m (first ++ more) → OwesAlike first → IsPrompt s first → IsPrompt s (first ++ more)
  on [] first some few is_run drawn alike prompt = subst (IsPrompt s) (sym (append-nil first)) prompt
  on (e ∷ more) first some few is_run drawn alike prompt =
      let joined : (first ++ e ∷ []) ++ more ≡ first ++ e ∷ more = append_assoc first (e ∷ []) more in
      let all = subst (λ (l : List Entry). IsBlockRun s l) (sym joined) is_run in
      let all_drawn = subst (λ (l : List Entry). IsDrawn s m l) (sym joined) drawn in
      let longer = run_before s (first ++ e ∷ []) more all in
      let one = in_time some few first e longer (drawn_before s m (first ++ e ∷ []) more all_drawn) alike in
      subst (IsPrompt s) joined (on more (first ++ e ∷ []) some few all all_drawn (owes_on first e longer alike) (spoken_more Prompt s first (e ∷ []) prompt (one, tt)))

pub drawn_prompt : (s : Setting) (m : Manner) (log : List Entry) → 0 < s.limits.harts → s.limits.harts ≤ 8 → m.scripted ≡ 0 → IsBlockRun s log → IsDrawn s m log → IsPrompt s log
drawn_prompt s m log some few unscripted run drawn = on s m unscripted log [] some few run drawn (λ h. ap (owes s m h) (history-nil s)) tt
