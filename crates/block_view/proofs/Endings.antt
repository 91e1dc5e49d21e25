-- How a sequence that goes on ends by the next event of its hart: what is kept of it and what is seen of the event tell.
use Rattle.std.proofs.Common.{◌≡◌, ℕ, inl, inr, List, [], ◌∷◌, ◌&&◌, ◌||◌, refl, sym, ap, ◌∙◌, subst, Bool, true, false, cond, not, Option, Some, None, is_none, is_some}
use Rattle.std.specs.Option.{option_map, option_map_or}
use Rattle.std.proofs.lemmas.Bool.{false≢true}
use Rattle.mach_types.specs.Bytes.{overlay}
use Rattle.mach_types.specs.Events.{choice_with}
use Rattle.mach_types.specs.Kernel.Signals.{next_for}
use Rattle.mach_types.specs.declared.events.Entry.{Entry}
use Rattle.mach_types.specs.declared.events.Kind.{Kind}
use Rattle.mach_types.specs.declared.events.Kind.TheVariants as kind
use Rattle.mach_types.specs.declared.events.Why.TheVariants.{NoRequest}
use Rattle.mach_types.specs.declared.sequences.Named.TheVariants as names
use Rattle.mach_types.specs.declared.sequences.Outcome.{Outcome}
use Rattle.mach_types.specs.declared.sequences.Seq.{Seq}
use Rattle.mach_types.specs.declared.user_memory.Store.{Store}
use Rattle.block_model.specs.declared.acts.SeqEnd.{SeqEnd}
use Rattle.block_model.specs.declared.acts.SeqEnd.TheVariants as ends
use Rattle.block_model.specs.Acts.{Sequence as Known, abort_of, cut_or, end_before, has_died, has_killed, is_inside_at, moved_out, named_at, sequence_on}
use Rattle.block_model.specs.Acts as acts
use Rattle.block_model.specs.Events.{refusal_of}
use Rattle.block_model.specs.Events.Preempt.{unless_in_barrier, unless_waiting}
use Rattle.block_model.specs.Events.Run.{refusal_run_by}
use Rattle.block_model.specs.Events.Signal.{refusal_delivery, refusal_signal_by}
use Rattle.block_model.specs.Here.{Here, memory, runs, view, waiting_here}
use Rattle.block_model.specs.History.{Event, History, here_in_history, running}
use Rattle.block_model.specs.Run.{IsRunHistory}
use Rattle.block_model.specs.Sequences.{named_here, named_over, named_waiting}
use Rattle.block_model.specs.Setting.{Setting}
use Rattle.block_model.specs.Whole.{EndsWhole, IsCutOrDead}
use Rattle.block_view.specs.Ledgers.{cut_or_unended, end_by, left_or_dropped}
use Rattle.block_view.specs.Passing.{inside_at, is_killed, passed_of, would_interrupt}
use Rattle.block_view.specs.Tied.{course_of}
use Rattle.block_view.proofs.SeenInside.{seen_inside, seen_named}
use Rattle.block_view.proofs.Interruptions.{interrupts_as, kills_by_signal}
use Rattle.block_view.proofs.Logs.{whole_place}
use Rattle.block_view.proofs.Made.{made_at, whole_at}

-- WHERE AN INTERRUPTION SEES MEMORY

none_waits : (ws : List Store) → unless_waiting ws ≡ None → ws ≡ []
none_waits [] free = refl
none_waits (w ∷ ws) free = absurd cc

take_waits : (b : Bool) (ws : List Store) → cond b (Some NoRequest) (unless_waiting ws) ≡ None → ws ≡ []
take_waits true ws free = absurd cc
take_waits false ws free = none_waits ws free

delivery_waits : (here : Here) (awaits next : Option ℕ) → unless_in_barrier awaits (refusal_delivery here next) ≡ None → waiting_here here ≡ []
delivery_waits here None None free = absurd cc
delivery_waits here None (Some signal) free = none_waits (waiting_here here) free
delivery_waits here (Some left) next free = absurd cc

-- no store waits on a hart on which an event interrupts the thread that runs there
waits_not : (k : Kind) (entry : Entry) (here : Here) (t : ℕ) → runs here ≡ Some t → refusal_of (choice_with k entry) here ≡ None
    → would_interrupt k here.restart (is_none (runs here)) ≡ true → waiting_here here ≡ []
waits_not kind.Take entry here t at free does = take_waits _ (waiting_here here) free
waits_not kind.Run entry here t at free does = absurd (busy (runs here) at free)
  where
    busy : (o : Option ℕ) → o ≡ Some t → refusal_run_by here entry.tid.0 o ≡ None → ⊥
    busy None is free = cc
    busy (Some u) is free = cc
waits_not kind.Signal entry here t at free does = by_thread (runs here) at free
  where
    by_thread : (o : Option ℕ) → o ≡ Some t → refusal_signal_by here o ≡ None → waiting_here here ≡ []
    by_thread None is free = absurd cc
    by_thread (Some u) is free = delivery_waits here here.awaits (next_for u here.kernel.signals) free
waits_not k entry here t at free does = absurd (false≢true does)

-- so the hart sees memory
no_overlay : (o : Option ℕ) (a : ℕ) → option_map (overlay [] a) o ≡ o
no_overlay None a = refl
no_overlay (Some b) a = refl

sees_memory : (here : Here) → waiting_here here ≡ [] → view here ≡ memory here
sees_memory here none =
    λ i a. (ap (λ (ws : List Store). option_map (overlay ws a) (memory here a)) none ∙ no_overlay (memory here a) a) i

pub named_as_waiting : (s : Setting) (h : ℕ) (before : History) (t : ℕ) → running s h before ≡ Some t → waiting_here (here_in_history s before h) ≡ []
    → named_at s h before ≡ named_waiting (here_in_history s before h) t
named_as_waiting s h before t at none =
    let here = here_in_history s before h in
    ap (λ o. option_map_or (named_here here) o names.Nothing) at
    ∙ ap (λ (byte : ℕ → Option ℕ). named_over byte here t) (sees_memory here none)

-- THE END

and_if : (a b c : Bool) → (a ≡ true → b ≡ c) → (a && b) ≡ (a && c)
and_if true b c same = same refl
and_if false b c same = refl

is_none_not : (o : Option Seq) → is_none o ≡ not (is_some o)
is_none_not None = refl
is_none_not (Some sequence) = refl

outside_cut : (other : SeqEnd) (a : Option ℕ) → cut_or other false a ≡ other
outside_cut other None = refl
outside_cut other (Some at) = refl

neither : IsCutOrDead ends.Unended → ⊥
neither (inl is) = cc
neither (inr is) = not_cut is.0 is.1
  where
    not_cut : (at : ℕ) → ends.Unended ≡ ends.Cut at → ⊥
    not_cut at is = cc

module _ (s : Setting) (e : Event) (before : History) (q : Known) (run : IsRunHistory s (e ∷ before)) (own : q.hart ≡ e.entry.hart.0)
    (was : sequence_on s e.entry.hart.0 before ≡ Some q) (over : sequence_on s e.entry.hart.0 (e ∷ before) ≡ None) where
  abbrev h : ℕ
  h = e.entry.hart.0

  abbrev interrupted : Option Outcome
  interrupted = e.done.interrupted

  abbrev inside : Bool
  inside = is_inside_at s q.hart before

  abbrev dead : Bool
  dead = has_died q || (acts.is_fatal e && not (moved_out s q && not inside))

  abbrev cut : SeqEnd
  cut = cut_or (acts.left_or_dropped s q inside) inside (abort_of interrupted)

  ends_whole : EndsWhole s e before q
  ends_whole = (whole_at s e before run).ends q was over

  seen_own : is_some (inside_at s h before) ≡ inside
  seen_own = seen_inside s h before ∙ ap (λ k. is_inside_at s k before) (sym own)

  -- inside, by an interruption: at the abort handler of what is named
  aborts : (sequence : Seq) → inside_at s h before ≡ Some sequence → is_some interrupted ≡ true → inside ≡ true → dead ≡ false
      → (a : Option ℕ) → abort_of interrupted ≡ a → ends.Cut sequence.abort ≡ cut_or ends.Unended true a
  aborts sequence seen made within alive a is =
      let end : end_before s q e before ≡ cut_or ends.Unended true a =
      ap (λ d. cond d ends.Dead cut) alive
      ∙ ap (λ b. cut_or (acts.left_or_dropped s q b) b (abort_of interrupted)) within
      ∙ ap (cut_or ends.Unended true) is in
      by_abort a end
    where
      by_abort : (a : Option ℕ) → end_before s q e before ≡ cut_or ends.Unended true a → ends.Cut sequence.abort ≡ cut_or ends.Unended true a
      by_abort None end = absurd (neither (subst IsCutOrDead end (ends_whole.interrupted made within)))
      by_abort (Some at) end =
          let here = here_in_history s before h in
          let allowed = made_at s e before run in
          let runs = ((whole_place s before run.0).runs h q was).now in
          let does = sym (interrupts_as here e.entry e.done allowed.free allowed.did) ∙ made in
          let none = waits_not e.entry.kind e.entry here q.thread runs allowed.free does in
          let proper = ends_whole.cut at end in
          let good : names.Good sequence ≡ names.Good proper.named =
          sym (seen_named s h before sequence seen) ∙ named_as_waiting s h before q.thread runs none ∙ proper.good in
          let same : sequence ≡ proper.named = cc in
          ap (λ (x : Seq). ends.Cut x.abort) same ∙ ap ends.Cut proper.handler

  by_interruption : (sequence : Seq) → inside_at s h before ≡ Some sequence → inside ≡ true → dead ≡ false → (o : Option Outcome) → interrupted ≡ o
      → cut_or_unended (is_some o) sequence ≡ cut_or ends.Unended true (abort_of o)
  by_interruption sequence seen within alive None is = refl
  by_interruption sequence seen within alive (Some outcome) is =
      aborts sequence seen (ap is_some is) within alive (abort_of (Some outcome)) (ap abort_of is)

  alive_as : (x : Option Seq) → inside_at s h before ≡ x → dead ≡ false
      → option_map_or (cut_or_unended (is_some interrupted)) x (left_or_dropped (course_of s q)) ≡ cut
  alive_as None seen alive =
      let outside : inside ≡ false = sym seen_own ∙ ap is_some seen in
      sym (ap (λ b. cut_or (acts.left_or_dropped s q b) b (abort_of interrupted)) outside ∙ outside_cut (acts.left_or_dropped s q false) (abort_of interrupted))
  alive_as (Some sequence) seen alive =
      let within : inside ≡ true = sym seen_own ∙ ap is_some seen in
      by_interruption sequence seen within alive interrupted refl
      ∙ sym (ap (λ b. cut_or (acts.left_or_dropped s q b) b (abort_of interrupted)) within)

  by_death : (d : Bool) → dead ≡ d → cond d ends.Dead (option_map_or (cut_or_unended (is_some interrupted)) (inside_at s h before) (left_or_dropped (course_of s q)))
      ≡ cond d ends.Dead cut
  by_death true is = refl
  by_death false is = alive_as (inside_at s h before) refl is

  -- it ends as what is seen of the event tells
  pub ends_as : end_by (course_of s q) (passed_of s e before) ≡ end_before s q e before
  unfolding passed_of
  ends_as =
      let allowed = made_at s e before run in
      let here = here_in_history s before h in
      let fatal : (is_some interrupted && is_killed e.done.ended) ≡ acts.is_fatal e =
      and_if (is_some interrupted) (is_killed e.done.ended) (has_killed e) (kills_by_signal here e.entry e.done allowed.free allowed.did) in
      let outside : is_none (inside_at s h before) ≡ not inside = is_none_not (inside_at s h before) ∙ ap not seen_own in
      let rest = option_map_or (cut_or_unended (is_some interrupted)) (inside_at s h before) (left_or_dropped (course_of s q)) in
      ap (λ b. cond (has_died q || (b && not (moved_out s q && is_none (inside_at s h before)))) ends.Dead rest) fatal
      ∙ ap (λ b. cond (has_died q || (acts.is_fatal e && not (moved_out s q && b))) ends.Dead rest) outside
      ∙ by_death dead refl
