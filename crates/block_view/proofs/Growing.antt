-- How acts grow: what becomes of the acts that began before a place by the events that follow it, and the acts that begin by these, are
-- together the acts of the whole log.
use Rattle.std.proofs.Common.{◌≡◌, ◌&&◌, not, List, [], ◌∷◌, ◌++◌, append_assoc, append-nil, map, option_to_list, reverse, refl, sym, ap, ◌∙◌, Bool, true, false, cond, Option, Some, None}
use Rattle.std.proofs.lemmas.List.{map-append, reverse-append}
use Rattle.block_model.specs.Acts.{Sequence, end_at_verdict, end_before, is_inside_at, is_taken_in, sequence_on, with_event}
use Rattle.block_model.specs.History.{Event, History, is_of_hart}
use Rattle.block_model.specs.Setting.{Setting}
use Rattle.block_view.specs.Acts.{act_begun_by, act_of, acts_after, begins_to_run, followed, verdict}
use Rattle.mach_types.specs.Events.{is_preempt}
use Rattle.block_view.specs.Standing.{Standing, after, at_the_end, begun, begun_by, standings}
use Rattle.block_view.specs.Standing.Standing.{Over, Going, Hanging}
use Rattle.block_view.specs.declared.forms.Act.{Act}

-- a list that is changed by one function and then by another
map_both : {A B C : Type 0} (g : B → C) (f : A → B) (both : A → C) → ((x : A) → g (f x) ≡ both x) → (xs : List A)
    → map g (map f xs) ≡ map both xs
map_both g f both same [] = refl
map_both g f both same (x ∷ xs) = ap (λ y. y ∷ map g (map f xs)) (same x) ∙ ap (λ ys. both x ∷ ys) (map_both g f both same xs)

module _ (s : Setting) (e : Event) (before : History) (later : List Event) where
  -- WHAT AN EVENT MAKES OF AN ACT

  -- of a sequence that goes on: it is of another hart; or else of the sequence; or else it preempts its thread inside; or else it ends it
  going_by : (q : Sequence) (other taken preempted : Bool)
      → at_the_end s (e ∷ before) later
      (cond other (Going q)
      (cond taken (Going (with_event e before q))
      (cond preempted (Hanging q) (Over (act_of (record { sequence = q; end = end_before s q e before }))))))
      ≡ act_of
      (cond other (followed s q (e ∷ before) later)
      (cond taken (followed s (with_event e before q) (e ∷ before) later)
      (cond preempted (record { sequence = q; end = verdict s q (e ∷ before) later }) (record { sequence = q; end = end_before s q e before }))))
  going_by q true taken preempted = refl
  going_by q false true preempted = refl
  going_by q false false true = refl
  going_by q false false false = refl

  -- of one that hangs: its thread begins to run by it, or not
  hanging_by : (q : Sequence) (runs : Bool)
      → at_the_end s (e ∷ before) later (cond runs (Over (act_of (record { sequence = q; end = end_at_verdict s q e before }))) (Hanging q))
      ≡ act_of (record { sequence = q; end = cond runs (end_at_verdict s q e before) (verdict s q (e ∷ before) later) })
  hanging_by q true = refl
  hanging_by q false = refl

  -- what becomes of an act by an event and those that follow is what becomes by these of what it makes of it
  goes_on : (x : Standing) → at_the_end s (e ∷ before) later (after s e before x) ≡ at_the_end s before (e ∷ later) x
  goes_on (Over act) = refl
  goes_on (Going q) =
      going_by q (not (is_of_hart q.hart e)) (is_inside_at s q.hart before && is_taken_in e.entry.kind e.done.interrupted)
      (is_inside_at s q.hart before && is_preempt e.entry.kind)
  goes_on (Hanging q) = hanging_by q (begins_to_run q.thread e)

  -- THE ACT THAT BEGINS WITH AN EVENT

  begins : (earlier now : Option Sequence)
      → map (at_the_end s (e ∷ before) later) (begun_by e before earlier now) ≡ option_to_list (act_begun_by s e before later earlier now)
  begins earlier None = refl
  begins None (Some q) = refl
  begins (Some r) (Some q) = refl

  -- ALL ACTS

  -- one event more
  one_more : map (at_the_end s (e ∷ before) later) (standings s (e ∷ before)) ++ acts_after s (e ∷ before) later
      ≡ map (at_the_end s before (e ∷ later)) (standings s before) ++ acts_after s before (e ∷ later)
  one_more =
      let rest = acts_after s (e ∷ before) later in
      let old = map (after s e before) (standings s before) in
      let new = map (at_the_end s (e ∷ before) later) (begun s e before) in
      ap (λ (acts : List Act). acts ++ rest) (map-append (at_the_end s (e ∷ before) later) old (begun s e before))
      ∙ append_assoc (map (at_the_end s (e ∷ before) later) old) new rest
      ∙ ap (λ (acts : List Act). acts ++ (new ++ rest))
      (map_both (at_the_end s (e ∷ before) later) (after s e before) (at_the_end s before (e ∷ later)) goes_on (standings s before))
      ∙ ap (λ (acts : List Act). map (at_the_end s before (e ∷ later)) (standings s before) ++ (acts ++ rest))
      (begins (sequence_on s e.entry.hart.0 before) (sequence_on s e.entry.hart.0 (e ∷ before)))

-- so it is at each place
pub grows : (s : Setting) (before : History) (later : List Event)
    → map (at_the_end s before later) (standings s before) ++ acts_after s before later ≡ acts_after s [] (reverse before ++ later)
grows s [] later = refl
grows s (e ∷ before) later =
    let whole = ap (λ (events : List Event). events ++ later) (reverse-append (e ∷ []) before) ∙ append_assoc (reverse before) (e ∷ []) later in
    one_more s e before later ∙ grows s before (e ∷ later) ∙ ap (acts_after s []) (sym whole)

-- and so, at the end of a log, what becomes of its acts are its acts
pub at-the-end : (s : Setting) (all : History) → map (at_the_end s all []) (standings s all) ≡ acts_after s [] (reverse all)
at-the-end s all =
    sym (append-nil (map (at_the_end s all []) (standings s all)))
    ∙ grows s all []
    ∙ ap (acts_after s []) (append-nil (reverse all))
