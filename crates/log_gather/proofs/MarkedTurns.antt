-- A turn, as code takes it of marks: their events are what a turn makes of the events.
use Rattle.std.proofs.Common.{◌≡◌, ℕ, ◌+◌, ◌-◌, ◌<◌, ◌≤◌, List, [], ◌∷◌, ◌++◌, length, get_or, map, take, drop, refl, sym, ap, subst, ◌∙◌, arith, Bool, true, false, not, ◌&&◌, Option, Some, None}
use Rattle.std.specs.List.{list_all}
use Rattle.std.proofs.lemmas.List.{drop-map, get_or-map, length-drop, length-map, map-append, take-map, take_all}
use Rattle.std.proofs.lemmas.List.Folds.{list_all-append, list_all-map}
use Rattle.std.proofs.lemmas.Bool.{and_from}
use borrow.Rule.Slice.PartMut.{put_mid}
use Rattle.log_gather.specs.declared.marks.Details.{Details}
use Rattle.log_gather.specs.declared.marks.Mark.{Mark}
use Rattle.log_gather.specs.declared.spans.Reach.{Reach}
use Rattle.log_gather.specs.declared.steps.Step.{Step}
use Rattle.log_gather.specs.LogEvents.{is_undisturbed}
use Rattle.log_gather.specs.Marks.{AreOf, are_known, first_taken, is_known, step_of, steps_of}
use Rattle.log_gather.specs.Spans.{after_from, has_moved_out, is_inside_next, is_sequence, span_from}
use Rattle.log_gather.specs.Steps.{facts_seen}
use Rattle.log_gather.specs.Turns.{IsNext, IsNextTurn, IsPrivateLength, IsPrivateSpan, IsReach, after_turn, awaits_rightly, event_of, is_of_eight, is_private_from, moved_steps, none_await}
use Rattle.log_gather.proofs.MarkedEvents.{grown_same, known_front, known_rest, known_still, known_taken, steps_same, steps_taken}
use Rattle.log_gather.proofs.TurnsTaken.{IsTurn, eight_drop, eight_span, put_to_end, to_end, turn_here, turn_kept, turn_private}

-- PRIVATE SEQUENCES

first_begins : (d : Details) (h : ℕ) (from : List Mark) (m : Mark) → 0 < length from → is_sequence (map event_of (span_from facts_seen h (steps_of d from))) ≡ (get_or from 0 m).begins
first_begins d h [] m some = absurd (omega (arith, some))
first_begins d h (x ∷ xs) m some = refl

module _ (d : Details) (h : ℕ) (at_end : Bool) (from : List Mark) (m : Mark) (r : Reach) (some : 0 < length from) (reach : IsReach h at_end (steps_of d from) r) where
  abbrev undisturbed : Bool
  undisturbed = is_undisturbed h (map event_of (span_from facts_seen h (steps_of d from)))

  private_by : is_private_from h at_end (steps_of d from) ≡ ((get_or from 0 m).begins && (r.moved_out && (not r.inside_next && undisturbed)))
  private_by =
      ap (λ b. b && (has_moved_out h (map event_of (span_from facts_seen h (steps_of d from))) && (not (is_inside_next h at_end (map event_of (after_from facts_seen h (steps_of d from)))) && undisturbed))) (first_begins d h from m some)
      ∙ ap (λ b. (get_or from 0 m).begins && (b && (not (is_inside_next h at_end (map event_of (after_from facts_seen h (steps_of d from)))) && undisturbed))) (sym reach.moved_out)
      ∙ ap (λ b. (get_or from 0 m).begins && (r.moved_out && (not b && undisturbed))) (sym reach.inside_next)

  its_undisturbed : (b : Bool) → b ≡ is_undisturbed h (map event_of (steps_of d (take r.length from))) → b ≡ undisturbed
  its_undisturbed b is = is ∙ ap (λ l. is_undisturbed h (map event_of l)) (sym (take-map (step_of d) r.length from) ∙ reach.span)

  -- where it was left, it is one if nothing disturbs
  left : (get_or from 0 m).begins ≡ true → r.moved_out ≡ true → r.inside_next ≡ false → is_private_from h at_end (steps_of d from) ≡ undisturbed
  left begins moved inside =
      private_by
      ∙ ap (λ b. b && (r.moved_out && (not r.inside_next && undisturbed))) begins
      ∙ ap (λ b. b && (not r.inside_next && undisturbed)) moved
      ∙ ap (λ b. not b && undisturbed) inside

  pub undisturbed_length : (b : Bool) → (get_or from 0 m).begins ≡ true → r.moved_out ≡ true → r.inside_next ≡ false
      → b ≡ is_undisturbed h (map event_of (steps_of d (take r.length from))) → b ≡ true → IsPrivateSpan h at_end (steps_of d from) r.length
  undisturbed_length b begins moved inside is so =
      record { private = left begins moved inside ∙ sym (its_undisturbed b is) ∙ so; within = reach.within; span = reach.span; later = reach.later }

  pub disturbed_length : (b : Bool) → (get_or from 0 m).begins ≡ true → r.moved_out ≡ true → r.inside_next ≡ false
      → b ≡ is_undisturbed h (map event_of (steps_of d (take r.length from))) → b ≡ false → is_private_from h at_end (steps_of d from) ≡ false
  disturbed_length b begins moved inside is so = left begins moved inside ∙ sym (its_undisturbed b is) ∙ so

-- ONE TURN

-- where the sequence stays
pub kept_marks : (at_end : ℕ → Bool) (d : Details) (old new : List Mark) (m : Mark) (inside : Bool) (o : Option ℕ) → 0 < length old → new ≡ first_taken old
    → inside ≡ at_end (get_or new 0 m).hart.0 → IsPrivateLength (get_or new 0 m).hart.0 inside (steps_of d new) o → o ≡ None → are_known d old ≡ true
    → AreOf d (after_turn at_end (steps_of d old)) d new
kept_marks at_end d [] new m inside o some is same private none known = absurd (omega (arith, some))
kept_marks at_end d (x ∷ xs) new m inside o some is same private none known =
    let P : List Mark → Type 0 = λ l. inside ≡ at_end (get_or l 0 m).hart.0 → IsPrivateLength (get_or l 0 m).hart.0 inside (steps_of d l) o
    → AreOf d (after_turn at_end (steps_of d (x ∷ xs))) d l in
    subst P (sym is) (λ same private. record {
      grown = grown_same d;
      known = known_taken d (x ∷ xs) known;
      events = turn_kept at_end (steps_of d (x ∷ xs)) (steps_of d (first_taken (x ∷ xs))) (step_of d x) inside o (omega arith) refl same private none;
    }) same private

-- and where it is moved
pub moved_marks : (at_end : ℕ → Bool) (c d : Details) (old new made : List Mark) (m : Mark) (inside : Bool) (o : Option ℕ) (n : ℕ) → 0 < length old → new ≡ first_taken old
    → inside ≡ at_end (get_or new 0 m).hart.0 → IsPrivateLength (get_or new 0 m).hart.0 inside (steps_of c new) o → o ≡ Some n → are_known c old ≡ true
    → AreOf c (moved_steps (get_or new 0 m).hart.0 (steps_of c (take n new))) d made → AreOf c (after_turn at_end (steps_of c old)) d (made ++ drop n new)
moved_marks at_end c d [] new made m inside o n some is same private there known moved = absurd (omega (arith, some))
moved_marks at_end c d (x ∷ xs) new made m inside o n some is same private there known moved =
    let P : List Mark → Type 0 = λ l. inside ≡ at_end (get_or l 0 m).hart.0 → IsPrivateLength (get_or l 0 m).hart.0 inside (steps_of c l) o
    → AreOf c (moved_steps (get_or l 0 m).hart.0 (steps_of c (take n l))) d made → AreOf c (after_turn at_end (steps_of c (x ∷ xs))) d (made ++ drop n l) in
    subst P (sym is) here same private moved
  where
    taken : List Mark
    taken = first_taken (x ∷ xs)

    here : inside ≡ at_end x.hart.0 → IsPrivateLength x.hart.0 inside (steps_of c taken) o
        → AreOf c (moved_steps x.hart.0 (steps_of c (take n taken))) d made → AreOf c (after_turn at_end (steps_of c (x ∷ xs))) d (made ++ drop n taken)
    here same private moved =
        let rest_known = known_rest c taken n (known_taken c (x ∷ xs) known) in
        let spans : steps_of c (take n taken) ≡ take n (steps_of c taken) = sym (take-map (step_of c) n taken) in
        record {
          grown = moved.grown;
          known = list_all-append (is_known d) made (drop n taken) ∙ and_from (are_known d made) (are_known d (drop n taken)) moved.known (known_still c d moved.grown (drop n taken) rest_known);
          events =
              map-append (step_of d) made (drop n taken)
              ∙ ap (λ l. steps_of d made ++ l) (steps_same c d moved.grown (drop n taken) rest_known ∙ sym (drop-map (step_of c) n taken))
              ∙ turn_private at_end (steps_of c (x ∷ xs)) (steps_of c taken) (step_of c x) inside o n (steps_of d made) (omega arith) refl same private there
              (moved.events ∙ ap (moved_steps x.hart.0) spans);
        }

-- what is asked of the span that is moved
pub span_eight : (d : Details) (old new : List Mark) (n : ℕ) → new ≡ first_taken old → list_all is_of_eight (steps_of d old) ≡ true → list_all is_of_eight (steps_of d (take n new)) ≡ true
span_eight d old new n is all =
    ap (list_all is_of_eight) (sym (take-map (step_of d) n new)) ∙ eight_span (steps_of d old) (steps_of d new) n (ap (steps_of d) is ∙ steps_taken d old) all

pub span_known : (d : Details) (old new : List Mark) (n : ℕ) → new ≡ first_taken old → are_known d old ≡ true → are_known d (take n new) ≡ true
span_known d old new n is known = known_front d new n (ap (are_known d) is ∙ known_taken d old known)

-- THE NEXT TURN

none_await_marks : (d : Details) (xs : List Mark) → list_all (λ x. not x.awaits) xs ≡ true → none_await (steps_of d xs) ≡ true
none_await_marks d xs none = list_all-map (λ (x : Step). not x.awaits) (step_of d) xs ∙ none

pub next_is : (d : Details) (xs : List Mark) (i : ℕ) (m : Mark) → i < length xs → (get_or xs i m).awaits ≡ true → list_all (λ x. not x.awaits) (take i xs) ≡ true
    → IsNextTurn (steps_of d xs) i
next_is d xs i m within awaits none = record {
  within = omega (arith, within, length-map xs (step_of d));
  before = ap none_await (take-map (step_of d) i xs) ∙ none_await_marks d (take i xs) none;
  here = λ s. ap (λ (y : Step). y.awaits) (get_or-map (step_of d) xs i m s within) ∙ awaits;
}

pub no_next : (d : Details) (xs : List Mark) (i : ℕ) → length xs ≤ i → list_all (λ x. not x.awaits) (take i xs) ≡ true → none_await (steps_of d xs) ≡ true
no_next d xs i over none = none_await_marks d xs (sym (ap (list_all (λ (x : Mark). not x.awaits)) (take_all i xs over)) ∙ none)

-- ONE TURN AFTER THE OTHER

-- after a turn at place f
pub record IsMarkedTurn (at_end : ℕ → Bool) (c : Details) (old : List Mark) (f : ℕ) (d : Details) (new : List Mark) : Type 0 where
  pub turn : IsTurn at_end (steps_of c old) f (steps_of d new)
  pub known : are_known d new ≡ true

rest_steps : (d : Details) (from : ℕ) (xs : List Mark) → steps_of d (take (length xs - from) (drop from xs)) ≡ drop from (steps_of d xs)
rest_steps d from xs = ap (steps_of d) (to_end from xs) ∙ sym (drop-map (step_of d) from xs)

module _ (d : Details) (marks : List Mark) (from : ℕ) where
  pub next_low : (k : ℕ) → from ≤ length marks → ((e : Details) → IsNext (steps_of e (take (length marks - from) (drop from marks))) (Some k)) → from + k < length marks
  next_low k within next =
      let there : IsNextTurn (drop from (steps_of d marks)) k = subst (λ l. IsNextTurn l k) (rest_steps d from marks) (next d) in
      omega (arith, within, there.within, length-drop from (steps_of d marks), length-map marks (step_of d))

  pub rest_eight : list_all is_of_eight (steps_of d marks) ≡ true → list_all is_of_eight (steps_of d (take (length marks - from) (drop from marks))) ≡ true
  rest_eight all = ap (list_all is_of_eight) (rest_steps d from marks) ∙ eight_drop (steps_of d marks) from all

  pub rest_known : are_known d marks ≡ true → are_known d (take (length marks - from) (drop from marks)) ≡ true
  rest_known known = ap (are_known d) (to_end from marks) ∙ known_rest d marks from known

  pub none_next : (o : Option ℕ) → ((e : Details) → IsNext (steps_of e (take (length marks - from) (drop from marks))) o) → o ≡ None → none_await (drop from (steps_of d marks)) ≡ true
  none_next o next none =
      let there : none_await (steps_of d (take (length marks - from) (drop from marks))) ≡ true = subst (λ o. IsNext (steps_of d (take (length marks - from) (drop from marks))) o) none (next d) in
      ap none_await (sym (rest_steps d from marks)) ∙ there

pub turn_of_marks : (at_end : ℕ → Bool) (c d : Details) (marks made : List Mark) (from k : ℕ) → from ≤ length marks → none_await (take from (steps_of c marks)) ≡ true
    → list_all is_of_eight (steps_of c marks) ≡ true → list_all awaits_rightly (steps_of c marks) ≡ true → are_known c marks ≡ true
    → ((e : Details) → IsNext (steps_of e (take (length marks - from) (drop from marks))) (Some k))
    → AreOf c (after_turn at_end (steps_of c (take (length marks - (from + k)) (drop (from + k) marks)))) d made
    → IsMarkedTurn at_end c marks (from + k) d (put_mid (from + k) (length marks - (from + k)) marks made)
turn_of_marks at_end c d marks made from k within past eight right known next is =
    let f = from + k in
    let steps = steps_of c marks in
    let front = known_front c marks f known in
    let there : IsNextTurn (drop from steps) k = subst (λ l. IsNextTurn l k) (rest_steps c from marks) (next c) in
    let turn = turn_here at_end steps from k f refl (omega (arith, within, length-map marks (step_of c))) past eight right there in
    let put : put_mid f (length marks - f) marks made ≡ take f marks ++ made = put_to_end f marks made in
    let same : take f steps ++ after_turn at_end (drop f steps) ≡ steps_of d (put_mid f (length marks - f) marks made) =
    ap (λ l. take f steps ++ after_turn at_end l) (sym (rest_steps c f marks))
    ∙ ap (λ l. take f steps ++ l) (sym is.events)
    ∙ ap (λ l. l ++ steps_of d made) (take-map (step_of c) f marks ∙ sym (steps_same c d is.grown (take f marks) front))
    ∙ sym (ap (steps_of d) put ∙ map-append (step_of d) (take f marks) made) in
    record {
      turn = subst (λ l. IsTurn at_end steps f l) same turn;
      known =
          ap (are_known d) put ∙ list_all-append (is_known d) (take f marks) made
          ∙ and_from (are_known d (take f marks)) (are_known d made) (known_still c d is.grown (take f marks) front) is.known;
    }
