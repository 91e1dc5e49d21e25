-- What a ledger tells of an entry is what its event makes of the sequences.
use Rattle.std.proofs.Common.{◌≡◌, ◌≢◌, ℕ, zero, suc, List, [], ◌∷◌, ◌++◌, ◌&&◌, eqb, map, option_to_list, slice_get, refl, sym, ap, ◌∙◌, arith, Bool, true, false, cond, Option, Some, None}
use Rattle.std.specs.List.{cons_option, filter_map}
use Rattle.std.specs.Option.{option_map}
use Rattle.std.proofs.lemmas.Bool.{false_from_ne_true}
use Rattle.std.proofs.lemmas.Option.{slice_get-map}
use Rattle.mach_types.proofs.Laws.{eqb_same, instruction_runs_none, run_is}
use Rattle.mach_types.specs.Events.{is_instruction, is_preempt, is_run}
use Rattle.mach_types.specs.declared.events.Tid.{Tid}
use Rattle.mach_types.specs.declared.sequences.Seq.{Seq}
use Rattle.block_model.specs.declared.acts.SeqEnd.{SeqEnd}
use Rattle.block_model.specs.Acts.{Sequence as Known, begun_with, end_at_verdict, end_before, is_inside_at, is_taken_in, sequence_on, taken_up, with_event}
use Rattle.block_model.specs.Acts as acts_of_model
use Rattle.block_model.specs.History.{Event, History}
use Rattle.block_model.specs.Run.{IsRunHistory}
use Rattle.block_model.specs.Setting.{Setting}
use Rattle.block_view.specs.Acts.{act_of, begins_to_run}
use Rattle.block_view.specs.Ledgers.{Kept, begins, end_by, ended_at, hanging_of, is_more, leaves_inside, settled, settled_act, settled_act_by, stopped_act, turn_in, turn_noted, verdict_by, with_end}
use Rattle.block_view.specs.Passing.{inside_at, passed_of}
use Rattle.block_view.specs.Standing.{Standing, after, begun_by, listed, standings, unended}
use Rattle.block_view.specs.Standing.Standing.{Over, Going, Hanging}
use Rattle.block_view.specs.Tied.{HangsAt, IsTied, StandsAt, course_of, going_at}
use Rattle.block_view.specs.Turns.{acts_ended, begun_inside, ended_by, over_act, sequences_begun, turns}
use Rattle.block_view.specs.declared.forms.Act.{Act}
use Rattle.block_view.specs.declared.ledger.Going.{Going as KeptGoing}
use Rattle.block_view.specs.declared.ledger.Hanging.{Hanging as KeptHanging}
use Rattle.block_view.specs.declared.turns.Turn.TheVariants.{Begins, Ends}
use Rattle.block_view.proofs.Endings.{ends_as}
use Rattle.block_view.proofs.HangingPlaces.{hanging_hangs, one_hanging}
use Rattle.block_view.proofs.Places.{takes_in}
use Rattle.block_view.proofs.SeenInside.{begins_as, leaves_as, more_as}
use Rattle.block_view.proofs.Sequences.{own_hart, taken_on}
use Rattle.block_view.proofs.Ties.{among, becomes_by, both, fixed, its_thread, kept_on, no_going, none_now, other_acts, over_by, own, own_event, own_inside, own_on, second, settled_so}
use Rattle.block_view.proofs.Verdicts.{verdict_as}

-- LISTS OF WHAT A FEW ELEMENTS GIVE

some_none : {X : Type 0} {x : X} → Some x ≡ None → ⊥
some_none is = cc

is_suc : {m n : ℕ} → suc m ≡ suc n → m ≡ n
is_suc same = omega arith

-- none gives something
given_none : (f : Standing → Option Act) (xs : List Standing) → ((j : ℕ) (y : Standing) → slice_get xs j ≡ Some y → f y ≡ None) → filter_map f xs ≡ []
given_none f [] none = refl
given_none f (x ∷ xs) none = ap (λ o. cons_option o (filter_map f xs)) (none 0 x refl) ∙ given_none f xs (λ j y at. none (suc j) y at)

-- only one does, or none
as_list : (o : Option Act) → cons_option o [] ≡ option_to_list o
as_list None = refl
as_list (Some act) = refl

given_one : (f : Standing → Option Act) (xs : List Standing) (i : ℕ) (x : Standing) → slice_get xs i ≡ Some x
    → ((j : ℕ) (y : Standing) → slice_get xs j ≡ Some y → j ≢ i → f y ≡ None) → filter_map f xs ≡ option_to_list (f x)
given_one f [] i x at none = absurd cc
given_one f (z ∷ xs) zero x at none =
    let same : z ≡ x = cc in
    ap (cons_option (f z)) (given_none f xs (λ j y there. none (suc j) y there (λ never. cc))) ∙ as_list (f z) ∙ ap (λ y. option_to_list (f y)) same
given_one f (z ∷ xs) (suc i) x at none =
    ap (λ o. cons_option o (filter_map f xs)) (none 0 z refl (λ never. cc))
    ∙ given_one f xs i x at (λ j y there other. none (suc j) y there (λ same. other (is_suc same)))

-- WHAT AN EVENT MAKES OF THE SEQUENCES

-- where one begins, and where one ends
turns_begun : (inside : Option Seq) → map Begins (cons_option inside []) ++ [] ≡ option_to_list (option_map Begins inside)
turns_begun None = refl
turns_begun (Some q) = refl

turns_ended : (act : Option Act) → map Ends (option_to_list act) ≡ option_to_list (option_map Ends act)
turns_ended None = refl
turns_ended (Some act) = refl

module _ (s : Setting) (e : Event) (before : History) (k : Kept) (run : IsRunHistory s (e ∷ before)) (tied : IsTied s before k) where
  abbrev h : ℕ
  h = e.entry.hart.0

  abbrev acts : List Standing
  acts = standings s before

  -- an act that stays as it is ends with it no more than one that is over
  unended_by : (x : Standing) → after s e before x ≡ x → ended_by s e before x ≡ None
  unended_by (Over act) same = refl
  unended_by (Going q) same = ap over_act same
  unended_by (Hanging q) same = ap over_act same

  -- a sequence that has no end is kept so, and ends as its act once it has one
  ended_kept : (i : ℕ) (q : Known) (x : Standing) (v : SeqEnd) → StandsAt acts i x → listed x ≡ unended q → ended_at i v k ≡ Some (act_of (record { sequence = q; end = v }))
  ended_kept i q x v at is =
      ap (λ xs. option_map (with_end v) (slice_get xs i)) tied.acts
      ∙ ap (option_map (with_end v)) (slice_get-map listed acts i ∙ ap (option_map listed) at)
      ∙ ap (λ act. Some (with_end v act)) is

  -- no sequence begins with it that its hart isn't in afterwards, or was in before
  none_begins : sequence_on s h (e ∷ before) ≡ None → sequences_begun s e before ≡ []
  none_begins none =
      ap (λ (o : Option Known). filter_map (begun_inside (inside_at s h before)) (begun_by e before (sequence_on s h before) o)) none

  -- the turns, by what begins and what ends
  ends_alone : (act : Option Act) → sequences_begun s e before ≡ [] → acts_ended s e before ≡ option_to_list act → turns s e before ≡ option_to_list (option_map Ends act)
  ends_alone act none is =
      ap (λ xs. map Begins xs ++ map Ends (acts_ended s e before)) none ∙ ap (λ xs. map Ends xs) is ∙ turns_ended act

  -- WHERE NO SEQUENCE GOES ON ON THE HART

  module _ (none : sequence_on s h before ≡ None) where
    -- one begins
    begins_one : begins (passed_of s e before) ≡ true → turns s e before ≡ option_to_list (option_map Begins (inside_at s h before))
    begins_one starts =
        let is = sym (begins_as s e before) ∙ starts in
        let inside = both (is_inside_at s h before) (is_instruction e.entry.kind) is in
        let instruction = second (is_inside_at s h before) (is_instruction e.entry.kind) is in
        let q = begun_with h e before in
        let now : sequence_on s h (e ∷ before) ≡ Some q =
        own_on s e before k run tied
        ∙ ap (λ b. cond b (taken_up h e before (sequence_on s h before)) None) inside
        ∙ ap (taken_up h e before) none
        ∙ ap (λ b. cond b (Some q) None) instruction in
        let isnt : is_run e.entry.kind ≡ false = instruction_runs_none e.entry.kind instruction in
        let ends_none = given_none (ended_by s e before) acts (λ j y at. unended_by y
        (fixed s e before k run tied y (no_going s e before k run tied none j y at) (λ r same. ap (λ b. b && eqb e.entry.tid.0 r.thread) isnt))) in
        ap (λ xs. map Begins (sequences_begun s e before) ++ map Ends xs) ends_none
        ∙ ap (λ (o : Option Known). map Begins (filter_map (begun_inside (inside_at s h before)) (begun_by e before o (sequence_on s h (e ∷ before)))) ++ []) none
        ∙ ap (λ (o : Option Known). map Begins (filter_map (begun_inside (inside_at s h before)) (begun_by e before None o)) ++ []) now
        ∙ turns_begun (inside_at s h before)

    -- a thread begins to run, whose sequence hangs
    module _ (x : KeptHanging) (runs : is_run e.entry.kind ≡ true) (is : hanging_of k e.entry.tid ≡ Some x) (at : HangsAt acts e.entry.tid x.place) where
      abbrev q : Known
      q = at.sequence

      begins_to : begins_to_run q.thread e ≡ true
      begins_to = ap (λ b. b && eqb e.entry.tid.0 q.thread) runs ∙ ap (λ t. eqb e.entry.tid.0 t) at.thread ∙ eqb_same e.entry.tid.0

      verdict_is : verdict_by (passed_of s e before) ≡ end_at_verdict s q e before
      verdict_is =
          verdict_as s e before q run (run_is e.entry.kind runs)
          (ap (λ t. acts_of_model.hanging s t before) (sym at.thread) ∙ hanging_hangs s before x.place q run.0 at.stands)

      ends_hanging : acts_ended s e before ≡ option_to_list (Some (act_of (record { sequence = q; end = end_at_verdict s q e before })))
      ends_hanging =
          given_one (ended_by s e before) acts x.place (Hanging q) at.stands
          (λ j y there other. unended_by y (fixed s e before k run tied y (no_going s e before k run tied none j y there)
          (λ r same. false_from_ne_true (begins_to_run r.thread e)
          (λ does. other (one_hanging s before j x.place r q run.0 (there ∙ ap Some same) at.stands (sym (its_thread s e before k run tied none r does) ∙ sym at.thread))))))
          ∙ ap (λ b. option_to_list (over_act (cond b (Over (act_of (record { sequence = q; end = end_at_verdict s q e before }))) (Hanging q)))) begins_to

      settles_one : settled_act (passed_of s e before) k ≡ Some (act_of (record { sequence = q; end = end_at_verdict s q e before }))
      unfolding passed_of
      settles_one =
          ap (λ b. cond b (settled_act_by (passed_of s e before) (hanging_of k e.entry.tid) k) None) runs
          ∙ ap (λ o. settled_act_by (passed_of s e before) o k) is
          ∙ ended_kept x.place q (Hanging q) (verdict_by (passed_of s e before)) at.stands refl
          ∙ ap (λ v. Some (act_of (record { sequence = q; end = v }))) verdict_is

    -- which acts end then
    by_hanging : (o : Option KeptHanging) → hanging_of k e.entry.tid ≡ o → is_run e.entry.kind ≡ true
        → acts_ended s e before ≡ option_to_list (settled_act (passed_of s e before) k)
    unfolding passed_of
    by_hanging None is runs =
        given_none (ended_by s e before) acts
        (λ j y there. unended_by y (fixed s e before k run tied y (no_going s e before k run tied none j y there)
        (λ r same. false_from_ne_true (begins_to_run r.thread e)
        (λ does. some_none (sym (tied.hanging j r (there ∙ ap Some same)) ∙ ap (λ (t : ℕ). let tid : Tid = record { 0 = t } in hanging_of k tid)
        (sym (its_thread s e before k run tied none r does)) ∙ is)))))
        ∙ sym (ap option_to_list (ap (λ b. cond b (settled_act_by (passed_of s e before) (hanging_of k e.entry.tid) k) None) runs
        ∙ ap (λ o. settled_act_by (passed_of s e before) o k) is))
    by_hanging (Some x) is runs =
        let at = tied.hangs e.entry.tid x is in
        ends_hanging x runs is at ∙ sym (ap option_to_list (settles_one x runs is at))

    by_run : (b : Bool) → is_run e.entry.kind ≡ b → acts_ended s e before ≡ option_to_list (settled_act (passed_of s e before) k)
    unfolding passed_of
    by_run true runs = by_hanging (hanging_of k e.entry.tid) refl runs
    by_run false isnt =
        given_none (ended_by s e before) acts
        (λ j y there. unended_by y (fixed s e before k run tied y (no_going s e before k run tied none j y there) (λ r same. ap (λ b. b && eqb e.entry.tid.0 r.thread) isnt)))
        ∙ sym (ap option_to_list (ap (λ b. cond b (settled_act_by (passed_of s e before) (hanging_of k e.entry.tid) k) None) isnt))

    -- whether one begins or not
    by_start : (b : Bool) → begins (passed_of s e before) ≡ b → option_to_list (turn_in None (passed_of s e before) k) ≡ turns s e before
    unfolding passed_of
    by_start true starts =
        ap (λ b. option_to_list (cond b (option_map Begins (inside_at s h before)) (option_map Ends (settled_act (passed_of s e before) k)))) starts
        ∙ sym (begins_one starts)
    by_start false other =
        ap (λ b. option_to_list (cond b (option_map Begins (inside_at s h before)) (option_map Ends (settled_act (passed_of s e before) k)))) other
        ∙ sym (ends_alone (settled_act (passed_of s e before) k) (none_begins (none_now s e before k run tied none other)) (by_run (is_run e.entry.kind) refl))

  -- WHERE ONE GOES ON

  module _ (q : Known) (was : sequence_on s h before ≡ Some q) where
    abbrev place : ℕ
    place = (among s e before k run tied q was).place

    abbrev stood : StandsAt acts place (Going q)
    stood = (among s e before k run tied q was).at

    ends_one : acts_ended s e before ≡ option_to_list (ended_by s e before (Going q))
    ends_one = given_one (ended_by s e before) acts place (Going q) stood (λ j y there other. unended_by y (other_acts s e before k run tied q was j y there other))

    -- it takes in the event
    by_more : is_more (passed_of s e before) ≡ true → is_inside_at s h before ≡ true → is_taken_in e.entry.kind e.done.interrupted ≡ true
        → option_to_list (turn_in (Some (going_at s place q)) (passed_of s e before) k) ≡ turns s e before
    by_more more inside taken =
        let p = passed_of s e before in
        let now : sequence_on s h (e ∷ before) ≡ Some (with_event e before q) = taken_on s e before h q (own_hart e) inside taken was in
        let none : sequences_begun s e before ≡ [] =
        ap (λ (o : Option Known). filter_map (begun_inside (inside_at s h before)) (begun_by e before o (sequence_on s h (e ∷ before)))) was
        ∙ ap (λ (o : Option Known). filter_map (begun_inside (inside_at s h before)) (begun_by e before (Some q) o)) now in
        let stays : ended_by s e before (Going q) ≡ None =
        ap over_act (takes_in s e before q (own_event s e before k run tied q was) (own_inside s e before k run tied q was ∙ inside) taken) in
        ap (λ b. option_to_list (cond b None (option_map Ends (stopped_act (going_at s place q) p (settled p k))))) more
        ∙ sym (ends_alone None none (ends_one ∙ ap option_to_list stays))

    -- it goes on no longer
    module _ (other : is_more (passed_of s e before) ≡ false) (now : sequence_on s h (e ∷ before) ≡ None)
        (not_taken : (is_inside_at s h before && is_taken_in e.entry.kind e.done.interrupted) ≡ false) where
      stops_by : (b : Bool) → leaves_inside (passed_of s e before) ≡ b → ended_by s e before (Going q) ≡ stopped_act (going_at s place q) (passed_of s e before) k
      stops_by true leaves =
          let is = ap (λ b. b && is_preempt e.entry.kind) (own_inside s e before k run tied q was) ∙ sym (leaves_as s e before) ∙ leaves in
          ap over_act (becomes_by s e before k run tied q was other now not_taken true is)
          ∙ sym (ap (λ b. cond b None (ended_at place (end_by (course_of s q) (passed_of s e before)) k)) leaves)
      stops_by false stays =
          let p = passed_of s e before in
          let is = ap (λ b. b && is_preempt e.entry.kind) (own_inside s e before k run tied q was) ∙ sym (leaves_as s e before) ∙ stays in
          let end_is : end_by (course_of s q) p ≡ end_before s q e before = ends_as s e before q run (own s e before k run tied q was) was now in
          ap over_act (becomes_by s e before k run tied q was other now not_taken false is)
          ∙ sym (ap (λ b. cond b None (ended_at place (end_by (course_of s q) p) k)) stays
          ∙ ended_kept place q (Going q) (end_by (course_of s q) p) stood refl
          ∙ ap (λ v. Some (act_of (record { sequence = q; end = v }))) end_is)

      by_stop : option_to_list (turn_in (Some (going_at s place q)) (passed_of s e before) k) ≡ turns s e before
      by_stop =
          let p = passed_of s e before in
          ap (λ b. option_to_list (cond b None (option_map Ends (stopped_act (going_at s place q) p (settled p k))))) other
          ∙ ap (λ x. option_to_list (option_map Ends (stopped_act (going_at s place q) p x))) (settled_so s e before k run tied q was)
          ∙ sym (ends_alone (stopped_act (going_at s place q) p k) (none_begins now) (ends_one ∙ ap option_to_list (stops_by (leaves_inside p) refl)))

    by_on : (b : Bool) → (is_inside_at s h before && is_taken_in e.entry.kind e.done.interrupted) ≡ b
        → option_to_list (turn_in (Some (going_at s place q)) (passed_of s e before) k) ≡ turns s e before
    by_on true is =
        by_more (more_as s e before ∙ is) (both (is_inside_at s h before) (is_taken_in e.entry.kind e.done.interrupted) is)
        (second (is_inside_at s h before) (is_taken_in e.entry.kind e.done.interrupted) is)
    by_on false is =
        let now : sequence_on s h (e ∷ before) ≡ None =
        own_on s e before k run tied
        ∙ ap (λ o. cond (is_inside_at s h before) (taken_up h e before o) None) was
        ∙ over_by s e before k run tied q was (is_inside_at s h before) (is_taken_in e.entry.kind e.done.interrupted) is in
        by_stop (more_as s e before ∙ is) now is

  by_sequence : (o : Option Known) → sequence_on s h before ≡ o → option_to_list (turn_noted (passed_of s e before) k) ≡ turns s e before
  unfolding turn_noted passed_of
  by_sequence None none =
      ap (λ (o : Option KeptGoing). option_to_list (turn_in o (passed_of s e before) k)) (tied.rests h none) ∙ by_start none (begins (passed_of s e before)) refl
  by_sequence (Some q) was =
      ap (λ (o : Option KeptGoing). option_to_list (turn_in o (passed_of s e before) k)) (kept_on s e before k run tied q was)
      ∙ by_on q was (is_inside_at s h before && is_taken_in e.entry.kind e.done.interrupted) refl

  pub turns_told : option_to_list (turn_noted (passed_of s e before) k) ≡ turns s e before
  turns_told = by_sequence (sequence_on s h before) refl
