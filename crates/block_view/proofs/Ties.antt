-- A ledger that is tied to a place of a run is tied to the next one, once it takes in the event between them.
use Rattle.std.proofs.Common.{◌≡◌, ◌≢◌, ℕ, suc, ◌+◌, ◌<◌, inl, inr, List, [], ◌∷◌, ◌++◌, ◌&&◌, append-nil, length, length-set, map, set, slice_get, find, filter, refl, sym, ap, ◌∙◌, subst, arith, add-one, eqb, Bool, true, false, cond, not, Option, Some, None}
use Rattle.std.proofs.lemmas.Bool.{cases_eq, eqb-true, false_from_ne_true, false≢true, ne_eqb}
use Rattle.std.proofs.lemmas.List.{length-map, map-append}
use Rattle.mach_types.proofs.Laws.{eqb_same, instruction_runs_none, run_is}
use Rattle.mach_types.specs.Events.{choice_with, is_instruction, is_preempt, is_run}
use Rattle.mach_types.specs.declared.events.Kind.{Kind}
use Rattle.mach_types.specs.declared.events.Tid.{Tid}
use Rattle.block_model.specs.declared.acts.SeqEnd.{SeqEnd}
use Rattle.block_model.specs.declared.acts.SeqEnd.TheVariants.{Unended}
use Rattle.block_model.specs.Acts.{Sequence as Known, begun_with, end_at_verdict, end_before, is_inside_at, is_taken_in, sequence_on, taken_up, with_event}
use Rattle.block_model.specs.Acts as acts_of_model
use Rattle.block_model.specs.Events.{refusal_of}
use Rattle.block_model.specs.History.{Event, History, here_in_history, is_of_hart}
use Rattle.block_model.specs.Run.{IsRunHistory}
use Rattle.block_model.specs.Setting.{Setting}
use Rattle.block_model.proofs.Laws.{run_ready}
use Rattle.block_view.specs.Acts.{act_alone, act_of, begins_to_run}
use Rattle.block_view.specs.Ledgers.{Kept, act_by, begins, begun, changed_at, course_by, end_by, going_on, gone_on, hanging_of, is_more, is_of, leaves_inside, noted, settled, stopped, taken_in, verdict_by, with_act_alone, with_end, with_end_at, with_going, with_hanging, with_last, without_hanging}
use Rattle.block_view.specs.Passing.{passed_of}
use Rattle.block_view.specs.Standing.{Standing, after, begun_by, listed, standings}
use Rattle.block_view.specs.Standing.Standing.{Over, Going, Hanging}
use Rattle.block_view.specs.Tied.{HangsAt, IsTied, StandsAt, going_at, hanging_at, tid_of}
use Rattle.block_view.specs.declared.forms.Act.{Act}
use Rattle.block_view.specs.declared.forms.Form.TheVariants.{Sequence}
use Rattle.block_view.specs.declared.ledger.Going.{Going as KeptGoing}
use Rattle.block_view.specs.declared.ledger.Hanging.{Hanging as KeptHanging}
use Rattle.block_view.proofs.Edits.{AreGoing, AreHanging, going_unwritten, going_with_more, going_with_over, going_written, hanging_ended, hanging_unwritten, hanging_with_more, hanging_written, listed_as_before, listed_at_place, map_at_place, map_nowhere}
use Rattle.block_view.proofs.Endings.{ends_as}
use Rattle.block_view.proofs.HangingPlaces.{hanging_hangs, one_hanging, ran}
use Rattle.block_view.proofs.SeenInside.{begins_as, dies_by_signal, goes_on_as, leaves_as, more_as, moved_as}
use Rattle.block_view.proofs.Logs.{whole_place}
use Rattle.block_view.proofs.Made.{made_at}
use Rattle.block_view.proofs.Noting.{noted_alone, noted_begun, noted_more, noted_stopped, settled_else, settled_none, settled_some}
use Rattle.block_view.proofs.Places.{IsAmong, going_is_on, on_is_going, one_going, stands, stays_going, takes_in}
use Rattle.block_view.proofs.Sequences.{hart_is, own_hart, still_on, taken_on}
use Rattle.block_view.proofs.Verdicts.{verdict_as}

-- TESTS

pub both : (a b : Bool) → (a && b) ≡ true → a ≡ true
both true b is = refl
both false b is = absurd (false≢true is)

pub second : (a b : Bool) → (a && b) ≡ true → b ≡ true
second true b is = is
second false b is = absurd (false≢true is)

something : {X : Type 0} {x : X} → Some x ≡ None → ⊥
something is = cc

-- WHAT AN EVENT MAKES OF THE ACTS

module _ (s : Setting) (e : Event) (before : History) (k : Kept) (run : IsRunHistory s (e ∷ before)) (tied : IsTied s before k) where
  abbrev h : ℕ
  h = e.entry.hart.0

  abbrev acts : List Standing
  acts = standings s before

  -- the sequence of each hart before the event, and after it
  abbrev on : ℕ → Option Known
  on j = sequence_on s j before

  abbrev on' : ℕ → Option Known
  on' j = sequence_on s j (e ∷ before)

  are_going : AreGoing s on acts k.going
  are_going = record { going = tied.going; rests = tied.rests }

  are_hanging : AreHanging acts k.hanging
  are_hanging = record { hanging = tied.hanging; hangs = tied.hangs }

  h_is_kept : h < length k.going
  h_is_kept = let lt = (made_at s e before run).lt in let same = tied.harts in omega arith

  others : (j : ℕ) → j ≢ h → on' j ≡ on j
  others j other = still_on s e before j (ne_eqb h j (λ same. other (sym same)))

  -- an act stays as it is that isn't a sequence of the hart, nor one of the thread that begins to run
  pub fixed : (x : Standing) → ((q : Known) → x ≡ Going q → q.hart ≢ h) → ((q : Known) → x ≡ Hanging q → begins_to_run q.thread e ≡ false)
      → after s e before x ≡ x
  fixed (Over act) going hanging = refl
  fixed (Going q) going hanging = stays_going s e before q (ne_eqb h q.hart (λ same. going q refl (sym same)))
  fixed (Hanging q) going hanging =
      ap (λ b. cond b (Over (act_of (record { sequence = q; end = end_at_verdict s q e before }))) (Hanging q)) (hanging q refl)

  -- the sequence of the hart after the event
  pub own_on : on' h ≡ cond (is_inside_at s h before) (taken_up h e before (on h)) None
  own_on = ap (λ b. cond (not b) (on h) (cond (is_inside_at s h before) (taken_up h e before (on h)) None)) (own_hart e)

  -- AN ACT BY ITSELF

  -- what is known of a ledger but for the event itself, which is an act by itself
  record IsTiedTo (changed : List Standing) (kept : Kept) : Type 0 where
    rest : map (after s e before) acts ≡ changed
    listing : kept.acts ≡ map listed changed
    harts : length kept.going ≡ s.limits.harts
    going : AreGoing s on' changed kept.going
    hanging : AreHanging changed kept.hanging

  tied_alone : (changed : List Standing) (kept : Kept) → on' h ≡ None → IsTiedTo changed kept → IsTied s (e ∷ before) (with_act_alone (passed_of s e before) kept)
  unfolding passed_of
  tied_alone changed kept none was =
      let new : standings s (e ∷ before) ≡ changed ++ Over (act_alone e before) ∷ [] =
      ap (λ o. map (after s e before) acts ++ begun_by e before (on h) o) none
      ∙ ap (λ xs. xs ++ Over (act_alone e before) ∷ []) was.rest in
      let going = going_with_over s on' on' changed kept.going (act_alone e before) was.going (λ j is. is) in
      let hanging = hanging_with_more changed kept.hanging (Over (act_alone e before)) was.hanging (λ q is. cc) in
      record {
        acts = ap (λ xs. xs ++ act_alone e before ∷ []) was.listing
            ∙ sym (map-append listed changed (Over (act_alone e before) ∷ []))
            ∙ ap (map listed) (sym new);
        harts = was.harts;
        going = λ i q at. going.going i q (ap (λ xs. slice_get xs i) (sym new) ∙ at);
        rests = going.rests;
        hanging = λ i q at. hanging.hanging i q (ap (λ xs. slice_get xs i) (sym new) ∙ at);
        hangs = λ tid x is. subst (λ xs. HangsAt xs tid x.place) (sym new) (hanging.hangs tid x is);
      }

  -- WHERE NO SEQUENCE GOES ON ON THE HART

  module _ (none : on h ≡ None) where
    pub no_going : (i : ℕ) (x : Standing) → StandsAt acts i x → (q : Known) → x ≡ Going q → q.hart ≢ h
    no_going i x at q is same =
        something (sym (going_is_on s before i q (at ∙ ap Some is)) ∙ ap on same ∙ none)

    still_none : on' h ≡ None → (j : ℕ) → on' j ≡ None → on j ≡ None
    still_none now j is = elim (cases_eq j h) [
      | inl same ↦ ap on same ∙ none
      | inr other ↦ sym (others j other) ∙ is
    ]

    -- and none ends that hangs
    untouched : on' h ≡ None → ((i : ℕ) (q : Known) → StandsAt acts i (Hanging q) → begins_to_run q.thread e ≡ false) → IsTiedTo acts k
    untouched now waits = record {
      rest = map_nowhere (after s e before) acts (λ i x at. fixed x (no_going i x at) (λ q is. waits i q (at ∙ ap Some is)));
      listing = tied.acts;
      harts = tied.harts;
      going = record { going = tied.going; rests = λ j is. tied.rests j (still_none now j is) };
      hanging = are_hanging;
    }

    -- or one ends that hangs
    pub its_thread : (q : Known) → begins_to_run q.thread e ≡ true → e.entry.tid.0 ≡ q.thread
    its_thread q begins_to = eqb-true e.entry.tid.0 q.thread (second (is_run e.entry.kind) (eqb e.entry.tid.0 q.thread) begins_to)

    module _ (now : on' h ≡ None) (runs : is_run e.entry.kind ≡ true) (i : ℕ) (q : Known) (stood : StandsAt acts i (Hanging q))
        (thread : q.thread ≡ e.entry.tid.0) where
      abbrev ended : Act
      ended = act_of (record { sequence = q; end = end_at_verdict s q e before })

      settled_one : (v : SeqEnd) → v ≡ end_at_verdict s q e before → IsTiedTo (set acts i (Over ended)) (without_hanging e.entry.tid (with_end_at i v k))
      settled_one v v_is =
          let its : tid_of q ≡ e.entry.tid = ap (λ (t : ℕ). let tid : Tid = record { 0 = t } in tid) thread in
          let begins_to : begins_to_run q.thread e ≡ true =
          ap (λ b. b && eqb e.entry.tid.0 q.thread) runs ∙ ap (λ t. eqb e.entry.tid.0 t) thread ∙ eqb_same e.entry.tid.0 in
          record {
            rest = map_at_place (after s e before) acts i (Hanging q) stood
                (λ j y at other. fixed y (no_going j y at)
                (λ r is. false_from_ne_true (begins_to_run r.thread e)
                (λ does. other (one_hanging s before j i r q run.0 (at ∙ ap Some is) stood (sym (its_thread r does) ∙ sym thread)))))
                ∙ ap (λ b. set acts i (cond b (Over ended) (Hanging q))) begins_to;
            listing = ap (changed_at i (with_end v)) tied.acts
                ∙ listed_at_place (with_end v) acts i (Hanging q) (Over ended) stood (ap (λ end. act_of (record { sequence = q; end = end })) (sym v_is));
            harts = tied.harts;
            going = going_unwritten s on on' acts k.going i q ended are_going stood (still_none now);
            hanging = subst (λ tid. AreHanging (set acts i (Over ended)) (filter (λ x. not (is_of tid x)) k.hanging)) its
                (hanging_ended acts k.hanging i q ended are_hanging stood);
          }

    -- A THREAD BEGINS TO RUN

    module _ (now : on' h ≡ None) (runs : is_run e.entry.kind ≡ true) (other : begins (passed_of s e before) ≡ false) where
      tied_after : (kept : Kept) → settled (passed_of s e before) k ≡ kept → IsTied s (e ∷ before) (with_act_alone (passed_of s e before) kept)
          → IsTied s (e ∷ before) (noted (passed_of s e before) k)
      unfolding passed_of
      tied_after kept is was =
          subst (IsTied s (e ∷ before)) (sym (noted_alone (passed_of s e before) k (tied.rests h none) other ∙ ap (with_act_alone (passed_of s e before)) is)) was

      -- and its sequence ends
      by_place : (x : KeptHanging) → hanging_of k e.entry.tid ≡ Some x → HangsAt acts e.entry.tid x.place → IsTied s (e ∷ before) (noted (passed_of s e before) k)
      unfolding passed_of
      by_place x is at =
          let q = at.sequence in
          let begun_run = run_is e.entry.kind runs in
          let hangs = hanging_hangs s before x.place q run.0 at.stands in
          let v = verdict_by (passed_of s e before) in
          let told = verdict_as s e before q run begun_run (ap (λ t. acts_of_model.hanging s t before) (sym at.thread) ∙ hangs) in
          tied_after (without_hanging e.entry.tid (with_end_at x.place v k)) (settled_some (passed_of s e before) k x runs is)
          (tied_alone _ (without_hanging e.entry.tid (with_end_at x.place v k)) now (settled_one now runs x.place q at.stands at.thread v told))

      by_hanging : (o : Option KeptHanging) → hanging_of k e.entry.tid ≡ o → IsTied s (e ∷ before) (noted (passed_of s e before) k)
      unfolding passed_of
      by_hanging None is =
          tied_after k (settled_none (passed_of s e before) k runs is)
          (tied_alone acts k now (untouched now
          (λ i q at. false_from_ne_true (begins_to_run q.thread e)
          (λ does. something (sym (tied.hanging i q at) ∙ ap (λ (t : ℕ). let tid : Tid = record { 0 = t } in hanging_of k tid) (sym (its_thread q does)) ∙ is)))))
      by_hanging (Some x) is = by_place x is (tied.hangs e.entry.tid x is)

      tied_run : IsTied s (e ∷ before) (noted (passed_of s e before) k)
      tied_run = by_hanging (hanging_of k e.entry.tid) refl

    -- ANOTHER EVENT

    module _ (isnt : is_run e.entry.kind ≡ false) where
      no_run : (q : Known) → begins_to_run q.thread e ≡ false
      no_run q = ap (λ b. b && eqb e.entry.tid.0 q.thread) isnt

      tied_other : on' h ≡ None → begins (passed_of s e before) ≡ false → IsTied s (e ∷ before) (noted (passed_of s e before) k)
      unfolding passed_of
      tied_other now other =
          let p = passed_of s e before in
          subst (IsTied s (e ∷ before)) (sym (noted_alone p k (tied.rests h none) other ∙ ap (with_act_alone p) (settled_else p k isnt)))
          (tied_alone acts k now (untouched now (λ i q at. no_run q)))

      -- a sequence begins
      tied_begun : is_inside_at s h before ≡ true → is_instruction e.entry.kind ≡ true → begins (passed_of s e before) ≡ true
          → IsTied s (e ∷ before) (noted (passed_of s e before) k)
      unfolding passed_of
      tied_begun inside instruction starts =
          let p = passed_of s e before in
          let q = begun_with h e before in
          let now : on' h ≡ Some q =
          own_on
          ∙ ap (λ b. cond b (taken_up h e before (on h)) None) inside
          ∙ ap (taken_up h e before) none
          ∙ ap (λ b. cond b (Some q) None) instruction in
          let new : standings s (e ∷ before) ≡ acts ++ Going q ∷ [] =
          ap (λ o. map (after s e before) acts ++ begun_by e before o (on' h)) none
          ∙ ap (λ o. map (after s e before) acts ++ begun_by e before None o) now
          ∙ ap (λ xs. xs ++ Going q ∷ []) (map_nowhere (after s e before) acts (λ i x at. fixed x (no_going i x at) (λ r is. no_run r))) in
          let places : length k.acts ≡ length acts = ap length tied.acts ∙ length-map acts listed in
          let last : length before + 1 ≡ suc (length before) = add-one (length before) in
          let g : KeptGoing = record { place = length k.acts; course = course_by p } in
          let g_is : g ≡ going_at s (length acts) q =
          λ j. record { place = places j; course = record { moved_out = moved_as s e before run q now inside j; died = dies_by_signal s e before run q now j } } in
          let going = going_with_more s on on' acts k.going h q are_going refl h_is_kept (tied.rests h none) now others in
          let hanging = hanging_with_more acts k.hanging (Going q) are_hanging (λ r is. cc) in
          subst (IsTied s (e ∷ before)) (sym (noted_begun p k (tied.rests h none) starts ∙ ap (begun p) (settled_else p k isnt)))
          (record {
            acts = ap (λ xs. xs ++ act_by p (Sequence Unended) ∷ []) tied.acts
                ∙ ap (λ n. map listed acts ++ with_last n (act_by p (Sequence Unended)) ∷ []) last
                ∙ sym (map-append listed acts (Going q ∷ []))
                ∙ ap (map listed) (sym new);
            harts = length-set k.going h (Some g) ∙ tied.harts;
            going = λ i r at.
                ap (λ x. going_on (with_going h (Some x) k) r.hart) g_is ∙ going.going i r (ap (λ xs. slice_get xs i) (sym new) ∙ at);
            rests = λ j is. ap (λ x. going_on (with_going h (Some x) k) j) g_is ∙ going.rests j is;
            hanging = λ i r at. hanging.hanging i r (ap (λ xs. slice_get xs i) (sym new) ∙ at);
            hangs = λ tid x is. subst (λ xs. HangsAt xs tid x.place) (sym new) (hanging.hangs tid x is);
          })

  -- WHERE A SEQUENCE GOES ON ON THE HART

  module _ (q : Known) (was : on h ≡ Some q) where
    pub among : IsAmong s before q
    among = on_is_going s before h q was

    pub own : q.hart ≡ h
    own = hart_is s before h q was

    pub own_event : is_of_hart q.hart e ≡ true
    own_event = ap (λ j. is_of_hart j e) own ∙ own_hart e

    pub own_inside : is_inside_at s q.hart before ≡ is_inside_at s h before
    own_inside = ap (λ j. is_inside_at s j before) own

    g : KeptGoing
    g = going_at s among.place q

    pub kept_on : going_on k h ≡ Some (going_at s among.place q)
    kept_on = ap (going_on k) (sym own) ∙ tied.going among.place q among.at

    -- its thread runs there, so that none begins to run
    pub isnt_run : is_run e.entry.kind ≡ false
    isnt_run = false_from_ne_true (is_run e.entry.kind)
        (λ runs.
        let free = ap (λ x. refusal_of (choice_with x e.entry) (here_in_history s before h)) (sym (run_is e.entry.kind runs)) ∙ (made_at s e before run).free in
        let idle = (run_ready (here_in_history s before h) e.entry.tid.0 free).0 in
        something (sym ((whole_place s before run.0).runs h q was).now ∙ idle))

    pub settled_so : settled (passed_of s e before) k ≡ k
    unfolding passed_of
    settled_so = settled_else (passed_of s e before) k isnt_run

    -- no other act changes
    pub other_acts : (j : ℕ) (y : Standing) → StandsAt acts j y → j ≢ among.place → after s e before y ≡ y
    other_acts j y at other =
        fixed y (λ r is same. other (one_going s before j among.place r q (at ∙ ap Some is) among.at (same ∙ sym own)))
        (λ r is. ap (λ b. b && eqb e.entry.tid.0 r.thread) isnt_run)

    changed : (y : Standing) → after s e before (Going q) ≡ y → map (after s e before) acts ≡ set acts among.place y
    changed y becomes = map_at_place (after s e before) acts among.place (Going q) among.at other_acts ∙ ap (set acts among.place) becomes

    other_harts : (j : ℕ) → j ≢ q.hart → on' j ≡ on j
    other_harts j other = others j (λ same. other (same ∙ sym own))

    own_lt : q.hart < length k.going
    own_lt = subst (λ n. n < length k.going) (sym own) h_is_kept

    -- IT TAKES IN THE EVENT

    tied_more : is_more (passed_of s e before) ≡ true → is_inside_at s h before ≡ true → is_taken_in e.entry.kind e.done.interrupted ≡ true
        → IsTied s (e ∷ before) (noted (passed_of s e before) k)
    unfolding passed_of
    tied_more more inside taken =
        let p = passed_of s e before in
        let r = with_event e before q in
        let now : on' h ≡ Some r = taken_on s e before h q (own_hart e) inside taken was in
        let new : standings s (e ∷ before) ≡ set acts among.place (Going r) =
        ap (λ o. map (after s e before) acts ++ begun_by e before o (on' h)) was
        ∙ ap (λ o. map (after s e before) acts ++ begun_by e before (Some q) o) now
        ∙ append-nil (map (after s e before) acts)
        ∙ changed (Going r) (takes_in s e before q own_event (own_inside ∙ inside) taken) in
        let last : length before + 1 ≡ suc (length before) = add-one (length before) in
        let g_is : gone_on (going_at s among.place q) p ≡ going_at s among.place r = goes_on_as s e before run among.place q own was inside taken now in
        let going = going_written s on on' acts k.going among.place q (Going r) (Some (going_at s among.place r)) are_going among.at
        (λ x is. let same : r ≡ x = cc in (ap (λ (y : Known). y.hart) (sym same), ap (λ (y : Known). Some (going_at s among.place y)) same))
        (λ is. absurd (something (sym now ∙ ap on' (sym own) ∙ is))) other_harts own_lt in
        let hanging = hanging_unwritten acts k.hanging among.place q (Going r) are_hanging among.at (λ x is. cc) in
        let places : set k.going q.hart (Some (going_at s among.place r)) ≡ set k.going h (Some (gone_on (going_at s among.place q) p)) =
        ap (λ n. set k.going n (Some (going_at s among.place r))) own ∙ ap (λ x. set k.going h (Some x)) (sym g_is) in
        let kept = subst (AreGoing s on' (set acts among.place (Going r))) places going in
        subst (IsTied s (e ∷ before)) (sym (noted_more p k (going_at s among.place q) kept_on more ∙ ap (taken_in (going_at s among.place q) p) settled_so))
        (record {
          acts = ap (changed_at among.place (with_last (length before + 1))) tied.acts
              ∙ ap (λ n. changed_at among.place (with_last n) (map listed acts)) last
              ∙ listed_at_place (with_last (suc (length before))) acts among.place (Going q) (Going r) among.at refl
              ∙ ap (map listed) (sym new);
          harts = length-set k.going h (Some (gone_on (going_at s among.place q) p)) ∙ tied.harts;
          going = λ i x at. kept.going i x (ap (λ xs. slice_get xs i) (sym new) ∙ at);
          rests = kept.rests;
          hanging = λ i x at. hanging.hanging i x (ap (λ xs. slice_get xs i) (sym new) ∙ at);
          hangs = λ tid x is. subst (λ xs. HangsAt xs tid x.place) (sym new) (hanging.hangs tid x is);
        })

    -- IT GOES ON NO LONGER

    module _ (other : is_more (passed_of s e before) ≡ false) (now : on' h ≡ None)
        (not_taken : (is_inside_at s h before && is_taken_in e.entry.kind e.done.interrupted) ≡ false) where
      not_taken_own : (is_inside_at s q.hart before && is_taken_in e.entry.kind e.done.interrupted) ≡ false
      not_taken_own = ap (λ b. b && is_taken_in e.entry.kind e.done.interrupted) own_inside ∙ not_taken

      ended_by : Standing
      ended_by = Over (act_of (record { sequence = q; end = end_before s q e before }))

      pub becomes_by : (b : Bool) → (is_inside_at s q.hart before && is_preempt e.entry.kind) ≡ b
          → after s e before (Going q) ≡ cond b (Hanging q) (Over (act_of (record { sequence = q; end = end_before s q e before })))
      becomes_by b is =
          let over = Over (act_of (record { sequence = q; end = end_before s q e before })) in
          let left = cond (is_inside_at s q.hart before && is_preempt e.entry.kind) (Hanging q) over in
          ap (λ x. cond (not x) (Going q) (cond (is_inside_at s q.hart before && is_taken_in e.entry.kind e.done.interrupted) (Going (with_event e before q)) left)) own_event
          ∙ ap (λ x. cond x (Going (with_event e before q)) left) not_taken_own
          ∙ ap (λ x. cond x (Hanging q) over) is

      stopped_so : (kept : Kept) → stopped (going_at s among.place q) (passed_of s e before) k ≡ kept
          → IsTied s (e ∷ before) (with_act_alone (passed_of s e before) kept) → IsTied s (e ∷ before) (noted (passed_of s e before) k)
      unfolding passed_of
      stopped_so kept is tied_so =
          let p = passed_of s e before in
          subst (IsTied s (e ∷ before))
          (sym (noted_stopped p k (going_at s among.place q) kept_on other
          ∙ ap (λ x. with_act_alone p (stopped (going_at s among.place q) p x)) settled_so
          ∙ ap (with_act_alone p) is))
          tied_so

      none_kept : (y : Standing) → ((r : Known) → y ≡ Going r → ⊥) → AreGoing s on' (set acts among.place y) (set k.going h None)
      none_kept y never =
          subst (λ n. AreGoing s on' (set acts among.place y) (set k.going n None)) own
          (going_written s on on' acts k.going among.place q y None are_going among.at (λ r is. absurd (never r is)) (λ is. refl) other_harts own_lt)

      -- it ends
      tied_ended : leaves_inside (passed_of s e before) ≡ false → (is_inside_at s q.hart before && is_preempt e.entry.kind) ≡ false
          → IsTied s (e ∷ before) (noted (passed_of s e before) k)
      unfolding passed_of
      tied_ended stays isnt =
          let p = passed_of s e before in
          let x = going_at s among.place q in
          let act = act_of (record { sequence = q; end = end_before s q e before }) in
          let end_is : end_by x.course p ≡ end_before s q e before = ends_as s e before q run own was now in
          stopped_so (with_going h None (with_end_at among.place (end_by x.course p) k))
          (ap (λ b. with_going h None (cond b (with_hanging (record { tid = e.entry.tid; hart = e.entry.hart; place = among.place }) k) (with_end_at among.place (end_by x.course p) k))) stays)
          (tied_alone (set acts among.place (Over act)) (with_going h None (with_end_at among.place (end_by x.course p) k)) now
          (record {
            rest = changed (Over act) (becomes_by false isnt);
            listing = ap (changed_at among.place (with_end (end_by x.course p))) tied.acts
                ∙ listed_at_place (with_end (end_by x.course p)) acts among.place (Going q) (Over act) among.at
                (ap (λ end. act_of (record { sequence = q; end = end })) (sym end_is));
            harts = length-set k.going h None ∙ tied.harts;
            going = none_kept (Over act) (λ r is. cc);
            hanging = hanging_unwritten acts k.hanging among.place q (Over act) are_hanging among.at (λ r is. cc);
          }))

      -- it hangs: none of its thread hung before
      none_hung : after s e before (Going q) ≡ Hanging q → find (is_of (tid_of q)) k.hanging ≡ None
      none_hung becomes = by_found (find (is_of (tid_of q)) k.hanging) refl
        where
          different : (o : Option Standing) (r : Known) → o ≡ Some (Hanging r) → o ≡ Some (Going q) → ⊥
          different o r one two = cc

          by_found : (o : Option KeptHanging) → find (is_of (tid_of q)) k.hanging ≡ o → o ≡ None
          by_found None is = refl
          by_found (Some x) is =
              let at = tied.hangs (tid_of q) x is in
              let stays : after s e before (Hanging at.sequence) ≡ Hanging at.sequence =
              fixed (Hanging at.sequence) (λ r same. absurd cc) (λ r same. ap (λ b. b && eqb e.entry.tid.0 r.thread) isnt_run) in
              let one = stands s e before x.place (Hanging at.sequence) at.stands ∙ ap Some stays in
              let two = stands s e before among.place (Going q) among.at ∙ ap Some becomes in
              let same = one_hanging s (e ∷ before) x.place among.place at.sequence q run one two at.thread in
              absurd (different (slice_get acts among.place) at.sequence (ap (slice_get acts) (sym same) ∙ at.stands) among.at)

      tied_hung : leaves_inside (passed_of s e before) ≡ true → (is_inside_at s q.hart before && is_preempt e.entry.kind) ≡ true
          → IsTied s (e ∷ before) (noted (passed_of s e before) k)
      unfolding passed_of
      tied_hung leaves is =
          let p = passed_of s e before in
          let x = going_at s among.place q in
          let kept : KeptHanging = record { tid = e.entry.tid; hart = e.entry.hart; place = among.place } in
          let becomes = becomes_by true is in
          let preempts = second (is_inside_at s q.hart before) (is_preempt e.entry.kind) is in
          let threads : Some e.entry.tid.0 ≡ Some q.thread = sym (ran s e before run preempts) ∙ ((whole_place s before run.0).runs h q was).now in
          let thread : e.entry.tid.0 ≡ q.thread = cc in
          let kept_is : hanging_at among.place q ≡ kept = λ j. record { tid = record { 0 = sym thread j }; hart = record { 0 = own j }; place = among.place } in
          stopped_so (with_going h None (with_hanging kept k))
          (ap (λ b. with_going h None (cond b (with_hanging kept k) (with_end_at among.place (end_by x.course p) k))) leaves)
          (tied_alone (set acts among.place (Hanging q)) (with_going h None (with_hanging kept k)) now
          (record {
            rest = changed (Hanging q) becomes;
            listing = tied.acts ∙ listed_as_before acts among.place (Going q) (Hanging q) among.at refl;
            harts = length-set k.going h None ∙ tied.harts;
            going = none_kept (Hanging q) (λ r is. cc);
            hanging = subst (λ y. AreHanging (set acts among.place (Hanging q)) (k.hanging ++ y ∷ [])) kept_is
                (hanging_written acts k.hanging among.place q are_hanging among.at (none_hung becomes));
          }))

      tied_stopped : (b : Bool) → leaves_inside (passed_of s e before) ≡ b → IsTied s (e ∷ before) (noted (passed_of s e before) k)
      tied_stopped true leaves =
          tied_hung leaves (ap (λ b. b && is_preempt e.entry.kind) own_inside ∙ sym (leaves_as s e before) ∙ leaves)
      tied_stopped false stays =
          tied_ended stays (ap (λ b. b && is_preempt e.entry.kind) own_inside ∙ sym (leaves_as s e before) ∙ stays)

    -- the sequence of the hart after an event that isn't of it
    pub over_by : (inside taken : Bool) → (inside && taken) ≡ false → cond inside (cond taken (Some (with_event e before q)) None) None ≡ None
    over_by true true is = absurd (false≢true (sym is))
    over_by true false is = refl
    over_by false taken is = refl

    tied_on : (b : Bool) → (is_inside_at s h before && is_taken_in e.entry.kind e.done.interrupted) ≡ b → IsTied s (e ∷ before) (noted (passed_of s e before) k)
    tied_on true is =
        tied_more (more_as s e before ∙ is) (both (is_inside_at s h before) (is_taken_in e.entry.kind e.done.interrupted) is)
        (second (is_inside_at s h before) (is_taken_in e.entry.kind e.done.interrupted) is)
    tied_on false is =
        let now : on' h ≡ None =
        own_on
        ∙ ap (λ o. cond (is_inside_at s h before) (taken_up h e before o) None) was
        ∙ over_by (is_inside_at s h before) (is_taken_in e.entry.kind e.done.interrupted) is in
        tied_stopped (more_as s e before ∙ is) now is (leaves_inside (passed_of s e before)) refl

  -- EACH EVENT

  none_by : (inside instruction : Bool) → (inside && instruction) ≡ false → cond inside (cond instruction (Some (begun_with h e before)) None) None ≡ None
  none_by true true is = absurd (false≢true (sym is))
  none_by true false is = refl
  none_by false instruction is = refl

  pub none_now : on h ≡ None → begins (passed_of s e before) ≡ false → on' h ≡ None
  none_now none other =
      own_on
      ∙ ap (λ o. cond (is_inside_at s h before) (taken_up h e before o) None) none
      ∙ none_by (is_inside_at s h before) (is_instruction e.entry.kind) (sym (begins_as s e before) ∙ other)

  -- a thread that begins to run by the event executes nothing by it
  run_executes : (k : Kind) (b : Bool) → is_run k ≡ true → (b && is_instruction k) ≡ false
  run_executes k b runs = ap (λ x. b && is_instruction x) (run_is k runs) ∙ and_false b
    where
      and_false : (b : Bool) → (b && false) ≡ false
      and_false true = refl
      and_false false = refl

  by_run : (none : on h ≡ None) (b : Bool) → is_run e.entry.kind ≡ b → begins (passed_of s e before) ≡ false → IsTied s (e ∷ before) (noted (passed_of s e before) k)
  by_run none true runs other = tied_run none (none_now none other) runs other
  by_run none false isnt other = tied_other none isnt (none_now none other) other

  by_start : (none : on h ≡ None) (b : Bool) → begins (passed_of s e before) ≡ b → IsTied s (e ∷ before) (noted (passed_of s e before) k)
  by_start none true starts =
      let is = sym (begins_as s e before) ∙ starts in
      let instruction = second (is_inside_at s h before) (is_instruction e.entry.kind) is in
      tied_begun none (instruction_runs_none e.entry.kind instruction) (both (is_inside_at s h before) (is_instruction e.entry.kind) is) instruction starts
  by_start none false other = by_run none (is_run e.entry.kind) refl other

  by_sequence : (o : Option Known) → on h ≡ o → IsTied s (e ∷ before) (noted (passed_of s e before) k)
  by_sequence None none = by_start none (begins (passed_of s e before)) refl
  by_sequence (Some q) was = tied_on q was (is_inside_at s h before && is_taken_in e.entry.kind e.done.interrupted) refl

  pub tied_next : IsTied s (e ∷ before) (noted (passed_of s e before) k)
  tied_next = by_sequence (on h) refl
