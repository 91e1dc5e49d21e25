-- A sequence of plain events ended by leaving its range where its last instruction moved the pc out, and its thread isn't inside before
-- the hart's next event; and its last event is the last that goes on with it.
use Rattle.std.proofs.Common.{◌≡◌, ◌≢◌, ℕ, ◌+◌, suc, List, [], ◌∷◌, ◌++◌, length, refl, sym, ap, ◌∙◌, subst, arith, Bool, true, false, not, cond, eqb, ◌&&◌, ◌||◌, Option, Some, None, is_some, inl, inr, ◌⊎◌, append_assoc}
use Rattle.std.specs.List.{AllByRecursion, fold}
use Rattle.std.specs.Option.{option_map_or}
use Rattle.std.proofs.lemmas.Bool.{cases_Bool, eqb-false, eqb-true, false≢true}
use Rattle.mach_types.proofs.Laws.{eqb_same}
use Rattle.mach_types.specs.Events.{choice_of, choice_with, is_instruction, is_preempt}
use Rattle.mach_types.specs.Kernel.Areas.{is_inside_named}
use Rattle.mach_types.specs.Kernel.Threads.{running_on}
use Rattle.mach_types.specs.declared.events.Entry.{Entry}
use Rattle.mach_types.specs.declared.events.Kind.{Kind}
use Rattle.mach_types.specs.declared.events.Kind.TheVariants as kind
use Rattle.mach_types.specs.declared.sequences.Named.TheVariants as names
use Rattle.mach_types.specs.declared.threads.Saved.{Saved}
use Rattle.mach_types.specs.declared.user_memory.Store.{Store}
use Rattle.block_model.proofs.Laws.{IsFit, history-append, next_event, run_before, same_here}
use Rattle.block_model.specs.Acts.{Sequence as Known, abort_of, cut_or, end_at_verdict, end_before, end_so_far, has_died, has_killed, is_fatal, is_inside_at, is_taken_in, left_or_dropped, moved_out, named_at, with_event}
use Rattle.block_model.specs.declared.acts.SeqEnd.TheVariants as ends
use Rattle.block_model.specs.Deciding.{done, event, history}
use Rattle.block_model.specs.Events.{done_of}
use Rattle.block_model.specs.Here.{Done, Here, runs}
use Rattle.block_model.specs.History.{Event, History, file, file_among, here_in_history, kernel, running}
use Rattle.block_model.specs.Plain.{here_of}
use Rattle.block_model.specs.Record.{Kernel}
use Rattle.block_model.specs.Run.{IsBlockRun}
use Rattle.block_model.specs.Sequences.{is_inside_waiting, named_here}
use Rattle.block_model.specs.Setting.{Setting}
use Rattle.block_view.specs.Acts.{Whole, begins_to_run, followed, verdict}
use Rattle.block_view.specs.Counting.{is_left}
use Rattle.log_gather.specs.LogEvents.{LogEvent, entry_of, is_own, log_event, log_events, facts_of}
use Rattle.log_gather.specs.Spans.{after_act, begins_act, goes_on, is_inside_at_place, is_inside_next, rest_of_act}
use Rattle.block_model.specs.PlainEvents.{is_plain}
use Rattle.block_model.proofs.Swaps.PlainDone.{plain_drain, plain_done}
use Rattle.log_gather.specs.Facts.{Place, facts_at, here_at, moves_out_on, next_place, place_after, place_from, with_files}
use Rattle.log_gather.proofs.NamedSequences.{IsPlaced, events_after, inside_is, placed_next, quiet_is}
use Rattle.log_gather.proofs.GatheredSpans.{place-more}
use Rattle.block_model.proofs.Swaps.PlainEvents.{done_is_plain}
use Rattle.block_model.proofs.Swaps.Logs.{last_decided, seen}

-- AN EVENT'S DEEDS

fit_after : (s : Setting) (earlier : List Entry) (e : Entry) → IsBlockRun s (earlier ++ e ∷ []) → IsFit (here_in_history s (history s earlier) e.hart.0) (event s (history s earlier) e).done
unfolding done
fit_after s earlier e run =
    let none = run_before s earlier (e ∷ []) run in
    let v = seen s earlier in
    let x = next_event v e (done_of (choice_of e) (here_of v e.hart.0)) none (last_decided s earlier e run) refl in
    subst (λ here. IsFit here (done_of (choice_of e) here)) (same_here v e.hart.0 none) x.fit

pub plain_kind : (k : Kind) (e : Entry) (here : Here) → is_plain (choice_with k e) here ≡ true → (k ≡ kind.Exec) ⊎ (k ≡ kind.Drain)
plain_kind kind.Exec e here plain = inl refl
plain_kind kind.Drain e here plain = inr refl
plain_kind k e here plain = absurd (false≢true plain)

-- a plain event leaves the record, and ends nothing
pub record IsQuiet (s : Setting) (before : History) (e : Entry) : Type 0 where
  pub same : (event s before e).done.kernel ≡ kernel s before
  pub alive : has_killed (event s before e) ≡ false
  pub drain : e.kind ≡ kind.Drain → (t : ℕ) (f : Saved) → file_among (event s before e).done.files t f ≡ f

drain_files : (r : Option ℕ) (ws : List Store) (t : ℕ) (f : Saved) → file_among (plain_drain r ws).files t f ≡ f
drain_files r [] t f = refl
drain_files r (w ∷ ws) t f = refl

pub quiet : (s : Setting) (before : History) (e : Entry) → is_plain (choice_of e) (here_in_history s before e.hart.0) ≡ true → IsQuiet s before e
unfolding done
quiet s before e plain =
    let here = here_in_history s before e.hart.0 in
    let did = done_is_plain (choice_of e) here plain in
    record {
      same = ap (λ (d : Done). d.kernel) did;
      alive = ap (λ (d : Done). is_some d.ended) did;
      drain = λ is t f.
          ap (λ (d : Done). file_among d.files t f) did
          ∙ ap (λ k. file_among (plain_done (choice_with k e) here).files t f) is ∙ drain_files here.reserved (here.waiting here.hart) t f;
    }

-- A SEQUENCE THAT GOES ON

pub record IsGoing (s : Setting) (p : Place) (before : History) (h : ℕ) (q : Known) (moved : Bool) : Type 0 where
  pub hart : q.hart ≡ h
  pub runs_there : running s h before ≡ Some q.thread
  pub file_is : file s q.thread before ≡ file s q.thread q.reached
  pub moved_is : moved_out s q ≡ moved
  pub alive : has_died q ≡ false
  pub within : p.within h ≡ true

going_other : (s : Setting) (earlier : List Entry) (p : Place) (e : Entry) (h : ℕ) (q : Known) (m : Bool) → IsBlockRun s (earlier ++ e ∷ []) → eqb e.hart.0 h ≡ false → IsGoing s p (history s earlier) h q m
    → IsGoing s (next_place s p e) (event s (history s earlier) e ∷ history s earlier) h q m
going_other s earlier p e h q m run other g =
    let fit = fit_after s earlier e run in
    let ne : h ≢ e.hart.0 = λ same. eqb-false e.hart.0 h other (sym same) in
    record {
      hart = g.hart;
      runs_there = fit.others h ne ∙ g.runs_there;
      file_is = fit.apart h q.thread (file s q.thread (history s earlier)) ne g.runs_there ∙ g.file_is;
      moved_is = g.moved_is;
      alive = g.alive;
      within = ap (λ b. cond b (facts_at s p e).within (p.within h)) other ∙ g.within;
    }

named_is : (s : Setting) (before : History) (h t : ℕ) → running s h before ≡ Some t → named_at s h before ≡ named_here (here_in_history s before h) t
named_is s before h t at = ap (λ o. option_map_or (named_here (here_in_history s before h)) o names.Nothing) at

pub moves_is : (s : Setting) (p : Place) (before : History) (e : Entry) (t : ℕ) → IsPlaced s p before → (facts_at s p e).plain ≡ true → running s e.hart.0 before ≡ Some t
    → (facts_at s p e).moves_out ≡ not (is_inside_named (named_at s e.hart.0 before) (file s t (event s before e ∷ before)).pc)
unfolding done
moves_is s p before e t at plain runs_there =
    let here = here_in_history s before e.hart.0 in
    let there = here_at s p e in
    ap (λ b. b && moves_out_on there (with_files (done_of (choice_of e) there).files there) (runs there)) plain
    ∙ ap (λ z. moves_out_on z (with_files (done_of (choice_of e) z).files z) (runs z)) (at.here e.hart.0)
    ∙ ap (moves_out_on here (with_files (done_of (choice_of e) here).files here)) runs_there
    ∙ ap (λ n. not (is_inside_named n (file s t (event s before e ∷ before)).pc)) (sym (named_is s before e.hart.0 t runs_there))

abbrev pub step_moved : Bool → LogEvent → ℕ → Bool
step_moved m x h = cond (is_own h x && is_instruction (entry_of x).kind) x.facts.moves_out m

going_own : (s : Setting) (earlier : List Entry) (p : Place) (e : Entry) (q : Known) (m : Bool) → IsPlaced s p (history s earlier) → (facts_at s p e).plain ≡ true → (facts_at s p e).within ≡ true → IsGoing s p (history s earlier) e.hart.0 q m
    → IsGoing s (next_place s p e) (event s (history s earlier) e ∷ history s earlier) e.hart.0 (with_event (event s (history s earlier) e) (history s earlier) q) (step_moved m (log_event s p e) e.hart.0)
going_own s earlier p e q m at plain within g =
    let h = e.hart.0 in
    let before = history s earlier in
    let plain_here = ap (is_plain (choice_of e)) (sym (at.here h)) ∙ plain in
    let calm = quiet s before e plain_here in
    record {
      hart = g.hart;
      runs_there = ap (λ (k : Kernel). running_on h k.threads) calm.same ∙ g.runs_there;
      file_is = refl;
      moved_is = by_kind (plain_kind e.kind e (here_in_history s before h) plain_here) calm;
      alive = calm.alive;
      within = ap (λ b. cond b (facts_at s p e).within (p.within h)) (eqb_same h) ∙ within;
    }
  where
    by_kind : (e.kind ≡ kind.Exec) ⊎ (e.kind ≡ kind.Drain) → IsQuiet s (history s earlier) e
        → moved_out s (with_event (event s (history s earlier) e) (history s earlier) q) ≡ step_moved m (log_event s p e) e.hart.0
    by_kind (inl is) calm =
        let before = history s earlier in
        let f = (file s q.thread (event s before e ∷ before)).pc in
        ap (λ k. not (is_inside_named (named_at s q.hart (cond (is_instruction k) before q.last_instruction)) f)) is
        ∙ ap (λ k. not (is_inside_named (named_at s k before) f)) g.hart
        ∙ sym (moves_is s p before e q.thread at plain g.runs_there)
        ∙ sym (ap (λ b. cond (b && is_instruction e.kind) (facts_at s p e).moves_out m) (eqb_same e.hart.0) ∙ ap (λ k. cond (is_instruction k) (facts_at s p e).moves_out m) is)
    by_kind (inr is) calm =
        let before = history s earlier in
        ap (λ k. not (is_inside_named (named_at s q.hart (cond (is_instruction k) before q.last_instruction)) (file s q.thread (event s before e ∷ before)).pc)) is
        ∙ ap (λ (f : Saved). not (is_inside_named (named_at s q.hart q.last_instruction) f.pc)) (calm.drain is q.thread (file s q.thread before) ∙ g.file_is)
        ∙ g.moved_is
        ∙ sym (ap (λ b. cond (b && is_instruction e.kind) (facts_at s p e).moves_out m) (eqb_same e.hart.0) ∙ ap (λ k. cond (is_instruction k) (facts_at s p e).moves_out m) is)

-- HOW IT ENDS

pub and_false : (b : Bool) → (b && false) ≡ false
and_false true = refl
and_false false = refl

pub and_true : (b : Bool) → (b && true) ≡ b
and_true true = refl
and_true false = refl

left_by : (s : Setting) (q : Known) (d f m i : Bool) (a : Option ℕ) → d ≡ false → moved_out s q ≡ m
    → is_left (cond (d || (f && not (m && not i))) ends.Dead (cut_or (left_or_dropped s q i) i a)) ≡ (m && not i)
left_by s q true f m i a alive moved = absurd (false≢true (sym alive))
left_by s q false true m true None alive moved = rw (and_false m) refl
left_by s q false true m true (Some x) alive moved = rw (and_false m) refl
left_by s q false false m true None alive moved = rw (and_false m) refl
left_by s q false false m true (Some x) alive moved = rw (and_false m) refl
left_by s q false true true false None alive moved = rw moved refl
left_by s q false true true false (Some x) alive moved = rw moved refl
left_by s q false true false false a alive moved = refl
left_by s q false false true false None alive moved = rw moved refl
left_by s q false false true false (Some x) alive moved = rw moved refl
left_by s q false false false false None alive moved = rw moved refl
left_by s q false false false false (Some x) alive moved = rw moved refl

left_before : (s : Setting) (q : Known) (e : Event) (before : History) (m : Bool) → moved_out s q ≡ m → has_died q ≡ false → is_left (end_before s q e before) ≡ (m && not (is_inside_at s q.hart before))
left_before s q e before m moved alive =
    let i = is_inside_at s q.hart before in
    let a = abort_of e.done.interrupted in
    ap (λ b. is_left (cond (has_died q || (is_fatal e && not (b && not i))) ends.Dead (cut_or (left_or_dropped s q i) i a))) moved
    ∙ left_by s q (has_died q) (is_fatal e) m i a alive moved

left_so_far : (s : Setting) (q : Known) (before : History) (m : Bool) → moved_out s q ≡ m → has_died q ≡ false → is_left (end_so_far s q before) ≡ (m && not (is_inside_at s q.hart before))
left_so_far s q before m moved alive = go (has_died q) (is_inside_at s q.hart before) m alive moved
  where
    go : (d i m : Bool) → d ≡ false → moved_out s q ≡ m → is_left (cond d ends.Dead (left_or_dropped s q i)) ≡ (m && not i)
    go true i m alive moved = absurd (false≢true (sym alive))
    go false true m alive moved = sym (and_false m)
    go false false true alive moved = rw moved refl
    go false false false alive moved = rw moved refl

-- one that hangs doesn't end by leaving
never_left : (k i : Bool) (a : Option ℕ) → is_left (cond k ends.Dead (cut_or (cond i ends.Unended ends.Dropped) i a)) ≡ false
never_left true i a = refl
never_left false true None = refl
never_left false true (Some x) = refl
never_left false false None = refl
never_left false false (Some x) = refl

hangs_on : (s : Setting) (q : Known) (before : History) (later : List Event) → is_left (verdict s q before later) ≡ false
hangs_on s q before [] = refl
hangs_on s q before (e ∷ later) = go (begins_to_run q.thread e) (hangs_on s q (e ∷ before) later)
  where
    go : (b : Bool) → is_left (verdict s q (e ∷ before) later) ≡ false → is_left (cond b (end_at_verdict s q e before) (verdict s q (e ∷ before) later)) ≡ false
    go true rest = never_left (has_killed e) (is_inside_waiting (here_in_history s before e.entry.hart.0) q.thread) (abort_of e.done.interrupted)
    go false rest = rest

-- WHAT FOLLOWS

-- where an act doesn't go on there is no rest of it
pub stops : (h : ℕ) (ms : List LogEvent) → goes_on facts_of h ms ≡ false → (rest_of_act facts_of h ms ≡ []) × (after_act facts_of h ms ≡ ms)
stops h [] over = (refl, refl)
stops h (x ∷ ms) over = rw over (refl, refl)

abbrev pub Plain : ℕ → LogEvent → Type 0
Plain h x = is_own h x ≡ true → x.facts.plain ≡ true

abbrev pub moved_by : ℕ → Bool → List LogEvent → Bool
moved_by h m ms = fold (λ w x. step_moved w x h) m ms

-- by which a sequence that goes on ended, and what its last event is
pub record IsFollowed (h : ℕ) (w : Whole) (m : Bool) (at_end : Bool) (placed reached : ℕ) (ms : List LogEvent) : Type 0 where
  pub left : is_left w.end ≡ (moved_by h m (rest_of_act facts_of h ms) && not (is_inside_next h at_end (after_act facts_of h ms)))
  pub last : length w.sequence.reached ≡ cond (goes_on facts_of h ms) (placed + length (rest_of_act facts_of h ms)) reached

other_followed : (h : ℕ) (w : Whole) (m at_end : Bool) (placed reached : ℕ) (x : LogEvent) (ms : List LogEvent) → is_own h x ≡ false → IsFollowed h w m at_end (suc placed) reached ms → IsFollowed h w m at_end placed reached (x ∷ ms)
other_followed h w m at_end placed reached x ms other rest = go (goes_on facts_of h ms) refl
  where
    goes : (b : Bool) → goes_on facts_of h ms ≡ b → goes_on facts_of h (x ∷ ms) ≡ b
    goes b is = ap (λ o. cond o (not (begins_act x.facts)) (goes_on facts_of h ms)) other ∙ is

    go : (b : Bool) → goes_on facts_of h ms ≡ b → IsFollowed h w m at_end placed reached (x ∷ ms)
    go true is = record {
      left = rest.left
          ∙ ap (λ v. moved_by h v (rest_of_act facts_of h ms) && not (is_inside_next h at_end (after_act facts_of h ms))) (sym (ap (λ o. cond (o && is_instruction (entry_of x).kind) x.facts.moves_out m) other))
          ∙ sym (ap (λ b. moved_by h m (cond b (x ∷ rest_of_act facts_of h ms) []) && not (is_inside_next h at_end (cond b (after_act facts_of h ms) (x ∷ ms)))) (goes true is));
      last = rest.last ∙ ap (λ b. cond b (suc placed + length (rest_of_act facts_of h ms)) reached) is
          ∙ omega arith
          ∙ sym (ap (λ b. cond b (placed + length (cond b (x ∷ rest_of_act facts_of h ms) [])) reached) (goes true is));
    }
    go false is =
        let over = stops h ms is in
        record {
          left = rest.left
              ∙ ap (λ r. moved_by h m r && not (is_inside_next h at_end (after_act facts_of h ms))) over.0
              ∙ ap (λ l. m && not (is_inside_next h at_end l)) over.1
              ∙ sym (ap (λ o. m && not (cond o x.facts.inside (is_inside_next h at_end ms))) other)
              ∙ sym (ap (λ b. moved_by h m (cond b (x ∷ rest_of_act facts_of h ms) []) && not (is_inside_next h at_end (cond b (after_act facts_of h ms) (x ∷ ms)))) (goes false is));
          last = rest.last ∙ ap (λ b. cond b (suc placed + length (rest_of_act facts_of h ms)) reached) is
              ∙ sym (ap (λ b. cond b (placed + length (cond b (x ∷ rest_of_act facts_of h ms) [])) reached) (goes false is));
        }

taken_followed : (h : ℕ) (w : Whole) (m at_end : Bool) (placed reached : ℕ) (x : LogEvent) (ms : List LogEvent) → goes_on facts_of h (x ∷ ms) ≡ true → IsFollowed h w (step_moved m x h) at_end (suc placed) (suc placed) ms
    → IsFollowed h w m at_end placed reached (x ∷ ms)
taken_followed h w m at_end placed reached x ms goes rest = record {
  left = rest.left ∙ sym (ap (λ b. moved_by h m (cond b (x ∷ rest_of_act facts_of h ms) []) && not (is_inside_next h at_end (cond b (after_act facts_of h ms) (x ∷ ms)))) goes);
  last = rest.last ∙ either (goes_on facts_of h ms) refl ∙ omega arith
      ∙ sym (ap (λ b. cond b (placed + length (cond b (x ∷ rest_of_act facts_of h ms) [])) reached) goes);
}
  where
    either : (b : Bool) → goes_on facts_of h ms ≡ b → cond b (suc placed + length (rest_of_act facts_of h ms)) (suc placed) ≡ suc placed + length (rest_of_act facts_of h ms)
    either true is = refl
    either false is = rw (stops h ms is).0 (omega arith)

over_followed : (h : ℕ) (w : Whole) (m at_end : Bool) (placed : ℕ) (q : Known) (x : LogEvent) (ms : List LogEvent) → is_own h x ≡ true → goes_on facts_of h (x ∷ ms) ≡ false
    → w.sequence ≡ q → is_left w.end ≡ (m && not x.facts.inside) → IsFollowed h w m at_end placed (length q.reached) (x ∷ ms)
over_followed h w m at_end placed q x ms own_is goes same left = record {
  left = left ∙ sym (ap (λ o. m && not (cond o x.facts.inside (is_inside_next h at_end ms))) own_is)
      ∙ sym (ap (λ b. moved_by h m (cond b (x ∷ rest_of_act facts_of h ms) []) && not (is_inside_next h at_end (cond b (after_act facts_of h ms) (x ∷ ms)))) goes);
  last = ap (λ (k : Known). length k.reached) same
      ∙ sym (ap (λ b. cond b (placed + length (cond b (x ∷ rest_of_act facts_of h ms) [])) (length q.reached)) goes);
}

fewer_rest : (h : ℕ) (x : LogEvent) (ms : List LogEvent) → is_own h x ≡ false → AllByRecursion (Plain h) (rest_of_act facts_of h (x ∷ ms)) → AllByRecursion (Plain h) (rest_of_act facts_of h ms)
fewer_rest h x ms other all = go (goes_on facts_of h ms) refl
  where
    go : (b : Bool) → goes_on facts_of h ms ≡ b → AllByRecursion (Plain h) (rest_of_act facts_of h ms)
    go true is =
        let goes : goes_on facts_of h (x ∷ ms) ≡ true = ap (λ o. cond o (not (begins_act x.facts)) (goes_on facts_of h ms)) other ∙ is in
        let more : AllByRecursion (Plain h) (x ∷ rest_of_act facts_of h ms) = subst (λ b. AllByRecursion (Plain h) (cond b (x ∷ rest_of_act facts_of h ms) [])) goes all in
        more.1
    go false is = subst (AllByRecursion (Plain h)) (sym (stops h ms is).0) tt

pub continues : (w was : Bool) → was ≡ true → not (not w || (w && not was)) ≡ w
continues true was is = rw is refl
continues false was is = refl

pub taken_is : (i w t n : Bool) → w ≡ true → (i && cond w t n) ≡ (i && t)
taken_is i w t n is = rw is refl

abbrev after_if : Bool → Bool → Bool → Whole → Whole → Whole → Whole → Whole
after_if own taken hangs a b c d = cond (not own) a (cond taken b (cond hangs c d))

pub followed_is : (s : Setting) (earlier rest : List Entry) (p : Place) (q : Known) (m : Bool) → place_after s earlier ≡ p → IsBlockRun s (earlier ++ rest) → IsPlaced s p (history s earlier)
    → IsGoing s p (history s earlier) q.hart q m → AllByRecursion (Plain q.hart) (rest_of_act facts_of q.hart (log_events s p rest))
    → IsFollowed q.hart (followed s q (history s earlier) (events_after s (history s earlier) rest)) m (is_inside_at_place s (place_from s p rest) q.hart) (length (history s earlier)) (length q.reached) (log_events s p rest)
followed_is s earlier [] p q m at run placed g plain = record {
  left = left_so_far s q (history s earlier) m g.moved_is g.alive ∙ ap (λ b. m && not b) (sym (inside_is s p (history s earlier) q.hart placed));
  last = refl;
}
followed_is s earlier (e ∷ rest) p q m at run placed g plain =
    let h = q.hart in
    let before = history s earlier in
    let x = event s before e in
    let there = next_place s p e in
    let ms = log_events s there rest in
    let later = events_after s (x ∷ before) rest in
    let at_end = is_inside_at_place s (place_from s there rest) h in
    let longer : IsBlockRun s ((earlier ++ e ∷ []) ++ rest) = subst (λ (l : List Entry). IsBlockRun s l) (sym (append_assoc earlier (e ∷ []) rest)) run in
    let one = run_before s (earlier ++ e ∷ []) rest longer in
    let placed_there = placed_next s earlier p e at one placed in
    let at_next : place_after s (earlier ++ e ∷ []) ≡ there = place-more s earlier (e ∷ []) ∙ ap (λ q. next_place s q e) at in
    let is = history-append s earlier e in
    let go_on : (r : Known) (m : Bool) → IsGoing s there (x ∷ before) r.hart r m → AllByRecursion (Plain r.hart) (rest_of_act facts_of r.hart ms)
    → IsFollowed r.hart (followed s r (x ∷ before) later) m (is_inside_at_place s (place_from s there rest) r.hart) (suc (length before)) (length r.reached) ms =
    λ r m g all.
    subst (λ b. IsFollowed r.hart (followed s r b (events_after s b rest)) m (is_inside_at_place s (place_from s there rest) r.hart) (length b) (length r.reached) ms) is
    (followed_is s (earlier ++ e ∷ []) rest there r m at_next longer (subst (IsPlaced s there) (sym is) placed_there) (subst (λ b. IsGoing s there b r.hart r m) (sym is) g) all) in
    let inside = is_inside_at s h before in
    let taken = inside && is_taken_in e.kind x.done.interrupted in
    let hangs = inside && is_preempt e.kind in
    let a = followed s q (x ∷ before) later in
    let b = followed s (with_event x before q) (x ∷ before) later in
    let c : Whole = record { sequence = q; end = verdict s q (x ∷ before) later } in
    let d : Whole = record { sequence = q; end = end_before s q x before } in
    elim (cases_Bool (eqb e.hart.0 h)) [
      | inr other ↦
          subst (λ w. IsFollowed h w m at_end (length before) (length q.reached) (log_event s p e ∷ ms)) (sym (ap (λ o. after_if o taken hangs a b c d) other))
          (other_followed h a m at_end (length before) (length q.reached) (log_event s p e) ms other
          (go_on q m (going_other s earlier p e h q m one other g) (fewer_rest h (log_event s p e) ms other plain)))
      | inl own ↦
          let hh = eqb-true e.hart.0 h own in
          let was : p.within e.hart.0 ≡ true = ap p.within hh ∙ g.within in
          let w = (facts_at s p e).within in
          let goes : goes_on facts_of h (log_event s p e ∷ ms) ≡ w =
          ap (λ o. cond o (not (begins_act (facts_at s p e))) (goes_on facts_of h ms)) own ∙ continues w (p.within e.hart.0) was in
          let inside_is_fact : (facts_at s p e).inside ≡ inside = inside_is s p before e.hart.0 placed ∙ ap (λ k. is_inside_at s k before) hh in
          let taken_fact : w ≡ taken =
          taken_is (facts_at s p e).inside (p.within e.hart.0) (is_taken_in e.kind (done_of (choice_of e) (here_at s p e)).interrupted) (is_instruction e.kind) was
          ∙ ap (λ i. i && is_taken_in e.kind (done_of (choice_of e) (here_at s p e)).interrupted) inside_is_fact
          ∙ ap (λ o. inside && is_taken_in e.kind o) (quiet_is s p before e placed) in
          elim (cases_Bool w) [
            | inl within ↦
                let goes_on_is = goes ∙ within in
                let all : AllByRecursion (Plain h) (log_event s p e ∷ rest_of_act facts_of h ms) = subst (λ b. AllByRecursion (Plain h) (cond b (log_event s p e ∷ rest_of_act facts_of h ms) [])) goes_on_is plain in
                let going = subst (λ k. IsGoing s there (x ∷ before) k (with_event x before q) (step_moved m (log_event s p e) k)) hh
                (going_own s earlier p e q m placed (all.0 own) within (subst (λ k. IsGoing s p before k q m) (sym hh) g)) in
                subst (λ z. IsFollowed h z m at_end (length before) (length q.reached) (log_event s p e ∷ ms))
                (sym (ap (λ o. after_if o taken hangs a b c d) own ∙ ap (λ t. after_if true t hangs a b c d) (sym taken_fact ∙ within)))
                (taken_followed h b m at_end (length before) (length q.reached) (log_event s p e) ms goes_on_is (go_on (with_event x before q) (step_moved m (log_event s p e) h) going all.1))
            | inr over ↦
                subst (λ z. IsFollowed h z m at_end (length before) (length q.reached) (log_event s p e ∷ ms))
                (sym (ap (λ o. after_if o taken hangs a b c d) own ∙ ap (λ t. after_if true t hangs a b c d) (sym taken_fact ∙ over)))
                (elim (cases_Bool hangs) [
                  | inl hanging ↦
                      subst (λ z. IsFollowed h z m at_end (length before) (length q.reached) (log_event s p e ∷ ms)) (sym (ap (λ t. cond t c d) hanging))
                      (over_followed h c m at_end (length before) q (log_event s p e) ms own (goes ∙ over) refl
                      (hangs_on s q (x ∷ before) later ∙ sym (ap (λ i. m && not i) (inside_is_fact ∙ first_of inside (is_preempt e.kind) hanging) ∙ and_false m)))
                  | inr ends_it ↦
                      subst (λ z. IsFollowed h z m at_end (length before) (length q.reached) (log_event s p e ∷ ms)) (sym (ap (λ t. cond t c d) ends_it))
                      (over_followed h d m at_end (length before) q (log_event s p e) ms own (goes ∙ over) refl
                      (left_before s q x before m g.moved_is g.alive ∙ sym (ap (λ i. m && not i) inside_is_fact)))
                ])
          ]
    ]
  where
    first_of : (a b : Bool) → (a && b) ≡ true → a ≡ true
    first_of true b is = refl
    first_of false b is = is
