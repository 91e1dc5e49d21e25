-- The area of a thread that runs tells its processor (rseq(2), `cpu_id`), as its hart sees it.
use Rattle.std.proofs.Common.{◌≡◌, ◌≢◌, ℕ, zero, suc, ◌+◌, ◌<◌, ◌≤◌, ◌^◌, List, [], ◌∷◌, ◌++◌, refl, sym, ap}
use Rattle.std.proofs.Common.{◌∙◌, arith, subst, Bool, true, false, cond, eqb, Some, None, ◌⊎◌, inl, inr, drop}
use Rattle.std.proofs.Common.{append-nil}
use Rattle.std.proofs.lemmas.Bool.{eqb-true, eqb-false, false≢true}
use Rattle.mach_types.specs.Bytes.{byte_after, byte_over, each_byte, overlay, word_at, written}
use Rattle.mach_types.specs.Events.{choice_with}
use Rattle.mach_types.proofs.Laws.{kind_is_not}
use Rattle.mach_types.specs.Kernel.Areas.{area_of, words_entered, words_on, words_written, writes_of}
use Rattle.mach_types.specs.Kernel.Threads.{is_ready, running_on}
use Rattle.mach_types.specs.declared.events.Kind.{Kind}
use Rattle.mach_types.specs.declared.events.Kind.TheVariants as kind
use Rattle.mach_types.specs.declared.sequences.Area.{Area}
use Rattle.mach_types.specs.declared.sequences.Outcome.{Outcome}
use Rattle.mach_types.specs.declared.sequences.Outcome.TheVariants as comes_to
use Rattle.mach_types.specs.declared.user_memory.Store.{Store}
use Rattle.mach_types.specs.declared.user_memory.Write.{Write}
use Rattle.block_model.specs.Events.{done_of, refusal_of}
use Rattle.block_model.specs.Record.{Kernel}
use Rattle.block_model.specs.Events.Drain.{done_drain_of}
use Rattle.block_model.specs.Events.Run.{done_killed, done_run, done_running, lives_on, refusal_run}
use Rattle.block_model.specs.Here.{Done, Here, waiting_here}
use Rattle.block_model.specs.History.{Event, History, byte, here_in_history, kernel, running, waiting}
use Rattle.block_model.specs.Ids.{id_of, next_id}
use Rattle.block_model.specs.Run.{IsRunHistory}
use Rattle.block_model.specs.Sequences.{area_here, can_write_words, interruption_here, words_to}
use Rattle.block_model.specs.Setting.{Setting}
use Rattle.block_model.proofs.Laws.{IsAreaAfter, IsStep, area_stays, drains_none, new_area, no_area}
use Rattle.block_model.proofs.Laws.{not_ready, one_hart, own_area, ran_before, ran_runs, run_ready}
use Rattle.block_model.proofs.Laws.{runs_apart, stays_area, step_of}
use Rattle.alone_laws.specs.Areas.{LeavesProcessor, ProcessorKept}
use Rattle.alone_laws.specs.Blocks.{among}
use Rattle.alone_laws.specs.Spans.{Leaves, seen_at, sees}
use Rattle.alone_laws.proofs.Sequences.{each_among}
use Rattle.alone_laws.proofs.StoredWords.{beside_word, stored_word}
use Rattle.alone_laws.proofs.Steps.{IsIdle, drain_idle, overlay_append, sees_idle, sees_apart, word_same}

some_same : (u t : ℕ) → Some u ≡ Some t → u ≡ t
some_same u t is = cc

drop_none : (n : ℕ) → drop n (let xs : List Store = [] in xs) ≡ []
drop_none zero = refl
drop_none (suc n) = refl

no_one : (a : Area) → None ≡ Some a → ⊥
no_one a is = cc

same_area : (a b : Area) → Some a ≡ Some b → a ≡ b
same_area a b is = cc

never : (t : ℕ) → None ≡ Some t → ⊥
never t is = cc

-- who lives on at his beginning to run has the words of his area written
lives_words : (here : Here) (u : ℕ) (o : Outcome) → lives_on here u o ≡ true
    → can_write_words here (area_here here u) ≡ true
lives_words here u comes_to.Nothing is = is
lives_words here u comes_to.Cleared is = is
lives_words here u (comes_to.Aborted at) is = is
lives_words here u (comes_to.Killed why) is = absurd (false≢true is)

-- one of the area's two words with the processor: cpu_id_start or cpu_id
module _ (s : Setting) (t : ℕ) (area : Area) (off : ℕ) (word : (off ≡ 0) ⊎ (off ≡ 4)) (few : s.limits.harts ≤ 8)
  where
    -- the area tells processor h
    abbrev Tells : ℕ → History → Type 0
    Tells h before = word_at (seen_at s h before) (area.at + off) 4 ≡ Some h

    in_words : each_byte (among area.at 8) (area.at + off) 4 ≡ true
    in_words =
        let near = at_most word in
        each_among area.at 8 (area.at + off) 4 (omega arith) (omega arith)
      where
        at_most : (off ≡ 0) ⊎ (off ≡ 4) → off ≤ 4
        at_most (inl is) = omega (arith, is)
        at_most (inr is) = omega (arith, is)

    -- it does where the hart sees the same as before
    still : (h : ℕ) (now before : History) → ((a : ℕ) → among area.at 8 a ≡ true → sees s h now a ≡ sees s h
        before a) → Tells h before → Tells h now
    still h now before same was =
        word_same (among area.at 8) (seen_at s h now) (seen_at s h before) (λ a has. ap Some (same a has))
        (area.at + off) 4 in_words ∙ was

    -- after an event of another hart
    told_apart : (h : ℕ) (e : Event) (before : History) → IsRunHistory s (e ∷ before)
        → LeavesProcessor s t area e before → eqb e.entry.hart.0 h ≡ false
        → running s h before ≡ Some t → area_of t (kernel s before).areas ≡ Some area → Tells h before
        → Tells h (e ∷ before)
    told_apart h e before run kept apart at had was =
        let step = step_of s e before run in
        let elsewhere : running s e.entry.hart.0 before ≢ Some t = λ there. eqb-false e.entry.hart.0 h apart
        (sym (one_hart s e before step h t at e.entry.hart.0 there)) in
        let begins : e.entry.kind ≡ kind.Run → e.entry.tid.0 ≢ t =
        λ is same.
        let free : refusal_run (here_in_history s before e.entry.hart.0) e.entry.tid.0 ≡ None = sym
        (ap (λ k. refusal_of (choice_with k e.entry) (here_in_history s before e.entry.hart.0)) is)
        ∙ step.free in
        let ready = (run_ready (here_in_history s before e.entry.hart.0) e.entry.tid.0 free).1 in
        false≢true (sym (not_ready s e before step h t at) ∙ sym
        (ap (λ n. is_ready n (kernel s before).threads) same) ∙ ready) in
        still h (e ∷ before) before (λ a has. sees_apart s h e before a apart
        (kept.others had elsewhere begins a (byte s before a) has)) was

    -- after one of its own that isn't a drain
    told_own : (e : Event) (before : History) → IsStep s e before → e.done.drained ≡ 0
        → Leaves (among area.at 8) e.done.entered
        → ((a b : ℕ) → among area.at 8 a ≡ true → overlay e.done.executed a b ≡ b)
        → Tells e.entry.hart.0 before → Tells e.entry.hart.0 (e ∷ before)
    told_own e before step none leaves stores was =
        let h = e.entry.hart.0 in
        still h (e ∷ before) before
        (λ a has.
        ap (λ (ws : List Store). overlay ws a (written e.done.entered a (byte s before a)))
        (step.waits ∙ ap (λ n. drop n (waiting h before ++ e.done.executed)) none)
        ∙ overlay_append (waiting h before) e.done.executed a (written e.done.entered a (byte s before a))
        ∙ stores a (overlay (waiting h before) a (written e.done.entered a (byte s before a))) has
        ∙ ap (overlay (waiting h before) a) (leaves a (byte s before a) has))
        was

    -- where a store to the word comes first, and what comes behind it leaves it
    written_append : (xs ys : List Write) (a b : ℕ) → written (xs ++ ys) a b ≡ written ys a (written xs a b)
    written_append [] ys a b = refl
    written_append (x ∷ xs) ys a b = written_append xs ys a (byte_after x a b)

    abbrev stored : ℕ → ℕ → Store
    stored at value = record { at = at; size = 4; value = value }

    abbrev over_two : ℕ → (ℕ → ℕ) → ℕ → ℕ
    over_two h g a = byte_over (stored (area.at + 4) h) a (byte_over (stored area.at h) a (g a))

    words_tell : (h cid : ℕ) (g : ℕ → ℕ) → h < 256 ^ 4
        → word_at (λ a. Some (written (words_written area (words_on h cid)) a (g a))) (area.at + off) 4 ≡ Some h
    words_tell h cid g fits = by_word word
      where
        -- what comes behind the two words
        behind : (from : ℕ) → from + 4 ≤ area.at + 8
            → word_at (λ a. Some (written (words_written area (words_on h cid)) a (g a))) from 4
            ≡ word_at (λ a. Some (over_two h g a)) from 4
        behind from high =
            beside_word (λ a. Some (byte_over (stored (area.at + 20) 0) a (over_two h g a))) (stored (area.at + 24) cid)
            from 4 (inr (omega arith))
            ∙ beside_word (λ a. Some (over_two h g a)) (stored (area.at + 20) 0) from 4 (inr (omega arith))

        by_word : (off ≡ 0) ⊎ (off ≡ 4)
            → word_at (λ a. Some (written (words_written area (words_on h cid)) a (g a))) (area.at + off) 4 ≡ Some h
        by_word (inl is) =
            let same : area.at ≡ area.at + off = omega (arith, is) in
            subst (λ from. word_at (λ a. Some (written (words_written area (words_on h cid)) a (g a))) from 4
            ≡ Some h) same
            (behind area.at (omega arith)
            ∙ beside_word (λ a. Some (byte_over (stored area.at h) a (g a))) (stored (area.at + 4) h) area.at 4
            (inr (omega arith))
            ∙ stored_word g (stored area.at h) fits)
        by_word (inr is) =
            let same : area.at + 4 ≡ area.at + off = omega (arith, is) in
            subst (λ from. word_at (λ a. Some (written (words_written area (words_on h cid)) a (g a))) from 4
            ≡ Some h) same
            (behind (area.at + 4) (omega arith)
            ∙ stored_word (λ a. byte_over (stored area.at h) a (g a)) (stored (area.at + 4) h) fits)

    -- where it begins to run
    told_run : (e : Event) (before : History) → IsRunHistory s (e ∷ before) → e.entry.kind ≡ kind.Run
        → running s e.entry.hart.0 (e ∷ before) ≡ Some t
        → area_of t e.done.kernel.areas ≡ Some area → Tells e.entry.hart.0 (e ∷ before)
    told_run e before run is now has =
        let step = step_of s e before run in
        let h = e.entry.hart.0 in
        let here = here_in_history s before h in
        let u = e.entry.tid.0 in
        let free : refusal_run here u ≡ None = sym (ap (λ k. refusal_of (choice_with k e.entry) here) is)
        ∙ step.free in
        let did : e.done ≡ done_run here u = step.did ∙ ap (λ k. done_of (choice_with k e.entry) here) is in
        by_life e before step free did now has (lives_on here u (interruption_here here u)) refl
      where
        by_life : (e : Event) (before : History) → IsStep s e before
            → refusal_run (here_in_history s before e.entry.hart.0) e.entry.tid.0 ≡ None
            → e.done ≡ done_run (here_in_history s before e.entry.hart.0) e.entry.tid.0
            → running s e.entry.hart.0 (e ∷ before) ≡ Some t → area_of t e.done.kernel.areas ≡ Some area
            → (b : Bool) → lives_on (here_in_history s before e.entry.hart.0) e.entry.tid.0
            (interruption_here (here_in_history s before e.entry.hart.0) e.entry.tid.0) ≡ b
            → Tells e.entry.hart.0 (e ∷ before)
        by_life e before step free did now has false is =
            let here = here_in_history s before e.entry.hart.0 in
            let u = e.entry.tid.0 in
            let killed : e.done ≡ done_killed here u (interruption_here here u) = did
            ∙ ap (λ b. cond b (done_running here u (interruption_here here u))
            (done_killed here u (interruption_here here u))) is in
            absurd (never t (sym (run_ready here u free).0 ∙ sym
            (ap (λ (d : Done). running_on e.entry.hart.0 d.kernel.threads) killed) ∙ now))
        by_life e before step free did now has true is =
            let h = e.entry.hart.0 in
            let here = here_in_history s before h in
            let u = e.entry.tid.0 in
            let o = interruption_here here u in
            let k = kernel s before in
            let w = words_on h (next_id k.ids) in
            let runs_it : e.done ≡ done_running here u o = did
            ∙ ap (λ b. cond b (done_running here u o) (done_killed here u o)) is in
            let may = run_ready here u free in
            let there = ran_runs s.limits.harts h u k.threads k.scheduling step.good.kernel.tables may.1 may.0
            step.good.lt in
            let same : u ≡ t = some_same u t (sym there ∙ sym
            (ap (λ (d : Done). running_on h d.kernel.threads) runs_it) ∙ now) in
            let registered : area_here here u ≡ Some area =
            ap (λ n. area_of n k.areas) same ∙ sym (ap (λ (d : Done). area_of t d.kernel.areas) runs_it)
            ∙ has in
            let can : can_write_words here (Some area) ≡ true = ap (can_write_words here) (sym registered)
            ∙ lives_words here u o is in
            let entered : e.done.entered ≡ writes_of (area_here here u) o ++ words_written area w =
            ap (λ (d : Done). d.entered) runs_it ∙ ap (λ x. writes_of (area_here here u) o ++ words_to here x w)
            registered
            ∙ ap (λ b. writes_of (area_here here u) o ++ words_entered b area w) can in
            let empty : waiting h (e ∷ before) ≡ [] =
            step.waits ∙ ap (λ (d : Done). drop d.drained (waiting h before ++ d.executed)) runs_it
            ∙ append-nil (waiting h before) ∙ step.good.idle h may.0 in
            let g = λ (a : ℕ). written (writes_of (area_here here u) o) a (byte s before a) in
            let seen : (a : ℕ) → sees s h (e ∷ before) a ≡ written (words_written area w) a (g a) =
            λ a. ap (λ (ws : List Store). overlay ws a (written e.done.entered a (byte s before a))) empty
            ∙ ap (λ (ws : List Write). written ws a (byte s before a)) entered
            ∙ written_append (writes_of (area_here here u) o) (words_written area w) a (byte s before a) in
            let low = step.good.lt in
            word_same (among area.at 8) (seen_at s h (e ∷ before))
            (λ a. Some (written (words_written area w) a (g a))) (λ a is. ap Some (seen a)) (area.at + off) 4
            in_words
            ∙ words_tell h (next_id k.ids) g (omega arith)

    -- where it registers the area
    told_new : (e : Event) (before : History) (cid : ℕ) → IsStep s e before
        → e.done.entered ≡ words_written area (words_on e.entry.hart.0 cid) → e.done.executed ≡ []
        → waiting e.entry.hart.0 before ≡ [] → Tells e.entry.hart.0 (e ∷ before)
    told_new e before cid step entered executed empty =
        let h = e.entry.hart.0 in
        let w = words_on h cid in
        let none : waiting h (e ∷ before) ≡ [] =
        step.waits ∙ ap (λ (es : List Store). drop e.done.drained (waiting h before ++ es)) executed
        ∙ ap (λ (ws : List Store). drop e.done.drained (ws ++ [])) empty ∙ drop_none e.done.drained in
        let seen : (a : ℕ) → sees s h (e ∷ before) a ≡ written (words_written area w) a (byte s before a) =
        λ a. ap (λ (ws : List Store). overlay ws a (written e.done.entered a (byte s before a))) none
        ∙ ap (λ (ws : List Write). written ws a (byte s before a)) entered in
        let low = step.good.lt in
        word_same (among area.at 8) (seen_at s h (e ∷ before))
        (λ a. Some (written (words_written area w) a (byte s before a))) (λ a is. ap Some (seen a))
        (area.at + off) 4 in_words
        ∙ words_tell h cid (byte s before) (omega arith)

    -- after an event of its own hart, on which it ran before: one that isn't a drain, and a drain
    told_by : (e : Event) (before : History) (run : IsRunHistory s (e ∷ before))
        → LeavesProcessor s t area e before
        → (other : e.entry.kind ≢ kind.Run) → e.entry.kind ≢ kind.Drain
        → running s e.entry.hart.0 before ≡ Some t
        → area_of t e.done.kernel.areas ≡ Some area
        → (area_of t (kernel s before).areas ≡ Some area → Tells e.entry.hart.0 before)
        → Tells e.entry.hart.0 (e ∷ before)
    told_by e before run kept other no_drain at has was = by_area (own_area s e before run other t at)
      where
        by_area : IsAreaAfter (here_in_history s before e.entry.hart.0) t e.done
            → Tells e.entry.hart.0 (e ∷ before)
        by_area (stays_area same) =
            let step = step_of s e before run in
            let had : area_of t (kernel s before).areas ≡ Some area = sym same ∙ has in
            told_own e before step (drains_none s e before step no_drain) (kept.own at had has no_drain)
            (kept.stores at had)
            (was had)
        by_area (no_area gone) = absurd (no_one area (sym gone ∙ has))
        by_area (new_area a now entered executed empty) =
            let is : a ≡ area = same_area a area (sym now ∙ has) in
            let cid = id_of t (kernel s before).ids in
            told_new e before cid (step_of s e before run)
            (entered ∙ ap (λ (x : Area). words_written x (words_on e.entry.hart.0 cid)) is) executed empty

    told_drain : (e : Event) (before : History) (run : IsRunHistory s (e ∷ before)) → e.entry.kind ≡ kind.Drain
        → area_of t e.done.kernel.areas ≡ Some area
        → (area_of t (kernel s before).areas ≡ Some area → Tells e.entry.hart.0 before)
        → Tells e.entry.hart.0 (e ∷ before)
    told_drain e before run is has was =
        let step = step_of s e before run in
        let here = here_in_history s before e.entry.hart.0 in
        let did : e.done ≡ done_drain_of here (waiting_here here) =
        step.did ∙ ap (λ k. done_of (choice_with k e.entry) here) is in
        let idle = subst (IsIdle here) (sym did) (drain_idle here (waiting_here here) refl) in
        still e.entry.hart.0 (e ∷ before) before (λ a in_it. sees_idle s e before a step idle)
        (was (sym (ap (λ (k : Kernel). area_of t k.areas) idle.kernel) ∙ has))

    told_kind : (e : Event) (before : History) (run : IsRunHistory s (e ∷ before))
        → LeavesProcessor s t area e before
        → running s e.entry.hart.0 (e ∷ before) ≡ Some t → area_of t e.done.kernel.areas ≡ Some area
        → (running s e.entry.hart.0 before ≡ Some t → area_of t (kernel s before).areas ≡ Some area
        → Tells e.entry.hart.0 before)
        → (k : Kind) → e.entry.kind ≡ k → Tells e.entry.hart.0 (e ∷ before)
    told_kind e before run kept now has was kind.Run is = told_run e before run is now has
    told_kind e before run kept now has was kind.Drain is =
        let other = kind_is_not e.entry.kind kind.Drain kind.Run is refl in
        told_drain e before run is has (was (ran_before s e before run other t now))
    told_kind e before run kept now has was k is =
        let other = kind_is_not e.entry.kind k kind.Run is refl in
        let at = ran_before s e before run other t now in
        told_by e before run kept other (kind_is_not e.entry.kind k kind.Drain is refl) at has (was at)

    -- in a run the area of a thread that runs tells its processor
    told : (before : History) (h : ℕ) → IsRunHistory s before → ProcessorKept s t area before
        → running s h before ≡ Some t
        → area_of t (kernel s before).areas ≡ Some area → Tells h before
    told [] h run kept at has = absurd cc
    told (e ∷ before) h run kept at has = by_hart (λ k there was. told before k run.0 kept.0 there was)
        (eqb e.entry.hart.0 h) refl
      where
        by_hart : ((k : ℕ) → running s k before ≡ Some t → area_of t (kernel s before).areas ≡ Some area → Tells
            k before) → (b : Bool) → eqb e.entry.hart.0 h ≡ b → Tells h (e ∷ before)
        by_hart earlier true is =
            let own = eqb-true e.entry.hart.0 h is in
            subst (λ k. Tells k (e ∷ before)) own
            (told_kind e before run kept.1 (ap (λ k. running s k (e ∷ before)) own ∙ at) has
            (earlier e.entry.hart.0) e.entry.kind refl)
        by_hart earlier false is =
            let step = step_of s e before run in
            let there : running s h before ≡ Some t = sym (runs_apart s h e before step is) ∙ at in
            let elsewhere : running s e.entry.hart.0 before ≢ Some t = λ on_it. eqb-false e.entry.hart.0 h is
            (sym (one_hart s e before step h t there e.entry.hart.0 on_it)) in
            told_apart h e before run kept.1 is there (sym (area_stays s e before t run elsewhere) ∙ has)
            (earlier h there (sym (area_stays s e before t run elsewhere) ∙ has))

-- so its cpu_id does, and its cpu_id_start
pub tells : (s : Setting) (t : ℕ) (area : Area) → s.limits.harts ≤ 8 → (before : History) (h : ℕ)
    → IsRunHistory s before → ProcessorKept s t area before → running s h before ≡ Some t
    → area_of t (kernel s before).areas ≡ Some area → word_at (seen_at s h before) (area.at + 4) 4 ≡ Some h
tells s t area few before h run kept at has = told s t area 4 (inr refl) few before h run kept at has

pub tells_first : (s : Setting) (t : ℕ) (area : Area) → s.limits.harts ≤ 8 → (before : History) (h : ℕ)
    → IsRunHistory s before → ProcessorKept s t area before → running s h before ≡ Some t
    → area_of t (kernel s before).areas ≡ Some area → word_at (seen_at s h before) area.at 4 ≡ Some h
tells_first s t area few before h run kept at has =
    let same : area.at + 0 ≡ area.at = omega arith in
    subst (λ from. word_at (seen_at s h before) from 4 ≡ Some h) same
    (told s t area 0 (inl refl) few before h run kept at has)
