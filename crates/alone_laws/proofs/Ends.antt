-- How a sequence of a block ends: 'left' exactly where its thread is out of the block's range.
use Rattle.std.proofs.Common.{◌≡◌, ℕ, [], ◌∷◌, List, refl, sym, ap, ◌∙◌, Bool, true, false, not, ◌&&◌}
use Rattle.std.proofs.Common.{◌||◌, Option, Some, None, is_some, cond, inl, inr}
use Rattle.std.proofs.lemmas.Bool.{false≢true}
use Rattle.mach_types.specs.Events.{choice_with, is_instruction}
use Rattle.mach_types.specs.Kernel.Areas.{is_inside, is_inside_named}
use Rattle.mach_types.specs.declared.events.Kind.{Kind}
use Rattle.mach_types.specs.declared.events.Kind.TheVariants as kind
use Rattle.mach_types.specs.declared.limits.End.{End}
use Rattle.mach_types.specs.declared.sequences.Named.{Named}
use Rattle.mach_types.specs.declared.sequences.Named.TheVariants as names
use Rattle.mach_types.specs.declared.threads.Saved.{Saved}
use Rattle.mach_types.specs.declared.user_memory.Store.{Store}
use Rattle.block_model.specs.declared.acts.SeqEnd.{SeqEnd}
use Rattle.block_model.specs.declared.acts.SeqEnd.TheVariants as ends
use Rattle.block_model.specs.Acts.{Sequence, abort_of, cut_or, end_before, end_so_far, has_died, is_fatal}
use Rattle.block_model.specs.Acts.{is_inside_at, is_taken_in, left_or_dropped, moved_out}
use Rattle.block_model.specs.Acts.{named_at, sequence_on}
use Rattle.block_model.specs.Events.{done_of}
use Rattle.block_model.specs.Events.Drain.{done_drain_of}
use Rattle.block_model.specs.Events.Take.{done_take_by}
use Rattle.block_model.specs.Here.{Done, Here, runs as runs_on, waiting_here}
use Rattle.block_model.specs.History.{Event, History, file, here_in_history, running}
use Rattle.block_model.specs.Run.{IsRunHistory}
use Rattle.block_model.specs.Setting.{Setting}
use Rattle.block_model.proofs.Laws.{Begins, Elsewhere, IsOf, IsStep, Own, SequenceStep, TakesIn}
use Rattle.block_model.proofs.Laws.{sequence_step, step_of}
use Rattle.alone_laws.specs.Blocks.{Block, IsFair, IsFairSince, IsPlaceOf, IsSoFar, IsSole}
use Rattle.alone_laws.specs.Entering.{AreEntered}
use Rattle.alone_laws.specs.Spans.{alone_from, code_of, seen_at}
use Rattle.alone_laws.proofs.Sequences.{exec_kind, is_none_true, sole_so_far, stands, starts}
use Rattle.alone_laws.proofs.Steps.{did_exec}

-- WHAT ENDS NO PROCESS

drain_lives : (here : Here) (ws : List Store) → (done_drain_of here ws).ended ≡ None
drain_lives here [] = refl
drain_lives here (w ∷ ws) = refl

take_lives : (here : Here) (restarts : Bool) (at : Option ℕ) → (done_take_by here restarts at).interrupted ≡ None
    → (done_take_by here restarts at).ended ≡ None
take_lives here false at quiet = refl
take_lives here true None quiet = refl
take_lives here true (Some t) quiet = absurd cc

-- BY WHAT A SEQUENCE IS AT ITS END

unended_left : ends.Unended ≡ ends.Left → ⊥
unended_left is = cc

dropped_left : ends.Dropped ≡ ends.Left → ⊥
dropped_left is = cc

dead_left : ends.Dead ≡ ends.Left → ⊥
dead_left is = cc

cut_left : (at : ℕ) → ends.Cut at ≡ ends.Left → ⊥
cut_left at is = cc

dead_or : (dies : Bool) (x : SeqEnd) → (x ≡ ends.Left → ⊥) → cond dies ends.Dead x ≡ ends.Left → ⊥
dead_or true x other is = dead_left is
dead_or false x other is = other is

not_fatal : (a : Bool) → a && not (true && not false) ≡ false
not_fatal true = refl
not_fatal false = refl

cut_outside : (other : SeqEnd) (o : Option ℕ) → cut_or other false o ≡ other
cut_outside other None = refl
cut_outside other (Some at) = refl

module _ (s : Setting) (q : Sequence) where
  -- its last instruction didn't move it out of what was named
  stayed_in : (inside : Bool) → moved_out s q ≡ false → left_or_dropped s q inside ≡ ends.Left → ⊥
  stayed_in true stays is = unended_left is
  stayed_in false stays is = dropped_left (sym (ap (λ b. cond b ends.Left ends.Dropped) stays) ∙ is)

  cut_stayed : (inside : Bool) (o : Option ℕ) → moved_out s q ≡ false
      → cut_or (left_or_dropped s q inside) inside o ≡ ends.Left → ⊥
  cut_stayed inside None stays is = stayed_in inside stays is
  cut_stayed true (Some at) stays is = cut_left at is
  cut_stayed false (Some at) stays is = stayed_in false stays is

  -- it did, and the thread isn't inside
  gone_out : (inside : Bool) → inside ≡ false → moved_out s q ≡ true → left_or_dropped s q inside ≡ ends.Left
  gone_out true out moved = absurd (false≢true (sym out))
  gone_out false out moved = ap (λ b. cond b ends.Left ends.Dropped) moved

  cut_gone : (inside : Bool) (o : Option ℕ) → inside ≡ false → moved_out s q ≡ true
      → cut_or (left_or_dropped s q inside) inside o ≡ ends.Left
  cut_gone true o out moved = absurd (false≢true (sym out))
  cut_gone false o out moved = cut_outside (left_or_dropped s q false) o ∙ gone_out false refl moved

-- SEQUENCES OF A BLOCK

-- a sequence is of hart h, no event of it ended the process, and before its last instruction the area of its
-- thread named the block's range
record IsAlive (s : Setting) (b : Block) (h : ℕ) (q : Sequence) : Type 0 where
  hart : q.hart ≡ h
  lives : has_died q ≡ false
  named : named_at s h q.last_instruction ≡ names.Good b.range

module _ (s : Setting) (b : Block) (h t : ℕ) (begun : History) (runs : running s h begun ≡ Some t)
    (sole : IsSole (code_of s.program.pages) (seen_at s h begun) (alone_from s h t begun 0) b)
    (begins : is_inside b.range (file s t begun).pc ≡ true) where
  -- where an open sequence's thread is inside what is named, it is inside the block's range
  pub inside_range : (before : History) (r : Sequence) → IsRunHistory s before → IsFairSince s b h t begun before
      → IsPlaceOf s b h t before → sequence_on s h before ≡ Some r → r.begun ≡ begun
      → is_inside_at s h before ≡ true → is_inside b.range (file s t before).pc ≡ true
  inside_range before r run fair place is from inside =
      let so = sole_so_far s b h t begun runs sole before r run fair is from in
      ap (λ (f : Saved). is_inside b.range f.pc) so.1.now.file
      ∙ stands s b h t begun sole before r.reached so.0 place inside so.1

  -- an event of the hart that a sequence takes in ends no process
  lives_kind : (e : Event) (before reached : History) (n : ℕ) (k : Kind) → IsStep s e before
      → IsFair s b h t e before → e.entry.hart.0 ≡ h
      → e.entry.kind ≡ k → is_taken_in k e.done.interrupted ≡ true → is_inside_at s h before ≡ true
      → IsSoFar s b h t begun reached before n → e.done.ended ≡ None
  lives_kind e before reached n kind.Exec step fair own is taken inside was =
      let here = stands s b h t begun sole before reached n fair.place inside was in
      let does = sole.goes n was.below here in
      ap (λ (d : Done). d.ended)
      (did_exec s b.words h t begun e before (alone_from s h t begun n) does.0 step own
      (ap (λ k. choice_with k e.entry) is) fair.place.usable does.1 does.2 (was.inside here))
  lives_kind e before reached n kind.Drain step fair own is taken inside was =
      let here = here_in_history s before e.entry.hart.0 in
      ap (λ (d : Done). d.ended) (step.did ∙ ap (λ k. done_of (choice_with k e.entry) here) is)
      ∙ drain_lives here (waiting_here here)
  lives_kind e before reached n kind.Take step fair own is taken inside was =
      let here = here_in_history s before e.entry.hart.0 in
      let did : e.done ≡ done_take_by here here.restart (runs_on here) =
      step.did ∙ ap (λ k. done_of (choice_with k e.entry) here) is in
      ap (λ (d : Done). d.ended) did
      ∙ take_lives here here.restart (runs_on here)
      (sym (ap (λ (d : Done). d.interrupted) did) ∙ is_none_true e.done.interrupted taken)
  lives_kind e before reached n other step fair own is taken inside was = absurd (false≢true taken)

  abbrev Earlier : History → Type 0
  Earlier before = (p : Sequence) → sequence_on s h before ≡ Some p → p.begun ≡ begun → IsAlive s b h p

  is_alive : (before : History) (q : Sequence) → IsRunHistory s before → AreEntered s b.range t before
      → IsFairSince s b h t begun before → sequence_on s h before ≡ Some q → q.begun ≡ begun → IsAlive s b h q
  is_alive [] q run entered fair is from = absurd cc
  is_alive (e ∷ before) q run entered fair is from =
      by_step (λ p was begins. is_alive before p run.0 entered.0 fair.0 was begins)
      (sequence_step s e before h q is) from
    where
      died_not : e.done.ended ≡ None → is_some e.done.ended ≡ false
      died_not none = ap (λ (o : Option End). is_some o) none

      begun_here : e.entry.hart.0 ≡ h → is_inside_at s h before ≡ true → is_instruction e.entry.kind ≡ true
          → before ≡ begun → (named_at s h before ≡ names.Good b.range) × (e.done.ended ≡ None)
      begun_here own inside first here =
          let at : running s h before ≡ Some t = ap (running s h) here ∙ runs in
          let in_it : is_inside b.range (file s t before).pc ≡ true =
          ap (λ (x : History). is_inside b.range (file s t x).pc) here ∙ begins in
          let is_exec = exec_kind e.entry.kind first in (
            entered.1.names h at in_it,
            lives_kind e before before 0 kind.Exec (step_of s e before run) (fair.1 (inl here)) own is_exec refl
                inside (starts s b h t begun runs sole before here),
          )

      going_on : (r : Sequence) → e.entry.hart.0 ≡ h → is_inside_at s h before ≡ true
          → sequence_on s h before ≡ Some r → is_taken_in e.entry.kind e.done.interrupted ≡ true
          → r.begun ≡ begun → (named_at s h before ≡ names.Good b.range) × (e.done.ended ≡ None)
      going_on r own inside was takes here =
          let fair_here = fair.1 (inr (r, was, here)) in
          let so = sole_so_far s b h t begun runs sole before r run.0 fair.0 was here in
          let in_it = inside_range before r run.0 fair.0 fair_here.place was here inside in (
            entered.1.names h so.1.now.runs in_it,
            lives_kind e before r.reached so.0 e.entry.kind (step_of s e before run) fair_here own refl takes
                inside so.1,
          )

      last_of : (c : Bool) (r : Sequence) → named_at s h before ≡ names.Good b.range
          → named_at s h r.last_instruction ≡ names.Good b.range
          → named_at s h (cond c before r.last_instruction) ≡ names.Good b.range
      last_of true r now earlier = now
      last_of false r now earlier = earlier

      of_own : Earlier before → e.entry.hart.0 ≡ h → is_inside_at s h before ≡ true → {r : Sequence}
          → IsOf s e before h r → r.begun ≡ begun → IsAlive s b h r
      of_own earlier own inside (Begins none first) here =
          let both = begun_here own inside first here in
          record { hart = refl; lives = died_not both.1; named = both.0 }
      of_own earlier own inside (TakesIn r was takes) here =
          let both = going_on r own inside was takes here in
          let so = earlier r was here in
          record {
            hart = so.hart;
            lives = died_not both.1;
            named = last_of (is_instruction e.entry.kind) r both.0 so.named;
          }

      by_step : Earlier before → SequenceStep s e before h q → q.begun ≡ begun → IsAlive s b h q
      by_step earlier (Elsewhere apart was) here = earlier q was here
      by_step earlier (Own own inside its) here = of_own earlier own inside its here

  module _ (before : History) (q : Sequence) (run : IsRunHistory s before)
      (entered : AreEntered s b.range t before) (fair : IsFairSince s b h t begun before)
      (place : IsPlaceOf s b h t before) (is : sequence_on s h before ≡ Some q) (from : q.begun ≡ begun)
      (thread : q.thread ≡ t) where
    alive : IsAlive s b h q
    alive = is_alive before q run entered fair is from

    so_there : (n : ℕ) × IsSoFar s b h t begun q.reached before n
    so_there = sole_so_far s b h t begun runs sole before q run fair is from

    abbrev last : Saved
    last = file s t q.reached

    -- whether its last instruction moved the thread out of what was named
    moved : moved_out s q ≡ not (is_inside b.range last.pc)
    moved =
        ap (λ k. not (is_inside_named (named_at s k q.last_instruction) (file s q.thread q.reached).pc)) alive.hart
        ∙ ap (λ u. not (is_inside_named (named_at s h q.last_instruction) (file s u q.reached).pc)) thread
        ∙ ap (λ (n : Named). not (is_inside_named n last.pc)) alive.named

    -- the thread's file hasn't changed since
    still : (file s t before).pc ≡ last.pc
    still = ap (λ (f : Saved). f.pc) (so_there.1.now.file ∙ sym so_there.1.reached.file)

    outside_now : is_inside b.range last.pc ≡ false → is_inside_at s q.hart before ≡ false
    outside_now out = by_case (is_inside_at s h before) refl
      where
        by_case : (c : Bool) → is_inside_at s h before ≡ c → is_inside_at s q.hart before ≡ false
        by_case false apart = ap (λ k. is_inside_at s k before) alive.hart ∙ apart
        by_case true there = absurd (false≢true
            (sym (ap (is_inside b.range) still ∙ out) ∙ inside_range before q run fair place is from there))

    -- at the end of a log
    pub left_last : is_inside b.range last.pc ≡ false → end_so_far s q before ≡ ends.Left
    left_last out =
        ap (λ c. cond c ends.Dead (left_or_dropped s q (is_inside_at s q.hart before))) alive.lives
        ∙ gone_out s q (is_inside_at s q.hart before) (outside_now out) (moved ∙ ap not out)

    pub last_left : end_so_far s q before ≡ ends.Left → is_inside b.range last.pc ≡ false
    last_left left = by_case (is_inside b.range last.pc) refl
      where
        by_case : (c : Bool) → is_inside b.range last.pc ≡ c → is_inside b.range last.pc ≡ false
        by_case false out = out
        by_case true inside = absurd (dead_or (has_died q) (left_or_dropped s q (is_inside_at s q.hart before))
            (stayed_in s q (is_inside_at s q.hart before) (moved ∙ ap not inside)) left)

    -- where its hart goes on with an event
    pub left_before : (e : Event) → is_inside b.range last.pc ≡ false → end_before s q e before ≡ ends.Left
    left_before e out =
        let inside = is_inside_at s q.hart before in
        let o = abort_of e.done.interrupted in
        let out_there = outside_now out in
        let went : moved_out s q ≡ true = moved ∙ ap not out in
        ap (λ c. cond (c || (is_fatal e && not (moved_out s q && not inside))) ends.Dead
        (cut_or (left_or_dropped s q inside) inside o)) alive.lives
        ∙ ap (λ c. cond (is_fatal e && not (c && not inside)) ends.Dead
        (cut_or (left_or_dropped s q inside) inside o)) went
        ∙ ap (λ c. cond (is_fatal e && not (true && not c)) ends.Dead
        (cut_or (left_or_dropped s q inside) inside o)) out_there
        ∙ ap (λ c. cond c ends.Dead (cut_or (left_or_dropped s q inside) inside o)) (not_fatal (is_fatal e))
        ∙ cut_gone s q inside o out_there went

    pub before_left : (e : Event) → end_before s q e before ≡ ends.Left → is_inside b.range last.pc ≡ false
    before_left e left = by_case (is_inside b.range last.pc) refl
      where
        by_case : (c : Bool) → is_inside b.range last.pc ≡ c → is_inside b.range last.pc ≡ false
        by_case false out = out
        by_case true inside =
            let now = is_inside_at s q.hart before in
            absurd (dead_or (has_died q || (is_fatal e && not (moved_out s q && not now)))
            (cut_or (left_or_dropped s q now) now (abort_of e.done.interrupted))
            (cut_stayed s q now (abort_of e.done.interrupted) (moved ∙ ap not inside)) left)
