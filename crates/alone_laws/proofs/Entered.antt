-- A thread that uses a block comes into the block's sequence at its start alone, and is inside it there.
use Rattle.std.proofs.Common.{◌≡◌, ◌≢◌, ℕ, ◌+◌, ◌⊎◌, inl, inr, [], ◌∷◌, refl, sym, ap, ◌∙◌}
use Rattle.std.proofs.Common.{Bool, true, false, not, ◌||◌, cond, Option, Some, None}
use Rattle.std.specs.Option.{option_map_or}
use Rattle.std.proofs.lemmas.Bool.{not-true}
use Rattle.mach_types.proofs.Laws.{eqb_same, kind_back}
use Rattle.mach_types.specs.Bytes.{word_at}
use Rattle.mach_types.specs.Events.{choice_with, is_preempt, is_take}
use Rattle.mach_types.specs.Kernel.Areas.{is_inside, named}
use Rattle.mach_types.specs.Kernel.Threads.{running_on}
use Rattle.mach_types.specs.declared.events.Kind.{Kind}
use Rattle.mach_types.specs.declared.events.Kind.TheVariants as kind
use Rattle.mach_types.specs.declared.events.Why.TheVariants as why
use Rattle.mach_types.specs.declared.registers.Regs.{Regs}
use Rattle.mach_types.specs.declared.sequences.Area.{Area}
use Rattle.mach_types.specs.Registers.{with_register}
use Rattle.mach_types.specs.declared.sequences.Named.TheVariants as names
use Rattle.mach_types.specs.declared.sequences.TheConstants.{RSEQ_CS}
use Rattle.block_model.specs.Acts.{is_taken_in, named_at, takes_in}
use Rattle.block_model.specs.Events.{done_of}
use Rattle.block_model.specs.Events.Finish.{refusal_done_by, refusal_return}
use Rattle.block_model.specs.Here.{Done, Here, view}
use Rattle.block_model.specs.History.{Event, History, ended, file, file_among, here_in_history, kernel}
use Rattle.block_model.specs.History.{running}
use Rattle.block_model.specs.Run.{IsRunHistory}
use Rattle.block_model.specs.Sequences.{named_here}
use Rattle.block_model.specs.Setting.{Setting}
use Rattle.block_model.proofs.Laws.{in_no_barrier, interrupts_none, left_idle, may_interrupt, step_of}
use Rattle.alone_laws.specs.Entering.{AreEntered, IsEntered}
use Rattle.alone_laws.specs.Spans.{seen_at}
use Rattle.alone_laws.specs.Uses.{AreUsed, HasItsArea, IsUsed, IsWellPlaced, Placed}
use Rattle.alone_laws.proofs.Arrivals.{ComesIn, IsCode, IsSound, begins_it, came_in, done_exec_kind}
use Rattle.alone_laws.proofs.Arrivals.{free_at, leaving_done, no_one, no_signal}
use Rattle.alone_laws.proofs.Arrivals.{ran_here, return_done, run_exec, run_out, seen_word, sound}
use Rattle.alone_laws.proofs.Arrivals.{take_quiet, was_in}
use Rattle.alone_laws.proofs.Described.{named_good}
use Rattle.alone_laws.proofs.Entering.{goes_there, is_open}

not_waiting : Some why.NotInBarrier ≡ None → ⊥
not_waiting is = cc

module _ (s : Setting) (b : Placed) (t : ℕ) (Know : ℕ → Regs → Type 0) (placed : IsWellPlaced b)
    (code : IsCode s b Know) where
  abbrev In : History → Type 0
  In before = is_inside b.range (file s t before).pc ≡ true

  names_it : (before : History) → IsSound s b t Know placed code before → HasItsArea s b t before → (h : ℕ)
      → running s h before ≡ Some t → In before
      → named_at s h before ≡ names.Good b.range
  names_it before was its h at inside =
      let here = here_in_history s before h in
      let pc = (file s t before).pc in
      ap (λ (r : Option ℕ). option_map_or (named_here here) r names.Nothing) at
      ∙ ap (λ (o : Option Area). option_map_or (λ (a : Area). named (view here) a pc) o names.Nothing)
      its.registered
      ∙ named_good (view here) b placed (its.on_hart h at)
      (seen_word s b t Know placed code before its h (was.seen h at inside)) pc

  module _ (e : Event) (before : History) (run : IsRunHistory s (e ∷ before))
      (was : IsSound s b t Know placed code before)
      (used : IsUsed s b t e before) (earlier : AreEntered s b.range t before) (went : ended before ≡ None)
      (goes : e.done.ended ≡ None) where
    abbrev own : ℕ
    own = e.entry.hart.0

    abbrev here : Here
    here = here_in_history s before own

    abbrev Enters : Type 0
    Enters = (running s own before ≡ Some t) × In before
        × (is_taken_in e.entry.kind e.done.interrupted ≡ true)

    -- no barrier returns while a sequence is open
    return_never : e.entry.kind ≡ kind.Done → running s own before ≡ Some t → In before
        → (file s t (e ∷ before)).pc ≢ b.range.start → ⊥
    return_never is at inside past =
        not_waiting (sym (ap refusal_return barred) ∙ sym (ap (refusal_done_by here) at)
        ∙ free_at s b t Know placed code e before run was used goes kind.Done is)
      where
        same : (file s t (e ∷ before)).pc ≡ (file s t before).pc
        same =
            ap (λ (d : Done). (file_among d.files t (file s t before)).pc)
            (return_done s b t Know placed code e before run was used goes is at)
            ∙ ap (λ c. (cond c (record (file s t before) { file = with_register (file s t before).file 10 0 })
            (file s t before)).pc) (eqb_same t)

        barred : here.awaits ≡ None
        barred =
            let open_there = is_open s b.range t own before run.0 earlier went at inside
            (λ start. past (same ∙ start)) in
            in_no_barrier s before own open_there.0 run.0 open_there.1

    -- an event that may interrupt only by a take interrupts nothing
    quiet : (k : Kind) → e.entry.kind ≡ k → (is_take k || not (may_interrupt k)) ≡ true
        → running s own before ≡ Some t → In before → In (e ∷ before) → e.done.interrupted ≡ None
    quiet kind.Take is may at inside now =
        take_quiet s b t Know placed code e before run was used goes is at inside now
    quiet k is may at inside now =
        ap (λ (d : Done). d.interrupted)
        ((step_of s e before run).did ∙ ap (λ j. done_of (choice_with j e.entry) here) is)
        ∙ interrupts_none here (choice_with k e.entry)
        (ap may_interrupt (kind_back k e.entry.tid) ∙ not-true (may_interrupt k) may)

    -- so it is taken in, or its thread leaves by it
    by_quiet : (k : Kind) → e.entry.kind ≡ k → (is_take k || not (may_interrupt k)) ≡ true
        → (is_preempt k || takes_in k false) ≡ true → running s own before ≡ Some t → In before
        → running s own (e ∷ before) ≡ Some t → In (e ∷ before) → Enters
    by_quiet k is may either at inside now_at now = go (is_preempt k) refl either
      where
        go : (leaves : Bool) → is_preempt k ≡ leaves → (leaves || takes_in k false) ≡ true → Enters
        go true leaves either =
            let x = kernel s before in
            let tables = (step_of s e before run).good.kernel.tables in
            let none = left_idle s.limits.harts own t x.threads x.scheduling tables at in
            let did = leaving_done s b t Know placed code e before run was used goes k is leaves at in
            absurd (no_one t (sym none ∙ sym (ap (λ (d : Done). running_on own d.kernel.threads) did) ∙ now_at))
        go false stays takes =
            let none = quiet k is may at inside now in
            (at, inside, ap (λ k. is_taken_in k e.done.interrupted) is ∙ ap (is_taken_in k) none ∙ takes)

    by_kind : running s own (e ∷ before) ≡ Some t → In (e ∷ before)
        → (file s t (e ∷ before)).pc ≢ b.range.start → (k : Kind) → e.entry.kind ≡ k → Enters
    by_kind now_at now past kind.Exec is = by_way
        (came_in s b t Know placed code e before run was used goes now)
      where
        by_way : In before ⊎ ComesIn s b t Know placed code e before run was used goes → Enters
        by_way (inl inside) = (
          ran_here s b t Know placed code e before run was used goes kind.Exec is (λ same. cc) now_at,
          inside,
          ap (λ k. is_taken_in k e.done.interrupted) is,
        )
        by_way (inr comes) = absurd (past comes.pc)
    by_kind now_at now past kind.Done is =
        let at = ran_here s b t Know placed code e before run was used goes kind.Done is (λ same. cc) now_at
        in
        let inside = was_in s b t Know placed code e before run was used goes now
        (λ exec. done_exec_kind (sym is ∙ exec)) in
        absurd (return_never is at inside past)
    by_kind now_at now past kind.Run is =
        absurd (run_out s b t Know placed code e before run was used goes is
        (begins_it s b t Know placed code e before run was used goes is now_at)
        (was_in s b t Know placed code e before run was used goes now (λ exec. run_exec (sym is ∙ exec))) now)
    by_kind now_at now past kind.Signal is = absurd
        (no_signal s b t Know placed code e before run was used goes now is
        (ran_here s b t Know placed code e before run was used goes kind.Signal is (λ same. cc) now_at))
    by_kind now_at now past k is =
        let other : e.entry.kind ≢ kind.Exec = λ exec. let both : k ≡ kind.Exec = sym is ∙ exec in cc in
        by_quiet k is refl refl
        (ran_here s b t Know placed code e before run was used goes k is (λ same. cc) now_at)
        (was_in s b t Know placed code e before run was used goes now other) now_at now

  pub entered : (before : History) → IsRunHistory s before → AreUsed s b t before
      → AreEntered s b.range t before
  entered [] run used = tt
  entered (e ∷ before) run used =
      let earlier = entered before run.0 used.0 in
      let went = goes_there s b.range t e.entry.hart.0 e before run in
      let was = sound s b t Know placed code before run.0 used.0 went in
      let now : IsEntered s b.range t e before = record {
        names = λ h at inside. names_it before was (used.1.area inside) h at inside;
        enters = λ now_at inside past goes. by_kind e before run was used.1 earlier went goes now_at inside
            past e.entry.kind refl;
      } in
      (earlier, now)

  -- and at the start the pointer is the block's
  pub points : (before : History) (h : ℕ) → IsRunHistory s before → AreUsed s b t before → ended before ≡ None
      → running s h before ≡ Some t
      → In before → word_at (seen_at s h before) (b.area.at + RSEQ_CS) 8 ≡ Some b.table
  points before h run used goes at inside = (sound s b t Know placed code before run used goes).seen h at
      inside
