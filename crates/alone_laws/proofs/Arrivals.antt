-- A thread that uses a block stands at its words, and where it is in the block's sequence the pointer of its
-- area is the address of the block's descriptor: as its hart sees it where it runs, and else in memory.
use Rattle.std.proofs.Common.{◌≡◌, ◌≢◌, ℕ, ◌+◌, ◌*◌, ◌<◌, ◌^◌, ◌⊎◌, inl, inr, List, [], ◌∷◌, ◌++◌, drop, refl}
use Rattle.std.proofs.Common.{sym, ap, ◌∙◌, subst, arith, Bool, true, false, cond, eqb, Option, Some, None}
use Rattle.std.proofs.Common.{is_some}
use Rattle.std.specs.Option.{option_map}
use Rattle.std.proofs.lemmas.Bool.{eqb-true, eqb-false, false≢true, leb-false}
use Rattle.mach_types.proofs.Laws.{eqb_same, kind_back, next_is_new}
use Rattle.mach_types.specs.Bytes.{all_stored, overlay, word_at, written}
use Rattle.mach_types.specs.Events.{choice_with, is_preempt, kind_of, maker_of}
use Rattle.mach_types.specs.Kernel.Areas.{interruption, is_inside, pc_after}
use Rattle.mach_types.specs.Kernel.Signals.{next_for}
use Rattle.mach_types.specs.Kernel.Threads.{Thread, Threads, is_live, is_ready, running_on, state_of}
use Rattle.mach_types.specs.Kernel.Threads.{thread_of}
use Rattle.mach_types.specs.Registers.{register, with_register}
use Rattle.mach_types.specs.declared.events.Kind.{Kind}
use Rattle.mach_types.specs.declared.events.Kind.TheVariants as kind
use Rattle.mach_types.specs.declared.events.Why.{Why}
use Rattle.mach_types.specs.declared.events.Why.TheVariants as why
use Rattle.mach_types.specs.declared.limits.End.{End}
use Rattle.mach_types.specs.declared.limits.End.TheVariants.{Killed}
use Rattle.mach_types.specs.declared.registers.Regs.{Regs}
use Rattle.mach_types.specs.declared.sequences.BadWhy.TheVariants as bad
use Rattle.mach_types.specs.declared.sequences.Outcome.{Outcome}
use Rattle.mach_types.specs.declared.sequences.Outcome.TheVariants as comes_to
use Rattle.mach_types.specs.declared.sequences.TheConstants.{RSEQ_CS}
use Rattle.mach_types.specs.declared.signals.TheConstants.{SIGSEGV}
use Rattle.mach_types.specs.declared.address_space.TheConstants.{USER_END}
use Rattle.mach_types.specs.declared.threads.Saved.{Saved}
use Rattle.mach_types.specs.declared.threads.ThreadState.{ThreadState}
use Rattle.mach_types.specs.declared.threads.ThreadState.TheVariants.{Ready, Running, Waiting}
use Rattle.mach_types.specs.declared.user_memory.Store.{Store}
use Rattle.mach_types.specs.declared.user_memory.Write.{Write}
use Rattle.rv_inst.specs.Class.{is_call}
use Rattle.rv_inst.specs.Execution as execution
use Rattle.rv_inst.specs.Execution.{outcome}
use Rattle.rv_inst.specs.declared.effects.Effect.{Effect}
use Rattle.alone.specs.Alone.{effect_at}
use Rattle.block_model.specs.Events.{done_of, refusal_of}
use Rattle.block_model.specs.Events.Exec.{by_call, by_effect, by_outcome, called_here, done_exec_by}
use Rattle.block_model.specs.Events.Exec.{has_handler, next_effect, next_fault, outcome_of}
use Rattle.block_model.specs.Events.Finish.{done_done_by}
use Rattle.block_model.specs.Events.Preempt.{done_preempt_by, unless_in_barrier}
use Rattle.block_model.specs.Events.Preempt.{unless_waiting}
use Rattle.block_model.specs.Events.Run.{done_killed, done_run, done_running, lives_on}
use Rattle.block_model.specs.Events.Signal.{done_next, done_signal_by, handled_unless_killed, kills}
use Rattle.block_model.specs.Events.Signal.{refusal_delivery, refusal_signal_by}
use Rattle.block_model.specs.Events.Take.{done_take, done_take_by, killed_by, refusal_take}
use Rattle.block_model.specs.Events.Take.{took_and_interrupted}
use Rattle.block_model.specs.Here.{Done, Here, is_writable, memory, runs, view, waiting_here}
use Rattle.block_model.specs.History.{Event, History, byte, ended, file, file_among, here_in_history, kernel}
use Rattle.block_model.specs.History.{running, waiting}
use Rattle.block_model.specs.Kernel.{next_number}
use Rattle.block_model.specs.Record.{Kernel}
use Rattle.block_model.specs.Run.{IsRunHistory}
use Rattle.block_model.specs.Sequences.{files_interrupted, interruption_here}
use Rattle.block_model.specs.Setting.{Setting}
use Rattle.block_model.specs.Tables.{on}
use Rattle.block_model.proofs.Laws.{Aborts, Answered, AtBirth, AtHandler, AtRun, AtTake, ByCall}
use Rattle.block_model.proofs.Laws.{ByInstruction, FileStays, FileStep, HasRegisters, IsInterrupted}
use Rattle.block_model.proofs.Laws.{IsNextInstruction, IsStep, drains_none, file_apart, file_step}
use Rattle.block_model.proofs.Laws.{has_registers, not_ready, one_hart, ran_before, ran_runs}
use Rattle.block_model.proofs.Laws.{IsOfKernel, is_by_kernel, keeps_record, leaving_does, leaving_waits}
use Rattle.block_model.proofs.Laws.{may_interrupt, of_kernel, run_ready, running_is, running_there, runs_apart, step_of}
use Rattle.block_model.proofs.Laws.{writes_none}
use Rattle.alone_laws.specs.Spans.{Leaves, code_of, seen_at, sees}
use Rattle.alone_laws.specs.Uses.{AreUsed, Arrives, HasItsArea, HasLeft, IsDescribed, IsTakenOut, IsUsed}
use Rattle.alone_laws.specs.Uses.{IsWellPlaced, Placed, at_first, came_back, executed, in_block, interrupted}
use Rattle.alone_laws.specs.Uses.{DeliversNone, pointer_of_area, stayed}
use Rattle.alone_laws.proofs.Described.{interrupted_inside}
use Rattle.alone_laws.proofs.Entering.{first_none}
use Rattle.alone_laws.proofs.Sequences.{each_among}
use Rattle.alone_laws.proofs.Steps.{IsIdle, drain_idle, overlay_append, sees_apart, sees_idle, sees_own}
use Rattle.alone_laws.proofs.Steps.{take_idle, view_is, word_same}
use Rattle.alone_laws.proofs.StoredWords.{stored_word}

-- WHERE NO STORE WAITS

empty_of : (ws : List Store) → unless_waiting ws ≡ None → ws ≡ []
empty_of [] free = refl
empty_of (w ∷ ws) free = absurd cc

pub take_empty : (here : Here) → refusal_take here ≡ None → waiting_here here ≡ []
take_empty here free = by_requests (eqb here.requests 0) free
  where
    by_requests : (b : Bool) → cond b (Some why.NoRequest) (unless_waiting (waiting_here here)) ≡ None
        → waiting_here here ≡ []
    by_requests true free = absurd cc
    by_requests false free = empty_of (waiting_here here) free

pub awaits_open : (awaits : Option ℕ) (o : Option Why) → unless_in_barrier awaits o ≡ None → o ≡ None
awaits_open None o free = free
awaits_open (Some left) o free = absurd cc

pub no_reason : (Some why.NoSignal ≡ None) → ⊥
no_reason is = cc

pub signal_empty : (here : Here) (t : ℕ) → refusal_signal_by here (Some t) ≡ None → waiting_here here ≡ []
signal_empty here t free =
    by_next (next_for t here.kernel.signals)
    (awaits_open here.awaits (refusal_delivery here (next_for t here.kernel.signals)) free)
  where
    by_next : (next : Option ℕ) → refusal_delivery here next ≡ None → waiting_here here ≡ []
    by_next None free = absurd (no_reason free)
    by_next (Some signal) free = empty_of (waiting_here here) free

same_byte : (o : Option ℕ) → option_map (λ (b : ℕ). b) o ≡ o
same_byte None = refl
same_byte (Some b) = refl

view_memory : (here : Here) → waiting_here here ≡ [] → view here ≡ memory here
view_memory here empty = λ i a. (ap (λ (ws : List Store). option_map (overlay ws a) (memory here a)) empty ∙
    same_byte (memory here a)) i

-- WORDS

-- a thread stands at a word of a block, and knows what is known there of its registers
pub record KnowsAt (b : Placed) (Know : ℕ → Regs → Type 0) (f : Saved) : Type 0 where
  pub word : ℕ
  pub below : word < b.count
  pub pc : f.pc ≡ b.at + 4 * word
  pub know : Know word f.file

-- the instruction just before the start: it stores the address of the descriptor in the area's pointer
pub record StoresPointer (b : Placed) (o : execution.Outcome) : Type 0 where
  pub starts : o.pc ≡ b.range.start
  pub stores : o.executed ≡ record { at = b.area.at + RSEQ_CS; size = 8; value = b.table } ∷ []
  pub enters : o.entered ≡ []

-- what the code of a block does: nothing is known at the first word and at the abort handler; an answer in a0
-- changes nothing of what is known; no word is a call; a word leads to words, with what is known there; and
-- into the sequence from inside, or by the instruction just before the start
pub record IsCode (s : Setting) (b : Placed) (Know : ℕ → Regs → Type 0) : Type 0 where
  pub some : 0 < b.count
  pub first : (regs : Regs) → Know 0 regs
  pub handler : ℕ
  pub handler_below : handler < b.count
  pub handler_at : b.range.abort ≡ b.at + 4 * handler
  pub handled : (regs : Regs) → Know handler regs
  pub answered : (k v : ℕ) (regs : Regs) → Know k regs → Know k (with_register regs 10 v)
  pub no_call : (f : Saved) (e : Effect) → KnowsAt b Know f → effect_at (code_of s.program.pages) f ≡ Some e
      → is_call e ≡ false
  pub goes : (f : Saved) (e : Effect) (seen : ℕ → Option ℕ) (r : Option ℕ) → HasRegisters f → KnowsAt b Know f
      → effect_at (code_of s.program.pages) f ≡ Some e
      → in_block b (outcome seen f.file f.pc r e).pc ≡ true
      → KnowsAt b Know (record
      { file = (outcome seen f.file f.pc r e).regs; pc = (outcome seen f.file f.pc r e).pc })
  pub starts : (f : Saved) (e : Effect) (seen : ℕ → Option ℕ) (r : Option ℕ) → KnowsAt b Know f
      → register f.file b.register ≡ b.area.at
      → effect_at (code_of s.program.pages) f ≡ Some e
      → is_inside b.range (outcome seen f.file f.pc r e).pc ≡ true
      → (is_inside b.range f.pc ≡ true) ⊎ StoresPointer b (outcome seen f.file f.pc r e)

-- THREADS

pub no_one : (t : ℕ) → None ≡ Some t → ⊥
no_one t is = cc

pub one_thread : (u t : ℕ) → Some u ≡ Some t → u ≡ t
one_thread u t is = cc

-- who begins to run on a hart is the thread that runs there after it
module _ (s : Setting) (e : Event) (before : History) (t : ℕ) (step : IsStep s e before) (is : e.entry.kind ≡ kind.Run)
    (now : running s e.entry.hart.0 (e ∷ before) ≡ Some t) where
  abbrev begun_in : Here
  begun_in = here_in_history s before e.entry.hart.0

  abbrev its_thread : ℕ
  its_thread = e.entry.tid.0

  may_begin : (runs begun_in ≡ None) × (is_ready its_thread begun_in.kernel.threads ≡ true)
  may_begin = run_ready begun_in its_thread (sym (ap (λ k. refusal_of (choice_with k e.entry) begun_in) is) ∙ step.free)

  begun_by : (lives : Bool)
      → e.done ≡ cond lives (done_running begun_in its_thread (interruption_here begun_in its_thread))
      (done_killed begun_in its_thread (interruption_here begun_in its_thread)) → its_thread ≡ t
  begun_by true did =
      let k = kernel s before in
      let there = ran_runs s.limits.harts e.entry.hart.0 its_thread k.threads k.scheduling step.good.kernel.tables may_begin.1
      may_begin.0 step.good.lt in
      one_thread its_thread t (sym there ∙ sym (ap (λ (d : Done). running_on e.entry.hart.0 d.kernel.threads) did) ∙ now)
  begun_by false did =
      absurd (no_one t
      (sym may_begin.0 ∙ sym (ap (λ (d : Done). running_on e.entry.hart.0 d.kernel.threads) did) ∙ now))

  pub begun_is : its_thread ≡ t
  begun_is =
      begun_by (lives_on begun_in its_thread (interruption_here begun_in its_thread))
      (step.did ∙ ap (λ k. done_of (choice_with k e.entry) begun_in) is)

exec_drain : kind.Exec ≡ kind.Drain → ⊥
exec_drain is = cc

pub drain_exec : kind.Drain ≡ kind.Exec → ⊥
drain_exec is = cc

pub take_exec : kind.Take ≡ kind.Exec → ⊥
take_exec is = cc

pub done_exec_kind : kind.Done ≡ kind.Exec → ⊥
done_exec_kind is = cc

pub run_exec : kind.Run ≡ kind.Exec → ⊥
run_exec is = cc

not_over : (x : End) → Some x ≡ None → ⊥
not_over x is = cc

live_of : (t : ℕ) (ts : Threads) (o : Option Thread) → thread_of t ts ≡ o → (x : ThreadState)
    → option_map (λ (th : Thread). th.state) o ≡ Some x
    → is_live t ts ≡ true
live_of t ts None is x state = absurd cc
live_of t ts (Some th) is x state = ap (λ (o : Option Thread). is_some o) is

-- on some hart, or on none
pub data IsOnOrOff (s : Setting) (t : ℕ) (before : History) : Type 0 where
  is_on : (h : ℕ) → running s h before ≡ Some t → IsOnOrOff s t before
  is_off : ((h : ℕ) → running s h before ≢ Some t) → IsOnOrOff s t before

module _ (s : Setting) (e : Event) (before : History) (step : IsStep s e before) (t : ℕ) where
  abbrev ts : Threads
  ts = (kernel s before).threads

  live_where : (h : ℕ) → running s h before ≡ Some t → is_live t ts ≡ true
  live_where h at =
      live_of t ts (thread_of t ts) refl (on h)
      (running_is s.limits.harts h t ts (kernel s before).scheduling step.good.kernel.tables at)

  not_born : is_live t ts ≡ true → next_number (kernel s before) ≡ t → ⊥
  not_born live new =
      false≢true (sym
      (ap (λ (o : Option Thread). is_some o) (ap (λ n. thread_of n ts) (sym new) ∙ next_is_new ts
      step.good.kernel.tables.threads)) ∙ live)

  off_state : (o : Option ThreadState) → state_of t ts ≡ o → ((h : ℕ) → o ≡ Some (on h) → ⊥)
      → IsOnOrOff s t before
  off_state o is never =
      is_off (λ h at. never h (sym is
      ∙ running_is s.limits.harts h t ts (kernel s before).scheduling step.good.kernel.tables at))

  by_state : (o : Option ThreadState) → state_of t ts ≡ o → IsOnOrOff s t before
  by_state None is = off_state None is (λ h same. absurd cc)
  by_state (Some Ready) is = off_state (Some Ready) is (λ h same. absurd cc)
  by_state (Some (Waiting p)) is = off_state (Some (Waiting p)) is (λ h same. absurd cc)
  by_state (Some (Running hart)) is =
      is_on hart.0 (running_there s.limits.harts hart.0 t ts (kernel s before).scheduling
      step.good.kernel.tables is)

  pub on_or_off : IsOnOrOff s t before
  on_or_off = by_state (state_of t ts) refl

-- THE BLOCK

module _ (s : Setting) (b : Placed) (t : ℕ) (Know : ℕ → Regs → Type 0) (placed : IsWellPlaced b)
    (code : IsCode s b Know) where
  abbrev pub In : History → Type 0
  In before = is_inside b.range (file s t before).pc ≡ true

  abbrev pub Knows : Saved → Type 0
  Knows f = KnowsAt b Know f

  abbrev pub IsOff : History → Type 0
  IsOff before = (h : ℕ) → running s h before ≢ Some t

  -- the pointer of the area is the address of the descriptor, as a hart sees it, and in memory
  abbrev pub SeesTable : ℕ → History → Type 0
  SeesTable h before = word_at (seen_at s h before) (b.area.at + RSEQ_CS) 8 ≡ Some b.table

  abbrev pub HoldsTable : History → Type 0
  HoldsTable before = word_at (λ a. Some (byte s before a)) (b.area.at + RSEQ_CS) 8 ≡ Some b.table

  pub record IsSound (before : History) : Type 0 where
    pub word : in_block b (file s t before).pc ≡ true → Knows (file s t before)
    pub left : (f : Saved) → HasLeft s b t f before → Knows f × (is_inside b.range f.pc ≡ false)
    pub seen : (h : ℕ) → running s h before ≡ Some t → In before → SeesTable h before
    pub stored : IsOff before → In before → HoldsTable before

  in_pointer : {f g : ℕ → Option ℕ} → ((a : ℕ) → pointer_of_area b a ≡ true → f a ≡ g a)
      → word_at f (b.area.at + RSEQ_CS) 8 ≡ word_at g (b.area.at + RSEQ_CS) 8
  in_pointer {f = f} {g = g} same =
      word_same (pointer_of_area b) f g same (b.area.at + RSEQ_CS) 8
      (each_among (b.area.at + RSEQ_CS) 8 (b.area.at + RSEQ_CS) 8 (omega arith) (omega arith))

  -- what is named
  module _ (before : History) (its : HasItsArea s b t before) where
    pub seen_word : (h : ℕ) → SeesTable h before
        → word_at (view (here_in_history s before h)) (b.area.at + RSEQ_CS) 8 ≡ Some b.table
    seen_word h table = in_pointer (λ a has. view_is s h before a (its.usable.read a has)) ∙ table

    held_word : (h : ℕ) → HoldsTable before → word_at (memory (here_in_history s before h)) (b.area.at +
        RSEQ_CS) 8 ≡ Some b.table
    held_word h table =
        in_pointer (λ a has. ap (λ c. cond c (Some (byte s before a)) None) (its.usable.read a has)) ∙ table

    abbrev Interrupted : ℕ → Type 0
    Interrupted h =
        (interruption_here (here_in_history s before h) t ≡ comes_to.Aborted b.range.abort)
        ⊎ (interruption_here (here_in_history s before h) t ≡ comes_to.Killed bad.AreaBytes)

    comes_to_it : (h : ℕ) (o : Outcome) → interruption_here (here_in_history s before h) t ≡ o
        → (o ≡ comes_to.Aborted b.range.abort) ⊎ (o ≡ comes_to.Killed bad.AreaBytes) → Interrupted h
    comes_to_it h o is (inl aborted) = inl (is ∙ aborted)
    comes_to_it h o is (inr killed) = inr (is ∙ killed)

    by_reading : (h : ℕ) (reads : ℕ → Option ℕ) → memory (here_in_history s before h) ≡ reads
        → IsDescribed reads b
        → word_at reads (b.area.at + RSEQ_CS) 8 ≡ Some b.table → In before → Interrupted h
    by_reading h reads same described points inside =
        let here = here_in_history s before h in
        let pc = (file s t before).pc in
        comes_to_it h (interruption reads (is_writable here) (Some b.area) pc)
        (ap (λ o. interruption (memory here) (is_writable here) o pc) its.registered
        ∙ ap (λ (g : ℕ → Option ℕ). interruption g (is_writable here) (Some b.area) pc) same)
        (interrupted_inside reads b placed described points (is_writable here) pc inside)

    on_its_hart : (h : ℕ) → running s h before ≡ Some t → waiting h before ≡ [] → SeesTable h before
        → In before → Interrupted h
    on_its_hart h at empty table inside =
        let here = here_in_history s before h in
        by_reading h (view here) (sym (view_memory here empty)) (its.on_hart h at) (seen_word h table) inside

    off_all : (h : ℕ) → IsOff before → HoldsTable before → In before → Interrupted h
    off_all h off table inside = by_reading h (memory (here_in_history s before h)) refl (its.off_hart off h)
        (held_word h table) inside

  -- ONE MORE EVENT

  module _ (e : Event) (before : History) (run : IsRunHistory s (e ∷ before)) (was : IsSound before)
      (used : IsUsed s b t e before)
      (goes : e.done.ended ≡ None) where
    abbrev pub step : IsStep s e before
    step = step_of s e before run

    abbrev pub own : ℕ
    own = e.entry.hart.0

    abbrev pub here : Here
    here = here_in_history s before own

    abbrev pub after : Saved
    after = file s t (e ∷ before)

    pub free_at : (k : Kind) → e.entry.kind ≡ k → refusal_of (choice_with k e.entry) here ≡ None
    free_at k is = sym (ap (λ j. refusal_of (choice_with j e.entry) here) is) ∙ step.free

    did_at : (k : Kind) → e.entry.kind ≡ k → e.done ≡ done_of (choice_with k e.entry) here
    did_at k is = step.did ∙ ap (λ j. done_of (choice_with j e.entry) here) is

    -- where the thread begins to run it was on no hart
    run_off : e.entry.kind ≡ kind.Run → e.entry.tid.0 ≡ t → IsOff before
    run_off is its h at =
        let ready = (run_ready here e.entry.tid.0 (free_at kind.Run is)).1 in
        false≢true (sym (not_ready s e before step h t at) ∙ sym
        (ap (λ n. is_ready n (kernel s before).threads) its) ∙ ready)

    abbrev pub IsInterruptedHere : Type 0
    IsInterruptedHere =
        (interruption_here here t ≡ comes_to.Aborted b.range.abort)
        ⊎ (interruption_here here t ≡ comes_to.Killed bad.AreaBytes)

    run_interrupts : e.entry.kind ≡ kind.Run → e.entry.tid.0 ≡ t → In before → IsInterruptedHere
    run_interrupts is its inside =
        off_all before (used.area inside) own (run_off is its) (was.stored (run_off is its) inside) inside

    hart_interrupts : running s own before ≡ Some t → waiting own before ≡ [] → In before → IsInterruptedHere
    hart_interrupts at empty inside = on_its_hart before (used.area inside) own at empty
        (was.seen own at inside) inside

    same_abort : (to : ℕ) → IsInterruptedHere → interruption_here here t ≡ comes_to.Aborted to
        → to ≡ b.range.abort
    same_abort to (inl aborted) is = let both : comes_to.Aborted to ≡ comes_to.Aborted b.range.abort = sym is
        ∙ aborted in cc
    same_abort to (inr killed) is = let both : comes_to.Aborted to ≡ comes_to.Killed bad.AreaBytes = sym is
        ∙ killed in absurd cc

    aborted_is : (to : ℕ) → In before → IsInterrupted here e.entry.tid.0 t e.entry.kind
        → interruption_here here t ≡ comes_to.Aborted to → to ≡ b.range.abort
    aborted_is to inside (AtRun is its) aborts = same_abort to (run_interrupts is its inside) aborts
    aborted_is to inside (AtTake is at) aborts =
        same_abort to (hart_interrupts at (take_empty here (free_at kind.Take is)) inside) aborts

    exec_apart : e.entry.kind ≡ kind.Exec → IsInterrupted here e.entry.tid.0 t e.entry.kind → ⊥
    exec_apart is (AtRun runs its) = let both : kind.Exec ≡ kind.Run = sym is ∙ runs in cc
    exec_apart is (AtTake takes at) = let both : kind.Exec ≡ kind.Take = sym is ∙ takes in cc

    -- WORDS

    abbrev GoesToHandler : Saved → Type 0
    GoesToHandler f =
        (to : ℕ) → IsInterrupted here e.entry.tid.0 t e.entry.kind
        → interruption_here here t ≡ comes_to.Aborted to
        → f ≡ record (file s t before) { pc = to } → Knows (record (file s t before) { pc = to })

    word_from : is_live t (kernel s before).threads ≡ true → DeliversNone s t e before
        → in_block b (file s t before).pc ≡ true → (f : Saved) → GoesToHandler f
        → FileStep here e.entry.tid.0 t e.entry.kind f
        → in_block b f.pc ≡ true → Knows f
    word_from live other inside f aborts FileStays now = was.word inside
    word_from live other inside f aborts (ByInstruction x is next) now =
        code.goes (file s t before) x (view here) here.reserved (has_registers s before run.0 t)
        (was.word inside) next.is now
    word_from live other inside f aborts (ByCall x g is next calls) now =
        absurd (false≢true (sym (code.no_call (file s t before) x (was.word inside) next.is) ∙ calls))
    word_from live other inside f aborts (Answered v) now =
        let w = was.word inside in
        record {
          word = w.word;
          below = w.below;
          pc = w.pc;
          know = code.answered w.word v
              (file s t before).file w.know;
        }
    word_from live other inside f aborts (Aborts to its comes) now = aborts to its comes refl
    word_from live other inside f aborts (AtHandler g is at) now = absurd (other is at)
    word_from live other inside f aborts (AtBirth g is new) now = absurd (not_born s e before step t live new)

    at_handler : (to : ℕ) → to ≡ b.range.abort → (regs : Regs) → Knows (record { file = regs; pc = to })
    at_handler to is regs =
        record {
          word = code.handler;
          below = code.handler_below;
          pc = is
              ∙ code.handler_at;
          know = code.handled regs;
        }

    word_next : in_block b after.pc ≡ true → Knows after
    word_next now = by_arrival (used.enters now)
      where
        its_step : FileStep here e.entry.tid.0 t e.entry.kind after
        its_step = file_step s e before t run goes

        by_arrival : Arrives s b t e before → Knows after
        by_arrival (at_first is) =
            record { word = 0; below = code.some; pc = is ∙ omega arith; know = code.first after.file }
        by_arrival (came_back left) = (was.left after left).0
        by_arrival (stayed live other same) =
            let inside : in_block b (file s t before).pc ≡ true = ap (in_block b) (sym same) ∙ now in
            word_from live other inside after
            (λ to its comes is.
            let w = was.word inside in
            record {
              word = w.word;
              below = w.below;
              pc = sym (ap (λ (f : Saved). f.pc) is) ∙ same
                  ∙ w.pc;
              know = w.know;
            })
            its_step now
        by_arrival (executed at is inside) =
            word_from (live_where s e before step t own at)
            (λ signal there. let both : kind.Exec ≡ kind.Signal = sym is ∙ signal in cc) inside after
            (λ to its comes same. absurd (exec_apart is its)) its_step now
        by_arrival (interrupted live other inside) =
            word_from live other (placed.within (file s t before).pc inside) after
            (λ to its comes is. at_handler to (aborted_is to inside its comes) (file s t before).file)
            its_step now

    -- INSIDE

    pub no_signal : In (e ∷ before) → DeliversNone s t e before
    no_signal now signal here_runs = by_arrival (used.enters (placed.within after.pc now))
      where
        by_arrival : Arrives s b t e before → ⊥
        by_arrival (at_first is) = false≢true (sym placed.first ∙ sym (ap (is_inside b.range) is) ∙ now)
        by_arrival (came_back left) = false≢true (sym (was.left after left).1 ∙ now)
        by_arrival (stayed live other same) = other signal here_runs
        by_arrival (executed at is inside) = let both : kind.Exec ≡ kind.Signal = sym is ∙ signal in cc
        by_arrival (interrupted live other inside) = other signal here_runs

    -- the instruction just before the start
    pub record ComesIn : Type 0 where
      pub runs : running s own before ≡ Some t
      pub exec : e.entry.kind ≡ kind.Exec
      pub pc : after.pc ≡ b.range.start
      pub executed : e.done.executed ≡ record { at = b.area.at + RSEQ_CS; size = 8; value = b.table } ∷ []
      pub entered : e.done.entered ≡ []

    instruction_done : running s own before ≡ Some t → e.entry.kind ≡ kind.Exec → (x : Effect)
        → IsNextInstruction here t x
        → is_call x ≡ false → e.done ≡ by_outcome here t (outcome_of here t x)
    instruction_done at is x next plain =
        did_at kind.Exec is ∙ ap (done_exec_by here) at
        ∙ ap (λ f. by_effect here t f (next_effect here t)) next.none
        ∙ ap (λ d. by_effect here t None d) next.is
        ∙ ap (λ c. cond c (by_call here (called_here here t)) (by_outcome here t (outcome_of here t x))) plain

    pub came_in : In (e ∷ before) → In before ⊎ ComesIn
    came_in now = by_arrival (used.enters (placed.within after.pc now))
      where
        by_start : running s own before ≡ Some t → e.entry.kind ≡ kind.Exec → (x : Effect)
            → IsNextInstruction here t x → Knows (file s t before)
            → after ≡ record { file = (outcome_of here t x).regs; pc = (outcome_of here t x).pc }
            → (is_inside b.range (file s t before).pc ≡ true) ⊎ StoresPointer b (outcome_of here t x)
            → In before ⊎ ComesIn
        by_start at is x next knows same (inl inside) = inl inside
        by_start at is x next knows same (inr stores) =
            let did = instruction_done at is x next (code.no_call (file s t before) x knows next.is) in
            inr (record {
              runs = at;
              exec = is;
              pc = ap (λ (f : Saved). f.pc) same ∙ stores.starts;
              executed = ap (λ (d : Done). d.executed) did ∙ stores.stores;
              entered = ap (λ (d : Done). d.entered) did ∙ ap all_stored stores.enters;
            })

        by_step : running s own before ≡ Some t → e.entry.kind ≡ kind.Exec
            → in_block b (file s t before).pc ≡ true → (f : Saved)
            → after ≡ f → FileStep here e.entry.tid.0 t e.entry.kind f → is_inside b.range f.pc ≡ true
            → In before ⊎ ComesIn
        by_step at is inside f same FileStays there = inl there
        by_step at is inside f same (ByInstruction x k next) there =
            let w = was.word inside in
            by_start at is x next w same
            (code.starts (file s t before) x (view here) here.reserved w (used.registers own at inside)
            next.is there)
        by_step at is inside f same (ByCall x g k next calls) there =
            absurd (false≢true (sym (code.no_call (file s t before) x (was.word inside) next.is) ∙ calls))
        by_step at is inside f same (Answered v) there = inl there
        by_step at is inside f same (Aborts to its comes) there = absurd (exec_apart is its)
        by_step at is inside f same (AtHandler g k runs) there = absurd (no_signal now k runs)
        by_step at is inside f same (AtBirth g k new) there =
            absurd (not_born s e before step t (live_where s e before step t own at) new)

        by_arrival : Arrives s b t e before → In before ⊎ ComesIn
        by_arrival (at_first is) = absurd (false≢true
            (sym placed.first ∙ sym (ap (is_inside b.range) is) ∙ now))
        by_arrival (came_back left) = absurd (false≢true (sym (was.left after left).1 ∙ now))
        by_arrival (stayed live other same) = inl (ap (is_inside b.range) (sym same) ∙ now)
        by_arrival (executed at is inside) = by_step at is inside after refl (file_step s e before t run goes)
            now
        by_arrival (interrupted live other inside) = inl inside

    -- by another kind of event it was inside before it
    pub was_in : In (e ∷ before) → e.entry.kind ≢ kind.Exec → In before
    was_in now other = by_way (came_in now)
      where
        by_way : In before ⊎ ComesIn → In before
        by_way (inl inside) = inside
        by_way (inr comes) = absurd (other comes.exec)

    -- a thread that begins to run isn't inside after it
    abort_file : (o : Outcome) → o ≡ comes_to.Aborted b.range.abort
        → is_inside b.range (file_among (files_interrupted here t o) t (file s t before)).pc ≡ false
    abort_file o is =
        ap (λ x. is_inside b.range (file_among (files_interrupted here t x) t (file s t before)).pc) is
        ∙ ap (λ c. is_inside b.range (cond c (record (here.file t) { pc = b.range.abort })
        (file s t before)).pc) (eqb_same t)
        ∙ placed.handler

    run_files : (o : Outcome) (c : Bool) → (cond c (done_running here t o)
        (done_killed here t o)).files ≡ files_interrupted here t o
    run_files o true = refl
    run_files o false = refl

    killed_lives : (o : Outcome) → o ≡ comes_to.Killed bad.AreaBytes
        → (cond (lives_on here t o) (done_running here t o) (done_killed here t o)).ended ≡ Some
        (Killed SIGSEGV)
    killed_lives o is =
        ap (λ x. (cond (lives_on here t x) (done_running here t x) (done_killed here t x)).ended) is

    pub run_out : e.entry.kind ≡ kind.Run → e.entry.tid.0 ≡ t → In before → In (e ∷ before) → ⊥
    run_out is its inside now =
        by_way (run_interrupts is its inside)
      where
        did : e.done ≡ done_run here t
        did = did_at kind.Run is ∙ ap (done_run here) its

        by_way : IsInterruptedHere → ⊥
        by_way (inl aborted) =
            let o = interruption_here here t in
            let files : e.done.files ≡ files_interrupted here t o =
            ap (λ (d : Done). d.files) did ∙ run_files o (lives_on here t o) in
            false≢true (sym (abort_file o aborted)
            ∙ sym (ap (λ (fs : List (ℕ × Saved)). is_inside b.range (file_among fs t (file s t before)).pc)
            files) ∙ now)
        by_way (inr killed) =
            not_over (Killed SIGSEGV)
            (sym (killed_lives (interruption_here here t) killed) ∙ sym (ap (λ (d : Done). d.ended) did)
            ∙ goes)

    -- a `take` that restarts it leads it out
    pub take_quiet : e.entry.kind ≡ kind.Take → running s own before ≡ Some t → In before → In (e ∷ before)
        → e.done.interrupted ≡ None
    take_quiet is at inside now = by_restart here.restart
        (did_at kind.Take is ∙ ap (done_take_by here here.restart) at)
      where
        by_way : e.done ≡ took_and_interrupted here t (interruption_here here t) → IsInterruptedHere → ⊥
        by_way did (inl aborted) =
            let o = interruption_here here t in
            false≢true (sym (abort_file o aborted)
            ∙ sym (ap (λ (d : Done). is_inside b.range (file_among d.files t (file s t before)).pc) did)
            ∙ now)
        by_way did (inr killed) =
            not_over (Killed SIGSEGV) (sym (ap killed_by killed) ∙ sym (ap (λ (d : Done). d.ended) did) ∙
            goes)

        by_restart : (restart : Bool) → e.done ≡ done_take_by here restart (Some t)
            → e.done.interrupted ≡ None
        by_restart false did = ap (λ (d : Done). d.interrupted) did
        by_restart true did =
            absurd (by_way did (hart_interrupts at (take_empty here (free_at kind.Take is)) inside))

    -- THE POINTER

    -- after an event of the thread's own hart that isn't a drain
    kept_own : e.done.drained ≡ 0 → Leaves (pointer_of_area b) e.done.entered
        → ((a c : ℕ) → pointer_of_area b a ≡ true → overlay e.done.executed a c ≡ c) → SeesTable own before
        → SeesTable own (e ∷ before)
    kept_own none leaves stores table =
        in_pointer (λ a has. ap Some (
        ap (λ (ws : List Store). overlay ws a (written e.done.entered a (byte s before a)))
        (step.waits ∙ ap (λ n. drop n (waiting own before ++ e.done.executed)) none)
        ∙ overlay_append (waiting own before) e.done.executed a (written e.done.entered a (byte s before a))
        ∙ stores a (overlay (waiting own before) a (written e.done.entered a (byte s before a))) has
        ∙ ap (overlay (waiting own before) a) (leaves a (byte s before a) has))) ∙ table

    kept_idle : IsIdle here e.done → SeesTable own before → SeesTable own (e ∷ before)
    kept_idle idle table = in_pointer (λ a has. ap Some (sees_idle s e before a step idle)) ∙ table

    -- the instruction just before the start stores it
    stored_now : ComesIn → SeesTable own (e ∷ before)
    stored_now comes =
        let w : Store = record { at = b.area.at + RSEQ_CS; size = 8; value = b.table } in
        let none = drains_none s e before step (λ drains. two_kinds (sym comes.exec ∙ drains)) in
        in_pointer (λ a has. ap Some (sees_own s e before a step none comes.entered
        ∙ ap (λ (es : List Store). overlay es a (sees s own before a)) comes.executed))
        ∙ stored_word (sees s own before) w small
      where
        two_kinds : kind.Exec ≡ kind.Drain → ⊥
        two_kinds is = cc

        small : b.table < 256 ^ 8
        small = let low = leb-false USER_END b.table placed.low_table in omega arith

    elsewhere : (h : ℕ) → eqb own h ≡ false → running s h before ≡ Some t → running s own before ≢ Some t
    elsewhere h apart at there = eqb-false own h apart (sym (one_hart s e before step h t at own there))

    begins_not : (h : ℕ) → running s h before ≡ Some t → e.entry.kind ≡ kind.Run → e.entry.tid.0 ≢ t
    begins_not h at is its = run_off is its h at

    seen_apart : (h : ℕ) → eqb own h ≡ false → running s h (e ∷ before) ≡ Some t → In (e ∷ before)
        → SeesTable h (e ∷ before)
    seen_apart h apart now_at now =
        let at : running s h before ≡ Some t = sym (runs_apart s h e before step apart) ∙ now_at in
        let inside : In before = sym (ap (λ (f : Saved). is_inside b.range f.pc)
        (file_apart s h t e before step apart at)) ∙ now in
        let leaves = (used.pointer inside).others (elsewhere h apart at) (begins_not h at) in
        in_pointer (λ a has. ap Some (sees_apart s h e before a apart (leaves a (byte s before a) has)))
        ∙ was.seen h at inside

    pub begins_it : e.entry.kind ≡ kind.Run → running s own (e ∷ before) ≡ Some t → e.entry.tid.0 ≡ t
    begins_it is now_at = begun_is s e before t step is now_at

    pub ran_here : (k : Kind) → e.entry.kind ≡ k → (k ≡ kind.Run → ⊥) → running s own (e ∷ before) ≡ Some t
        → running s own before ≡ Some t
    ran_here k is other now_at = ran_before s e before run (λ runs. other (sym is ∙ runs)) t now_at

    idle_drain : e.entry.kind ≡ kind.Drain → IsIdle here e.done
    idle_drain is = subst (IsIdle here) (sym (did_at kind.Drain is))
        (drain_idle here (waiting_here here) refl)

    pub return_done : e.entry.kind ≡ kind.Done → running s own before ≡ Some t
        → e.done ≡ done_done_by here (Some t)
    return_done is at = did_at kind.Done is ∙ ap (done_done_by here) at

    pub leaving_done : (k : Kind) → e.entry.kind ≡ k → is_preempt k ≡ true → running s own before ≡ Some t
        → e.done ≡ done_preempt_by here (Some t)
    leaving_done k is leaves at = did_at k is ∙ leaving_does k e.entry here t leaves at

    -- what its hart sees is left by an event of the kernel that writes nothing
    seen_quiet : (k : Kind) → e.entry.kind ≡ k → IsOfKernel (done_of (choice_with k e.entry) here)
        → (done_of (choice_with k e.entry) here).entered ≡ [] → running s own before ≡ Some t → In before
        → SeesTable own (e ∷ before)
    seen_quiet k is by_it none at inside =
        let did = did_at k is in
        kept_own (ap (λ (d : Done). d.drained) did ∙ by_it.drained)
        (λ a c has. ap (λ (d : Done). written d.entered a c) did
        ∙ ap (λ (ws : List Write). written ws a c) none)
        (λ a c has. ap (λ (d : Done). overlay d.executed a c) did
        ∙ ap (λ (ws : List Store). overlay ws a c) by_it.executed)
        (was.seen own at inside)

    seen_kind : running s own (e ∷ before) ≡ Some t → In (e ∷ before) → (k : Kind) → e.entry.kind ≡ k
        → SeesTable own (e ∷ before)
    seen_kind now_at now kind.Exec is = by_way (came_in now)
      where
        by_way : In before ⊎ ComesIn → SeesTable own (e ∷ before)
        by_way (inr comes) = stored_now comes
        by_way (inl inside) =
            let at = ran_here kind.Exec is (λ same. cc) now_at in
            kept_own (drains_none s e before step (λ drains. exec_drain (sym is ∙ drains)))
            ((used.pointer inside).own at is)
            ((used.pointer inside).stores at) (was.seen own at inside)
    seen_kind now_at now kind.Drain is =
        let at = ran_here kind.Drain is (λ same. cc) now_at in
        let inside = was_in now (λ exec. drain_exec (sym is ∙ exec)) in
        kept_idle (idle_drain is) (was.seen own at inside)
    seen_kind now_at now kind.Take is =
        let at = ran_here kind.Take is (λ same. cc) now_at in
        let inside = was_in now (λ exec. take_exec (sym is ∙ exec)) in
        let did = did_at kind.Take is in
        let none : (done_take here).interrupted ≡ None =
        sym (ap (λ (d : Done). d.interrupted) did) ∙ take_quiet is at inside now in
        kept_idle (subst (IsIdle here) (sym did) (take_idle here here.restart (runs here) none))
        (was.seen own at inside)
    seen_kind now_at now kind.Run is =
        absurd (run_out is (begins_it is now_at) (was_in now (λ exec. run_exec (sym is ∙ exec))) now)
    seen_kind now_at now kind.Signal is =
        absurd (no_signal now is (ran_here kind.Signal is (λ same. cc) now_at))
    seen_kind now_at now k is =
        seen_quiet k is (of_kernel here (choice_with k e.entry) refl)
        (writes_none here (choice_with k e.entry) refl refl) (ran_here k is (λ same. cc) now_at)
        (was_in now (λ exec. let both : k ≡ kind.Exec = sym is ∙ exec in cc))

    seen_next : (h : ℕ) → running s h (e ∷ before) ≡ Some t → In (e ∷ before) → SeesTable h (e ∷ before)
    seen_next h at now = by_hart (eqb own h) refl
      where
        by_hart : (c : Bool) → eqb own h ≡ c → SeesTable h (e ∷ before)
        by_hart false apart = seen_apart h apart at now
        by_hart true is =
            let same = eqb-true own h is in
            subst (λ k. SeesTable k (e ∷ before)) same
            (seen_kind (ap (λ k. running s k (e ∷ before)) same ∙ at) now e.entry.kind refl)

    -- IN MEMORY

    byte_kept : In before → running s own before ≢ Some t → (e.entry.kind ≡ kind.Run → e.entry.tid.0 ≢ t)
        → HoldsTable before
        → HoldsTable (e ∷ before)
    byte_kept inside apart begins table =
        in_pointer (λ a has. ap Some ((used.pointer inside).others apart begins a (byte s before a) has))
        ∙ table

    exec_in : In (e ∷ before) → e.entry.kind ≡ kind.Exec → in_block b (file s t before).pc ≡ true
    exec_in now is = by_arrival (used.enters (placed.within after.pc now))
      where
        by_arrival : Arrives s b t e before → in_block b (file s t before).pc ≡ true
        by_arrival (at_first first) = absurd (false≢true
            (sym placed.first ∙ sym (ap (is_inside b.range) first) ∙ now))
        by_arrival (came_back left) = absurd (false≢true (sym (was.left after left).1 ∙ now))
        by_arrival (stayed live other same) = ap (in_block b) (sym same) ∙ placed.within after.pc now
        by_arrival (executed at exec inside) = inside
        by_arrival (interrupted live other inside) = placed.within (file s t before).pc inside

    -- an instruction that is no call leaves the thread on its hart
    either_threads : (c : Bool) (x y : Done) → running_on own x.kernel.threads ≡ running s own before
        → running_on own y.kernel.threads ≡ running s own before
        → running_on own (cond c x y).kernel.threads ≡ running s own before
    either_threads true x y p q = p
    either_threads false x y p q = q

    effect_still : (fault : Option ℕ) (o : Option Effect) → ((x : Effect) → o ≡ Some x → is_call x ≡ false)
        → running_on own (by_effect here t fault o).kernel.threads ≡ running s own before
    effect_still (Some signal) o plain = either_threads (has_handler here t signal) _ _ refl refl
    effect_still None None plain = refl
    effect_still None (Some x) plain =
        ap (λ c. running_on own (cond c (by_call here (called_here here t))
        (by_outcome here t (outcome_of here t x))).kernel.threads) (plain x refl)

    exec_still : e.entry.kind ≡ kind.Exec → running s own before ≡ Some t
        → in_block b (file s t before).pc ≡ true
        → running s own (e ∷ before) ≡ running s own before
    exec_still is at inside =
        ap (λ (d : Done). running_on own d.kernel.threads) (did_at kind.Exec is ∙ ap (done_exec_by here) at)
        ∙ effect_still (next_fault here t) (next_effect here t)
        (λ x same. code.no_call (file s t before) x (was.word inside) same)

    take_still : (restart : Bool) (r : Option ℕ) → (done_take_by here restart r).kernel ≡ here.kernel
    take_still false r = refl
    take_still true None = refl
    take_still true (Some u) = refl

    -- an event of the kernel that interrupts no thread, by which its thread leaves or doesn't
    stored_quiet : (k : Kind) → e.entry.kind ≡ k → is_by_kernel (maker_of (choice_with k e.entry)) ≡ true
        → may_interrupt (kind_of (choice_with k e.entry)) ≡ false → k ≢ kind.Exec → running s own before ≡ Some t
        → IsOff (e ∷ before) → In (e ∷ before) → (b : Bool) → is_preempt k ≡ b → HoldsTable (e ∷ before)
    stored_quiet k is by_it never other at off now false stays =
        let keeps = keeps_record here (choice_with k e.entry) by_it never
        (ap is_preempt (kind_back k e.entry.tid) ∙ stays) in
        absurd (off own (ap (λ (d : Done). running_on own d.kernel.threads) (did_at k is)
        ∙ ap (λ (x : Kernel). running_on own x.threads) keeps ∙ at))
    stored_quiet k is by_it never other at off now true leaves =
        let inside = was_in now (λ exec. other (sym is ∙ exec)) in
        let empty = leaving_waits k e.entry here leaves (free_at k is) in
        in_pointer (λ a has. ap Some (
        ap (λ (d : Done). written d.entered a (byte s before a)) (did_at k is)
        ∙ ap (λ (ws : List Write). written ws a (byte s before a))
        (writes_none here (choice_with k e.entry) by_it never)
        ∙ sym (ap (λ (ws : List Store). overlay ws a (byte s before a)) empty)))
        ∙ was.seen own at inside

    stored_kind : running s own before ≡ Some t → IsOff (e ∷ before) → In (e ∷ before) → (k : Kind)
        → e.entry.kind ≡ k → HoldsTable (e ∷ before)
    stored_kind at off now kind.Exec is = absurd (off own (exec_still is at (exec_in now is) ∙ at))
    stored_kind at off now kind.Drain is =
        absurd (off own (ap (λ (k : Kernel). running_on own k.threads) (idle_drain is).kernel ∙ at))
    stored_kind at off now kind.Take is =
        absurd (off own (ap (λ (d : Done). running_on own d.kernel.threads) (did_at kind.Take is)
        ∙ ap (λ (k : Kernel). running_on own k.threads) (take_still here.restart (runs here)) ∙ at))
    stored_kind at off now kind.Run is = absurd
        (no_one t (sym (run_ready here e.entry.tid.0 (free_at kind.Run is)).0 ∙ at))
    stored_kind at off now kind.Signal is = absurd (no_signal now is at)
    stored_kind at off now k is = stored_quiet k is refl refl (λ same. cc) at off now (is_preempt k) refl

    stored_next : IsOff (e ∷ before) → In (e ∷ before) → HoldsTable (e ∷ before)
    stored_next off now = by_place (on_or_off s e before step t)
      where
        by_hart : (h : ℕ) → running s h before ≡ Some t → (c : Bool) → eqb own h ≡ c → HoldsTable (e ∷ before)
        by_hart h at false apart = absurd (off h (runs_apart s h e before step apart ∙ at))
        by_hart h at true is = stored_kind (ap (λ k. running s k before) (eqb-true own h is) ∙ at) off now
            e.entry.kind refl

        by_way : IsOff before → In before ⊎ ComesIn → HoldsTable (e ∷ before)
        by_way none (inr comes) = absurd (none own comes.runs)
        by_way none (inl inside) =
            byte_kept inside (none own) (λ is its. run_out is its inside now) (was.stored none inside)

        by_place : IsOnOrOff s t before → HoldsTable (e ∷ before)
        by_place (is_on h at) = by_hart h at (eqb own h) refl
        by_place (is_off none) = by_way none (came_in now)

    -- TAKEN OUT BY A SIGNAL

    left_word : (f : Saved) → IsTakenOut s b t f e before → Knows f
    left_word f out = by_word out.word
      where
        regs : f.file ≡ (file s t before).file
        regs = ap (λ (g : Saved). g.file) out.saved

        by_word : (f.pc ≡ (file s t before).pc) ⊎ (f.pc ≡ b.range.abort) → Knows f
        by_word (inl same) =
            let w = was.word out.inside in
            record {
              word = w.word;
              below = w.below;
              pc = same
                  ∙ w.pc;
              know = subst (Know w.word) (sym regs) w.know;
            }
        by_word (inr abort) = at_handler f.pc abort f.file

    signal_kills : running s own before ≡ Some t → e.entry.kind ≡ kind.Signal
        → interruption_here here t ≡ comes_to.Killed bad.AreaBytes → ⊥
    signal_kills at is killed =
        by_next (next_for t here.kernel.signals) refl
        (sym (ap (refusal_signal_by here) at) ∙ free_at kind.Signal is)
        (did_at kind.Signal is ∙ ap (done_signal_by here) at)
      where
        by_next : (next : Option ℕ) → next_for t here.kernel.signals ≡ next
            → refusal_signal_by here (Some t) ≡ None
            → e.done ≡ done_next here t (next_for t here.kernel.signals) → ⊥
        by_next None none free did = no_reason (awaits_open here.awaits _
            (ap (λ n. unless_in_barrier here.awaits (refusal_delivery here n)) (sym none) ∙ free))
        by_next (Some signal) some free did =
            not_over (Killed SIGSEGV)
            (sym (ap (λ o. (handled_unless_killed here t signal o (kills here t signal o)).ended) killed)
            ∙ sym (ap (λ (d : Done). d.ended) (did ∙ ap (done_next here t) some)) ∙ goes)

    left_out : (f : Saved) → IsTakenOut s b t f e before → is_inside b.range f.pc ≡ false
    left_out f out = by_word out.word
      where
        by_inside : f.pc ≡ (file s t before).pc → (c : Bool) → is_inside b.range (file s t before).pc ≡ c
            → is_inside b.range f.pc ≡ false
        by_inside same false outside = ap (is_inside b.range) same ∙ outside
        by_inside same true inside =
            by_way (hart_interrupts out.runs (signal_empty here t
            (sym (ap (refusal_signal_by here) out.runs) ∙ free_at kind.Signal out.signal)) inside)
          where
            by_way : IsInterruptedHere → is_inside b.range f.pc ≡ false
            by_way (inl aborted) =
                ap (λ (g : Saved). is_inside b.range g.pc) out.saved
                ∙ ap (λ o. is_inside b.range (pc_after (file s t before).pc o)) aborted ∙ placed.handler
            by_way (inr killed) = absurd (signal_kills out.runs out.signal killed)

        by_word : (f.pc ≡ (file s t before).pc) ⊎ (f.pc ≡ b.range.abort) → is_inside b.range f.pc ≡ false
        by_word (inl same) = by_inside same (is_inside b.range (file s t before).pc) refl
        by_word (inr abort) = ap (is_inside b.range) abort ∙ placed.handler

    left_next : (f : Saved) → HasLeft s b t f (e ∷ before) → Knows f × (is_inside b.range f.pc ≡ false)
    left_next f (inl out) = (left_word f out, left_out f out)
    left_next f (inr older) = was.left f older

    sound_next : IsSound (e ∷ before)
    sound_next = record { word = word_next; left = left_next; seen = seen_next; stored = stored_next }

  -- WHOLE RUNS

  first_in : AreUsed s b t [] → In [] → ⊥
  first_in used now =
      false≢true (sym placed.first ∙ sym (ap (is_inside b.range) (used (placed.within s.program.entry now))) ∙
      now)

  pub sound : (before : History) → IsRunHistory s before → AreUsed s b t before → ended before ≡ None
      → IsSound before
  sound [] run used goes = record {
    word = λ now. record {
      word = 0;
      below = code.some;
      pc = used now ∙ omega arith;
      know = code.first
          (file s t []).file;
    };
    left = λ f left. absurd left;
    seen = λ h at now. absurd (first_in used now);
    stored = λ off now. absurd (first_in used now);
  }
  sound (e ∷ before) run used goes =
      let parts = first_none e.done.ended (ended before) goes in
      sound_next e before run (sound before run.0 used.0 parts.1) used.1 parts.0
