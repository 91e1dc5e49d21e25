-- membarrier(8, 0, ..) of a process that is registered for it is a barrier for each hart.
use Rattle.std.proofs.Common.{◌≡◌, ◌≢◌, ℕ, ◌<◌, ◌%◌, ◌^◌, List, [], ◌∷◌, ◌⊎◌, length, refl, sym, ap, ◌∙◌}
use Rattle.std.proofs.Common.{arith, Bool, true, false, not, cond, eqb, leb, ltb, ◌&&◌, ◌||◌, Option, Some}
use Rattle.std.proofs.Common.{None, is_some, inl, inr, ℤ, pos}
use Rattle.std.specs.Option.{option_map, option_map_or, option_or}
use Rattle.std.proofs.lemmas.Bool.{eqb-true, lt-ltb, ne_eqb, false≢true}
use Rattle.mach_types.proofs.Laws.{eqb_same, has_hart-harts_that}
use Rattle.mach_types.specs.Events.{choice_of}
use Rattle.mach_types.specs.Kernel.Barriers.{answer_of, asked, barrier_at, command, is_about, is_target}
use Rattle.mach_types.specs.Kernel.Barriers.{refusal, targets}
use Rattle.mach_types.specs.Kernel.Scheduling.{has_hart}
use Rattle.mach_types.specs.Kernel.Threads.{running_on}
use Rattle.mach_types.specs.Registers.{register}
use Rattle.mach_types.specs.declared.barriers.BarrierCommand.TheVariants.{PrivateExpedited}
use Rattle.mach_types.specs.declared.barriers.Answer.TheVariants.{Begin, Value}
use Rattle.mach_types.specs.declared.errors.TheConstants.{EINVAL, EPERM}
use Rattle.mach_types.specs.declared.events.Choice.TheVariants as asked_for
use Rattle.mach_types.specs.declared.events.Why.{Why}
use Rattle.mach_types.specs.declared.limits.End.{End}
use Rattle.mach_types.specs.declared.events.Why.TheVariants.{FullBuffer, InBarrier, Waiting}
use Rattle.mach_types.specs.declared.user_memory.TheConstants.{STORE_BUFFER_CAPACITY}
use Rattle.mach_types.specs.declared.user_memory.Store.{Store}
use Rattle.rv_inst.specs.Execution.{instruction_gate}
use Rattle.rv_inst.specs.Meaning.{meaning}
use Rattle.rv_inst.specs.Words.{signed_32, sum_64, word}
use Rattle.rv_inst.specs.declared.effects.Effect.TheVariants as effect
use Rattle.rv_inst.specs.declared.instruction.Inst.{Inst}
use Rattle.rv_inst.specs.declared.instruction.Inst.TheVariants as inst
use Rattle.alone.proofs.Laws.{written_other}
use Rattle.alone_laws.specs.Spans.{code_of}
use Rattle.block_model.specs.Acts.{is_inside_at}
use Rattle.block_model.specs.Calls.{call_of, called}
use Rattle.block_model.specs.Calls.Answers.{argument, int_argument, killed_in_call, returned}
use Rattle.block_model.specs.Calls.Barriers.{answers, running_harts}
use Rattle.block_model.specs.Events.{done_of, refusal_of}
use Rattle.block_model.specs.Events.Exec.{by_call, by_effect, called_here, done_exec_by, is_held}
use Rattle.block_model.specs.Events.Exec.{next_effect, next_fault, others_gate, refusal_exec_by}
use Rattle.block_model.specs.Events.Preempt.{unless_in_barrier}
use Rattle.block_model.specs.Here.{Barrier, Done, Here, is_writable, memory, waiting_here}
use Rattle.block_model.specs.History.{Event, History, file, file_among, here_in_history, kernel, running}
use Rattle.block_model.specs.History.{waiting}
use Rattle.block_model.specs.Instruction.{fault_by, fetched}
use Rattle.block_model.specs.Sequences.{is_inside_here}
use Rattle.block_model.specs.Setting.{Setting}
use Rattle.block_model.proofs.Laws.{IsStep, running_is}
use Rattle.fence_laws.specs.Entered.{IsAboutAll, IsFence, IsOverAtOnce}
use Rattle.fence_laws.proofs.ExecLaw.{exec_of}

call_means : (regs_pc : ℕ) (s : Setting) (t : ℕ) (before : History)
    → meaning inst.Ecall (file s t before).file regs_pc ≡ effect.Call
unfolding meaning
call_means regs_pc s t before = refl

asked_private : asked (pos 8) 0 ≡ Some PrivateExpedited
unfolding asked
asked_private = refl

none_in : (k : ℕ) → has_hart 0 k ≡ false
none_in k = has_hart-harts_that (λ h. false) 0 k

eight : signed_32 8 ≡ pos 8
eight = refl

no_end : (x : End) → Some x ≡ None → ⊥
no_end x is = cc

no_why : (w : Why) → Some w ≡ None → ⊥
no_why w is = cc

-- a call is made only where no store waits
gate_shut : (some fault full : Bool) (rest : Option Why) → some ≡ true
    → option_or (cond (some && (fault || true)) (Some Waiting) (cond (full && false) (Some FullBuffer) None)) rest ≡ Some Waiting
gate_shut true true full rest is = refl
gate_shut true false full rest is = refl
gate_shut false fault full rest is = absurd (false≢true is)

empty_by : (free : Option ℕ) (ws : List Store) (fault : Bool) (rest : Option Why)
    → unless_in_barrier free (option_or (instruction_gate (length ws) (Some effect.Call) fault) rest) ≡ None
    → free ≡ None → ws ≡ []
empty_by None [] fault rest is none = refl
empty_by None (w ∷ ws) fault rest is none =
    let n = length (w ∷ ws) in
    let some = lt-ltb 0 n (omega arith) in
    absurd (no_why Waiting (sym (gate_shut (ltb 0 n) fault (leb STORE_BUFFER_CAPACITY n) rest some) ∙ is))
empty_by (Some left) ws fault rest is none = absurd (no_why InBarrier is)

module _ (s : Setting) (e : Event) (before : History) (step : IsStep s e before)
    (executes : choice_of e.entry ≡ asked_for.Exec) where
  abbrev here : Here
  here = here_in_history s before e.entry.hart.0

  abbrev t : ℕ
  t = e.entry.tid.0

  abbrev harts : ℕ
  harts = s.limits.harts

  abbrev running_set : ℕ
  running_set = running_harts (kernel s before).threads harts

  -- a call inside a restartable sequence ends the process
  pub outside_of : code_of s.program.pages (file s t before).pc ≡ Some inst.Ecall → e.done.ended ≡ None
      → is_inside_at s e.entry.hart.0 before ≡ false
  outside_of code lives = ap (λ o. option_map_or (is_inside_here here) o false) runs_it
      ∙ by_inside (is_inside_here here t) refl
    where
      runs_it : running s e.entry.hart.0 before ≡ Some t
      runs_it = (exec_of s e before step executes).runs

      next : next_effect here t ≡ Some effect.Call
      next =
          ap (λ o. option_map (λ (i : Inst). meaning i (file s t before).file (file s t before).pc) o) code
          ∙ ap Some (call_means (file s t before).pc s t before)

      did : e.done ≡ by_call here (called_here here t)
      did =
          step.did ∙ ap (λ c. done_of c here) executes ∙ ap (λ r. done_exec_by here r) runs_it
          ∙ ap (λ f. by_effect here t f (next_effect here t))
          (ap (fault_by (memory here) (is_writable here) (file s t before).pc
          (fetched s.program.pages (file s t before).pc)) next)
          ∙ ap (λ d. by_effect here t None d) next

      by_inside : (b : Bool) → is_inside_here here t ≡ b → is_inside_here here t ≡ false
      by_inside false is = is
      by_inside true is =
          absurd (no_end _
          (sym (ap (λ (d : Done). d.ended) did
          ∙ ap (λ b. (by_call here (cond b (killed_in_call here) (called here t))).ended) is)
          ∙ lives))

  pub record IsCall : Type 0 where
    pub code : code_of s.program.pages (file s t before).pc ≡ Some inst.Ecall
    pub number : register (file s t before).file 17 ≡ 283
    pub command : register (file s t before).file 10 ≡ 8
    pub flags : register (file s t before).file 11 ≡ 0
    pub private : (kernel s before).barriers.private ≡ true
    pub outside : is_inside_at s e.entry.hart.0 before ≡ false

  module _ (call : IsCall) where
    next_is : next_effect here t ≡ Some effect.Call
    next_is = ap
        (λ o. option_map (λ (i : Inst). meaning i (file s t before).file (file s t before).pc) o) call.code
        ∙ ap Some (call_means (file s t before).pc s t before)

    no_fault : next_fault here t ≡ None
    no_fault = ap
        (fault_by (memory here) (is_writable here) (file s t before).pc
        (fetched s.program.pages (file s t before).pc)) next_is

    nothing_waits : waiting e.entry.hart.0 before ≡ []
    nothing_waits =
        let of = exec_of s e before step executes in
        let free : refusal_exec_by here (Some t) ≡ None = sym (ap (refusal_exec_by here) of.runs)
        ∙ sym (ap (λ c. refusal_of c here) executes) ∙ step.free in
        let gate = sym
        (ap (λ o. unless_in_barrier here.awaits
        (option_or (instruction_gate (length (waiting_here here)) o (is_some (next_fault here t)))
        (others_gate (is_held here t) o))) next_is) ∙ free in
        empty_by here.awaits (waiting_here here) (is_some (next_fault here t))
        (others_gate (is_held here t) (Some effect.Call)) gate of.free

    inside_not : is_inside_here here t ≡ false
    inside_not = sym
        (ap (λ o. option_map_or (is_inside_here here) o false) (exec_of s e before step executes).runs)
        ∙ call.outside

    abbrev cpu : ℤ
    cpu = signed_32 (argument here t 2)

    abbrev about : ℕ
    about = targets 0 cpu e.entry.hart.0 running_set harts

    command_is : command (kernel s before).barriers (signed_32 (argument here t 0))
        (int_argument here t 1) cpu e.entry.hart.0 running_set harts ≡ barrier_at about false
    command_is =
        ap (λ n. command (kernel s before).barriers (signed_32 n)
        (int_argument here t 1) cpu e.entry.hart.0 running_set harts) call.command
        ∙ ap (λ n. command (kernel s before).barriers (pos 8)
        (n % 2 ^ 32) cpu e.entry.hart.0 running_set harts) call.flags
        ∙ ap (λ o. option_map_or (answer_of (kernel s before).barriers about) o
        (refusal EINVAL)) asked_private
        ∙ ap (λ b. cond b (barrier_at about false) (refusal EPERM)) call.private

    did_call : e.done ≡ by_call here (answers here t (barrier_at about false))
    did_call =
        step.did ∙ ap (λ c. done_of c here) executes
        ∙ ap (λ r. done_exec_by here r) (exec_of s e before step executes).runs
        ∙ ap (λ f. by_effect here t f (next_effect here t)) no_fault
        ∙ ap (λ d. by_effect here t None d) next_is
        ∙ ap (λ b. by_call here (cond b (killed_in_call here) (called here t))) inside_not
        ∙ ap (λ n. by_call here (call_of n here t)) call.number
        ∙ ap (λ a. by_call here (answers here t a)) command_is

    -- the pc goes on past the call
    pub past_call : (file s t (e ∷ before)).pc ≡ sum_64 (file s t before).pc 4
    past_call =
        ap (λ (d : Done). (file_among d.files t (file s t before)).pc) did_call ∙ by_set (eqb about 0)
      where
        by_set : (b : Bool) →
            (file_among (answers here t (cond b (Value (pos 0)) (Begin about false))).files t
            (file s t before)).pc ≡ sum_64 (file s t before).pc 4
        by_set true = ap (λ b. (cond b (returned (word (pos 0)) (file s t before)) (file s t before)).pc)
            (eqb_same t)
        by_set false = ap
            (λ b.
            (cond b (record (file s t before) { pc = sum_64 (file s t before).pc 4 }) (file s t before)).pc)
            (eqb_same t)

    -- and no register changes but a0
    pub call_keeps : (j : ℕ) → j ≢ 10 → register (file s t (e ∷ before)).file j ≡ register
        (file s t before).file j
    call_keeps j other =
        ap (λ (d : Done). register (file_among d.files t (file s t before)).file j) did_call
        ∙ by_set (eqb about 0)
      where
        by_set : (b : Bool)
            → register
            (file_among (answers here t (cond b (Value (pos 0)) (Begin about false))).files t
            (file s t before)).file j
            ≡ register (file s t before).file j
        by_set true =
            ap (λ b. register (cond b (returned (word (pos 0)) (file s t before)) (file s t before)).file j)
            (eqb_same t)
            ∙ written_other (file s t before).file 10 (word (pos 0)) j other
        by_set false =
            ap (λ b. register
            (cond b (record (file s t before) { pc = sum_64 (file s t before).pc 4 })
            (file s t before)).file j) (eqb_same t)

    -- each other hart that runs a thread is a target
    is_meant : (k : ℕ) → k ≢ e.entry.hart.0 → running s k before ≢ None → has_hart about k ≡ true
    is_meant k other busy = by_runs (running s k before) refl
      where
        by_runs : (o : Option ℕ) → running s k before ≡ o → has_hart about k ≡ true
        by_runs None is = absurd (busy is)
        by_runs (Some r) is =
            let tables = step.good.kernel.tables in
            let low : k < harts = tables.below r (record { 0 = k })
            (running_is harts k r (kernel s before).threads (kernel s before).scheduling tables is) in
            let runs_it : has_hart running_set k ≡ true =
            has_hart-harts_that (λ h. is_some (running_on h (kernel s before).threads)) harts k
            ∙ ap (λ (o : Option ℕ). is_some o && ltb k harts) is ∙ lt-ltb k harts low in
            has_hart-harts_that (is_target 0 cpu e.entry.hart.0 running_set) harts k
            ∙ ap (λ b. ((b && not (eqb k e.entry.hart.0)) && is_about 0 cpu k) && ltb k harts) runs_it
            ∙ ap (λ b. (not b && is_about 0 cpu k) && ltb k harts) (ne_eqb k e.entry.hart.0 other)
            ∙ lt-ltb k harts low

    pub is_fence : IsFence s e before
    is_fence = record {
      none = ap (λ (d : Done). d.executed) did_call;
      empty = nothing_waits;
      about = by_set
          (eqb about 0) refl;
    }
      where
        by_set : (b : Bool) → eqb about 0 ≡ b
            → ((b : Barrier) × IsAboutAll s e before b) ⊎ IsOverAtOnce s e before
        by_set true is =
            let did = did_call ∙ ap
            (λ b. by_call here (answers here t (cond b (Value (pos 0)) (Begin about false)))) is in
            inr (record {
              none = ap (λ (d : Done). d.barrier) did;
              idle = λ k other. idle k other (running s k before) refl;
            })
          where
            idle : (k : ℕ) → k ≢ e.entry.hart.0 → (o : Option ℕ) → running s k before ≡ o
                → running s k before ≡ None
            idle k other None at = at
            idle k other (Some r) at =
                let meant = is_meant k other (λ none. let bad : None ≡ Some r = sym none ∙ at in cc) in
                absurd (false≢true
                (sym (none_in k) ∙ sym (ap (λ n. has_hart n k) (eqb-true about 0 is)) ∙ meant))
        by_set false is =
            let did = did_call ∙ ap
            (λ b. by_call here (answers here t (cond b (Value (pos 0)) (Begin about false)))) is in
            inl (
              record { targets = about; restart = false },
              record {
                begins = ap (λ (d : Done). d.barrier) did;
                all = is_meant;
              },
            )
