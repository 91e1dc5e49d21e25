-- A call of a thread of a process of a pair that isn't answered as where the process is alone; and one that is.
use Rattle.std.proofs.lemmas.Int.{of_z-to_z}
use Rattle.mach_types.specs.Kernel.Barriers.{registered_after}
use Rattle.mach_types.specs.Kernel.PairBarriers.{command_two}
use Rattle.mach_types.specs.Kernel.Threads.{runs as runs_in}
use Rattle.mach_types.specs.Registers.{register}
use Rattle.rv_inst.specs.declared.effects.Effect.TheVariants as effect
use Rattle.block_model.specs.Calls.Answers.{negative, returned}
use Rattle.block_model.specs.Kernel.{for_barriers}
use Rattle.block_model.proofs.Laws.{called_begins_none}
use Rattle.process.specs.Called.{IsCalled}
use Rattle.process.proofs.PairLaws.{caller_at, done_call, done_inside}
use Rattle.sys_calls.specs.Made.{IsAnswer, IsOwnCall, StandsSo, barrier_of, gives_up, process_end}
use Rattle.sys_calls.specs.declared.calling.CallEnd.{CallEnd}
use Rattle.sys_calls.proofs.CallLaws.{argument_is, begins_only_beside, int_argument_is, made_answers, made_refused}
use Rattle.shared_procs.proofs.Common.{◌≡◌, ◌≢◌, ◌⊎◌, inl, inr, ℕ, ℤ, ◌%◌, ◌^◌, ◌<◌, Bool, true, false, [], Option, Some, None, w32, to_z, of_z, refl, sym, ap, ◌∙◌, arith, Answer, answers, argument, asked, BarrierCommand, Begin, by_call, by_effect, call_next, call_number, call_of, call_writes, called, called_here, concerned, Done, done_exec_by, done_of, Effect, ENOSYS, file_among, filter, Hart, Here, here_two, int_argument, is_call, is_inside_here, is_shared, IsGap, IsPlanned, IsStep, neighbour, next_effect, Pair, PairSetting, Parts, permission_in, refused, Registered, running_harts, Saved, signed_32, stand, targets, Threads, Value, Exec, IsOutsideCall}
use Rattle.shared_procs.proofs.PairEvents.{hidden_writes}

-- 32 bits that are read as a signed number, written and read again
again : (z : ℤ) (n : ℕ) → z ≡ signed_32 n → to_z w32 (of_z w32 z) ≡ signed_32 n
again z n is =
    let fits : n % 4294967296 < 4294967296 = omega arith in
    ap (to_z w32) (ap (of_z w32) is ∙ of_z-to_z w32 (n % 4294967296) fits)

-- an answer of membarrier(2) writes nothing
answers_silent : (here : Here) (t : ℕ) (a : Answer) → (answers here t a).entered ≡ []
answers_silent here t (Value n) = refl
answers_silent here t (Begin targets restart) = refl

pub number_read : (here : Here) (t n : ℕ) (saved : Saved) → n ≡ register saved.file 17 → saved ≡ here.file t → n ≡ call_number here t
number_read here t n saved is file = is ∙ ap (λ (f : Saved). register f.file 17) file

module _ (s : PairSetting) (m : Pair) (p : Bool) (h : Hart) (mine other : Parts) (step : IsStep s m p h.0 call_next mine other) where
  abbrev here : Here
  here = here_two s m p h.0

  abbrev t : ℕ
  t = step.thread

  abbrev harts : ℕ
  harts = s.limits.harts

  -- outside sequences
  done_outside : is_inside_here here t ≡ false → done_of Exec here ≡ by_call here (called here t)
  done_outside outside = done_call here t step.at (sym step.fault) (sym step.effect) outside

  -- MEMBARRIER

  abbrev cmd_asked : ℤ
  cmd_asked = signed_32 (argument here t 0)

  abbrev answer_asked : Answer
  answer_asked =
      command_two here.kernel.barriers (neighbour s m p).registered cmd_asked (int_argument here t 1) (signed_32 (argument here t 2)) here.hart
      (running_harts here.kernel.threads harts) (neighbour s m p).running harts

  abbrev targets_asked : BarrierCommand → ℕ
  targets_asked c =
      targets (int_argument here t 1) (signed_32 (argument here t 2)) here.hart
      (concerned c here.kernel.barriers (neighbour s m p).registered (running_harts here.kernel.threads harts) (neighbour s m p).running harts) harts

  registered_then : (r : Registered) (a : Answer) → a ≡ answer_asked → r ≡ registered_after here.kernel.barriers cmd_asked (int_argument here t 1)
      → (answers here t a).kernel ≡ for_barriers r here.kernel
  registered_then r (Value n) is after = ap (λ (x : Registered). for_barriers x here.kernel) (sym after)
  registered_then r (Begin set restart) is after =
      sym
      (ap (λ (x : Registered). for_barriers x here.kernel)
      (after ∙ begins_only_beside here.kernel.barriers targets_asked set restart (asked cmd_asked (int_argument here t 1)) (sym is)))

  -- what was asked, by the registers
  module _ (saved : Saved) (cmd cpu : ℤ) (flags running beside many : ℕ) (file : saved ≡ here.file t)
      (cmd_is : cmd ≡ signed_32 (register saved.file 10)) (flags_is : flags ≡ register saved.file 11 % 2 ^ 32)
      (cpu_is : cpu ≡ signed_32 (register saved.file 12))
      (running_is : running ≡ running_harts here.kernel.threads harts) (beside_is : beside ≡ (neighbour s m p).running) (many_is : many ≡ harts)
    where
      cmd_same : to_z w32 (of_z w32 cmd) ≡ cmd_asked
      cmd_same = again cmd (argument here t 0) (cmd_is ∙ ap signed_32 (argument_is here t saved file 0))

      cpu_same : to_z w32 (of_z w32 cpu) ≡ signed_32 (argument here t 2)
      cpu_same = again cpu (argument here t 2) (cpu_is ∙ ap signed_32 (argument_is here t saved file 2))

      flags_same : flags ≡ int_argument here t 1
      flags_same = flags_is ∙ int_argument_is here t saved file 1

      answer_same : (a : Answer)
          → a ≡ command_two mine.kernel.registered other.kernel.registered (to_z w32 (of_z w32 cmd)) flags (to_z w32 (of_z w32 cpu)) h.0 running beside many
          → a ≡ answer_asked
      answer_same a is =
          is
          ∙ (λ i.
          command_two (step.place.tied.tables.barriers i) (step.beside.tables.barriers i) (cmd_same i) (flags_same i) (cpu_same i) h.0 (running_is i) (beside_is i) (many_is i))

      registered_same : (r : Registered) → r ≡ registered_after mine.kernel.registered (to_z w32 (of_z w32 cmd)) flags
          → r ≡ registered_after here.kernel.barriers cmd_asked (int_argument here t 1)
      registered_same r is = is ∙ (λ i. registered_after (step.place.tied.tables.barriers i) (cmd_same i) (flags_same i))

      -- the call, which is to be ended
      pub barrier_called : IsOutsideCall 283 mine h.0 → (a : Answer) (r : Registered) (saved' : Saved) (end : CallEnd)
          → a ≡ command_two mine.kernel.registered other.kernel.registered (to_z w32 (of_z w32 cmd)) flags (to_z w32 (of_z w32 cpu)) h.0 running beside many
          → r ≡ registered_after mine.kernel.registered (to_z w32 (of_z w32 cmd)) flags
          → ((here : Here) (t : ℕ) → saved ≡ here.file t → saved' ≡ file_among (answers here t a).files t (here.file t))
          → ((here : Here) (t : ℕ) → barrier_of end ≡ (answers here t a).barrier) → IsAnswer end saved' → gives_up end ≡ false
          → ((u : ℕ) (ts : Threads) → runs_in ts u → StandsSo end u ts) → process_end end ≡ None
          → IsCalled (stand s m p) h.0 mine (record mine { kernel = record mine.kernel { registered = r } }) end saved' [] (answers here t a)
      barrier_called outside a r saved' end is after own begun answered stays runs_on ends =
          let call = outside (stand s m p) t step.place step.at in
          let same = answer_same a is in
          record {
            place = step.place;
            thread = t;
            at = step.at;
            free = step.free;
            done =
                done_outside call.0
                ∙ ap (λ n. by_call here (call_of n here t)) call.1
                ∙ ap (λ (b : Answer). by_call here (answers here t b)) (sym same);
            made =
                made_answers here t h.0 mine.kernel r mine.pages saved' end a refl step.place.tied.tables step.place.tied.pages
                (caller_at (stand s m p) mine h t step.place step.at) (registered_then r a same (registered_same r after)) (own here t file) (begun here t) answered stays
                runs_on ends;
            table = step.place.tied.table;
            written = sym (answers_silent here t a);
            harts = refl;
          }

  pub barrier_hidden : (a : Answer) → done_of Exec here ≡ by_call here (answers here t a) → filter is_shared (done_of Exec here).entered ≡ []
  barrier_hidden a is = ap (λ (d : Done). filter is_shared d.entered) is ∙ ap (filter is_shared) (answers_silent here t a)

  -- RSEQ

  pub rseq_called : IsOutsideCall 293 mine h.0 → (saved saved' : Saved) (end : CallEnd) → saved ≡ here.file t
      → saved' ≡ returned (negative ENOSYS.0) saved → gives_up end ≡ false → ((u : ℕ) (ts : Threads) → runs_in ts u → StandsSo end u ts)
      → barrier_of end ≡ None → process_end end ≡ None → IsAnswer end saved'
      → IsCalled (stand s m p) h.0 mine mine end saved' [] (refused here t ENOSYS)
  rseq_called outside saved saved' end file after stays runs_on none ends answered =
      let call = outside (stand s m p) t step.place step.at in
      record {
        place = step.place;
        thread = t;
        at = step.at;
        free = step.free;
        done = done_outside call.0 ∙ ap (λ n. by_call here (call_of n here t)) call.1;
        made =
            made_refused here t h.0 mine.kernel mine.pages saved saved' ENOSYS end (refused here t ENOSYS) refl step.place.tied.tables step.place.tied.pages
            file (caller_at (stand s m p) mine h t step.place step.at) refl after stays runs_on none ends answered;
        table = step.place.tied.table;
        written = refl;
        harts = refl;
      }

  -- ANY OTHER

  abbrev IsOwn : Type 0
  IsOwn = (is_inside_here here t ≡ true) ⊎ ((is_inside_here here t ≡ false) × (call_number here t ≢ 283) × (call_number here t ≢ 293))

  pub call_planned : IsOwn → IsPlanned (stand s m p) h.0 call_next
  call_planned own = record {
    thread = t;
    at = step.at;
    effect = step.effect;
    fault = step.fault;
    sizes = step.sizes;
    free = step.free;
    own = inr (λ e is none. (calls e is, either own));
  }
    where
      calls : (e : Effect) → Some effect.Call ≡ Some e → is_call e ≡ true
      calls e is = let same : effect.Call ≡ e = cc in ap is_call (sym same)

      either : IsOwn → (is_inside_here here t ≡ true) ⊎ IsOwnCall here t
      either (inl inside) = inl inside
      either (inr out) = inr (inr (out.1, out.2))

  -- it begins no barrier
  pub own_begins_none : IsOwn → (done_of Exec here).barrier ≡ None
  own_begins_none (inl inside) = ap (λ (d : Done). d.barrier) (done_inside here t step.at (sym step.fault) (sym step.effect) inside)
  own_begins_none (inr out) = ap (λ (d : Done). d.barrier) (done_outside out.0) ∙ called_begins_none here t out.1

  -- and the kernel writes to pages alone
  pub own_hidden : ((n : ℕ) → IsGap n → permission_in mine.pages n ≡ None) → filter is_shared (done_of Exec here).entered ≡ []
  own_hidden gap =
      ap (λ (d : Done). filter is_shared d.entered) made_here
      ∙ hidden_writes here (λ n its. sym (step.place.tied.pages.permissions n) ∙ gap n its) (called_here here t).entered (call_writes here t)
    where
      made_here : done_of Exec here ≡ by_call here (called_here here t)
      made_here =
          ap (done_exec_by here) step.at
          ∙ ap (λ (o : Option ℕ). by_effect here t o (next_effect here t)) (sym step.fault)
          ∙ ap (by_effect here t None) (sym step.effect)
