-- membarrier(2): a command that begins a barrier registers nothing, and what the call comes to.
use Rattle.sys_calls.proofs.Common.{◌≡◌, ℕ, Bool, false, cond, [], Option, Some, None, refl, sym, ap, subst, ◌∙◌, option_map_or, command, CallEnd, EINVAL, Here, HoldsTables, IsCaller, IsEntered, Kernel, Map, Saved, Table, Threads, argument, file_among, int_argument, returned, running_on, runs, saved_of, without_id, Registered, signed_32, running_harts, AreSaved, HasPages, IsAnswer, IsMade, StandsSo, barrier_of, gives_up, process_end, Answer, answers, answer_of, refusal, registered_by, sum_64, word, for_barriers, membarrier}
use Rattle.mach_types.specs.Kernel.Barriers as barriers
use Rattle.mach_types.specs.Kernel.PairBarriers.{answer_beside}
use Rattle.mach_types.specs.declared.barriers.Answer.TheVariants.{Value, Begin}
use Rattle.mach_types.specs.declared.barriers.BarrierCommand.{BarrierCommand}
use Rattle.mach_types.specs.declared.barriers.BarrierCommand.TheVariants.{RegisterGlobalExpedited, RegisterPrivateExpedited, RegisterPrivateExpeditedRseq}
use Rattle.block_model.specs.Record as record_of
use Rattle.sys_calls.proofs.KernelWrites.{entered_none, pages_kept}
use Rattle.sys_calls.proofs.Laws.{holds_barriers}
use Rattle.sys_calls.proofs.CallAnswers.{kept_own}
use Rattle.sys_calls.proofs.CallerTables.{caller_runs}

-- a command that begins a barrier registers nothing
begins_only : (r : Registered) (harts targets : ℕ) (restart : Bool) (o : Option BarrierCommand) → option_map_or (answer_of r harts) o (refusal EINVAL) ≡ Begin targets restart
    → option_map_or (registered_by r) o r ≡ r
begins_only r harts targets restart None is = refl
begins_only r harts targets restart (Some RegisterGlobalExpedited) is = cc
begins_only r harts targets restart (Some RegisterPrivateExpedited) is = cc
begins_only r harts targets restart (Some RegisterPrivateExpeditedRseq) is = cc
begins_only r harts targets restart (Some c) is = refl

-- the command that a thread asks for
abbrev asked : Here → ℕ → Option BarrierCommand
asked h t = barriers.asked (signed_32 (argument h t 0)) (int_argument h t 1)

abbrev harts_asked : Here → ℕ → ℕ
harts_asked h t =
    barriers.targets (int_argument h t 1) (signed_32 (argument h t 2)) h.hart (running_harts h.kernel.threads h.setting.limits.harts) h.setting.limits.harts

abbrev pub answer_asked : Here → ℕ → Answer
answer_asked h t =
    let harts = h.setting.limits.harts in
    command h.kernel.barriers (signed_32 (argument h t 0)) (int_argument h t 1) (signed_32 (argument h t 2)) h.hart (running_harts h.kernel.threads harts) harts

-- the same where another process runs beside
pub begins_only_beside : (r : Registered) (set : BarrierCommand → ℕ) (targets : ℕ) (restart : Bool) (o : Option BarrierCommand)
    → option_map_or (λ c. answer_beside r (set c) c) o (refusal EINVAL) ≡ Begin targets restart → option_map_or (registered_by r) o r ≡ r
begins_only_beside r set targets restart None is = refl
begins_only_beside r set targets restart (Some RegisterGlobalExpedited) is = cc
begins_only_beside r set targets restart (Some RegisterPrivateExpedited) is = cc
begins_only_beside r set targets restart (Some RegisterPrivateExpeditedRseq) is = cc
begins_only_beside r set targets restart (Some c) is = refl

-- what is registered, whatever was answered
pub registered_then : (h : Here) (t : ℕ) (r : Registered) (a : Answer) → a ≡ answer_asked h t → r ≡ option_map_or (registered_by h.kernel.barriers) (asked h t) h.kernel.barriers
    → (answers h t a).kernel ≡ for_barriers r h.kernel
registered_then h t r (Value n) is after = ap (λ (x : Registered). for_barriers x h.kernel) (sym after)
registered_then h t r (Begin targets restart) is after =
    sym (ap (λ (x : Registered). for_barriers x h.kernel) (after ∙ begins_only h.kernel.barriers (harts_asked h t) targets restart (asked h t) (sym is)))

-- the call writes nothing, ends no process, and sets the file of its thread alone
answers_silent : (h : Here) (t : ℕ) (a : Answer) → (answers h t a).entered ≡ []
answers_silent h t (Value n) = refl
answers_silent h t (Begin targets restart) = refl

pub silent_membarrier : (h : Here) (t : ℕ) → (membarrier h t).entered ≡ []
silent_membarrier h t = answers_silent h t (answer_asked h t)

ends_nothing : (h : Here) (t : ℕ) (a : Answer) → (answers h t a).ended ≡ None
ends_nothing h t (Value n) = refl
ends_nothing h t (Begin targets restart) = refl

own_alone : (h : Here) (t : ℕ) (table : Table) (a : Answer) → saved_of t table.saved ≡ None → AreSaved h.file table → AreSaved (λ u. file_among (answers h t a).files u (h.file u)) table
own_alone h t table (Value n) quiet all = kept_own t (returned (word n) (h.file t)) h.file [] table quiet all
own_alone h t table (Begin targets restart) quiet all = kept_own t (record (h.file t) { pc = sum_64 (h.file t).pc 4 }) h.file [] table quiet all

-- the call, once it is answered so
pub made_answers : (h : Here) (t here : ℕ) (k : Kernel) (r : Registered) (m : Map) (saved' : Saved) (end : CallEnd) (a : Answer) → h.hart ≡ here → HoldsTables k h.kernel → HasPages h m → IsCaller k here t
    → (answers h t a).kernel ≡ for_barriers r h.kernel → saved' ≡ file_among (answers h t a).files t (h.file t) → barrier_of end ≡ (answers h t a).barrier → IsAnswer end saved'
    → gives_up end ≡ false → ((u : ℕ) (ts : Threads) → runs ts u → StandsSo end u ts) → process_end end ≡ None → IsMade h t k m (record k { registered = r }) m saved' end (answers h t a)
made_answers h t here k r m saved' end a hart told has caller after own begun answered stays runs_on ends = record {
  tables = subst (HoldsTables (record k { registered = r })) (sym after) (holds_barriers told r);
  ids = ap (λ (x : record_of.Kernel). x.ids) after ∙ ap (λ (b : Bool). cond b (without_id t h.kernel.ids) h.kernel.ids) (sym stays);
  kept = λ all. own_alone h t k.threads a caller.quiet all;
  own = own;
  pages = pages_kept h m m (answers h t a) (subst (IsEntered m m) (sym (answers_silent h t a)) (entered_none m)) (ap (λ (x : record_of.Kernel). x.pages) after) has;
  code = λ _. refl;
  hart = ap (λ (x : record_of.Kernel). running_on h.hart x.threads) after ∙ ap (λ n. running_on n h.kernel.threads) hart ∙ ap (running_on here) (sym told.threads) ∙ caller.runs
      ∙ ap (λ (b : Bool). cond b None (Some t)) (sym stays);
  stands = runs_on t (answers h t a).kernel.threads (subst (λ (ts : Threads). runs ts t) (told.threads ∙ ap (λ (x : record_of.Kernel). x.threads) (sym after)) (caller_runs k here t caller));
  barrier = begun;
  ended = ends ∙ sym (ends_nothing h t a);
  answer = answered;
}
