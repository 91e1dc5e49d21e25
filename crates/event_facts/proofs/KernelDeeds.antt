-- What an event does that isn't plain: it executes no store that waits, none enters memory from a hart, and what its thread's registers are.
use Rattle.std.proofs.Common.{◌≡◌, ℕ, List, [], ◌∷◌, refl, sym, ap, ◌∙◌, Bool, true, false, not, cond, Option, Some, None}
use Rattle.std.proofs.lemmas.Bool.{false≢true}
use Rattle.std.specs.Option.{option_map}
use Rattle.std.specs.Prelude.{slice_get}
use Rattle.mach_types.specs.Kernel.Threads.{running_on, state_of}
use Rattle.mach_types.specs.Events.{kind_of}
use Rattle.mach_types.specs.declared.events.Choice.{Choice}
use Rattle.mach_types.specs.declared.events.Choice.TheVariants as asked
use Rattle.mach_types.specs.declared.events.Kind.{Kind}
use Rattle.mach_types.specs.declared.registers.Regs.{Regs}
use Rattle.mach_types.specs.declared.threads.Saved.{Saved}
use Rattle.mach_types.specs.declared.user_memory.Store.{Store}
use Rattle.rv_inst.specs.Class.{is_call}
use Rattle.rv_inst.specs.declared.effects.Effect.{Effect}
use Rattle.rv_inst.specs.declared.effects.Effect.TheVariants as effect
use Rattle.block_model.specs.Deciding.{number_of, thread_in}
use Rattle.block_model.specs.Events.{done_of, refusal_of}
use Rattle.block_model.specs.Events.Drain.{refusal_drain_of}
use Rattle.block_model.specs.Events.Exec.{by_call, by_effect, by_outcome, called_here, done_exec_by, has_handler, next_effect, next_fault, outcome_of, refusal_exec_by}
use Rattle.block_model.specs.Events.Finish.{refusal_done_by}
use Rattle.block_model.specs.Events.Signal.{refusal_signal_by}
use Rattle.block_model.specs.Here.{Done, Here, runs, waiting_here}
use Rattle.block_model.specs.History.{file_among}
use Rattle.block_model.specs.PlainEvents.{is_plain, is_plain_exec_by, is_plain_exec_of}
use Rattle.block_model.specs.Sequences.{interruption_here}
use Rattle.block_model.specs.Sights.{effect_here, effect_on, fault_here, fault_on}
use Rattle.block_model.proofs.EventEffects.{CallKills, Calls, EventDeed, Executes, Handles, Restarts, Returns, RunKills, Runs, SignalKills, Skips, begun_by, deed_chosen}
use Rattle.block_model.proofs.Laws.{of_kernel}
use Rattle.block_model.proofs.Swaps.PlainEvents.{plain_parts}
use Rattle.process.specs.Foresight.{foreseen_writes}
use Rattle.process.specs.Harts.{file_on}
use Rattle.fact_types.specs.declared.calls.SystemCall.{SystemCall}
use Rattle.event_facts.specs.Calls.{call_by, call_in, call_on, is_calling}
use Rattle.event_facts.specs.Facts.{changed_registers, executed_by, own_registers, registers_seen}
use Rattle.event_facts.specs.KernelEvents.{changed_own, sets_own}
use Rattle.event_facts.specs.Telling.{plain_event_of}
use Rattle.event_facts.specs.declared.telling.PlainEvent.TheVariants.{Instruction, Drain}
use Rattle.event_facts.proofs.OwnRegisters.{interrupted_same, none_seen}

-- WHICH EVENTS

-- where code finds no plain event, there is none
no_instruction : (here : Here) (o : Option ℕ) (b : Bool) → is_plain_exec_by here o ≡ b → option_map Instruction (cond b (effect_on here o) None) ≡ None → b ≡ false
no_instruction here o false is none = refl
no_instruction here None true is none = absurd (false≢true is)
no_instruction here (Some t) true is none =
    let parts = plain_parts (next_fault here t) (next_effect here t) is in
    let no : option_map Instruction (Some parts.effect) ≡ None = sym (ap (option_map Instruction) parts.is) ∙ none in
    absurd cc

no_store : (ws : List Store) → refusal_drain_of ws ≡ None → option_map Drain (slice_get ws 0) ≡ None → ⊥
no_store [] free none = cc
no_store (w ∷ ws) free none = cc

pub not_plain : (c : Choice) (here : Here) → refusal_of c here ≡ None → plain_event_of c here ≡ None → is_plain c here ≡ false
not_plain asked.Exec here free none = no_instruction here (runs here) (is_plain_exec_by here (runs here)) refl none
not_plain asked.Drain here free none = absurd (no_store (waiting_here here) free none)
not_plain c here free none = refl

-- STORES

-- no store is executed, and none that waited enters memory
pub record IsQuiet (d : Done) : Type 0 where
  pub executed : d.executed ≡ []
  pub drained : d.drained ≡ 0

quiet_either : (b : Bool) (x y : Done) → IsQuiet x → IsQuiet y → IsQuiet (cond b x y)
quiet_either true x y p q = p
quiet_either false x y p q = q

quiet : (d : Done) → d.executed ≡ [] → d.drained ≡ 0 → IsQuiet d
quiet d executed drained = record { executed = executed; drained = drained }

quiet_next : (here : Here) (t : ℕ) (fault : Option ℕ) (o : Option Effect) → is_plain_exec_of fault o ≡ false → IsQuiet (by_effect here t fault o)
quiet_next here t (Some signal) o plain = quiet_either (has_handler here t signal) _ _ (quiet _ refl refl) (quiet _ refl refl)
quiet_next here t None None plain = quiet _ refl refl
quiet_next here t None (Some e) plain = go (is_call e) plain
  where
    go : (b : Bool) → not b ≡ false → IsQuiet (cond b (by_call here (called_here here t)) (by_outcome here t (outcome_of here t e)))
    go true is = quiet _ refl refl
    go false is = absurd (false≢true (sym is))

quiet_exec : (here : Here) (o : Option ℕ) → is_plain_exec_by here o ≡ false → IsQuiet (done_exec_by here o)
quiet_exec here None plain = quiet _ refl refl
quiet_exec here (Some t) plain = quiet_next here t (next_fault here t) (next_effect here t) plain

pub is_quiet : (c : Choice) (here : Here) → is_plain c here ≡ false → IsQuiet (done_of c here)
is_quiet asked.Exec here plain = quiet_exec here (runs here) plain
is_quiet asked.Drain here plain = absurd (false≢true (sym plain))
is_quiet c here plain = let did = of_kernel here c refl in record { executed = did.executed; drained = did.drained }

-- it executes no instruction that reads anything
pub executes_none : (c : Choice) (here : Here) → is_plain c here ≡ false → executed_by c here ≡ None
executes_none asked.Exec here plain = ap (λ b. cond b (effect_here here) None) plain
executes_none c here plain = refl

-- CALLS

-- what code finds of the hart of a call
pub record IsCalling (c : Choice) (here : Here) : Type 0 where
  pub choice : c ≡ asked.Exec
  pub effect : effect_here here ≡ Some effect.Call
  pub fault : fault_here here ≡ None

the_call : (e : Effect) → is_call e ≡ true → e ≡ effect.Call
the_call effect.Call is = refl
the_call e is = absurd (false≢true is)

calls_next : (fault : Option ℕ) (o : Option Effect) (k call : SystemCall) → cond (is_calling fault o) (Some k) None ≡ Some call → (o ≡ Some effect.Call) × (fault ≡ None)
calls_next fault None k call is = absurd cc
calls_next (Some signal) (Some e) k call is = absurd cc
calls_next None (Some e) k call is = (go (is_call e) refl is, refl)
  where
    go : (b : Bool) → is_call e ≡ b → cond b (Some k) None ≡ Some call → Some e ≡ Some effect.Call
    go true calls is = ap Some (the_call e calls)
    go false calls is = absurd cc

calls_on : (here : Here) (o : Option ℕ) (call : SystemCall) → call_on here o ≡ Some call → (effect_on here o ≡ Some effect.Call) × (fault_on here o ≡ None)
calls_on here None call is = absurd cc
calls_on here (Some t) call is = calls_next (next_fault here t) (next_effect here t) (call_in (here.file t).file) call is

pub is_calling_here : (c : Choice) (here : Here) (call : SystemCall) → call_by c here ≡ Some call → IsCalling c here
is_calling_here asked.Exec here call is = let both = calls_on here (runs here) call is in record { choice = refl; effect = both.0; fault = both.1 }
is_calling_here c here call is = absurd cc

-- a fault writes nothing
fault_either : (b : Bool) (x y : Done) → x.entered ≡ [] → y.entered ≡ [] → (cond b x y).entered ≡ []
fault_either true x y p q = p
fault_either false x y p q = q

fault_next : (here : Here) (t : ℕ) (fault : Option ℕ) (o : Option Effect) (k : SystemCall) → is_plain_exec_of fault o ≡ false → cond (is_calling fault o) (Some k) None ≡ None
    → (by_effect here t fault o).entered ≡ []
fault_next here t (Some signal) o k plain none = fault_either (has_handler here t signal) _ _ refl refl
fault_next here t None None k plain none = refl
fault_next here t None (Some e) k plain none = go (is_call e) plain none
  where
    go : (b : Bool) → not b ≡ false → cond b (Some k) None ≡ None → (cond b (by_call here (called_here here t)) (by_outcome here t (outcome_of here t e))).entered ≡ []
    go true is none = absurd cc
    go false is none = absurd (false≢true (sym is))

fault_on_hart : (here : Here) (o : Option ℕ) → is_plain_exec_by here o ≡ false → call_on here o ≡ None → (done_exec_by here o).entered ≡ []
fault_on_hart here None plain none = refl
fault_on_hart here (Some t) plain none = fault_next here t (next_fault here t) (next_effect here t) (call_in (here.file t).file) plain none

-- so what is foreseen of an event that is neither plain nor a call is all that is written in it
pub all_foreseen : (c : Choice) (here : Here) → is_plain c here ≡ false → call_by c here ≡ None → foreseen_writes c here ≡ (done_of c here).entered
all_foreseen asked.Exec here plain none = sym (fault_on_hart here (runs here) plain none)
all_foreseen asked.Drain here plain none = absurd (false≢true (sym plain))
all_foreseen c here plain none = refl

-- THE REGISTERS OF ITS THREAD

-- the thread of an instruction, of a barrier that returns, and of a signal runs on the hart
exec_runs : (here : Here) (o : Option ℕ) (t : ℕ) → refusal_exec_by here o ≡ None → t ≡ number_of o → file_on here o ≡ here.file t
exec_runs here None t free is = absurd cc
exec_runs here (Some u) t free is = ap here.file (sym is)

done_runs : (here : Here) (o : Option ℕ) (t : ℕ) → refusal_done_by here o ≡ None → t ≡ number_of o → file_on here o ≡ here.file t
done_runs here None t free is = absurd cc
done_runs here (Some u) t free is = ap here.file (sym is)

signal_runs : (here : Here) (o : Option ℕ) (t : ℕ) → refusal_signal_by here o ≡ None → t ≡ number_of o → file_on here o ≡ here.file t
signal_runs here None t free is = absurd cc
signal_runs here (Some u) t free is = ap here.file (sym is)

-- the others set no register
same_deed : (here : Here) (tid t : ℕ) {k : Kind} {d : Done} → EventDeed here tid k d → sets_own k ≡ false → (file_among d.files t (here.file t)).file ≡ (here.file t).file
same_deed here tid t (Skips) sets = absurd (false≢true (sym sets))
same_deed here tid t (Calls u e next calls outside) sets = absurd (false≢true (sym sets))
same_deed here tid t (CallKills u e next calls) sets = absurd (false≢true (sym sets))
same_deed here tid t (Executes u e next) sets = absurd (false≢true (sym sets))
same_deed here tid t (Restarts u at) sets = interrupted_same here u t (interruption_here here u)
same_deed here tid t (Returns u at) sets = absurd (false≢true (sym sets))
same_deed here tid t Runs sets = interrupted_same here tid t (interruption_here here tid)
same_deed here tid t RunKills sets = interrupted_same here tid t (interruption_here here tid)
same_deed here tid t (Handles u signal at) sets = absurd (false≢true (sym sets))
same_deed here tid t (SignalKills u signal killer at) sets = absurd (false≢true (sym sets))
same_deed here tid t deed sets = refl

same_event : (here : Here) (c : Choice) (t : ℕ) → sets_own (kind_of c) ≡ false → (file_among (done_of c here).files t (here.file t)).file ≡ (here.file t).file
same_event here c t sets = same_deed here (begun_by c) t (deed_chosen here c) sets

module _ (here : Here) (t : ℕ) where
  -- what is seen of it after an event
  abbrev seen : Done → Option Regs
  seen d = registers_seen (running_on here.hart d.kernel.threads) (state_of t d.kernel.threads) t (file_among d.files t (here.file t))

  of_own : (x : Saved) (d : Done) → x ≡ here.file t → own_registers here t d ≡ changed_registers x.file (seen d)
  of_own x d is = ap (λ (f : Saved). changed_registers f.file (seen d)) (sym is)

  of_none : (d : Done) → (file_among d.files t (here.file t)).file ≡ (here.file t).file → own_registers here t d ≡ []
  of_none d same = none_seen (running_on here.hart d.kernel.threads) (state_of t d.kernel.threads) t (here.file t).file (file_among d.files t (here.file t)) same

  pub own_told : (c : Choice) → refusal_of c here ≡ None → t ≡ number_of (thread_in c here) → is_plain c here ≡ false
      → own_registers here t (done_of c here) ≡ changed_own c (file_on here (runs here)).file (seen (done_of c here))
  own_told asked.Exec free is plain = of_own (file_on here (runs here)) (done_of asked.Exec here) (exec_runs here (runs here) t free is)
  own_told asked.Drain free is plain = absurd (false≢true (sym plain))
  own_told asked.Done free is plain = of_own (file_on here (runs here)) (done_of asked.Done here) (done_runs here (runs here) t free is)
  own_told asked.Signal free is plain = of_own (file_on here (runs here)) (done_of asked.Signal here) (signal_runs here (runs here) t free is)
  own_told c free is plain = of_none (done_of c here) (same_event here c t refl)
