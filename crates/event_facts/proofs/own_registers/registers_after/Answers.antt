use Rattle.std.proofs.Common.{◌≡◌, ◌∙◌, Option, Some, ap, cond, false, true, sym}
use Rattle.mach_types.specs.Kernel.Threads.{Threads, state_of}
use Rattle.mach_types.specs.declared.registers.Regs.{Regs}
use Rattle.block_model.specs.Here.{runs}
use Rattle.event_facts.specs.Calls.{is_it}
use Rattle.event_facts.specs.OtherRegisters.{where_off}
use Rattle.event_facts.specs.Telling.{here_on}
use Rattle.event_facts.proofs.CallAnswers.{it_runs}
use Rattle.event_facts.proofs.own_registers.registers_after.Goals as goal

pub returns-then-is_it : goal.returns-then-is_it
returns-then-is_it c =
    let here = here_on c.args.machine.now c.args.entry.hart.0 in
    let t = c.args.entry.tid.0 in
    let on : is_it t (runs here) ≡ true = sym (c.is_it.ensures (runs here) (λ i. (c.hart-state.ensures i).running)) ∙ c.if-is_it.true in
    (λ i. Some (c.hart-state.ensures i).file)
    ∙ (λ i. Some (it_runs here t (runs here) on i).file)
    ∙ sym (ap (λ b. let o : Option Regs = cond b (Some (here.file t).file) (where_off (state_of t here.kernel.threads) (here.file t)) in o) on)

pub returns-else-is_it : goal.returns-else-is_it
returns-else-is_it c =
    let here = here_on c.args.machine.now c.args.entry.hart.0 in
    let t = c.args.entry.tid.0 in
    let off : is_it t (runs here) ≡ false = sym (c.is_it.ensures (runs here) (λ i. (c.hart-state.ensures i).running)) ∙ c.if-is_it.false in
    c.saved_registers.ensures here.file c.kernel.ensures.saved
    ∙ ap (λ (ts : Threads). where_off (state_of t ts) (here.file t)) c.kernel.ensures.threads
    ∙ sym (ap (λ b. let o : Option Regs = cond b (Some (here.file t).file) (where_off (state_of t here.kernel.threads) (here.file t)) in o) off)
