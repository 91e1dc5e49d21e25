use Rattle.std.proofs.Common.{◌≡◌, ◌∙◌, ap, cond, false, is_some, sym}
use Rattle.mach_types.specs.Kernel.Threads.{Threads, state_of}
use Rattle.mach_types.specs.Registers.{register}
use Rattle.block_model.specs.Deciding.{end_of}
use Rattle.block_model.specs.Here.{runs}
use Rattle.fact_types.specs.declared.facts.Fact.TheVariants.{NoAnswer}
use Rattle.event_facts.specs.Calls.{answer_of, answer_off, answer_unless, has_no_answer, is_it}
use Rattle.event_facts.specs.Telling.{here_on, past_of}
use Rattle.event_facts.proofs.calls.answer.Goals as goal

pub returns-else-is_it : goal.returns-else-is_it
returns-else-is_it c =
    let m = c.args.machine.now in
    let here = here_on m c.args.entry.hart.0 in
    let t = c.args.entry.tid.0 in
    let value = register (here.file t).file 10 in
    let has : has_no_answer c.args.call.now.number (end_of m.setting (past_of m)) ≡ false =
    sym (ap (has_no_answer c.args.call.now.number) c.end.ensures) ∙ sym c.has_no_answer.ensures ∙ c.if-has_no_answer.false in
    let off : is_it t (runs here) ≡ false = sym (c.is_it.ensures (runs here) (λ i. (c.hart-state.ensures i).running)) ∙ c.if-is_it.false in
    c.answer_off.ensures here.file c.kernel.ensures.saved
    ∙ ap (λ (ts : Threads). answer_off (state_of t ts) value) c.kernel.ensures.threads
    ∙ sym (ap (λ b. cond b (answer_unless (is_some here.awaits) value) (answer_off (state_of t here.kernel.threads) value)) off)
    ∙ sym (ap (λ b. cond b NoAnswer (answer_of here t)) has)
