use Rattle.std.proofs.Common.{◌∙◌}
use Rattle.block_model.specs.Here.{runs}
use Rattle.process.specs.Harts.{file_on}
use Rattle.event_facts.proofs.OtherThreads.{all_others}
use Rattle.event_facts.proofs.other_registers.push_other_registers.Goals as goal

pub returns : goal.returns
returns c = λ here file is count saved.
    all_others here.file here.kernel.threads (file_on here (runs here)).file file c.args.threads.now.threads c.deref.result.now c.args.given _ _ _ _
    (c.deref.ensures.value ∙ is.waiting) count is.own (c.in_ok-push_all_woken.ensures file saved) (c.in_ok-push_children.ensures file saved)
