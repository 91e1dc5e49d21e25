use Rattle.std.proofs.Common.{◌∙◌, ap}
use Rattle.mach_types.specs.Kernel.Threads.{Threads}
use Rattle.event_facts.specs.OtherRegisters.{all_waiting}
use Rattle.event_facts.proofs.other_registers.RegistersBefore.of.Goals as goal

pub returns : goal.returns
returns c = λ here saved same own. record {
  waiting = c.in_ok-all_waiting.ensures here.file saved ∙ ap (λ (ts : Threads). all_waiting here.file ts) same;
  own = own;
}
