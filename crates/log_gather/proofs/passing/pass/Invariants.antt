use Rattle.std.proofs.Common.{◌≡◌, take, true}
use Rattle.block_model.specs.Setting.{setting_of}
use Rattle.log_gather.specs.Marks.{are_known, steps_of}
use Rattle.log_gather.proofs.Passages.{HasSeen}
use Rattle.log_gather.proofs.passing.pass.Given as goal

-- the entries so far were made and seen
abbrev pub invariant-loop-entry : goal.invariant-loop-entry
invariant-loop-entry l = record {
  seen : HasSeen (setting_of l.fn.image l.fn.limits) (take l.entry-index l.log) l.machine (steps_of l.details l.marks.items) l.within;
  known : are_known l.details l.marks.items ≡ true;
}
