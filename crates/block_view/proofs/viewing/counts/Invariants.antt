use Rattle.std.proofs.Common.{take}
use Rattle.block_model.specs.Setting.{setting_of}
use Rattle.block_view.specs.Counters.{IsCountOf, kept_counts}
use Rattle.block_view.proofs.Entering.{HasMadeLog}
use Rattle.block_view.proofs.viewing.counts.Given as goal

-- the entries so far were made, and their acts are counted
abbrev pub invariant-loop-entry : goal.invariant-loop-entry
invariant-loop-entry l = record {
  made : HasMadeLog (setting_of l.fn.image l.fn.limits) (take l.entry-index l.log) l.machine;
  counted : IsCountOf l.machine (kept_counts l.counter);
}
