use Rattle.std.proofs.Common.{ap, ◌∙◌, subst, sym, List}
use Rattle.mach_types.specs.declared.events.Entry.{Entry}
use Rattle.block_model.specs.Swaps.{IsEquivalentRun}
use Rattle.log_gather.specs.Facts.{own_entries}
use Rattle.log_gather.proofs.theorems.gathered_logs_are_block_runs.Goals as goal
use Rattle.log_gather.proofs.GatheredByActs.{gathered_is_by_acts}
use Rattle.log_gather.proofs.GatheredSequences.{gathers}
use Rattle.log_gather.proofs.LocatedEvents.{gathered_by_located}
use Rattle.log_gather.proofs.StandingTogether.{stands_together}

pub returns : goal.returns
returns c = record {
  good = λ s log run. subst (λ (made : List Entry). IsEquivalentRun s log made) (gathered_is_by_acts s log run) (gathers s log run).good;
  own = λ s log h run. ap (own_entries h) (sym (gathered_is_by_acts s log run)) ∙ (gathers s log run).own h;
  together = λ s log earlier later x run names private. stands_together s log earlier later x run names private;
  by_events = λ s log run. sym (gathered_is_by_acts s log run) ∙ gathered_by_located s log run;
}
