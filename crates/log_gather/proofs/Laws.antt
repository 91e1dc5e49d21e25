-- The laws that crates above cite: the gathered log of a block run is one, with the same console and the same end.
use Rattle.std.proofs.Common.{◌≡◌, List, ap, subst}
use Rattle.mach_types.specs.declared.events.Entry.{Entry}
use Rattle.block_model.specs.Deciding.{end_of, history}
use Rattle.block_model.specs.History.{console}
use Rattle.block_model.specs.Plain.{Plain, plain_end}
use Rattle.block_model.specs.Run.{IsBlockRun}
use Rattle.block_model.specs.Setting.{Setting}
use Rattle.block_model.specs.Swaps.{IsEquivalentRun}
use Rattle.log_gather.specs.Gathered.{gathered}
use Rattle.log_gather.proofs.GatheredByActs.{gathered_is_by_acts}
use Rattle.log_gather.proofs.GatheredSequences.{gathers}

pub gathered_run : (s : Setting) (log : List Entry) → IsBlockRun s log → IsEquivalentRun s log (gathered s log)
gathered_run s log run =
    subst (λ (made : List Entry). IsEquivalentRun s log made) (gathered_is_by_acts s log run) (gathers s log run).good

pub same_console : (s : Setting) (log other : List Entry) → IsEquivalentRun s log other
    → console s (history s other) ≡ console s (history s log)
same_console s log other alike = ap (λ (m : Plain). m.kernel.console) alike.same

pub same_end : (s : Setting) (log other : List Entry) → IsEquivalentRun s log other
    → end_of s (history s other) ≡ end_of s (history s log)
unfolding end_of
same_end s log other alike = ap (plain_end s) alike.same
