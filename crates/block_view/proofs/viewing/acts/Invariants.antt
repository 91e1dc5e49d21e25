use Rattle.std.proofs.Common.{take}
use Rattle.block_model.specs.Setting.{setting_of}
use Rattle.block_view.specs.Ledgers.{kept_in}
use Rattle.block_view.proofs.Entering.{HasMade}
use Rattle.block_view.proofs.viewing.acts.Given as goal

-- the entries so far were made, and the ledger is tied to their log
abbrev pub invariant-loop-entry : goal.invariant-loop-entry
invariant-loop-entry l = HasMade (setting_of l.fn.image l.fn.limits) (take l.entry-index l.log) l.machine (kept_in l.ledger)
