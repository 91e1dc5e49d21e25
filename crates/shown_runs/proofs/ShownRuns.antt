-- The harts of a gathered log.
use Rattle.std.proofs.Common.{◌<◌, ◌≤◌, All, List}
use Rattle.mach_types.specs.declared.events.Entry.{Entry}
use Rattle.block_model.specs.Run.{IsBlockRun}
use Rattle.block_model.specs.Setting.{Setting}
use Rattle.log_gather.specs.Gathered.{gathered}
use Rattle.log_gather.proofs.Laws.{gathered_run}
use Rattle.run_texts.proofs.Digits.{digits}

-- each is one digit, since it is a log of a run too
pub gathered_digits : (s : Setting) (log : List Entry) → s.limits.harts ≤ 8 → IsBlockRun s log
    → All (λ (e : Entry). e.hart.0 < 8) (gathered s log)
gathered_digits s log eight run = digits s (gathered s log) eight (gathered_run s log run).block_run
