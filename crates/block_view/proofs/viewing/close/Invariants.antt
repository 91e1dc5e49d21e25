use Rattle.std.proofs.Common.{◌≡◌, List, map}
use Rattle.block_model.specs.Deciding.{history}
use Rattle.block_view.specs.Following.{behind}
use Rattle.block_view.specs.Ledgers.{kept_in}
use Rattle.block_view.specs.Standing.{standings}
use Rattle.block_view.specs.Tied.{IsOfLog, closed_if}
use Rattle.block_view.specs.declared.forms.Act.{Act}
use Rattle.block_view.proofs.viewing.close.Given as goal

-- the sequences of the harts below the counter have ended
abbrev pub invariant-loop-hart : goal.invariant-loop-hart
invariant-loop-hart l =
    let s = l.machine.setting in
    let all = history s l.machine.log in
    (gone : List Act) → IsOfLog l.machine (behind gone (kept_in l.fn.ledger))
    → behind gone (kept_in l.ledger) ≡ record (behind gone (kept_in l.fn.ledger)) { acts = map (closed_if s all l.hart) (standings s all) }
