use Rattle.std.proofs.Common.{◌≡◌, ◌∙◌, [], sym, ap}
use Rattle.block_model.specs.Setting.{Seen}
use Rattle.drawn_machine.specs.Waits.{no_waits}
use Rattle.drawn_machine.proofs.Inside.{none_at_boot}
use Rattle.drawn_machine.proofs.Overtaking.{none_stored}
use Rattle.drawn_machine.proofs.Waiting.{none_waited}
use Rattle.drawn_machine.proofs.drawn_run.DrawnRun.at_start.Goals as goal

pub returns-clause-inside : goal.returns-clause-inside
returns-clause-inside c =
    let empty : c.in_ok-machine.machine.log ≡ [] = ap (λ (m : Seen). m.log) c.in_ok-machine.ensures in
    sym (none_at_boot c.in_ok-machine.machine empty).count

pub returns-clause-waits : goal.returns-clause-waits
unfolding no_waits
returns-clause-waits c =
    let empty : c.in_ok-machine.machine.log ≡ [] = ap (λ (m : Seen). m.log) c.in_ok-machine.ensures in
    sym (none_waited c.in_ok-machine.machine empty)

pub returns-clause-stores : goal.returns-clause-stores
returns-clause-stores c =
    let empty : c.in_ok-machine.machine.log ≡ [] = ap (λ (m : Seen). m.log) c.in_ok-machine.ensures in
    c.new.ensures ∙ none_stored c.in_ok-machine.machine empty
