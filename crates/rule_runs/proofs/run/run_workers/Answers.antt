use Rattle.std.proofs.Common.{[], ap}
use Rattle.machine_lock.specs.Passes.{PassView}
use Rattle.machine_lock.specs.Turnstiles.{start_of}
use Rattle.block_model.specs.Setting.{Seen, setting_of}
use Rattle.rule_runs.specs.declared.shared.Shared.{Shared}
use Rattle.rule_runs.proofs.Chosen.{booted_chosen, put_in, run_of_turns, seen_first}
use Rattle.rule_runs.proofs.run.run_workers.Goals as goal

pub new-requires-clause-chosen : goal.new-requires-clause-chosen
new-requires-clause-chosen g c =
    booted_chosen (setting_of c.args.image.now c.args.limits) c.args.seed c.in_ok-boot.field-0 c.in_ok-boot.ensures

pub returns : goal.returns
returns g c =
    let s = setting_of c.args.image.now c.args.limits in
    let first : Seen = record { setting = s; seed = c.args.seed; log = [] } in
    let start = start_of c.in_ok-lock.lock in
    let shared = c.in_ok-shared.shared in
    let seen = c.in_ok-lock.pass.seen in
    let put = c.in_ok-lock.ensures.start in
    let driven = c.in_ok-drive.ensures in
    let got = c.close.ensures.got in
    run_of_turns s c.args.seed start.machine.value c.close.result.machine.value c.into_machine.result seen c.drive.new.pass.seen
    (put_in first start shared c.in_ok-boot.field-0 put c.in_ok-shared.ensures.machine c.in_ok-boot.ensures)
    (seen_first start shared seen put (ap (λ (p : PassView Shared). p.seen) c.in_ok-lock.ensures.pass))
    driven.grew.later driven.ended got.same got.later c.into_machine.ensures.machine
