use Rattle.std.proofs.Common.{◌≡◌, ap, false, refl}
use Rattle.block_model.specs.Setting.{Seen, setting_of}
use Rattle.explored_runs.specs.Accounts.{account_of, has_enough}
use Rattle.explored_runs.proofs.Telling.{begins, goes_on, short_run}
use Rattle.explored_runs.proofs.exploring.explore.Goals as goal

pub runs-init : goal.runs-init
runs-init g c = record {
  exploring = begins (setting_of c.args.image.now c.args.limits) c.args.exploration.now (account_of c.in_ok-explored.explored)
      c.in_ok-explored.ensures;
  setting = ap (λ (m : Seen). m.setting) c.in_ok-run.ensures.machine;
}

pub tell-requires-clause-short : goal.tell-requires-clause-short
tell-requires-clause-short g c =
    short_run (setting_of c.args.image.now c.args.limits) c.args.exploration.now c.runs.explored.runs c.in_ok-made.made
    c.requires.limits c.in_ok-made.ensures.made

pub runs-preserved : goal.runs-preserved
runs-preserved g c =
    let wanted : has_enough c.args.exploration.now.until (account_of c.runs.explored) ≡ false = cc (c.has_enough.ensures, c.if-not-has_enough.true) in
    record {
      exploring = goes_on (setting_of c.args.image.now c.args.limits) c.args.exploration.now (account_of c.runs.explored) (account_of c.tell.new.self)
          c.runs.explored.runs c.in_ok-made.made c.requires.limits c.runs.invariant.exploring refl c.runs-test.true wanted c.in_ok-made.ensures.made
          c.in_ok-tell.ensures;
      setting = c.in_ok-made.ensures.setting;
    }
