use Rattle.std.proofs.Common.{◌≡◌, subst}
use Rattle.block_model.specs.Setting.{Seen, Setting, setting_of}
use Rattle.drawn_runs.specs.WholeRuns.{IsWholeDrawn}
use Rattle.drawn_runs.specs.declared.manner.Manner.{Manner}
use Rattle.explored_runs.proofs.Telling.{short_left, short_log, short_waits}
use Rattle.explored_runs.proofs.made.make_run.Goals as goal

-- a run of the machine's setting is one of the setting that it has
whole : (s t : Setting) (m : Manner) (seen : Seen) → t ≡ s → IsWholeDrawn t m seen → IsWholeDrawn s m seen
whole s t m seen same is = subst (λ (s : Setting). IsWholeDrawn s m seen) same is

pub made_by-requires-clause-log : goal.made_by-requires-clause-log
made_by-requires-clause-log c =
    let s = setting_of c.args.image.now c.args.limits in
    let now = c.again.new.self.machine in
    let is = whole s c.args.run.now.machine.setting c.manner-manner.result now c.requires.setting c.in_ok-again.ensures.run in
    short_log s c.manner-manner.result now c.requires.limits is

pub made_by-requires-clause-few : goal.made_by-requires-clause-few
made_by-requires-clause-few c =
    let s = setting_of c.args.image.now c.args.limits in
    let now = c.again.new.self.machine in
    let is = whole s c.args.run.now.machine.setting c.manner-manner.result now c.requires.setting c.in_ok-again.ensures.run in
    short_left s c.manner-manner.result now c.again.new.self.left_inside c.requires.limits is c.in_ok-again.ensures.inside

pub made_by-requires-clause-few_waits : goal.made_by-requires-clause-few_waits
made_by-requires-clause-few_waits c =
    let s = setting_of c.args.image.now c.args.limits in
    let now = c.again.new.self.machine in
    let is = whole s c.args.run.now.machine.setting c.manner-manner.result now c.requires.setting c.in_ok-again.ensures.run in
    short_waits s c.manner-manner.result now c.again.new.self.waits c.requires.limits is c.in_ok-again.ensures.waits
