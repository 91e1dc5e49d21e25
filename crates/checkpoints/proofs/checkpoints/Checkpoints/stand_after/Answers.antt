use Rattle.std.proofs.Common.{List, sym, subst}
use Rattle.mach_types.specs.declared.events.Entry.{Entry}
use Rattle.block_model.specs.Run.{IsBlockRun}
use Rattle.same_places.specs.Replayed.{StandAfter}
use Rattle.checkpoints.specs.Programs.{setting_for}
use Rattle.checkpoints.proofs.checkpoints.Checkpoints.stand_after.Goals as goal

pub returns-in_err-follow-clause-standing : goal.returns-in_err-follow-clause-standing
returns-in_err-follow-clause-standing c = c.in_err-follow.ensures.standing (setting_for c.args.program.now) c.requires.standing

pub begin-from-requires-clause-standing : goal.begin-from-requires-clause-standing
begin-from-requires-clause-standing c = c.in_ok-follow.ensures.standing (setting_for c.args.program.now) c.requires.standing

pub begin-from-requires-clause-run : goal.begin-from-requires-clause-run
begin-from-requires-clause-run c = subst (IsBlockRun (setting_for c.args.program.now)) (sym c.in_ok-follow.ensures.log) c.requires.run

pub go_on-requires-clause-run : goal.go_on-requires-clause-run
go_on-requires-clause-run c = subst (IsBlockRun (setting_for c.args.program.now)) (sym c.in_ok-follow.ensures.log) c.requires.run

pub go_on-requires-clause-standing : goal.go_on-requires-clause-standing
go_on-requires-clause-standing c = c.in_ok-follow.ensures.standing (setting_for c.args.program.now) c.requires.standing

pub returns-clause-stands : goal.returns-clause-stands
returns-clause-stands c =
    subst (λ (l : List Entry). StandAfter (setting_for c.args.program.now) l c.go_on.new.parts) c.in_ok-follow.ensures.log c.go_on.ensures.stands
