use Rattle.std.proofs.Common.{sym, ◌∙◌, ap, Ok}
use Rattle.call_reasons.specs.declared.reasons.LineFault.TheVariants.{Malformed}
use Rattle.script_runs.proofs.Playing.{ended_here, goes_on, first_bad_at, malformed_here, refused_here}
use Rattle.script_runs.proofs.scripts.count_next.Goals as goal

pub returns-in-Ok-None-clause-whole : goal.returns-in-Ok-None-clause-whole
returns-in-Ok-None-clause-whole c =
    λ none. ended_here c.args.script.now c.args.machine.now c.args.reader.now c.requires.playing
    (sym c.next_line.ensures.answer ∙ c.in-Ok-None.is ∙ ap Ok c.in-Ok-None.field-0-is)

pub follow-requires : goal.follow-requires
follow-requires c = record {
  earlier = c.args.machine.now;
  now = c.see_line.new.machine;
  entry = c.in-Ok.passed.entry;
  limits = c.requires.limits;
  counted = c.requires.counted;
  made = c.in-Ok.ensures.seen;
}

pub returns-in_ok-follow-in-Ok-clause-playing : goal.returns-in_ok-follow-in-Ok-clause-playing
returns-in_ok-follow-in-Ok-clause-playing c =
    goes_on c.args.script.now c.args.machine.now c.see_line.new.machine c.in-Ok-Some.line c.args.reader.now
    c.next_line.new.self c.requires.playing
    (sym c.next_line.ensures.answer ∙ c.in-Ok-Some.is
    ∙ ap Ok c.in-Ok-Some.field-0-is) c.next_line.ensures.left c.in-Ok.ensures.setting c.in-Ok.ensures.made

pub returns-in-Err-see_line-clause-refused : goal.returns-in-Err-see_line-clause-refused
returns-in-Err-see_line-clause-refused c =
    first_bad_at c.args.script.now c.args.machine.now _ c.in-Err-see_line.fault c.log.ensures
    (refused_here c.args.script.now c.args.machine.now c.in-Ok-Some.line c.args.reader.now
    c.in-Err-see_line.fault c.requires.playing
    (sym c.next_line.ensures.answer ∙ c.in-Ok-Some.is ∙ ap Ok c.in-Ok-Some.field-0-is)
    c.in-Err-see_line.ensures.refused)

pub returns-in-Err-clause-refused : goal.returns-in-Err-clause-refused
returns-in-Err-clause-refused c =
    first_bad_at c.args.script.now c.args.machine.now _ Malformed c.log.ensures
    (malformed_here c.args.script.now c.args.machine.now c.in-Err.field-0 c.args.reader.now c.requires.playing
    (sym c.next_line.ensures.answer ∙ c.in-Err.is))
