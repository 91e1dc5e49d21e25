use Rattle.std.proofs.Common.{sym, ◌∙◌, ap, Ok}
use Rattle.pair_runs.proofs.PlayingPairs.{ended_here, goes_on, malformed_here, refused_here}
use Rattle.pair_runs.proofs.pairs.play_next.Goals as goal

pub returns-in-Ok-None-clause-whole : goal.returns-in-Ok-None-clause-whole
returns-in-Ok-None-clause-whole c =
    λ none. ended_here c.args.script.now c.args.pair.now c.args.reader.now c.requires
    (sym c.next_line.ensures.answer ∙ c.in-Ok-None.is ∙ ap Ok c.in-Ok-None.field-0-is)

pub returns-in-Ok-clause-playing : goal.returns-in-Ok-clause-playing
returns-in-Ok-clause-playing c =
    goes_on c.args.script.now c.args.pair.now c.play_line.new.pair c.in-Ok-Some.line c.in-Ok.field-0 c.args.reader.now
    c.next_line.new.self c.requires
    (sym c.next_line.ensures.answer ∙ c.in-Ok-Some.is ∙ ap Ok c.in-Ok-Some.field-0-is) c.next_line.ensures.left
    c.in-Ok.ensures.made c.in-Ok.ensures.answers c.play_line.ensures.pair_run

pub returns-in-Err-play_line-clause-refused : goal.returns-in-Err-play_line-clause-refused
returns-in-Err-play_line-clause-refused c =
    refused_here c.args.script.now c.args.pair.now _ c.in-Ok-Some.line c.args.reader.now c.in-Err-play_line.fault
    c.log.ensures c.requires
    (sym c.next_line.ensures.answer ∙ c.in-Ok-Some.is ∙ ap Ok c.in-Ok-Some.field-0-is)
    c.in-Err-play_line.ensures.refused

pub returns-in-Err-clause-refused : goal.returns-in-Err-clause-refused
returns-in-Err-clause-refused c =
    malformed_here c.args.script.now c.args.pair.now _ c.in-Err.field-0 c.args.reader.now c.log.ensures c.requires
    (sym c.next_line.ensures.answer ∙ c.in-Err.is)
