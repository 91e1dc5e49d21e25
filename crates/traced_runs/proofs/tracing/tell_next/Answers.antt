use Rattle.std.proofs.Common.{sym, ◌∙◌, ap, subst, Ok}
use Rattle.mach_types.specs.Limits.{InRange}
use Rattle.block_model.specs.Replay.{extended}
use Rattle.block_model.specs.Setting.{Seen}
use Rattle.call_reasons.specs.declared.reasons.LineFault.TheVariants.{Malformed}
use Rattle.script_runs.proofs.Playing.{ended_here, first_bad_at, goes_on, malformed_here, refused_here}
use Rattle.traced_runs.proofs.ToldLogs.{next_of_line, told_longer}
use Rattle.traced_runs.proofs.tracing.tell_next.Goals as goal

pub returns-in-Ok-None-clause-whole : goal.returns-in-Ok-None-clause-whole
returns-in-Ok-None-clause-whole c =
    λ none. ended_here c.args.script.now c.args.machine.now c.args.reader.now c.requires.playing
    (sym c.next_line.ensures.answer ∙ c.in-Ok-None.is ∙ ap Ok c.in-Ok-None.field-0-is)

pub make_line-requires-clause-run : goal.make_line-requires-clause-run
make_line-requires-clause-run c = c.requires.told.run

pub make_line-requires-clause-lines : goal.make_line-requires-clause-lines
make_line-requires-clause-lines c = c.requires.told.followed.lines

pub push_made-requires-clause-limits : goal.push_made-requires-clause-limits
push_made-requires-clause-limits c =
    let by = rw c.in-Ok.is at c.in_ok-made-in-Ok-Some.ensures.made in subst (λ (z : Seen). InRange z.setting.limits) (sym by.made.longer) c.requires.limits

pub push_made-requires-clause-made : goal.push_made-requires-clause-made
push_made-requires-clause-made c =
    let m = c.args.machine.now in
    let by = rw c.in-Ok.is at c.in_ok-made-in-Ok-Some.ensures.made in
    (m, next_of_line m c.make_line.new.machine c.in-Ok-Some.line _ _ c.in-Ok.made _ c.requires.told.run c.requires.told.followed.sequences by c.deref.ensures.value)

pub returns-in_ok-push_made-in-Ok-clause-setting : goal.returns-in_ok-push_made-in-Ok-clause-setting
returns-in_ok-push_made-in-Ok-clause-setting c =
    let by = rw c.in-Ok.is at c.in_ok-made-in-Ok-Some.ensures.made in ap (λ (m : Seen). m.setting) by.made.longer

pub returns-in_ok-push_made-in-Ok-clause-playing : goal.returns-in_ok-push_made-in-Ok-clause-playing
returns-in_ok-push_made-in-Ok-clause-playing c =
    let m = c.args.machine.now in
    let by = rw c.in-Ok.is at c.in_ok-made-in-Ok-Some.ensures.made in
    goes_on c.args.script.now m c.make_line.new.machine c.in-Ok-Some.line c.args.reader.now c.next_line.new.self c.requires.playing
    (sym c.next_line.ensures.answer ∙ c.in-Ok-Some.is ∙ ap Ok c.in-Ok-Some.field-0-is) c.next_line.ensures.left
    (ap (λ (z : Seen). z.setting) by.made.longer)
    (ap (λ (z : Seen). Ok z.log) by.made.longer ∙ sym (ap (extended m.log) by.by_line))

pub returns-in_ok-push_made-in-Ok-clause-told : goal.returns-in_ok-push_made-in-Ok-clause-told
returns-in_ok-push_made-in-Ok-clause-told c =
    let m = c.args.machine.now in
    let by = rw c.in-Ok.is at c.in_ok-made-in-Ok-Some.ensures.made in
    let given =
    next_of_line m c.make_line.new.machine c.in-Ok-Some.line _ c.deref.result.now c.in-Ok.made _ c.requires.told.run c.requires.told.followed.sequences by
    c.deref.ensures.value in
    told_longer c.args.span.now m c.make_line.new.machine c.in-Ok.made.entry c.args.followed.now c.push_made.new.followed
    c.args.text.now.items c.push_made.new.text.items c.requires.told by.made.longer by.made.block_run
    (c.in_ok-push_made-in-Ok.ensures.followed m given) (c.in_ok-push_made-in-Ok.ensures.text m given)

pub returns-in-Err-clause-refused : goal.returns-in-Err-clause-refused
returns-in-Err-clause-refused c =
    first_bad_at c.args.script.now c.args.machine.now _ Malformed c.log.ensures
    (malformed_here c.args.script.now c.args.machine.now c.in-Err.field-0 c.args.reader.now c.requires.playing
    (sym c.next_line.ensures.answer ∙ c.in-Err.is))

pub returns-in-Err-2-clause-refused : goal.returns-in-Err-2-clause-refused
returns-in-Err-2-clause-refused c =
    first_bad_at c.args.script.now c.args.machine.now _ c.in-Err-2.fault c.log.ensures
    (refused_here c.args.script.now c.args.machine.now c.in-Ok-Some.line c.args.reader.now
    c.in-Err-2.fault c.requires.playing
    (sym c.next_line.ensures.answer ∙ c.in-Ok-Some.is ∙ ap Ok c.in-Ok-Some.field-0-is)
    (rw c.in-Err-2.is at c.in_ok-made-in-Ok-Some.ensures.refused))
