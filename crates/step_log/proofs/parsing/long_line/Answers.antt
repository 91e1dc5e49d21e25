use Rattle.std.proofs.Common.{sym, ◌∙◌, ap}
use Rattle.std.specs.Option.{option_copied}
use Rattle.step_log.proofs.Meanings.{long_past, is_some-copied}
use Rattle.step_log.proofs.parsing.long_line.Goals as goal

pub returns-then-is_some : goal.returns-then-is_some
returns-then-is_some c =
    sym (long_past c.args.hart c.args.kind c.args.text.now c.split_field.result.0.now c.in-Some.rest.now c.split_field-in-Some.result.0.now
    (option_copied c.split_field.result.1) (option_copied c.split_field-in-Some.result.1) c.split_field.ensures (ap option_copied c.in-Some.is)
    c.split_field-in-Some.ensures (is_some-copied c.split_field-in-Some.result.1 ∙ sym c.is_some.ensures ∙ c.if-is_some.true))
