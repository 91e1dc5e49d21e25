use Rattle.std.proofs.Common.{sym, ◌∙◌, ap}
use Rattle.std.specs.Option.{option_copied}
use Rattle.step_log.proofs.Meanings.{meaning_past}
use Rattle.step_log.proofs.parsing.line_of.Goals as goal

pub returns-in-Some : goal.returns-in-Some
returns-in-Some c =
    c.long_line.ensures
    ∙ meaning_past c.args.text.now c.split_field.result.0.now c.in_ok-rest.field-0.now c.split_field-2.result.0.now c.in-Some.rest.now
    (option_copied c.split_field.result.1) (option_copied c.split_field-2.result.1) c.in_ok-hart.hart c.in_ok-kind.kind c.split_field.ensures
    (ap option_copied c.in_ok-rest.was) c.split_field-2.ensures (ap option_copied c.in-Some.is)
    (sym c.hart_of.ensures ∙ c.in_ok-hart.was) (sym c.kind_of.ensures ∙ c.in_ok-kind.was)
