use Rattle.std.proofs.Common.{◌||◌, Option, ap, is_some, leb, length, sym, ◌∙◌}
use Rattle.std.proofs.lemmas.Bool.{lt-leb}
use Rattle.mach_types.specs.declared.limits.End.{End}
use Rattle.block_model.specs.Choosing.{has_ended}
use Rattle.block_model.proofs.Laws.{is_open}
use Rattle.event_facts.specs.Telling.{past_of}
use Rattle.traced_runs.proofs.tracing.goes_on.Goals as goal

pub returns-in-Unended : goal.returns-in-Unended
unfolding has_ended
returns-in-Unended c =
    let m = c.args.machine.now in
    let before = past_of m in
    let open_is = is_open m.setting before c.requires.allowed (sym c.end.ensures ∙ c.in-Unended.is) in
    λ goes. ap (λ (o : Option End). is_some o || leb m.setting.limits.steps (length before)) open_is.0
    ∙ lt-leb m.setting.limits.steps (length before) open_is.1
