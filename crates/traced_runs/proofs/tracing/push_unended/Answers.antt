use Rattle.std.proofs.Common.{◌++◌, ◌∙◌, List, ap}
use Rattle.std.specs.List.{flat_map}
use Rattle.block_view.specs.declared.forms.Act.{Act}
use Rattle.trace_text.specs.Traces.{ends_line}
use Rattle.traced_runs.proofs.tracing.push_unended.Goals as goal

pub returns : goal.returns
returns c =
    c.in_ok-push_ends.ensures ∙ ap (λ (acts : List Act). c.args.text.now.items ++ flat_map ends_line acts) (c.deref.ensures.value ∙ c.in_ok-acts.ensures)
