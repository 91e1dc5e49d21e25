use Rattle.std.proofs.Common.{not, ap, ◌∙◌}
use Rattle.log_gather.specs.Marks.{steps_of}
use Rattle.log_gather.proofs.TouchedBytes.{undisturbed_by}
use Rattle.log_gather.proofs.clashes.is_undisturbed.Goals as goal

pub returns : goal.returns
returns c =
    ap not c.is_disturbed.ensures
    ∙ undisturbed_by c.args.hart.0 (steps_of c.args.details.now c.args.span.now) c.in_ok-touched.touched c.in_ok-touched.ensures
