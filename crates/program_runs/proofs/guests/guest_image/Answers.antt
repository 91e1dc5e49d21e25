use Rattle.program_runs.proofs.Trials.{image_of_guest, only_memory}
use Rattle.program_runs.proofs.guests.guest_image.Goals as goal

pub unloaded-requires : goal.unloaded-requires
unloaded-requires c =
    only_memory c.args.guest c.args.limits.now c.in_ok-file.file.items c.deref.result.now c.in-Err.fault
    c.deref.ensures.value c.requires c.in_ok-file.ensures.output c.in-Err.ensures.fault

pub returns-in-Ok-clause-image : goal.returns-in-Ok-clause-image
returns-in-Ok-clause-image c =
    image_of_guest c.args.guest c.args.limits.now c.in_ok-file.file.items c.deref.result.now c.in-Ok.image
    c.deref.ensures.value c.in_ok-file.ensures.output c.in-Ok.ensures.no_fault c.in-Ok.ensures.image
