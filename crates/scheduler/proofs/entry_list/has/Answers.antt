use Rattle.std.proofs.Common.{is_some, ap, ◌∙◌}
use Rattle.scheduler.proofs.Copies.{has_place}
use Rattle.scheduler.proofs.entry_list.has.Goals as goal

pub returns : goal.returns
returns c = c.is_some.ensures ∙ ap is_some c.place_in.ensures ∙ has_place c.args.tid c.args.entries.now
