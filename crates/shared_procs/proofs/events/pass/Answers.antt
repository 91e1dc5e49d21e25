-- An event that the other process doesn't see, but that a hart took its requests.
use Rattle.shared_procs.proofs.Common.{not, sym, ◌∙◌, done_of, event_writes, half, here_two, setting, stand}
use Rattle.shared_procs.proofs.EventFacts.{does_so}
use Rattle.shared_procs.proofs.PairEvents.{hidden_writes, unshared}
use Rattle.shared_procs.proofs.events.pass.Goals as goal

pub returns : goal.returns
returns c s m p place tied free =
    let h = c.args.hart.0 in
    let here = here_two s m p h in
    let d = done_of c.args.choice here in
    let is = does_so here c.args.choice in
    unshared s m p h d c.args.mine.now c.event.new.self c.pass_by.new.self (c.event.ensures (stand s m p) place free)
    (hidden_writes here (λ n its. sym (place.tied.pages.permissions n) ∙ c.keeps.ensures.gap n its) d.entered
    (event_writes here c.args.choice c.requires.no_exec c.requires.no_drain))
    (c.pass_by.ensures (setting s (not p)) (half (not p) m) d tied (is.took_is ∙ sym c.takes.ensures) (is.none_begun c.requires.no_exec))
