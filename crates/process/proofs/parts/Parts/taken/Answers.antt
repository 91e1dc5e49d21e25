-- A hart takes its requests.
use Rattle.process.proofs.Common.{ap, ◌∙◌, done_take, here_at, ended_by}
use Rattle.process.proofs.Places.{still_there}
use Rattle.process.proofs.TakeEvent.{taken_event}
use Rattle.process.proofs.parts.Parts.taken.Goals as goal

pub end_take-requires-clause-listed : goal.end_take-requires-clause-listed
end_take-requires-clause-listed c =
    let v = c.requires.stand in
    let place = c.requires.place in
    still_there v c.args.self.now c.args.hart.0 (done_take (here_at v c.args.hart.0)).entered c.restarted-came.new.self.harts.items place (c.restarted-came.ensures.restarted v place).harts

pub returns : goal.returns
returns c v place free = taken_event v c.args.self.now c.args.hart place free c.restarted-came.result c.restarted-came.new.self c.end_take.new.self (record {
  restarted = c.restarted-came.ensures.restarted v place;
  harts = c.end_take.ensures.harts;
  same_pages = c.end_take.ensures.pages;
  same_kernel = c.end_take.ensures.kernel ∙ c.restarted-came.ensures.kernel;
  ended = c.end_take.ensures.ended ∙ ap (ended_by c.restarted-came.result) c.restarted-came.ensures.ended;
})
