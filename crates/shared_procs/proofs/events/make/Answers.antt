-- The event, its count, and what waits where it ends the process.
use Rattle.shared_procs.proofs.Common.{ap, AreMade, done_of, Half, here_two, IsCounted}
use Rattle.shared_procs.proofs.PairClosings.{after_any, few_then, may_then}
use Rattle.shared_procs.proofs.events.make.Goals as goal
use Rattle.shared_procs.proofs.events.make.Goals.{After-made, After-count}

-- at the place that there is
there : (c : After-made)
    → AreMade c.requires.setting c.requires.pair c.requires.process c.args.hart.0
    (done_of c.args.choice (here_two c.requires.setting c.requires.pair c.requires.process c.args.hart.0)) c.args.mine.now c.args.other.now c.made.new.mine
    c.made.new.other c.made.new.segment
there c = c.made.ensures c.requires.setting c.requires.pair c.requires.process c.requires.acting c.requires.beside c.requires.free

its_count : (c : After-count) → IsCounted c.args.hart.0 c.made.new.mine.parts c.count.new.self
its_count c = record {
  harts = c.count.ensures.harts;
  pages = c.count.ensures.pages;
  kernel = c.count.ensures.kernel;
  ended = c.count.ensures.ended;
}

pub count-requires : goal.count-requires
count-requires c = (there (goal.at.count-requires c).After-made).seen.own.room

pub close-requires : goal.close-requires
close-requires c =
    let s = c.requires.setting in
    let m = c.requires.pair in
    let p = c.requires.process in
    let own = (there (goal.at.close-requires c).After-made).seen.own in
    let counted = its_count (goal.at.close-requires c).After-count in
    record {
      few = few_then s m p c.args.hart.0 c.args.choice c.args.mine.now.parts c.made.new.mine.parts c.count.new.self c.requires.acting.place c.requires.free own counted;
      may = may_then s m p c.args.hart.0 c.args.choice c.args.mine.now.parts c.made.new.mine.parts c.count.new.self c.requires.acting.place c.requires.free own counted;
    }

pub returns-clause-after : goal.returns-clause-after
returns-clause-after c s m p acting tied free =
    let made = c.made.ensures s m p acting tied free in
    after_any s m p c.args.hart.0 c.args.choice c.args.mine.now.parts c.made.new.mine.parts c.count.new.self acting.place free made.seen.own
    (its_count (goal.at.returns-clause-after c).After-count) c.made.new.other.parts _ _ c.made.new.segment _ made.seen.beside made.holds c.close.ensures.lives
    (λ is so. c.close.ensures.ended is s p _ _ _ so)

pub returns-clause-mine : goal.returns-clause-mine
returns-clause-mine c = ap (λ (x : Half). record x { parts = c.close.new.mine }) (there (goal.at.returns-clause-mine c).After-made).program

pub returns-clause-other : goal.returns-clause-other
returns-clause-other c = ap (λ (x : Half). record x { parts = c.close.new.other }) (there (goal.at.returns-clause-other c).After-made).others
