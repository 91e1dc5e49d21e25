use Rattle.process.proofs.Common.{◌∙◌, true, false, barrier_of}
use Rattle.process.proofs.OtherProcess.{passed_taken, passed_untaken, tied_passed}
use Rattle.process.proofs.parts.Parts.pass_by.Goals as goal

pub returns-then-took : goal.returns-then-took
returns-then-took c s p d tied took barrier =
    let h = c.args.hart.0 in
    let m = c.args.self.now in
    let begun = barrier_of c.args.end in
    tied_passed s p h d true begun c.args.writes.now m c.take_aside.new.self tied (took ∙ c.if-took.true) barrier
    (passed_taken h begun c.args.writes.now m.harts.items c.lose_all.new.self.harts.items c.ask.new.self.harts.items c.take_aside.new.self.harts.items
    c.lose_all.ensures.harts c.ask.ensures.harts c.take_aside.ensures.harts)
    (c.take_aside.ensures.pages ∙ c.ask.ensures.pages ∙ c.lose_all.ensures.pages)
    (c.take_aside.ensures.kernel ∙ c.ask.ensures.kernel ∙ c.lose_all.ensures.kernel)
    (c.take_aside.ensures.ended ∙ c.ask.ensures.ended ∙ c.lose_all.ensures.ended)

pub returns-else-took : goal.returns-else-took
returns-else-took c s p d tied took barrier =
    let begun = barrier_of c.args.end in
    tied_passed s p c.args.hart.0 d false begun c.args.writes.now c.args.self.now c.ask.new.self tied (took ∙ c.if-took.false) barrier
    (passed_untaken c.args.hart.0 begun c.args.writes.now c.args.self.now.harts.items c.lose_all.new.self.harts.items c.ask.new.self.harts.items
    c.lose_all.ensures.harts c.ask.ensures.harts)
    (c.ask.ensures.pages ∙ c.lose_all.ensures.pages)
    (c.ask.ensures.kernel ∙ c.lose_all.ensures.kernel)
    (c.ask.ensures.ended ∙ c.lose_all.ensures.ended)
