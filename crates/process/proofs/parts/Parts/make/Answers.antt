use Rattle.process.proofs.Common.{rules, sym, ◌∙◌, IsUncounted, done_of, here_at}
use Rattle.std.proofs.lemmas.Result.{IfOk-at_ok}
use Rattle.process.proofs.parts.Parts.make.Goals as goal

pub count-requires : goal.count-requires
count-requires c =
    let v = c.requires.stand in
    let h = c.args.hart.0 in
    (IfOk-at_ok (λ e. IsUncounted v h (done_of c.args.choice (here_at v h)) c.args.self.now c.made.new.self) c.in-Ok.is (c.made.ensures.made v c.requires.place c.requires.alone)).room

pub returns-in-Ok-clause-answer : goal.returns-in-Ok-clause-answer
returns-in-Ok-clause-answer c v place alone = sym c.in-Ok.is ∙ c.made.ensures.answer v place alone

pub returns-in-Ok-clause-after : goal.returns-in-Ok-clause-after
returns-in-Ok-clause-after c v place alone =
    let h = c.args.hart.0 in
    (IfOk-at_ok (λ e. IsUncounted v h (done_of c.args.choice (here_at v h)) c.args.self.now c.made.new.self) c.in-Ok.is (c.made.ensures.made v place alone)).after c.count.new.self (search rules)
