use Rattle.std.proofs.Common.{rules, sym, subst, ◌∙◌}
use Rattle.std.proofs.lemmas.Result.{IfOk-at_ok}
use Rattle.process.proofs.Common.{IsPlace, IsUncounted, Parts, done_of, here_at}
use Rattle.mach_types.specs.declared.events.Choice.TheVariants as asked
use Rattle.process.specs.Refinement.{HasCode}
use Rattle.process.proofs.parts.Parts.make_exec.Goals as goal

pub exec_any-requires : goal.exec_any-requires
exec_any-requires c = subst (λ (m : Parts). HasCode c.args.code.now m c.args.hart.0) (sym c.in-None.ensures.none) c.requires

pub count-requires : goal.count-requires
count-requires c =
    let v = c.requires.stand in
    let h = c.args.hart.0 in
    let place = subst (λ (m : Parts). IsPlace v m h) (sym c.in-None.ensures.none) c.requires.place in
    (IfOk-at_ok (λ e. IsUncounted v h (done_of asked.Exec (here_at v h)) c.make_plain.new.self c.exec_any.new.self) c.in-Ok.is (c.exec_any.ensures.made v place c.requires.alone)).room

pub returns-in-Ok-clause-answer : goal.returns-in-Ok-clause-answer
returns-in-Ok-clause-answer c v place alone =
    sym c.in-Ok.is ∙ c.exec_any.ensures.answer v (subst (λ (m : Parts). IsPlace v m c.args.hart.0) (sym c.in-None.ensures.none) place) alone

pub returns-in-Ok-clause-after : goal.returns-in-Ok-clause-after
returns-in-Ok-clause-after c v place alone =
    let h = c.args.hart.0 in
    let there = subst (λ (m : Parts). IsPlace v m h) (sym c.in-None.ensures.none) place in
    let made = subst (λ (m : Parts). IsUncounted v h (done_of asked.Exec (here_at v h)) m c.exec_any.new.self) c.in-None.ensures.none
    (IfOk-at_ok (λ e. IsUncounted v h (done_of asked.Exec (here_at v h)) c.make_plain.new.self c.exec_any.new.self) c.in-Ok.is (c.exec_any.ensures.made v there alone)) in
    made.after c.count.new.self (search rules)

pub returns-in-Err-clause-answer : goal.returns-in-Err-clause-answer
returns-in-Err-clause-answer c v place alone =
    sym c.in-Err.is ∙ c.exec_any.ensures.answer v (subst (λ (m : Parts). IsPlace v m c.args.hart.0) (sym c.in-None.ensures.none) place) alone
