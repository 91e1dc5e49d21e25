use Rattle.std.proofs.Common.{◌≡◌, ◌<◌, ◌+◌, sym, ◌∙◌, ap, arith, length}
use Rattle.std.proofs.Math.ListN.{length-set}
use Rattle.block_model.specs.Setting.{setting_of}
use Rattle.explored_runs.specs.Accounts.{Account, account_of}
use Rattle.explored_runs.proofs.Telling.{goes_on_taken, left, short_taken}
use Rattle.explored_runs.proofs.sharing.tell_batch.Goals as goal

pub tell-requires-clause-short : goal.tell-requires-clause-short
tell-requires-clause-short c =
    let below : c.loop-made.made-index < length c.loop-made.made-items = omega arith in
    short_taken (setting_of c.args.task.now.image.now c.args.task.now.limits) c.args.task.now.exploration.now c.args.batch.from c.loop-made.made-items
    c.loop-made.made-index c.made-item.result c.in-Some.made c.requires.task.in_range c.loop-made.invariant.made below c.in-Some.ensures.value

pub returns-then-has_enough-clause-exploring : goal.returns-then-has_enough-clause-exploring
returns-then-has_enough-clause-exploring c =
    let so_far = c.loop-made.invariant in
    let below : c.loop-made.made-index < length c.loop-made.made-items = omega arith in
    goes_on_taken (setting_of c.args.task.now.image.now c.args.task.now.limits) c.args.task.now.exploration.now (account_of c.loop-made.explored)
    (account_of c.tell.new.self) c.args.batch.from c.loop-made.made-items c.loop-made.made-index c.made-item.result
    c.in-Some.made c.requires.task.in_range so_far.exploring so_far.told so_far.few so_far.wanted so_far.made below c.in-Some.ensures.value
    c.in_ok-tell.ensures

pub loop-made-preserved : goal.loop-made-preserved
loop-made-preserved c =
    let so_far = c.loop-made.invariant in
    let s = setting_of c.args.task.now.image.now c.args.task.now.limits in
    let x = c.args.task.now.exploration.now in
    let round = c.loop-made.made-items in
    let i = c.loop-made.made-index in
    let below : i < length round = omega arith in
    let one : c.tell.new.self.runs ≡ c.loop-made.explored.runs + 1 = ap (λ (a : Account). a.runs) c.in_ok-tell.ensures in
    record {
      exploring = goes_on_taken s x (account_of c.loop-made.explored) (account_of c.tell.new.self) c.args.batch.from round i
          c.made-item.result c.in-Some.made c.requires.task.in_range so_far.exploring so_far.told so_far.few so_far.wanted so_far.made below
          c.in-Some.ensures.value c.in_ok-tell.ensures;
      wanted = sym c.has_enough.ensures ∙ c.if-has_enough.false;
      told = omega (arith, one, so_far.told);
      few = omega (arith, length-set round i c.take.new.self, so_far.few);
      made = left s x c.args.batch.from round i c.take.new.self c.take.ensures.after so_far.made;
    }
