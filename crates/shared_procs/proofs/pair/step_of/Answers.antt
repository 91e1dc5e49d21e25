-- With the log a choice is answered as without it.
use Rattle.process.specs.Refinement.{answered}
use Rattle.shared_procs.proofs.Common.{◌≡◌, Option, None, Some, Result, Ok, Err, ap, Entry, entry_as, NotEnabled, PairRefused, refusal_as, unless_two, Why}
use Rattle.shared_procs.proofs.pair.step_of.Goals as goal

abbrev told : Result Entry Why → Result Entry PairRefused
told (Ok entry) = Ok entry
told (Err why) = Err (NotEnabled why)

told_as : (r : Result Entry Why) (entry : Entry) (o : Option Why) → r ≡ answered entry o → told r ≡ unless_two entry o
told_as r entry None is = ap told is
told_as r entry (Some why) is = ap told is

pub returns-in-Ok-clause-answer : goal.returns-in-Ok-clause-answer
returns-in-Ok-clause-answer c s m asks =
    let p = c.args.is_second in
    let h = c.args.hart.0 in
    told_as (Ok c.in-Ok.entry) (entry_as s m p h c.args.choice) (refusal_as s m p h c.args.choice) (c.in-Ok.ensures.answer s m asks)

pub returns-in-Err-clause-answer : goal.returns-in-Err-clause-answer
returns-in-Err-clause-answer c s m asks =
    let p = c.args.is_second in
    let h = c.args.hart.0 in
    told_as (Err c.in-Err.why) (entry_as s m p h c.args.choice) (refusal_as s m p h c.args.choice) (c.in-Err.ensures.answer s m asks)
