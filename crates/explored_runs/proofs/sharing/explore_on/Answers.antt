use Rattle.std.proofs.Common.{◌≡◌, ◌∙◌, ◌++◌, List, All, ap, arith, drop, length, subst, sym, take}
use Rattle.std.proofs.lemmas.List.{take-append-le, take_all}
use Rattle.block_model.specs.Setting.{setting_of}
use Rattle.explored_runs.specs.Accounts.{account_of}
use Rattle.explored_runs.specs.Jobs.{IsJob}
use Rattle.explored_runs.specs.declared.jobs.Job.{Job}
use Rattle.explored_runs.proofs.Telling.{begins}
use Rattle.explored_runs.proofs.sharing.explore_on.Goals as goal

pub rounds-init : goal.rounds-init
rounds-init g c = record {
  exploring = begins (setting_of c.args.image.now c.args.limits) c.args.exploration.now (account_of c.in_ok-explored.explored)
      c.in_ok-explored.ensures;
  jobs = c.in_ok-all.ensures.jobs;
  some = omega (arith, c.in_ok-all.ensures.count, c.requires.jobs);
  few = omega (arith, c.in_ok-all.ensures.count);
}

-- a round leaves as many jobs as there were
pub rounds-preserved : goal.rounds-preserved
rounds-preserved g c =
    let s = setting_of c.args.image.now c.args.limits in
    let jobs = c.tell_round.new.jobs in
    let items = c.rounds.all.items in
    let given = ap (λ (js : List Job). length js) c.deref_mut.ensures.value in
    let kept : length jobs ≡ length items = omega (arith, c.tell_round.auto.jobs, given) in
    let count : length jobs ≡ c.rounds.all.len = omega (arith, c.tell_round.auto.jobs, c.deref_mut.ensures.len) in
    let same : take c.rounds.all.len (jobs ++ drop (length jobs) items) ≡ jobs =
    take-append-le c.rounds.all.len jobs (drop (length jobs) items) (omega (arith, count))
    ∙ take_all c.rounds.all.len jobs (omega (arith, count)) in
    let many = ap (λ (js : List Job). length js) same in
    record {
      exploring = c.in_ok-tell_round.ensures.exploring;
      jobs = subst (All (IsJob s c.args.exploration.now)) (sym same) c.in_ok-tell_round.ensures.jobs;
      some = omega (arith, many, kept, c.rounds.invariant.some);
      few = omega (arith, many, kept, c.rounds.invariant.few);
    }
