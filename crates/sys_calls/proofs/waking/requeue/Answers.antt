-- One more is woken or waits at the other address, until nobody waits.
use Rattle.sys_calls.proofs.Common.{◌≡◌, ℕ, ◌-◌, ◌+◌, ◌<◌, ◌∙◌, Bool, ltb, Some, None, sym, ap, subst, arith, longest_waiter, requeue, Kernel, IsOnward, IsWoken, longest_waits}
use Rattle.sys_calls.proofs.Laws.{record_with}
use Rattle.kernel_threads.specs.Table.{hears_saved}
use Rattle.mach_types.specs.Kernel.Futexes.{hears}
use Rattle.sys_calls.proofs.FutexWakes.{heard_same, nobody_goes, onward_more, onward_still, waking_more, waking_none, woken_all}
use Rattle.sys_calls.proofs.waking.requeue.Goals as goal

pub loop-count-init : goal.loop-count-init
loop-count-init c = record { onward = onward_still c.args.kernel.now; waking = λ h told heard. waking_none h c.args.kernel.now c.args.most c.args.more c.args.at c.args.to (λ t. hears c.args.mask (h.file t)) told }

pub take_one-requires : goal.take_one-requires
take_one-requires c = record { tables = (c.requires.tables.0, c.loop-count.invariant.onward.tables c.requires.tables.0 c.requires.tables.1) }

pub returns-in_default-clause-woken : goal.returns-in_default-clause-woken
returns-in_default-clause-woken c = λ h told heard.
    let k = c.loop-count.kernel in
    let count = c.loop-count.count in
    let listens : ℕ → Bool = λ t. hears c.args.mask (h.file t) in
    let waking = c.loop-count.invariant.waking h told heard in
    let none : longest_waiter c.args.at listens k.threads.threads ≡ None =
    sym (heard_same h c.args.mask waking.us c.args.at k.threads c.take_one.ensures.table (λ m is. waking.kept (heard m is))) ∙ sym c.in_default.ensures.longest in
    subst (λ (k' : Kernel). IsWoken h c.args.kernel.now k' (requeue c.args.most c.args.more c.args.at c.args.to listens h.kernel) count) (sym c.in_default.ensures.nobody)
    (woken_all h c.args.kernel.now k c.args.most c.args.more c.args.at c.args.to listens count waking
    (nobody_goes (c.args.most - count) (c.args.more - (count - c.args.most)) c.args.at c.args.to listens (record_with k h.kernel) none))

pub returns-in_default-clause-onward : goal.returns-in_default-clause-onward
returns-in_default-clause-onward c = subst (IsOnward c.args.kernel.now) (sym c.in_default.ensures.nobody) c.loop-count.invariant.onward

pub loop-count-preserved : goal.loop-count-preserved
loop-count-preserved c =
    let k = c.loop-count.kernel in
    let u = c.in-Some._taken.0 in
    let some : longest_waiter c.args.at (hears_saved c.args.mask k.threads.saved) k.threads.threads ≡ Some u = sym c.in-Some.ensures.longest in
    let wakes : Bool = ltb c.loop-count.count c.from-in-loop-count.result in
    let is : ltb c.loop-count.count c.args.most ≡ wakes = ap (ltb c.loop-count.count) (sym c.from-in-loop-count.ensures) in
    let first = c.from.ensures in
    let others = c.from-2.ensures in
    let test = c.loop-count-test.true in
    let lt : c.loop-count.count < c.args.most + c.args.more = omega arith in
    record {
      onward = onward_more c.args.kernel.now k c.take_one.new.kernel c.requires.tables.0 u c.args.to wakes c.requires.tables.1 c.loop-count.invariant.onward (longest_waits c.args.at (hears_saved c.args.mask k.threads.saved) k.threads.threads u some)
          c.in-Some.ensures.threads c.in-Some.ensures.saved c.in-Some.ensures.ready c.take_one.ensures.others;
      waking = λ h told heard.
          let waking = c.loop-count.invariant.waking h told heard in
          let listens : ℕ → Bool = λ t. hears c.args.mask (h.file t) in
          let its : longest_waiter c.args.at listens k.threads.threads ≡ Some u =
          sym (heard_same h c.args.mask waking.us c.args.at k.threads c.take_one.ensures.table (λ m is. waking.kept (heard m is))) ∙ some in
          waking_more h c.args.kernel.now k c.take_one.new.kernel c.args.most c.args.more c.args.at c.args.to listens c.loop-count.count u wakes is lt
          waking its c.in-Some.ensures.threads c.in-Some.ensures.saved c.in-Some.ensures.ready c.take_one.ensures.others;
    }

pub returns-clause-woken : goal.returns-clause-woken
returns-clause-woken c = λ h told heard.
    let listens : ℕ → Bool = λ t. hears c.args.mask (h.file t) in
    let k = c.loop-count.kernel in
    let count = c.loop-count.count in
    let first = c.from.ensures in
    let others = c.from-2.ensures in
    let all : count ≡ c.from.result + c.from-2.result = omega arith in
    let none : c.args.most - count ≡ 0 = omega arith in
    let no_more : c.args.more - (count - c.args.most) ≡ 0 = omega arith in
    subst (λ (n : ℕ). IsWoken h c.args.kernel.now k (requeue c.args.most c.args.more c.args.at c.args.to listens h.kernel) n) all
    (woken_all h c.args.kernel.now k c.args.most c.args.more c.args.at c.args.to listens count (c.loop-count.invariant.waking h told heard)
    (λ i. requeue (none i) (no_more i) c.args.at c.args.to listens (record_with k h.kernel)))
