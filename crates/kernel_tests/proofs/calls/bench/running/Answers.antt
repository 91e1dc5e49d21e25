-- The set of two harts, bit by bit.
use Rattle.std.proofs.Common.{◌≡◌, ◌+◌, Bool, true, false, cond, is_some, refl, sym, ◌∙◌}
use Rattle.mach_types.specs.Kernel.Threads.{running_on}
use Rattle.kernel_tests.proofs.calls.bench.running.Goals as goal

two_harts : (a b : Bool) → 0 + cond a 1 0 + cond b 2 0 ≡ cond a 1 0 + cond b 2 0
two_harts true true = refl
two_harts true false = refl
two_harts false true = refl
two_harts false false = refl

pub returns : goal.returns
returns g c =
    let ts = c.args.threads.now.threads in
    two_harts (is_some (running_on 0 ts)) (is_some (running_on 1 ts))
    ∙ sym (c.busy_set.ensures ∙ (λ i. cond (c.is_busy-first.ensures i) 1 0 + cond (c.is_busy-second.ensures i) 2 0))
