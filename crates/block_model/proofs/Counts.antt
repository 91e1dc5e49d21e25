-- A hart makes no more events, and executes no more instructions, than there are events.
use Rattle.block_model.proofs.Common.{ℕ, ◌+◌, ◌≤◌, [], ◌∷◌, length, Bool, true, false, cond, arith, History, IsRunHistory, Setting, events, is_of_hart, ran}
use Rattle.block_model.proofs.Runs.{fit_at}

grown : (b : Bool) (n m k : ℕ) → m ≤ k → n ≤ k + 1 → cond b n m ≤ k + 1
grown true n m k few more = more
grown false n m k few more = omega arith

pub events_few : (h : ℕ) (before : History) → events h before ≤ length before
events_few h [] = omega arith
events_few h (e ∷ before) = let few = events_few h before in let more = grown (is_of_hart h e) (events h before + 1) (events h before) (length before) few (omega arith) in omega (arith, more)

started : (b : Bool) (n m k : ℕ) → n ≤ k → m ≤ 1 → cond b 0 n + m ≤ k + 1
started true n m k few one = omega arith
started false n m k few one = omega arith

pub ran_few : (s : Setting) (h : ℕ) (before : History) → IsRunHistory s before → ran h before ≤ length before
ran_few s h [] run = omega arith
ran_few s h (e ∷ before) run =
    let few = ran_few s h before run.0 in
    let fit = fit_at s e before run in
    let more = grown (is_of_hart h e) (cond e.done.started 0 (ran h before) + e.done.instructions) (ran h before) (length before) few (started e.done.started (ran h before) e.done.instructions (length before) few fit.one) in
    omega (arith, more)
