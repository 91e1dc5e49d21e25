use Rattle.std.proofs.Common.{◌≡◌, ℕ, ℤ, suc, ◌+◌, ◌^◌, ◌<◌, ◌≤◌, Bool, true, false, ◌&&◌, not, eqb, cond, refl, ap, ◌∙◌, subst, sym, arith}
use Rattle.std.proofs.Math.Nat.{pow-suc, pow-le-pow_right}
use Rattle.mach_types.specs.Kernel.Barriers.{harts_that, is_about, is_target}
use Rattle.mach_types.specs.Kernel.Scheduling.{has_hart}
use Rattle.mach_types.proofs.Laws.{has_hart-within, harts_that-fits}
use Rattle.membarrier_cmds.proofs.targets.targets.Goals as goal

-- one hart more still fits
fits : (set n : ℕ) (b : Bool) → set < 2 ^ n → (b ≡ true → n < 8) → set < 256 → set + cond b (2 ^ n) 0 < 256
fits set n true below within small =
    let eight = within refl in
    let twice = pow-suc 2 n in
    let most : 2 ^ suc n ≤ 2 ^ 8 = pow-le-pow_right {n = 2} (omega arith) {i = suc n} {j = 8} (omega arith) in
    omega arith
fits set n false below within small = omega arith

-- a target is one of 8 harts
first_holds : (a b : Bool) → a && b ≡ true → a ≡ true
first_holds true b e = refl
first_holds false b e = cc

target_within : (flags : ℕ) (cpu : ℤ) (here running h : ℕ) → running < 256 → is_target flags cpu here running h ≡ true → h < 8
target_within flags cpu here running h small is =
    let other = first_holds (has_hart running h && not (eqb h here)) (is_about flags cpu h) is in
    has_hart-within running 8 h small (first_holds (has_hart running h) (not (eqb h here)) other)

pub set_of-set-requires : goal.set_of-set-requires
set_of-set-requires c = λ is.
    let call = c.args.call in
    target_within call.flags call.cpu call.here.0 c.args.running c.loop-hart.hart (omega arith) (sym c.is_target.ensures ∙ is)

pub overflow_add-set : goal.overflow_add-set
overflow_add-set c =
    let call = c.args.call in
    let n = c.loop-hart.hart in
    let below : c.loop-hart.set < 2 ^ n = subst (λ (m : ℕ). m < 2 ^ n) (sym c.loop-hart.invariant) (harts_that-fits (is_target call.flags call.cpu call.here.0 c.args.running) n) in
    let within : c.is_target.result ≡ true → n < 8 = λ is. target_within call.flags call.cpu call.here.0 c.args.running n (omega arith) (sym c.is_target.ensures ∙ is) in
    let sum : c.loop-hart.set + c.set_of-set.result < 256 =
    subst (λ (m : ℕ). c.loop-hart.set + m < 256) (sym c.set_of-set.ensures) (fits c.loop-hart.set n c.is_target.result below within (omega arith)) in
    omega arith

-- the targets, with one hart more
one_more : (test : ℕ → Bool) (n set added : ℕ) (b : Bool) → set ≡ harts_that test n → b ≡ test n → added ≡ cond b (2 ^ n) 0 → set + added ≡ harts_that test (n + 1)
one_more test n set added b before is bit =
    let next : suc n ≡ n + 1 = omega arith in
    ap (λ m. m + added) before ∙ ap (λ m. harts_that test n + m) (bit ∙ ap (λ c. cond c (2 ^ n) 0) is) ∙ ap (harts_that test) next

pub loop-hart-preserved : goal.loop-hart-preserved
loop-hart-preserved c =
    let call = c.args.call in
    one_more (is_target call.flags call.cpu call.here.0 c.args.running) c.loop-hart.hart c.loop-hart.set c.set_of-set.result c.is_target.result c.loop-hart.invariant c.is_target.ensures
    c.set_of-set.ensures
