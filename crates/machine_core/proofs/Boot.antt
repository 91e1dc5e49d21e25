-- A machine that has done nothing yet.
use Rattle.machine_core.proofs.Common.{◌≡◌, ℕ, zero, suc, ◌<◌, arith, List, [], length, refl, true, HartState, Setting, credit_of, generator_in, all_chosen, credit_at, history, generator_at, All, first_generators, idle_credit}
use Rattle.hart_state.specs.State.{idle_hart}

-- no entry is of another choice at the start
pub none_made : (s : Setting) (seed : ℕ) → true ≡ all_chosen s seed (history s [])
unfolding history
none_made s seed = refl

-- no hart has a credit there
pub credits_start : (s : Setting) (seed : ℕ) (harts : List HartState) (h : ℕ) → All (λ hart. hart ≡ idle_hart) harts → h < length harts → credit_of harts h ≡ credit_at s seed h (history s [])
unfolding credit_at history
credits_start s seed harts h idles lt = idle_credit harts h idles lt

-- and no generator gave a word
pub generators_start : (s : Setting) (seed h : ℕ) → h < 8 → generator_in (first_generators seed) h ≡ generator_at s seed h (history s [])
unfolding history
generators_start s seed zero lt = refl
generators_start s seed (suc zero) lt = refl
generators_start s seed (suc (suc zero)) lt = refl
generators_start s seed (suc (suc (suc zero))) lt = refl
generators_start s seed (suc (suc (suc (suc zero)))) lt = refl
generators_start s seed (suc (suc (suc (suc (suc zero))))) lt = refl
generators_start s seed (suc (suc (suc (suc (suc (suc zero)))))) lt = refl
generators_start s seed (suc (suc (suc (suc (suc (suc (suc zero))))))) lt = refl
generators_start s seed (suc (suc (suc (suc (suc (suc (suc (suc h)))))))) lt = absurd (omega (arith, lt))
