-- The word of a step of the generator.
use Rattle.sys_calls.proofs.Common.{◌≡◌, ℕ, ap, ◌∙◌}
use Rattle.rand_xoshiro.specs.SplitMix64.{mix_u64}
use Rattle.sys_calls.proofs.random.next_word.Goals as goal

pub returns : goal.returns
returns c = ap (λ (p : ℕ × ℕ). p.0) c.next_word.ensures ∙ ap (λ (n : ℕ). (mix_u64 n).0) c.seed_from_u64-generator.ensures.same
