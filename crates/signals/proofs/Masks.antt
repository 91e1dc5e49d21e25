-- SIGKILL and SIGSTOP are in no mask.
use Rattle.std.proofs.Common.{◌≡◌, ℕ, ◌-◌, ◌^◌, eqb, bit_and, refl, ap, arith}
use Rattle.std.specs.Int.{bit_at}
use Rattle.std.proofs.lemmas.Nat.Bits.{bit_at_and}
use Rattle.mach_types.specs.Kernel.Signals.{maskable}
use Rattle.signals.specs.Holding.{IsMask}

-- a set without a bit
lacking : (signals others i : ℕ) → bit_at others i ≡ 0 → bit_at (bit_and signals others) i ≡ 0
lacking signals others i e =
    let both = bit_at_and signals others i in
    omega arith

pub maskable-is_mask : (signals : ℕ) → IsMask (maskable signals)
maskable-is_mask signals = (
  ap (λ b. eqb b 1) (lacking signals (2 ^ 64 - 1 - 262400) 8 refl),
  ap (λ b. eqb b 1) (lacking signals (2 ^ 64 - 1 - 262400) 18 refl),
)
