use Rattle.std.proofs.Common.{◌≡◌, ℕ, zero, suc, ◌+◌, ◌-◌, ◌%◌, ◌^◌, ◌<◌, ◌≤◌, ◌&&◌, cond, ltb, leb, Option, Some, None, refl, sym, ap, ◌∙◌, arith}
use Rattle.std.proofs.lemmas.Bool.Decides.{nat_tests}
use Rattle.std.proofs.lemmas.Nat.{mul-le, pow-add}
use Rattle.mach_types.specs.Bytes.{joined, word_at}
use Rattle.store_buffers.proofs.Powers.{pow_256-positive}
use Rattle.store_buffers.proofs.WordsSeen.{word_at-bytes}
use Rattle.instruction_tests.specs.contracts.stores.RampUserMem.TheImpl.{byte-value}
use Rattle.instruction_tests.proofs.stores.Ramp.+word.Goals as goal

joined-none : (o : Option ℕ) → joined o None ≡ None
joined-none None = refl
joined-none (Some x) = refl

-- no word passes the end
past_end : (byte : ℕ → Option ℕ) (at n : ℕ) → byte (at + 1) ≡ None → 2 ≤ n → None ≡ word_at byte at n
past_end byte at zero none two = absurd (omega arith)
past_end byte at (suc zero) none two = absurd (omega arith)
past_end byte at (suc (suc n)) none two =
    sym (ap (λ o. joined (byte at) (joined o (word_at byte (at + 1 + 1) n))) none ∙ joined-none (byte at))

-- seven bytes leave room for one more
room : (n w : ℕ) → w < 256 ^ n → n ≤ 7 → w < 256 ^ 7
room n w small seven =
    let split : 7 ≡ n + (7 - n) = omega arith in
    let power = ap (λ k. 256 ^ k) split ∙ pow-add 256 n (7 - n) in
    let wide = mul-le (256 ^ n) 1 (256 ^ n) (256 ^ (7 - n)) (omega arith) (pow_256-positive (7 - n)) in
    omega arith

no_byte : (first last a : ℕ) → 2 ^ 64 ≤ a → cond (ltb a (2 ^ 64) && (leb first a && leb a last)) (Some (a % 256)) None ≡ None
no_byte first last a past = grind (arith, nat_tests)

small_byte : (first last a b : ℕ) → cond (ltb a (2 ^ 64) && (leb first a && leb a last)) (Some (a % 256)) None ≡ Some b → b < 256
small_byte first last a b e = grind (arith, nat_tests)

high_fits : (first last at n high : ℕ) → Some high ≡ word_at (λ a. cond (ltb a (2 ^ 64) && (leb first a && leb a last)) (Some (a % 256)) None) (at + 1) (n - 1)
    → n ≤ 8 → high < 256 ^ 7
high_fits first last at n high read size =
    let bytes = word_at-bytes (λ a. cond (ltb a (2 ^ 64) && (leb first a && leb a last)) (Some (a % 256)) None) (small_byte first last) (at + 1) (n - 1) high (sym read) in
    room (n - 1) high bytes.0 (omega arith)

pub returns-else-size-eq1 : goal.returns-else-size-eq1
returns-else-size-eq1 t c =
    past_end (byte-value.it c.args.self) c.args.at c.args.size (no_byte c.args.self.first c.args.self.last (c.args.at + 1) (omega arith)) (omega arith)

pub overflow_mul-result : goal.overflow_mul-result
overflow_mul-result t c =
    let fits = high_fits c.args.self.first c.args.self.last c.args.at c.args.size c.in_ok-high.high c.in_ok-high.ensures (omega arith) in
    omega arith

pub overflow_add-result : goal.overflow_add-result
overflow_add-result t c =
    let fits = high_fits c.args.self.first c.args.self.last c.args.at c.args.size c.in_ok-high.high c.in_ok-high.ensures (omega arith) in
    let low = small_byte c.args.self.first c.args.self.last c.args.at c.in_ok-low.low (sym c.in_ok-low.ensures) in
    omega arith
