-- Laws of memory with a segment, which the impl of UserMem cites.
use Rattle.std.proofs.Common.{◌≡◌, ℕ, ◌^◌, ◌<◌, ◌≤◌, ◌||◌, Bool, true, false, cond, List, Some, None, refl, ap, ◌∙◌, arith}
use Rattle.std.specs.Prelude.{IsSome}
use Rattle.std.proofs.lemmas.Bool.Decides.{nat_tests}
use Rattle.page_map.specs.Map.{Map, byte_in, can_write_in}
use Rattle.page_map.specs.MapLaws.{byte_in-ends, byte_in-readable, byte_in-small}
use Rattle.block_model.specs.Beside.{is_in_segment}
use Rattle.shared_procs.specs.Segments.{reached_in, shared_in, storable_in}

past_segment : (a : ℕ) → 2 ^ 64 ≤ a → is_in_segment a ≡ false
past_segment a past = grind (arith, nat_tests)

-- no address is 2^64 or more
pub reached_in-ends : (segment : List ℕ) (m : Map) (a : ℕ) → 2 ^ 64 ≤ a → reached_in segment m a ≡ None
reached_in-ends segment m a past = ap (λ b. cond b (Some (shared_in segment a)) (byte_in m a)) (past_segment a past) ∙ byte_in-ends m a past

-- a byte is below 256
pub reached_in-small : (segment : List ℕ) (m : Map) (a b : ℕ) → reached_in segment m a ≡ Some b → b < 256
reached_in-small segment m a b is = by (is_in_segment a) is
  where
    by : (inside : Bool) → cond inside (Some (shared_in segment a)) (byte_in m a) ≡ Some b → b < 256
    by true is = let same : shared_in segment a ≡ b = cc in omega arith
    by false is = byte_in-small m a b is

-- what can be written can be read
pub reached_in-readable : (segment : List ℕ) (m : Map) (a : ℕ) → storable_in m a ≡ true → IsSome (reached_in segment m a)
reached_in-readable segment m a may = by (is_in_segment a) may
  where
    by : (inside : Bool) → (inside || can_write_in m a) ≡ true → IsSome (cond inside (Some (shared_in segment a)) (byte_in m a))
    by true may = refl
    by false may = byte_in-readable m a may
