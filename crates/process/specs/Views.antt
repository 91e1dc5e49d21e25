-- Laws of memory as a hart sees it, which its impl of UserMem cites.
use Rattle.std.proofs.Common.{◌≡◌, ℕ, ◌-◌, ◌%◌, ◌/◌, ◌^◌, ◌<◌, ◌≤◌, Bool, true, false, cond, List, [], ◌∷◌, Option, Some, None, ap, arith, refl, subst}
use Rattle.std.specs.Option.{option_map}
use Rattle.std.specs.Prelude.{IsSome}
use Rattle.mach_types.specs.Bytes.{byte_over, covers, overlay}
use Rattle.mach_types.specs.declared.user_memory.Store.{Store}
use Rattle.page_map.specs.Map.{Map, byte_in}
use Rattle.page_map.specs.MapLaws.{byte_in-ends, byte_in-small}
use Rattle.rv_inst.specs.Execution.{seen_byte}

-- no byte has an address of 2^64 or more
pub seen_ends : (m : Map) (ws : List Store) (a : ℕ) → 2 ^ 64 ≤ a → seen_byte ws (byte_in m) a ≡ None
seen_ends m ws a past = ap (option_map (overlay ws a)) (byte_in-ends m a past)

-- a byte is below 256
either_small : (b : Bool) (value below : ℕ) → below < 256 → cond b (value % 256) below < 256
either_small true value below small = omega arith
either_small false value below small = small

overlay_small : (ws : List Store) (a below : ℕ) → below < 256 → overlay ws a below < 256
overlay_small [] a below small = small
overlay_small (w ∷ ws) a below small = overlay_small ws a (byte_over w a below) (either_small (covers w a) (w.value / 256 ^ (a - w.at)) below small)

seen_of : (ws : List Store) (a b : ℕ) (o : Option ℕ) → ((c : ℕ) → o ≡ Some c → c < 256) → option_map (overlay ws a) o ≡ Some b → b < 256
seen_of ws a b None small is = cc
seen_of ws a b (Some c) small is = let e : overlay ws a c ≡ b = cc in subst (λ n. n < 256) e (overlay_small ws a c (small c refl))

pub seen_small : (m : Map) (ws : List Store) (a b : ℕ) → seen_byte ws (byte_in m) a ≡ Some b → b < 256
seen_small m ws a b is = seen_of ws a b (byte_in m a) (λ c at. byte_in-small m a c at) is

-- no byte can be written, and so each that can is readable
pub none_writable : (byte : ℕ → Option ℕ) (a : ℕ) → false ≡ true → IsSome (byte a)
none_writable byte a may = cc
