-- Laws of any page map, which the impl of UserMem cites.
use Rattle.std.proofs.Common.{◌≡◌, ℕ, ◌/◌, ◌%◌, ◌^◌, ◌<◌, ◌≤◌, ◌&&◌, Bool, true, false, cond, List, Option, Some, None, get_or, slice_get, refl, ap, ◌∙◌, arith}
use Rattle.std.specs.Prelude.{IsSome}
use Rattle.std.specs.Option.{option_and_then, option_map}
use Rattle.std.proofs.lemmas.Bool.{le-ltb}
use Rattle.mach_types.specs.Kernel.Pages.{can_read, can_write}
use Rattle.page_map.specs.Map.{IsAlike, Map, Page, byte_at, byte_if, byte_in, bytes_if, can_write_in, may_write, page_at, page_in}
use Rattle.page_map.specs.Table.{place_in}

-- no page lies where addresses are 2^38 or more
pub page_in-past : (m : Map) (n : ℕ) → 67108864 ≤ n → page_in m n ≡ None
unfolding page_in
page_in-past m n past =
    let none : place_in m.table n ≡ None = rw (le-ltb n 67108864 past) refl in
    ap (λ o. option_map (page_at m.pool) (option_and_then (slice_get m.mapped) o)) none

-- and no byte has such an address
pub byte_if-past : (bit : ℕ) (m : Map) (a : ℕ) → 2 ^ 38 ≤ a → byte_if bit m a ≡ None
byte_if-past bit m a past = ap (λ p. option_map (byte_at (a % 4096)) (bytes_if bit p)) (page_in-past m (a / 4096) (omega arith))

pub byte_in-ends : (m : Map) (a : ℕ) → 2 ^ 64 ≤ a → byte_in m a ≡ None
byte_in-ends m a past = byte_if-past 4 m a (omega arith)

small : (offset b : ℕ) (o : Option (List ℕ)) → option_map (byte_at offset) o ≡ Some b → b < 256
small offset b None is = cc
small offset b (Some bytes) is = let e : get_or bytes offset 0 % 256 ≡ b = cc in omega arith

-- a byte is below 256
pub byte_if-small : (bit : ℕ) (m : Map) (a b : ℕ) → byte_if bit m a ≡ Some b → b < 256
byte_if-small bit m a b is = small (a % 4096) b (bytes_if bit (page_in m (a / 4096))) is

pub byte_in-small : (m : Map) (a b : ℕ) → byte_in m a ≡ Some b → b < 256
byte_in-small m a b is = byte_if-small 4 m a b is

readable : (b c : Bool) (offset : ℕ) (bytes : List ℕ) → (b && c) ≡ true → IsSome (option_map (byte_at offset) (cond b (Some bytes) None))
readable true c offset bytes e = refl
readable false c offset bytes e = cc

by_page : (offset : ℕ) (o : Option Page) → may_write (option_map (λ (p : Page). p.permission) o) ≡ true
    → IsSome (option_map (byte_at offset) (bytes_if 4 o))
by_page offset None e = cc
by_page offset (Some p) e = readable (can_read (Some p.permission)) (can_write (Some p.permission)) offset p.bytes e

-- what can be written can be read
pub byte_in-readable : (m : Map) (a : ℕ) → can_write_in m a ≡ true → IsSome (byte_in m a)
byte_in-readable m a e = by_page (a % 4096) (page_in m (a / 4096)) e

-- a page map is like itself
pub alike_itself : (m : Map) → IsAlike m m
alike_itself m = record {
  permissions = λ n. refl;
  code = λ a. refl;
  unwritable = λ a fails. refl;
  free = refl;
  break_at = refl;
  break_start = refl;
}

-- and what is like a like one is like it
pub alike_next : (a b c : Map) → IsAlike a b → IsAlike b c → IsAlike a c
alike_next a b c first second = record {
  permissions = λ n. second.permissions n ∙ first.permissions n;
  code = λ at. second.code at ∙ first.code at;
  unwritable = λ at fails. second.unwritable at (ap may_write (first.permissions (at / 4096)) ∙ fails) ∙ first.unwritable at fails;
  free = second.free ∙ first.free;
  break_at = second.break_at ∙ first.break_at;
  break_start = second.break_start ∙ first.break_start;
}
