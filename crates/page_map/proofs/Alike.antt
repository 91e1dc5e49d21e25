-- What a write leaves of a page map, and what page maps hold that differ in bytes alone.
use Rattle.std.proofs.Common.{◌≡◌, ℕ, ◌+◌, ◌-◌, ◌/◌, ◌%◌, ◌<◌, ◌≤◌, inl, inr, ◌&&◌, Bool, true, false, cond, List, [], ◌∷◌, Option, Some, None, nat_le, nat_lt, is_some, IsSome, refl, sym, ap, ◌∙◌, arith}
use Rattle.std.specs.Option.{option_map}
use Rattle.std.proofs.lemmas.Bool.Decides.{nat_tests}
use Rattle.mach_types.specs.Bytes.{after_write, after_writes, byte_after, byte_over, each_byte, written}
use Rattle.mach_types.specs.Kernel.Pages.{can_read, can_write}
use Rattle.mach_types.specs.declared.user_memory.Write.{Write}
use Rattle.mach_types.specs.declared.user_memory.Write.TheVariants.{Stored, Zeroed}
use Rattle.page_map.specs.Map.{IsAlike, IsStored, Map, are_visible, byte_in, can_write_in, held_in, is_visible, page_in, permission_in}
use Rattle.page_map.specs.MapLaws.{byte_in-readable}
use Rattle.page_map.proofs.Accesses.{both_differ, each_byte-all, each_byte-at, true_or_not}
use Rattle.page_map.proofs.Readings.{if-held, if-permission}

-- an address that fails a test lies outside of bytes that pass it
outside : (test : ℕ → Bool) (at n a : ℕ) → each_byte test at n ≡ true → test a ≡ false → (nat_le at a && nat_lt a (at + n)) ≡ false
outside test at n a all fails = elim (true_or_not (nat_le at a && nat_lt a (at + n))) [
  | inl inside ↦
      let low : at ≤ a = grind (arith, nat_tests, inside) in
      let high : a < at + n = grind (arith, nat_tests, inside) in
      let here : at + (a - at) ≡ a = omega arith in
      let holds : test a ≡ true = ap test (sym here) ∙ each_byte-at test at n (a - at) all (omega arith) in
      absurd (both_differ (test a) holds fails)
  | inr out ↦ out
]

-- a byte that can't be written stays
same_byte : (at size v a : ℕ) (o : Option ℕ) → (nat_le at a && nat_lt a (at + size)) ≡ false
    → option_map (byte_over (record { at = at; size = size; value = v }) a) o ≡ o
same_byte at size v a None out = refl
same_byte at size v a (Some b) out = rw out refl

pub unwritable_stays : (m m' : Map) (made : Bool) (at size v : ℕ) → made ≡ each_byte (can_write_in m) at size
    → ((a : ℕ) → held_in m' a ≡ after_write made (record { at = at; size = size; value = v }) (held_in m) a)
    → (a : ℕ) → can_write_in m a ≡ false → held_in m' a ≡ held_in m a
unwritable_stays m m' false at size v answer held a fails = held a
unwritable_stays m m' true at size v answer held a fails =
    held a ∙ same_byte at size v a (held_in m a) (outside (can_write_in m) at size a (sym answer) fails)

pub stored-alike : (m m' : Map) (made : Bool) (at size v : ℕ) → made ≡ each_byte (can_write_in m) at size
    → IsStored m m' made (record { at = at; size = size; value = v }) → IsAlike m m'
stored-alike m m' made at size v answer set = record {
  permissions = set.permissions;
  code = set.code;
  unwritable = unwritable_stays m m' made at size v answer set.held;
  free = set.free;
  break_at = set.break_at;
  break_start = set.break_start;
}

-- bytes that can be written can be read
some_is : (o : Option ℕ) → IsSome o → is_some o ≡ true
some_is (Some b) some = refl
some_is None some = cc

pub writable_is_visible : (m : Map) (at n : ℕ) → each_byte (can_write_in m) at n ≡ true → each_byte (λ a. is_some (byte_in m a)) at n ≡ true
writable_is_visible m at n all = each_byte-all (λ a. is_some (byte_in m a)) at n
    (λ k lt. some_is (byte_in m (at + k)) (byte_in-readable m (at + k) (each_byte-at (can_write_in m) at n k all lt)))

-- a write that can be seen leaves the bytes that can't be
untouched : (m : Map) (w : Write) (a below : ℕ) → is_visible m w ≡ true → is_some (byte_in m a) ≡ false → byte_after w a below ≡ below
untouched m (Stored s) a below seen fails = rw (outside (λ x. is_some (byte_in m x)) s.at s.size a seen fails) refl
untouched m (Zeroed at n) a below seen fails = rw (outside (λ x. is_some (byte_in m x)) at n a seen fails) refl

both : (b c : Bool) → (b && c) ≡ true → (b ≡ true) × (c ≡ true)
both true c e = (refl, e)
both false c e = cc

all_untouched : (m : Map) (ws : List Write) (a below : ℕ) → are_visible m ws ≡ true → is_some (byte_in m a) ≡ false → written ws a below ≡ below
all_untouched m [] a below seen fails = refl
all_untouched m (w ∷ ws) a below seen fails =
    let parts = both (is_visible m w) (are_visible m ws) seen in
    ap (written ws a) (untouched m w a below parts.0 fails) ∙ all_untouched m ws a below parts.1 fails

kept_by : (f : ℕ → ℕ) (o : Option ℕ) → ((b : ℕ) → f b ≡ b) → o ≡ option_map f o
kept_by f None same = refl
kept_by f (Some b) same = ap Some (sym (same b))

-- what can be read is what is held
seen_held : (m : Map) (a : ℕ) (b : Bool) → can_read (permission_in m (a / 4096)) ≡ b → byte_in m a ≡ cond b (held_in m a) None
seen_held m a b is = if-held 4 (a % 4096) (page_in m (a / 4096)) ∙ ap (λ c. cond c (held_in m a) None) is

-- a map that is like another, and shows what these writes left, holds it
pub alike_holds : (m m' : Map) (ws : List Write) → IsAlike m m' → are_visible m ws ≡ true → ((a : ℕ) → byte_in m' a ≡ after_writes ws (byte_in m) a)
    → (a : ℕ) → held_in m' a ≡ option_map (written ws a) (held_in m a)
alike_holds m m' ws alike visible bytes a =
    let may = can_read (permission_in m (a / 4096)) in
    elim (true_or_not may) [
      | inl holds ↦
          let same : can_read (permission_in m' (a / 4096)) ≡ true = ap can_read (alike.permissions (a / 4096)) ∙ holds in
          sym (seen_held m' a true same) ∙ bytes a ∙ ap (option_map (written ws a)) (seen_held m a true holds)
      | inr fails ↦
          let none : is_some (byte_in m a) ≡ false = if-permission 4 (a % 4096) (page_in m (a / 4096)) ∙ fails in
          let unwritable : can_write_in m a ≡ false = ap (λ b. b && can_write (permission_in m (a / 4096))) fails in
          alike.unwritable a unwritable ∙ kept_by (written ws a) (held_in m a) (λ b. all_untouched m ws a b visible none)
    ]
