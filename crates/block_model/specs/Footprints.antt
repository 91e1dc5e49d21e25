-- Which bytes of memory an event reads and writes (own; what a hart's accesses are, and in which order they are made, is of the RISC-V
-- Unprivileged ISA, chapters RV32I, RV64I, "A" and "Ztso").
use Rattle.std.specs.Prelude.{ℕ, ◌+◌, ◌&&◌, ◌≡◌, Bool, true, false, List, [], ◌∷◌, nat_le, nat_lt}
use Rattle.std.specs.List.{list_any}
use Rattle.mach_types.specs.declared.user_memory.Write.{Write}
use Rattle.mach_types.specs.declared.user_memory.Write.TheVariants.{Stored, Zeroed}
use Rattle.rv_inst.specs.Accesses.{Bytes, bytes}

-- BYTES

-- whether one of so many bytes from an address on is one of these
abbrev pub meets : Bytes → ℕ → ℕ → Bool
meets bytes at n = nat_lt at (bytes.at + bytes.count) && nat_lt bytes.at (at + n)

-- whether the byte at an address is one of these, or of those of a list
abbrev pub has_byte : Bytes → ℕ → Bool
has_byte x a = nat_le x.at a && nat_lt a (x.at + x.count)

abbrev pub have_byte : List Bytes → ℕ → Bool
have_byte xs a = list_any (λ x. has_byte x a) xs

-- whether two have a byte in common, and two lists
abbrev pub overlap : Bytes → Bytes → Bool
overlap x y = nat_lt 0 x.count && (nat_lt 0 y.count && meets x y.at y.count)

abbrev pub overlap_any : List Bytes → List Bytes → Bool
overlap_any xs ys = list_any (λ x. list_any (overlap x) ys) xs

-- FOOTPRINTS

-- what an event reads, and what it writes
pub record Footprint : Type 0 where
  pub reads : List Bytes
  pub writes : List Bytes

-- neither of two writes a byte that the other reads or writes
pub record AreApart (x y : Footprint) : Type 0 where
  pub unread : (a : ℕ) → have_byte x.writes a ≡ true → have_byte y.reads a ≡ false
  pub unwritten : (a : ℕ) → have_byte x.writes a ≡ true → have_byte y.writes a ≡ false
  pub unread_too : (a : ℕ) → have_byte y.writes a ≡ true → have_byte x.reads a ≡ false

-- OF WRITES

-- the bytes of a write, and of several
abbrev pub bytes_of : Write → Bytes
bytes_of (Stored w) = bytes w.at w.size
bytes_of (Zeroed at n) = bytes at n

abbrev pub bytes_of_all : List Write → List Bytes
bytes_of_all [] = []
bytes_of_all (w ∷ ws) = bytes_of w ∷ bytes_of_all ws
