-- Fences (RISC-V Unprivileged ISA, section "Memory Ordering Instructions", and chapter "Ztso").
-- A set of accesses has four bits, from the high one: I device input, O device output, R reads, W writes.
use Rattle.std.specs.Prelude.{ℕ, ◌/◌, ◌%◌, ◌==◌, Bool, ◌&&◌, not}

abbrev pub has_writes : ℕ → Bool
has_writes set = set % 2 == 1

abbrev pub has_reads : ℕ → Bool
has_reads set = (set / 2) % 2 == 1

-- FENCE.TSO has mode 8 and reads and writes, alone, on both sides; with any other mode or sets a fence counts as
-- one of mode 0
abbrev pub is_fence_tso : ℕ → ℕ → ℕ → Bool
is_fence_tso fm pred succ = ((fm == 8) && (pred == 3)) && (succ == 3)

-- whether a fence orders writes before it with reads after it, the one order that Ztso leaves open
abbrev pub is_full_fence : ℕ → ℕ → ℕ → Bool
is_full_fence fm pred succ = (has_writes pred && has_reads succ) && not (is_fence_tso fm pred succ)
