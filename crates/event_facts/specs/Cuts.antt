-- Whether a write cuts bytes that are read: it has some of them and not all. Where none does, all of them come from where the first does.
use Rattle.std.specs.Prelude.{ℕ, ◌+◌, ◌&&◌, ◌||◌, Bool, List, nat_le, not}
use Rattle.std.specs.List.{list_any}
use Rattle.event_facts.specs.declared.lines.Numbered.{Numbered}
use Rattle.event_facts.specs.declared.long_writes.LongWrite.{LongWrite}

-- a write of n bytes from one address on, of so many bytes from another on
abbrev pub cuts : ℕ → ℕ → ℕ → ℕ → Bool
cuts from n at size = not ((nat_le (from + n) at || nat_le (at + size) from) || (nat_le from at && nat_le (at + size) (from + n)))

-- one of these stores
abbrev pub cut_by_store : ℕ → ℕ → Numbered → Bool
cut_by_store at size w = cuts w.store.at w.store.size at size

-- one of these writes of more bytes
abbrev pub cut_by_long : ℕ → ℕ → LongWrite → Bool
cut_by_long at size x = cuts x.at x.length at size
