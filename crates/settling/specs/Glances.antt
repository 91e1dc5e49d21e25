-- The words that an area looks at (rseq(2); uapi linux/rseq.h), each as it was read (own).
use Rattle.std.specs.Prelude.{ℕ, ◌+◌, ◌==◌, ◌&&◌, ◌||◌, Bool, true, false, not, Option, Some, None, is_some, unwrap_or}
use Rattle.mach_types.specs.Bytes.{word_at}
use Rattle.mach_types.specs.Kernel.Areas.{is_inside, sequence_of}
use Rattle.mach_types.specs.declared.sequences.Area.{Area}
use Rattle.mach_types.specs.declared.sequences.Descriptor.{Descriptor}
use Rattle.mach_types.specs.declared.sequences.TheConstants.{RSEQ_CS}
use Rattle.local_steps.specs.Resting.{Looked}
use Rattle.settling.specs.declared.areas.Glance.{Glance}

-- the pointer of an area; 0 where it can't be read
abbrev pub pointer_in : (ℕ → Option ℕ) → Area → ℕ
pointer_in byte area = unwrap_or (word_at byte (area.at + RSEQ_CS) 8) 0

-- the words of the descriptor at an address, which is the pointer of an area
abbrev pub glance_at : (ℕ → Option ℕ) → ℕ → Glance
glance_at byte at = record {
  pointer = at;
  version = word_at byte (at + 0) 4;
  flags = word_at byte (at + 4) 4;
  start = word_at byte (at + 8) 8;
  length = word_at byte (at + 16) 8;
  abort = word_at byte (at + 24) 8;
}

abbrev pub glance_in : (ℕ → Option ℕ) → Area → Glance
glance_in byte area = glance_at byte (pointer_in byte area)

-- each word of the descriptor could be read
abbrev pub has_descriptor : Glance → Bool
has_descriptor g =
    is_some g.version && is_some g.flags && is_some g.start && is_some g.length && is_some g.abort

-- the descriptor; a word that couldn't be read counts as 0
abbrev pub descriptor_of : Glance → Descriptor
descriptor_of g = record {
  version = unwrap_or g.version 0;
  flags = unwrap_or g.flags 0;
  start_ip = unwrap_or g.start 0;
  post_commit_offset = unwrap_or g.length 0;
  abort_ip = unwrap_or g.abort 0;
}

-- a pc is outside what is looked at
abbrev pub is_past : Glance → ℕ → Bool
is_past g pc =
    (g.pointer == 0) || not (has_descriptor g) || not (is_inside (sequence_of (descriptor_of g)) pc)

-- what is looked at, in the words of local steps
abbrev pub looked_of : Glance → Looked
looked_of g = record { pointer = g.pointer; is_readable = has_descriptor g; descriptor = descriptor_of g }

-- the same words
abbrev pub is_same_word : Option ℕ → Option ℕ → Bool
is_same_word None None = true
is_same_word None (Some y) = false
is_same_word (Some x) None = false
is_same_word (Some x) (Some y) = x == y

abbrev pub is_same_glance : Glance → Glance → Bool
is_same_glance x y =
    (x.pointer == y.pointer) && is_same_word x.version y.version && is_same_word x.flags y.flags
    && is_same_word x.start y.start && is_same_word x.length y.length && is_same_word x.abort y.abort

-- the same words, or a null pointer now
abbrev pub is_same_or_null : Glance → Glance → Bool
is_same_or_null now before = is_same_glance now before || (now.pointer == 0)
