-- Bytes that can be written among those of an access; and writes of the kernel that have such bytes alone.
use Rattle.block_model.proofs.Common.{◌≡◌, ℕ, suc, ◌+◌, ◌-◌, ◌*◌, ◌<◌, ◌≤◌, ◌||◌, Bool, true, false, not, cond, List, [], ◌∷◌, ◌++◌, filter, length, Option, Some, None, refl, sym, ap, ◌∙◌, subst, arith, AllByRecursion, Area, CPU_ID, MM_CID, NODE_ID, Named, Saved, Store, Stored, Words, Write, Zeroed, and_parts, are_words_writable, can_write_frame, each_byte, frame_at, frame_writes, interruption, is_clearable, is_inside, named, stack_pointer, words_stored, words_written, writes_of, Action, Fault, frame_size}
use Rattle.mach_types.specs.Kernel.SignalFrames.{words_of_frame}
use Rattle.mach_types.proofs.Laws.{each_byte-split}
use Rattle.mach_types.specs.Kernel.Areas.{outcome_of}
use Rattle.mach_types.specs.declared.sequences.BadWhy.TheVariants as bad
use Rattle.mach_types.specs.declared.sequences.Named.TheVariants as names
use Rattle.mach_types.specs.declared.sequences.Outcome.TheVariants as comes_to
use Rattle.block_model.proofs.Interruptions.{few_words}
use Rattle.block_model.proofs.PlaceInvariant.{all_append}

-- a store has bytes, each of which can be written; the zeros of pages that come to be are no store
abbrev pub IsWritable : (ℕ → Bool) → Write → Type 0
IsWritable can_write (Stored w) = (0 < w.size) × (each_byte can_write w.at w.size ≡ true)
IsWritable can_write (Zeroed at count) = Unit

abbrev pub AllWritable : (ℕ → Bool) → List Write → Type 0
AllWritable can_write ws = AllByRecursion (IsWritable can_write) ws

-- PARTS OF AN ACCESS

bytes_between : (test : ℕ → Bool) (at before m rest : ℕ) → each_byte test at (before + (m + rest)) ≡ true → each_byte test (at + before) m ≡ true
bytes_between test at before m rest may =
    let later = and_parts (each_byte test at before) (each_byte test (at + before) (m + rest)) (sym (each_byte-split test at before (m + rest)) ∙ may) in
    (and_parts (each_byte test (at + before) m) (each_byte test (at + before + m) rest) (sym (each_byte-split test (at + before) m rest) ∙ later.1)).0

bytes_within : (test : ℕ → Bool) (at n from m : ℕ) → each_byte test at n ≡ true → at ≤ from → from + m ≤ at + n → each_byte test from m ≡ true
bytes_within test at n from m may low high =
    let longer : n ≡ (from - at) + (m + ((at + n) - (from + m))) = omega arith in
    let place : at + (from - at) ≡ from = omega arith in
    subst (λ a. each_byte test a m ≡ true) place (bytes_between test at (from - at) m ((at + n) - (from + m)) (sym (ap (each_byte test at) longer) ∙ may))

-- so the first byte of a store can be
pub first_writable : (can_write : ℕ → Bool) (w : Store) → IsWritable can_write (Stored w) → can_write w.at ≡ true
first_writable can_write w may =
    let some = may.0 in
    (and_parts (can_write w.at) true (bytes_within can_write w.at w.size w.at 1 may.1 (omega arith) (omega arith))).0

-- and no write passes a test that no store passes whose first byte can be written, and no zeros
pub none_passes : (can_write : ℕ → Bool) (test : Write → Bool) → ((w : Store) → can_write w.at ≡ true → test (Stored w) ≡ false)
    → ((at count : ℕ) → test (Zeroed at count) ≡ false) → (ws : List Write) → AllWritable can_write ws → filter test ws ≡ []
none_passes can_write test stores zeros [] all = refl
none_passes can_write test stores zeros (Stored w ∷ ws) all =
    rw (stores w (first_writable can_write w all.0)) (none_passes can_write test stores zeros ws all.1)
none_passes can_write test stores zeros (Zeroed at count ∷ ws) all = rw (zeros at count) (none_passes can_write test stores zeros ws all.1)

module _ (can_write : ℕ → Bool) where
  -- a store of some of the bytes of an access
  pub part_writable : (at n from size value : ℕ) → each_byte can_write at n ≡ true → at ≤ from → from + size ≤ at + n → 0 < size
      → IsWritable can_write (Stored (record { at = from; size = size; value = value }))
  part_writable at n from size value may low high some = (some, bytes_within can_write at n from size may low high)

  -- words one behind the other
  words_writable : (at : ℕ) (ws : List ℕ) → each_byte can_write at (8 * length ws) ≡ true → AllWritable can_write (words_stored at ws)
  words_writable at [] may = tt
  words_writable at (w ∷ ws) may = (
    part_writable at (8 * suc (length ws)) at 8 w may (omega arith) (omega arith) (omega arith),
    words_writable (at + 8) ws (bytes_within can_write at (8 * suc (length ws)) (at + 8) (8 * length ws) may (omega arith) (omega arith)),
  )

  -- writes that are made unless a pointer is null, or where a flag is set
  pub written_unless : (null may : Bool) (ws : List Write) → (null || may) ≡ true → (may ≡ true → AllWritable can_write ws) → AllWritable can_write (cond null [] ws)
  written_unless true may ws is all = tt
  written_unless false may ws is all = all is

  pub written_where : (set may : Bool) (ws : List Write) → (not set || may) ≡ true → (may ≡ true → AllWritable can_write ws) → AllWritable can_write (cond set ws [])
  written_where true may ws is all = all is
  written_where false may ws is all = tt

  -- WHAT THE KERNEL WRITES

  -- the words of an area
  pub area_writable : (area : Area) (words : Words) → are_words_writable can_write area ≡ true → AllWritable can_write (words_written area words)
  area_writable area words may =
      let p = area.at in
      let q = area.at + NODE_ID in
      let both = and_parts (each_byte can_write p 8) (each_byte can_write q 8) may in (
        part_writable p 8 p 4 words.cpu_id_start both.0 (omega arith) (omega arith) (omega arith),
        (
          part_writable p 8 (p + CPU_ID) 4 words.cpu_id both.0 (omega arith) (omega arith) (omega arith),
          (
            part_writable q 8 q 4 words.node_id both.1 (omega arith) (omega arith) (omega arith),
            (part_writable q 8 (p + MM_CID) 4 words.mm_cid both.1 (omega arith) (omega arith) (omega arith), tt),
          ),
        ),
      )

  -- the frame of a handler
  pub frame_writable : (s : ℕ) (a : Action) (fault : Option Fault) (saved : Saved) (mask : ℕ) → can_write_frame can_write a saved ≡ true
      → AllWritable can_write (frame_writes s a fault saved mask)
  unfolding can_write_frame
  frame_writable s a fault saved mask may =
      let at = frame_at a (stack_pointer saved) in
      let words = words_of_frame s a fault saved mask in
      let few = few_words s a fault saved mask in
      words_writable at words (bytes_within can_write at (frame_size a) at (8 * length words) may (omega arith) (omega (arith, few)))

  -- the pointer of an area, which an interruption clears only where it can
  cleared_by : (area : Area) (clear inside : Bool) (abort : ℕ) → is_clearable can_write area ≡ clear
      → AllWritable can_write (writes_of (Some area) (cond (not clear) (comes_to.Killed bad.AreaBytes) (cond inside (comes_to.Aborted abort) comes_to.Cleared)))
  cleared_by area false inside abort is = tt
  cleared_by area true true abort is = ((omega arith, is), tt)
  cleared_by area true false abort is = ((omega arith, is), tt)

  named_writable : (area : Area) (pc : ℕ) (n : Named) → AllWritable can_write (writes_of (Some area) (outcome_of can_write area pc n))
  named_writable area pc (names.Good sequence) = cleared_by area (is_clearable can_write area) (is_inside sequence pc) sequence.abort refl
  named_writable area pc other = tt

  pub interruption_writable : (byte : ℕ → Option ℕ) (o : Option Area) (pc : ℕ) → AllWritable can_write (writes_of o (interruption byte can_write o pc))
  interruption_writable byte None pc = tt
  interruption_writable byte (Some area) pc = named_writable area pc (named byte area pc)

  -- some writes, and others behind them
  pub both_writable : (xs ys : List Write) → AllWritable can_write xs → AllWritable can_write ys → AllWritable can_write (xs ++ ys)
  both_writable xs ys p q = all_append (IsWritable can_write) xs ys p q
