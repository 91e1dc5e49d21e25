-- What an interruption comes to, and that it leaves the pointer of the thread's area 0 (rseq(2)).
use Rattle.block_model.proofs.Common.{◌≡◌, ℕ, ◌+◌, ◌-◌, ◌/◌, ◌%◌, ◌^◌, ◌*◌, ◌<◌, ◌≤◌, ◌&&◌, ◌⊎◌, inl, inr, List, [], ◌∷◌, ◌++◌, drop, length, take, refl, sym, ap, ◌∙◌, arith, Bool, true, false, if◌then◌else◌, cond, leb, ltb, Option, Some, None, is_some, length-append, subst, not, Any, Area, BadWhy, CPU_ID, Done, Here, MM_CID, NODE_ID, Named, Outcome, RSEQ_CS, Saved, Seq, Store, Stored, Words, Write, and_right, are_readable, area_here, byte_of, byte_over, can_read, can_write_words, done_running, false≢true, frame_at, frame_words, frame_writes, interruption, interruption_here, is_clearable, is_inside, is_inside_named, is_writable, length-take, lives_on, ltb-false, meets, memory, memory_in, named, nat_tests, next_id, number_at, option_map_or, permission_at, pointer_of, stack_pointer, word_at, word_at-read, words_entered, words_on, words_stored, words_to, words_written, writes_of, written, Action, Fault, frame_size, replicate}
use Rattle.mach_types.specs.Kernel.SignalFrames.{context_words, info_words, wants_info, words_of_frame}
use Rattle.block_model.specs.Whole.{lies_on_words}
use Rattle.mach_types.proofs.Laws.{each_byte-same}
use Rattle.mach_types.specs.Kernel.Areas.{pointer_cleared, outcome_of}
use Rattle.block_model.proofs.NamedSequences.{number_agrees, IsNull, number_null, nothing_null, read_unless_bad}
use Rattle.mach_types.specs.declared.sequences.BadWhy.TheVariants as bad
use Rattle.mach_types.specs.declared.sequences.Named.TheVariants as names
use Rattle.mach_types.specs.declared.sequences.Outcome.TheVariants as comes_to

-- ONE BYTE OF THE POINTER

-- the words of an area are beside its pointer
pub below_store : (w : Store) (a below : ℕ) → a < w.at → byte_over w a below ≡ below
below_store w a below low = let isnt : leb w.at a ≡ false = grind (arith, nat_tests) in ap (λ b. cond (b && ltb a (w.at + w.size)) (byte_of w.value (a - w.at)) below) isnt

pub past_store : (w : Store) (a below : ℕ) → w.at + w.size ≤ a → byte_over w a below ≡ below
past_store w a below high =
    let isnt : ltb a (w.at + w.size) ≡ false = grind (arith, nat_tests) in
    ap (λ b. cond b (byte_of w.value (a - w.at)) below) (and_right (leb w.at a) (ltb a (w.at + w.size)) isnt)

abbrev word_at_place : ℕ → ℕ → Store
word_at_place at value = record { at = at; size = 4; value = value }

words_apart : (area : Area) (words : Words) (a below : ℕ) → area.at + RSEQ_CS ≤ a → a < area.at + RSEQ_CS + 8
    → written (words_written area words) a below ≡ below
words_apart area words a below low high =
    let start = word_at_place area.at words.cpu_id_start in
    let cpu = word_at_place (area.at + CPU_ID) words.cpu_id in
    let node = word_at_place (area.at + NODE_ID) words.node_id in
    let id = word_at_place (area.at + MM_CID) words.mm_cid in
    below_store id a _ (omega arith)
    ∙ below_store node a _ (omega arith)
    ∙ past_store cpu a _ (omega arith)
    ∙ past_store start a below (omega arith)

-- a pointer that is cleared
clear_byte : (area : Area) (a below : ℕ) → area.at + RSEQ_CS ≤ a → a < area.at + RSEQ_CS + 8
    → byte_over (record { at = area.at + RSEQ_CS; size = 8; value = 0 }) a below ≡ 0
clear_byte area a below low high =
    let from : leb (area.at + RSEQ_CS) a ≡ true = grind (arith, nat_tests) in
    let to : ltb a (area.at + RSEQ_CS + 8) ≡ true = grind (arith, nat_tests) in
    ap (λ b. cond (b && ltb a (area.at + RSEQ_CS + 8)) (byte_of 0 (a - (area.at + RSEQ_CS))) below) from
    ∙ ap (λ b. cond b (byte_of 0 (a - (area.at + RSEQ_CS))) below) to
    ∙ zero_byte (256 ^ (a - (area.at + RSEQ_CS)))
  where
    zero_byte : (n : ℕ) → (0 / n) % 256 ≡ 0
    zero_byte n = omega arith

-- THE FRAME OF A HANDLER

-- an address below so many bytes from another one on, or beyond them
abbrev pub IsBeside : ℕ → ℕ → ℕ → Type 0
IsBeside at n a = (a < at) ⊎ (at + n ≤ a)

-- words leave the bytes beside them
words_beside : (at : ℕ) (ws : List ℕ) (a below : ℕ) → IsBeside at (8 * length ws) a → written (words_stored at ws) a below ≡ below
words_beside at [] a below beside = refl
words_beside at (w ∷ ws) a below (inl low) =
    ap (written (words_stored (at + 8) ws) a) (below_store (record { at = at; size = 8; value = w }) a below low)
    ∙ words_beside (at + 8) ws a below (inl (omega arith))
words_beside at (w ∷ ws) a below (inr high) =
    ap (written (words_stored (at + 8) ws) a) (past_store (record { at = at; size = 8; value = w }) a below (omega arith))
    ∙ words_beside (at + 8) ws a below (inr (omega arith))

-- a frame has no more words than are known of it
few_plain : (saved : Saved) (mask : ℕ) → 8 * length (frame_words saved mask) ≤ 272
few_plain saved mask =
    let taken = length-take 31 (drop 1 saved.file.x) in
    let both = length-append (take 31 (drop 1 saved.file.x)) (mask ∷ 0 ∷ []) in
    omega (arith, taken, both)

told_length : (s : ℕ) (fault : Option Fault) → length (info_words s fault) ≡ 16
told_length s None = refl
told_length s (Some f) = refl

few_informed : (s : ℕ) (fault : Option Fault) (saved : Saved) (mask : ℕ) → 8 * length (info_words s fault ++ context_words saved mask) ≤ 1088
few_informed s fault saved mask =
    let told = told_length s fault in
    let taken = length-take 31 (drop 1 saved.file.x) in
    let nothing : List ℕ = replicate 66 0 in
    let zeros : length nothing ≡ 66 = refl in
    let context = length-append (take 31 (drop 1 saved.file.x)) nothing in
    let both = length-append (info_words s fault) (context_words saved mask) in
    omega (arith, told, taken, zeros, context, both)

few_by_form : (form : Bool) (s : ℕ) (fault : Option Fault) (saved : Saved) (mask : ℕ)
    → 8 * length (cond form (info_words s fault ++ context_words saved mask) (frame_words saved mask)) ≤ cond form 1088 272
few_by_form true s fault saved mask = few_informed s fault saved mask
few_by_form false s fault saved mask = few_plain saved mask

pub few_words : (s : ℕ) (action : Action) (fault : Option Fault) (saved : Saved) (mask : ℕ) → 8 * length (words_of_frame s action fault saved mask) ≤ frame_size action
few_words s action fault saved mask = few_by_form (wants_info action) s fault saved mask

frame_beside : (s : ℕ) (action : Action) (fault : Option Fault) (saved : Saved) (mask a below : ℕ) → IsBeside (frame_at action (stack_pointer saved)) (frame_size action) a
    → written (frame_writes s action fault saved mask) a below ≡ below
frame_beside s action fault saved mask a below (inl low) = words_beside (frame_at action (stack_pointer saved)) (words_of_frame s action fault saved mask) a below (inl low)
frame_beside s action fault saved mask a below (inr high) =
    let few = few_words s action fault saved mask in
    words_beside (frame_at action (stack_pointer saved)) (words_of_frame s action fault saved mask) a below (inr (omega (arith, few, high)))

-- where a frame doesn't lie on some bytes each of them is beside it
each_beside : (p n at m : ℕ) (b c : Bool) → ltb at (p + n) ≡ b → ltb p (at + m) ≡ c → (b && c) ≡ false → (a : ℕ) → p ≤ a → a < p + n → IsBeside at m a
each_beside p n at m true true is from none a low high = absurd (false≢true (sym none))
each_beside p n at m true false is from none a low high = let far = ltb-false p (at + m) from in inr (omega (arith, far))
each_beside p n at m false c is from none a low high = let far = ltb-false at (p + n) is in inl (omega (arith, far))

-- WRITES BESIDE THE POINTER

-- writes that leave each byte of the pointer of an area
abbrev pub Leaves : Area → List Write → Type 0
Leaves area rest = (a below : ℕ) → area.at + RSEQ_CS ≤ a → a < area.at + RSEQ_CS + 8 → written rest a below ≡ below

pub none_leaves : (area : Area) → Leaves area []
none_leaves area a below low high = refl

pub words_leave : (made : Bool) (area : Area) (words : Words) → Leaves area (words_entered made area words)
words_leave true area words a below low high = words_apart area words a below low high
words_leave false area words a below low high = refl

pub frame_leaves : (area : Area) (s : ℕ) (action : Action) (fault : Option Fault) (saved : Saved) (mask : ℕ)
    → lies_on_words area action (stack_pointer saved) ≡ false
    → Leaves area (frame_writes s action fault saved mask)
frame_leaves area s action fault saved mask apart a below low high =
    let p = area.at + RSEQ_CS in
    let at = frame_at action (stack_pointer saved) in
    frame_beside s action fault saved mask a below
    (each_beside p 8 at (frame_size action) (ltb at (p + 8)) (ltb p (at + frame_size action)) refl refl apart a low high)

-- THE POINTER

-- bytes of memory after writes, where they can be read
abbrev pub readable_after : (ℕ → Bool) → List Write → (ℕ → ℕ) → ℕ → Option ℕ
readable_after can_read entered byte a = if can_read a then Some (written entered a (byte a)) else None

null_where : (b : Bool) (n : ℕ) → n ≡ 0 → IsNull (if b then Some n else None)
null_where true n is = is
null_where false n is = tt

-- a write changes nothing of what can be read
read_where : (b : Bool) (m n : ℕ) → is_some (if b then Some m else None) ≡ is_some (if b then Some n else None)
read_where true m n = refl
read_where false m n = refl

pub readable_stays : (can_read : ℕ → Bool) (entered : List Write) (byte : ℕ → ℕ) (at n : ℕ)
    → are_readable (readable_after can_read entered byte) at n ≡ are_readable (λ a. if can_read a then Some (byte a) else None) at n
unfolding are_readable
readable_stays can_read entered byte at n = each_byte-same _ _ (λ a. read_where (can_read a) (written entered a (byte a)) (byte a)) at n

-- writes that leave it come after it was cleared, or where it wasn't
module _ (can_read : ℕ → Bool) (byte : ℕ → ℕ) (area : Area) (rest : List Write) (leaves : Leaves area rest) where
  pub cleared_then : pointer_of (readable_after can_read (pointer_cleared (Some area) ++ rest) byte) area ≡ 0
  cleared_then =
      number_null _ (area.at + RSEQ_CS) 8
      (λ a low high. null_where (can_read a) _ (leaves a _ low high ∙ clear_byte area a (byte a) low high))

  pub stays_then : pointer_of (readable_after can_read rest byte) area ≡ pointer_of (λ a. if can_read a then Some (byte a) else None) area
  stays_then =
      number_agrees (λ a. if can_read a then Some (byte a) else None) _ (area.at + RSEQ_CS) 8
      (record { same = λ a low high. ap (λ n. if can_read a then Some n else None) (leaves a (byte a) low high) })

-- WHAT AN INTERRUPTION COMES TO

-- a thread that is inside goes on at its abort handler, or the process is killed since its pointer can't be cleared
pub record InsideOf (byte : ℕ → Option ℕ) (can_write : ℕ → Bool) (o : Option Area) (pc : ℕ) : Type 0 where
  pub area : Area
  pub sequence : Seq
  pub registered : o ≡ Some area
  pub good : named byte area pc ≡ names.Good sequence
  pub inside : is_inside sequence pc ≡ true
  pub outcome : (interruption byte can_write o pc ≡ comes_to.Aborted sequence.abort) ⊎ (interruption byte can_write o pc ≡ comes_to.Killed bad.AreaBytes)

module _ (can_write : ℕ → Bool) (area : Area) (pc : ℕ) (sequence : Seq) (inside : is_inside sequence pc ≡ true) where
  good_outcome : (b : Bool) → is_clearable can_write area ≡ b
      → (outcome_of can_write area pc (names.Good sequence) ≡ comes_to.Aborted sequence.abort)
      ⊎ (outcome_of can_write area pc (names.Good sequence) ≡ comes_to.Killed bad.AreaBytes)
  good_outcome true clear =
      inl (ap (λ b. cond (not b) (comes_to.Killed bad.AreaBytes) (cond (is_inside sequence pc) (comes_to.Aborted sequence.abort) comes_to.Cleared)) clear
      ∙ ap (λ b. cond b (comes_to.Aborted sequence.abort) comes_to.Cleared) inside)
  good_outcome false clear =
      inr (ap (λ b. cond (not b) (comes_to.Killed bad.AreaBytes) (cond (is_inside sequence pc) (comes_to.Aborted sequence.abort) comes_to.Cleared)) clear)

inside_area : (byte : ℕ → Option ℕ) (can_write : ℕ → Bool) (area : Area) (pc : ℕ) (n : Named) → named byte area pc ≡ n → is_inside_named n pc ≡ true
    → InsideOf byte can_write (Some area) pc
inside_area byte can_write area pc (names.Good sequence) is inside = record {
  area = area;
  sequence = sequence;
  registered = refl;
  good = is;
  inside = inside;
  outcome = subst (λ n. (outcome_of can_write area pc n ≡ comes_to.Aborted sequence.abort) ⊎ (outcome_of can_write area pc n ≡ comes_to.Killed bad.AreaBytes))
      (sym is) (good_outcome can_write area pc sequence inside (is_clearable can_write area) refl);
}
inside_area byte can_write area pc other is inside = absurd (false≢true inside)

pub inside_of : (byte : ℕ → Option ℕ) (can_write : ℕ → Bool) (o : Option Area) (pc : ℕ)
    → is_inside_named (option_map_or (λ area. named byte area pc) o names.Nothing) pc ≡ true → InsideOf byte can_write o pc
inside_of byte can_write None pc inside = absurd (false≢true inside)
inside_of byte can_write (Some area) pc inside = inside_area byte can_write area pc (named byte area pc) refl inside

-- where it does, the first write clears the pointer
pub first_cleared : (its : Option Area) (area : Area) (o : Outcome) (at : ℕ) (ws : List Write) → its ≡ Some area → o ≡ comes_to.Aborted at
    → Any (λ w. w ≡ Stored (record { at = area.at + RSEQ_CS; size = 8; value = 0 })) (writes_of its o ++ ws)
first_cleared its area o at ws has aborts = rw (has, aborts) (0, Stored (record { at = area.at + RSEQ_CS; size = 8; value = 0 }), omega arith, refl, refl)

-- an interruption that comes to nothing found a pointer of 0
good_some : (b c : Bool) (at : ℕ) → cond b (comes_to.Killed bad.AreaBytes) (cond c (comes_to.Aborted at) comes_to.Cleared) ≡ comes_to.Nothing → ⊥
good_some true c at is = cc
good_some false true at is = cc
good_some false false at is = cc

nothing_named : (can_write : ℕ → Bool) (area : Area) (pc : ℕ) (n : Named) → outcome_of can_write area pc n ≡ comes_to.Nothing → n ≡ names.Nothing
nothing_named can_write area pc names.Nothing is = refl
nothing_named can_write area pc (names.Bad why) is = absurd cc
nothing_named can_write area pc (names.Good sequence) is =
    absurd (good_some (not (is_clearable can_write area)) (is_inside sequence pc) sequence.abort is)

-- WHERE THE THREAD IS AFTERWARDS

-- memory after an event
abbrev pub memory_after : Here → Done → ℕ → Option ℕ
memory_after here d = memory_in d.kernel (λ a. written d.entered a (here.byte a))

abbrev pub may_read : Here → ℕ → Bool
may_read here a = can_read (permission_at here.kernel.pages a)

-- an interruption of a thread that has an area, which doesn't end the process, leaves the pointer of the area 0, where the writes that
-- come after it leave that: it cleared it; or it came to nothing, since the pointer was 0
module _ (here : Here) (t : ℕ) (area : Area) (has : area_here here t ≡ Some area) (rest : List Write) (leaves : Leaves area rest) where
  abbrev pc : ℕ
  pc = (here.file t).pc

  abbrev after_writes : List Write → ℕ → Option ℕ
  after_writes ws = readable_after (may_read here) ws here.byte

  null_after : (o : Outcome) → interruption (memory here) (is_writable here) (Some area) pc ≡ o → ((why : BadWhy) → o ≡ comes_to.Killed why → ⊥)
      → pointer_of (after_writes (writes_of (Some area) o ++ rest)) area ≡ 0
  null_after comes_to.Nothing is never =
      stays_then (may_read here) here.byte area rest leaves
      ∙ nothing_null (memory here) area pc (nothing_named (is_writable here) area pc (named (memory here) area pc) is)
  null_after (comes_to.Killed why) is never = absurd (never why refl)
  null_after outcome is never = cleared_then (may_read here) here.byte area rest leaves

  -- its bytes can be read, since the area names nothing bad
  word_is_null : (entered : List Write) → ((why : BadWhy) → interruption (memory here) (is_writable here) (Some area) pc ≡ comes_to.Killed why → ⊥)
      → pointer_of (after_writes entered) area ≡ 0 → word_at (after_writes entered) (area.at + RSEQ_CS) 8 ≡ Some 0
  word_is_null entered never null =
      let at = area.at + RSEQ_CS in
      let after = after_writes entered in
      let good : are_readable (memory here) at 8 ≡ true =
      read_unless_bad (memory here) area pc (λ why is. never why (ap (outcome_of (is_writable here) area pc) is)) in
      let read : are_readable after at 8 ≡ true = readable_stays (may_read here) entered here.byte at 8 ∙ good in
      word_at-read after at 8 ∙ ap (λ b. cond b (Some (number_at after at 8)) None) read ∙ ap Some null

  module _ (never : (why : BadWhy) → interruption_here here t ≡ comes_to.Killed why → ⊥) where
    abbrev its : Outcome
    its = interruption (memory here) (is_writable here) (Some area) pc

    same : interruption_here here t ≡ its
    same = ap (λ o. interruption (memory here) (is_writable here) o pc) has

    never_its : (why : BadWhy) → its ≡ comes_to.Killed why → ⊥
    never_its why is = never why (same ∙ is)

    entered_is : writes_of (area_here here t) (interruption_here here t) ++ rest ≡ writes_of (Some area) its ++ rest
    entered_is = ap (λ o. writes_of o (interruption_here here t) ++ rest) has ∙ ap (λ o. writes_of (Some area) o ++ rest) same

    pub pointer_is_null : pointer_of (after_writes (writes_of (area_here here t) (interruption_here here t) ++ rest)) area ≡ 0
    pointer_is_null = ap (λ ws. pointer_of (after_writes ws) area) entered_is ∙ null_after its refl never_its

    pub pointer_word : word_at (after_writes (writes_of (area_here here t) (interruption_here here t) ++ rest)) (area.at + RSEQ_CS) 8 ≡ Some 0
    pointer_word = word_is_null (writes_of (area_here here t) (interruption_here here t) ++ rest) never_its pointer_is_null

-- so the pointer is 0 where a waiting thread begins to run, once the words of its area are written
module _ (here : Here) (t : ℕ) (area : Area) (has : area_here here t ≡ Some area) (lives : lives_on here t (interruption_here here t) ≡ true) where
  abbrev words : Option Area → List Write
  words its = words_to here its (words_on here.hart (next_id here.kernel.ids))

  leave_it : Leaves area (words (area_here here t))
  leave_it =
      subst (λ its. Leaves area (words its)) (sym has)
      (words_leave (can_write_words here (Some area)) area (words_on here.hart (next_id here.kernel.ids)))

  never_dies : (why : BadWhy) → interruption_here here t ≡ comes_to.Killed why → ⊥
  never_dies why is = false≢true (sym (ap (lives_on here t) is) ∙ lives)

  pub running_is_null : pointer_of (memory_after here (done_running here t (interruption_here here t))) area ≡ 0
  running_is_null = pointer_is_null here t area has (words (area_here here t)) leave_it never_dies

  pub running_word : word_at (memory_after here (done_running here t (interruption_here here t))) (area.at + RSEQ_CS) 8 ≡ Some 0
  running_word = pointer_word here t area has (words (area_here here t)) leave_it never_dies
