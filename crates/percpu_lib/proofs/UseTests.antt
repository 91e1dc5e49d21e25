-- Tests of each event of a run on hart 0 that find from its history that a thread uses a block as it should: what
-- HoldsBlock asks of each event, by computation. They ask for more than it does.
use Rattle.std.proofs.Common.{◌≡◌, ◌≢◌, ℕ, zero, suc, ◌+◌, ◌-◌, ◌*◌, ◌/◌, ◌<◌, ◌≤◌, List, [], ◌∷◌, refl, sym, ap}
use Rattle.std.proofs.Common.{◌∙◌, arith, subst, Bool, true, false, not, ◌&&◌, ◌||◌, ◌⊎◌, inl, inr, ⊎_elim, cond}
use Rattle.std.proofs.Common.{eqb, leb, Option, Some, None}
use Rattle.std.specs.Option.{option_map_or}
use Rattle.std.proofs.lemmas.Bool.Decides.{nat_tests}
use Rattle.mach_types.proofs.Laws.{eqb_same, kind_is}
use Rattle.std.proofs.lemmas.Bool.{and_from, and_parts, cases_eq, eqb-true, false≢true, leb-true}
use Rattle.std.proofs.lemmas.Bool.{not-true}
use Rattle.mach_types.specs.Bytes.{byte_over, each_byte, overlay, written}
use Rattle.mach_types.specs.Events.{is_instruction, is_kind}
use Rattle.mach_types.specs.Kernel.Areas.{area_of, can_read_area, can_read_descriptor, descriptor_at}
use Rattle.mach_types.specs.Kernel.Areas.{has_flags, is_inside, is_signed, sequence_of}
use Rattle.mach_types.specs.Kernel.Pages.{can_read, can_write, permission_at, permission_of}
use Rattle.mach_types.specs.Kernel.Threads.{is_live, is_ready}
use Rattle.mach_types.specs.Registers.{register}
use Rattle.mach_types.specs.declared.events.Kind.TheVariants as kind
use Rattle.mach_types.specs.declared.sequences.Area.{Area}
use Rattle.mach_types.specs.declared.sequences.Seq.{Seq}
use Rattle.mach_types.specs.declared.user_memory.Store.{Store}
use Rattle.mach_types.specs.declared.threads.Saved.{Saved}
use Rattle.mach_types.specs.declared.user_memory.Write.{Write}
use Rattle.mach_types.specs.declared.user_memory.Write.TheVariants as write
use Rattle.block_model.specs.Acts.{Sequence, sequence_on}
use Rattle.block_model.specs.Events.Signal.{file_interrupted}
use Rattle.block_model.specs.Here.{memory, view}
use Rattle.block_model.specs.History.{Event, History, file, here_in_history, kernel, running}
use Rattle.block_model.specs.Run.{IsRunHistory}
use Rattle.block_model.specs.Sequences.{interruption_here}
use Rattle.block_model.specs.Setting.{Setting}
use Rattle.block_model.proofs.Laws.{IsStep, not_ready, one_hart, step_of}
use Rattle.alone_laws.specs.Areas.{LeavesProcessor, ProcessorKept}
use Rattle.alone_laws.specs.Blocks.{IsFair, among}
use Rattle.alone_laws.specs.Spans.{Leaves}
use Rattle.alone_laws.specs.Uses.{AreUsed, Arrives, CanAlwaysBegin, CanBegin, HasLeft, IsDescribed, IsTakenOut, IsUsed}
use Rattle.alone_laws.specs.Uses.{came_back, in_block}
use Rattle.alone_laws.specs.Uses.{is_before}
use Rattle.alone_laws.specs.Uses.{DeliversNone, at_first, executed, interrupted, stayed}
use Rattle.alone_laws.proofs.OpenSequences.{still_open}
use Rattle.alone_laws.proofs.Sequences.{exec_kind}
use Rattle.alone_laws.proofs.StoredWords.{among_low}
use Rattle.percpu_lib.specs.Forms.{AreBlockUsed, Form, IsAtStart, IsBlockUsed, block_of, placed_of, range_of}
use Rattle.percpu_lib.specs.declared.slots.Slots.{Slots}
use Rattle.percpu_lib.proofs.RetryTests.{registers_are, same_registers}

-- BOOLS

abbrev pub implies : Bool → Bool → Bool
implies a b = cond a b true

pub follows : (a b : Bool) → implies a b ≡ true → a ≡ true → b ≡ true
follows true b is holds = is
follows false b is holds = absurd (false≢true holds)

pub either : (a b : Bool) → a || b ≡ true → (a ≡ true) ⊎ (b ≡ true)
either true b is = inl refl
either false b is = inr is

abbrev pub is_just : Option ℕ → ℕ → Bool
is_just o n = option_map_or (λ m. eqb m n) o false

pub just_is : (o : Option ℕ) (n : ℕ) → is_just o n ≡ true → o ≡ Some n
just_is None n is = absurd (false≢true is)
just_is (Some m) n is = ap Some (eqb-true m n is)

abbrev pub is_empty : List Write → Bool
is_empty [] = true
is_empty (w ∷ ws) = false

pub leaves_all : (words : ℕ → Bool) (ws : List Write) → is_empty ws ≡ true → Leaves words ws
leaves_all words [] is a b has = refl
leaves_all words (w ∷ ws) is a b has = absurd (false≢true is)

-- BYTES

each_holds : (test : ℕ → Bool) (at n a : ℕ) → each_byte test at n ≡ true → at ≤ a → a < at + n → test a ≡ true
each_holds test at zero a all low high = absurd (omega arith)
each_holds test at (suc n) a all low high =
    let parts = and_parts (test at) (each_byte test (at + 1) n) all in
    by_place (λ past. each_holds test (at + 1) n a parts.1 past (omega arith)) (cases_eq at a)
  where
    by_place : (at + 1 ≤ a → test a ≡ true) → (at ≡ a) ⊎ (at ≢ a) → test a ≡ true
    by_place later (inl here) =
        subst (λ k. test k ≡ true) here (and_parts (test at) (each_byte test (at + 1) n) all).0
    by_place later (inr past) = later (omega arith)

in_either : (goal x y : Bool) → x || y ≡ true → (x ≡ true → goal ≡ true) → (y ≡ true → goal ≡ true)
    → goal ≡ true
in_either goal x y has first second = ⊎_elim first second (either x y has)

-- a store beside some bytes, and stores beside them
abbrev pub is_beside : ℕ → ℕ → Store → Bool
is_beside at n w = leb (w.at + w.size) at || leb (at + n) w.at

abbrev pub are_beside : ℕ → ℕ → List Store → Bool
are_beside at n [] = true
are_beside at n (w ∷ ws) = is_beside at n w && are_beside at n ws

-- a byte beside a store is what it was
beside_byte : (w : Store) (a c : ℕ) → (w.at + w.size ≤ a) ⊎ (a < w.at) → byte_over w a c ≡ c
beside_byte w a c (inl behind) = grind (arith, nat_tests)
beside_byte w a c (inr before) = grind (arith, nat_tests)

beside_one : (at n : ℕ) (w : Store) → is_beside at n w ≡ true → (a c : ℕ) → among at n a ≡ true
    → byte_over w a c ≡ c
beside_one at n w is a c has = by_side (either (leb (w.at + w.size) at) (leb (at + n) w.at) is)
  where
    by_side : (leb (w.at + w.size) at ≡ true) ⊎ (leb (at + n) w.at ≡ true) → byte_over w a c ≡ c
    by_side (inl low) =
        let place = among_low at n a has in
        let under = leb-true (w.at + w.size) at low in
        beside_byte w a c (inl (omega arith))
    by_side (inr high) =
        let place = among_low at n a has in
        let over = leb-true (at + n) w.at high in
        beside_byte w a c (inr (omega arith))

pub overlay_beside : (at n : ℕ) (ws : List Store) → are_beside at n ws ≡ true → (a c : ℕ) → among at n a ≡ true
    → overlay ws a c ≡ c
overlay_beside at n [] is a c has = refl
overlay_beside at n (w ∷ ws) is a c has =
    let parts = and_parts (is_beside at n w) (are_beside at n ws) is in
    ap (overlay ws a) (beside_one at n w parts.0 a c has) ∙ overlay_beside at n ws parts.1 a c has

-- writes beside some bytes leave them as they are
abbrev pub writes_beside : ℕ → ℕ → List Write → Bool
writes_beside at n [] = true
writes_beside at n (write.Stored w ∷ ws) = is_beside at n w && writes_beside at n ws
writes_beside at n (write.Zeroed from k ∷ ws) = false

pub writes_leave : (at n : ℕ) (ws : List Write) → writes_beside at n ws ≡ true → Leaves (among at n) ws
writes_leave at n [] is a c has = refl
writes_leave at n (write.Stored w ∷ ws) is a c has =
    let parts = and_parts (is_beside at n w) (writes_beside at n ws) is in
    ap (written ws a) (beside_one at n w parts.0 a c has) ∙ writes_leave at n ws parts.1 a c has
writes_leave at n (write.Zeroed from k ∷ ws) is a c has = absurd (false≢true is)

-- registers and a pc that are the same
abbrev is_file : Saved → Saved → Bool
is_file f g = eqb f.pc g.pc && same_registers f.file g.file

file_is : (f g : Saved) → is_file f g ≡ true → f ≡ g
file_is f g is =
    let parts = and_parts (eqb f.pc g.pc) (same_registers f.file g.file) is in
    let pc = eqb-true f.pc g.pc parts.0 in
    let registers = registers_are f.file g.file parts.1 in
    λ i. record { file = registers i; pc = pc i }

-- an address in one of some spans
abbrev pub is_among : List (ℕ × ℕ) → ℕ → Bool
is_among [] a = false
is_among (x ∷ xs) a = among x.0 x.1 a || is_among xs a

-- THE TESTS

-- what is tested of a block of a form on hart 0: spans of bytes, which are those that its sequence uses beside the area's;
-- and a test of what is asked of its data
pub record IsTested (form : Form) : Type 0 where
  pub spans : Setting → ℕ → History → List (ℕ × ℕ)
  pub covers : (s : Setting) (area : Area) (t : ℕ) (begun : History) (a : ℕ) → form.bytes s area 0 t begun a ≡ true
      → among area.at 32 a || is_among (spans s t begun) a ≡ true
  pub is_apart : Setting → Area → ℕ → History → Bool
  pub apart : (s : Setting) (area : Area) (t : ℕ) (begun : History) → is_apart s area t begun ≡ true
      → form.Apart s area 0 t begun

module _ (s : Setting) (form : Form) (tested : IsTested form) (at : ℕ) (area : Area) (t : ℕ) where
  abbrev p : Slots
  p = form.slots

  abbrev in_words : ℕ → Bool
  in_words pc = in_block (placed_of form at area) pc

  abbrev in_sequence : ℕ → Bool
  in_sequence pc = is_inside (range_of form at) pc

  -- the thread runs on hart 0, and has the area
  abbrev pub runs_there : History → Bool
  runs_there before = is_just (running s 0 before) t

  abbrev is_area : Area → Bool
  is_area a = eqb a.at area.at && eqb a.sig area.sig

  abbrev has_area : History → Bool
  has_area before = option_map_or is_area (area_of t (kernel s before).areas) false

  abbrev pub is_range : Seq → Bool
  is_range g = eqb g.start (range_of form at).start && (eqb g.length (4 * form.inside) && eqb g.abort (range_of form at).abort)

  -- bytes can be read and written
  abbrev reads : History → ℕ → Bool
  reads before a = can_read (permission_at (kernel s before).pages a)

  abbrev writes : History → ℕ → Bool
  writes before a = can_write (permission_at (kernel s before).pages a)

  -- which a test of each of their pages tells
  abbrev page_reads : History → ℕ → Bool
  page_reads before page = can_read (permission_of (kernel s before).pages.runs page)

  abbrev page_writes : History → ℕ → Bool
  page_writes before page = can_write (permission_of (kernel s before).pages.runs page)

  abbrev pages_of : ℕ → ℕ → ℕ
  pages_of from n = (from + n - 1) / 4096 + 1 - from / 4096

  abbrev are_usable : History → ℕ → ℕ → Bool
  are_usable before from n =
      each_byte (page_reads before) (from / 4096) (pages_of from n)
      && each_byte (page_writes before) (from / 4096) (pages_of from n)

  -- the descriptor stands where these bytes are read
  abbrev is_described : (ℕ → Option ℕ) → Bool
  is_described byte =
      let d = descriptor_at byte p.table in
      can_read_area byte area
      && (can_read_descriptor byte p.table
      && (eqb d.version 0
      && (is_range (sequence_of d)
      && (is_signed byte area (range_of form at)
      && not (has_flags byte area d)))))

  -- bytes of spans can be used
  abbrev all_usable : History → List (ℕ × ℕ) → Bool
  all_usable before [] = true
  all_usable before (x ∷ xs) = are_usable before x.0 x.1 && all_usable before xs

  -- the area and the data of processor 0 can be used, and the descriptor stands
  abbrev is_fair : List (ℕ × ℕ) → History → Bool
  is_fair ranges before =
      runs_there before
      && (has_area before
      && (are_usable before area.at 32
      && (all_usable before ranges
      && is_range (sequence_of (descriptor_at (view (here_in_history s before 0)) p.table)))))

  -- a signal took the thread out of the block with this file
  abbrev is_taken : Saved → Event → History → Bool
  is_taken f e before =
      is_kind e.entry.kind kind.Signal
      && (is_just (running s e.entry.hart.0 before) t
      && (in_words (file s t before).pc
      && (is_file f (file_interrupted (here_in_history s before e.entry.hart.0) t
      (interruption_here (here_in_history s before e.entry.hart.0) t))
      && (eqb f.pc (file s t before).pc || eqb f.pc (range_of form at).abort))))

  abbrev pub has_left : Saved → History → Bool
  has_left f [] = false
  has_left f (e ∷ before) = is_taken f e before || has_left f before

  -- the thread comes to a word of the block at its first, by another word that it executes, or, where no signal is
  -- delivered, by staying or by an interruption inside; or a handler returned
  abbrev by_word : Event → History → Bool
  by_word e before = runs_there before && (is_instruction e.entry.kind && in_words (file s t before).pc)

  abbrev by_staying : Event → History → Bool
  by_staying e before =
      not (is_kind e.entry.kind kind.Signal)
      && (is_live t (kernel s before).threads && (eqb (file s t (e ∷ before)).pc (file s t before).pc
      || in_sequence (file s t before).pc))

  abbrev by_rest : Event → History → Bool
  by_rest e before = by_staying e before || has_left (file s t (e ∷ before)) before

  abbrev comes : Event → History → Bool
  comes e before =
      eqb (file s t (e ∷ before)).pc at
      || (by_word e before || by_rest e before)

  abbrev is_entered : Event → History → Bool
  is_entered e before = implies (in_words (file s t (e ∷ before)).pc) (comes e before)

  -- where it is at one its register holds the area; and inside the area is its own, its descriptor stands, and
  -- nothing stores to its pointer. It runs there, or is ready and begins to run
  abbrev is_held : History → Bool
  is_held before =
      implies (in_words (file s t before).pc) (eqb (register (file s t before).file p.area) area.at)

  abbrev pub begins_to_run : Event → History → Bool
  begins_to_run e before =
      is_ready t (kernel s before).threads && (is_kind e.entry.kind kind.Run && eqb e.entry.tid.0 t)

  abbrev on_hart_0 : History → Bool
  on_hart_0 before = runs_there before && is_described (view (here_in_history s before 0))

  abbrev off_harts : Event → History → Bool
  off_harts e before = begins_to_run e before && is_described (memory (here_in_history s before 0))

  abbrev goes_on : Event → History → Bool
  goes_on e before =
      (on_hart_0 before || off_harts e before)
      && (has_area before
      && (are_usable before (area.at + 8) 8
      && (are_beside (area.at + 8) 8 e.done.executed
      && implies (is_instruction e.entry.kind) (is_empty e.done.entered))))

  abbrev is_kept : Event → History → Bool
  is_kept e before = implies (in_sequence (file s t before).pc) (goes_on e before)

  -- an event of another thread, which writes beside some bytes
  abbrev is_stranger : Event → History → Bool
  is_stranger e before =
      not (is_just (running s e.entry.hart.0 before) t)
      && not (is_kind e.entry.kind kind.Run && eqb e.entry.tid.0 t)

  abbrev pub strange_beside : ℕ → ℕ → Event → History → Bool
  strange_beside from n e before = is_stranger e before && writes_beside from n e.done.entered

  -- from the registration on nothing stores to the processor's words, and nothing but a store that enters memory
  -- or the thread's beginning to run writes them
  abbrev own_leaves : Event → History → Bool
  own_leaves e before =
      are_beside area.at 8 e.done.executed
      && ((runs_there before && (is_kind e.entry.kind kind.Drain || writes_beside area.at 8 e.done.entered)) || begins_to_run e before)

  abbrev leaves_words : Event → History → Bool
  leaves_words e before = own_leaves e before || strange_beside area.at 8 e before

  abbrev is_told : Event → History → Bool
  is_told e before = implies (has_area before) (leaves_words e before)

  -- where a sequence begins, and as long as it is open
  abbrev starts : History → Bool
  starts before =
      is_fair (tested.spans s t before) before && tested.is_apart s area t before

  abbrev is_begun : History → Bool
  is_begun before = implies (eqb (file s t before).pc (at + 4 * form.first)) (starts before)

  -- a sequence of the thread that began at the start
  abbrev is_own : Sequence → Bool
  is_own q = runs_there q.begun && eqb (file s t q.begun).pc (at + 4 * form.first)

  abbrev is_fair_since : Sequence → History → Bool
  is_fair_since q before = implies (is_own q) (is_fair (tested.spans s t q.begun) before)

  abbrev is_open : History → Bool
  is_open before = option_map_or (λ q. is_fair_since q before) (sequence_on s 0 before) true

  abbrev pub is_fine : Event → History → Bool
  is_fine e before =
      eqb e.entry.hart.0 0
      && (is_entered e before
      && (is_held before && (is_kept e before && (is_told e before && (is_begun before && is_open before)))))

  abbrev pub are_fine : History → Bool
  are_fine [] = implies (in_words s.program.entry) (eqb s.program.entry at)
  are_fine (e ∷ before) = are_fine before && is_fine e before

  -- before the sequence the thread runs on hart 0, and the area is its own and can be used
  abbrev begins_freely : History → Bool
  begins_freely before =
      implies (is_before (placed_of form at area) (file s t before).pc)
      (runs_there before && (has_area before && are_usable before area.at 32))

  abbrev pub always_begins_freely : History → Bool
  always_begins_freely [] = true
  always_begins_freely (e ∷ before) = always_begins_freely before && begins_freely before

  -- WHAT THEY FIND

  area_is : (o : Option Area) → option_map_or is_area o false ≡ true → o ≡ Some area
  area_is None is = absurd (false≢true is)
  area_is (Some a) is =
      let parts = and_parts (eqb a.at area.at) (eqb a.sig area.sig) is in
      let place : a.at ≡ area.at = eqb-true a.at area.at parts.0 in
      let signature : a.sig ≡ area.sig = eqb-true a.sig area.sig parts.1 in
      λ i. Some (record { at = place i; sig = signature i })

  taken_so : (f : Saved) (e : Event) (before : History) → is_taken f e before ≡ true
      → IsTakenOut s (placed_of form at area) t f e before
  taken_so f e before is =
      let now : Saved = file_interrupted (here_in_history s before e.entry.hart.0) t
      (interruption_here (here_in_history s before e.entry.hart.0) t) in
      let one = and_parts (is_kind e.entry.kind kind.Signal) _ is in
      let two = and_parts (is_just (running s e.entry.hart.0 before) t) _ one.1 in
      let three = and_parts (in_words (file s t before).pc) _ two.1 in
      let four = and_parts (is_file f now) (eqb f.pc (file s t before).pc || eqb f.pc (range_of form at).abort) three.1 in
      record {
        signal = kind_is e.entry.kind kind.Signal one.0;
        runs = just_is (running s e.entry.hart.0 before) t two.0;
        inside = three.0;
        saved = file_is f now four.0;
        word = by_word_of (either (eqb f.pc (file s t before).pc) (eqb f.pc (range_of form at).abort) four.1);
      }
    where
      by_word_of : (eqb f.pc (file s t before).pc ≡ true) ⊎ (eqb f.pc (range_of form at).abort ≡ true)
          → (f.pc ≡ (file s t before).pc) ⊎ (f.pc ≡ (range_of form at).abort)
      by_word_of (inl same) = inl (eqb-true f.pc (file s t before).pc same)
      by_word_of (inr abort) = inr (eqb-true f.pc (range_of form at).abort abort)

  pub left_so : (f : Saved) (before : History) → has_left f before ≡ true → HasLeft s (placed_of form at area) t f before
  left_so f [] is = absurd (false≢true is)
  left_so f (e ∷ before) is = by_one (either (is_taken f e before) (has_left f before) is) (left_so f before)
    where
      by_one : (is_taken f e before ≡ true) ⊎ (has_left f before ≡ true)
          → (has_left f before ≡ true → HasLeft s (placed_of form at area) t f before)
          → HasLeft s (placed_of form at area) t f (e ∷ before)
      by_one (inl now) earlier = inl (taken_so f e before now)
      by_one (inr left) earlier = inr (earlier left)

  pub range_is : (g : Seq) → is_range g ≡ true → g ≡ range_of form at
  range_is g is =
      let parts = and_parts (eqb g.start (range_of form at).start)
      (eqb g.length (4 * form.inside) && eqb g.abort (range_of form at).abort) is in
      let more = and_parts (eqb g.length (4 * form.inside)) (eqb g.abort (range_of form at).abort) parts.1 in
      let start : g.start ≡ (range_of form at).start = eqb-true g.start (range_of form at).start parts.0 in
      let long : g.length ≡ 4 * form.inside = eqb-true g.length (4 * form.inside) more.0 in
      let handler : g.abort ≡ (range_of form at).abort = eqb-true g.abort (range_of form at).abort more.1 in
      λ i. record { start = start i; length = long i; abort = handler i }

  -- where each page of some bytes passes a test, so does that of one of them
  of_pages : (page : ℕ → Bool) (from n : ℕ) → each_byte page (from / 4096) (pages_of from n) ≡ true → (a : ℕ)
      → among from n a ≡ true → page (a / 4096) ≡ true
  of_pages page from n is a has =
      let place = among_low from n a has in
      let low = place.0 in
      let high = place.1 in
      each_holds page (from / 4096) (pages_of from n) (a / 4096) is (omega arith) (omega arith)

  reads_are : (before : History) (from n : ℕ) → are_usable before from n ≡ true → (a : ℕ)
      → among from n a ≡ true → reads before a ≡ true
  reads_are before from n is =
      of_pages (page_reads before) from n
      (and_parts (each_byte (page_reads before) (from / 4096) (pages_of from n)) _ is).0

  writes_are : (before : History) (from n : ℕ) → are_usable before from n ≡ true → (a : ℕ)
      → among from n a ≡ true → writes before a ≡ true
  writes_are before from n is =
      of_pages (page_writes before) from n
      (and_parts (each_byte (page_reads before) (from / 4096) (pages_of from n)) _ is).1

  all_are : (before : History) (ranges : List (ℕ × ℕ)) → all_usable before ranges ≡ true → (a : ℕ)
      → is_among ranges a ≡ true → (reads before a ≡ true) × (writes before a ≡ true)
  all_are before [] is a has = absurd (false≢true has)
  all_are before (x ∷ xs) is a has =
      let parts = and_parts (are_usable before x.0 x.1) (all_usable before xs) is in
      ⊎_elim (λ (here : among x.0 x.1 a ≡ true). (reads_are before x.0 x.1 parts.0 a here, writes_are before x.0 x.1 parts.0 a here))
      (λ (later : is_among xs a ≡ true). all_are before xs parts.1 a later)
      (either (among x.0 x.1 a) (is_among xs a) has)

  described : (byte : ℕ → Option ℕ) → is_described byte ≡ true → IsDescribed byte (placed_of form at area)
  described byte is =
      let d = descriptor_at byte p.table in
      let one = and_parts (can_read_area byte area) _ is in
      let two = and_parts (can_read_descriptor byte p.table) _ one.1 in
      let three = and_parts (eqb d.version 0) _ two.1 in
      let four = and_parts (is_range (sequence_of d)) _ three.1 in
      let five = and_parts (is_signed byte area (range_of form at)) (not (has_flags byte area d)) four.1 in
      record {
        area_read = one.0;
        descriptor_read = two.0;
        version = eqb-true d.version 0 three.0;
        sequence = range_is (sequence_of d) four.0;
        signed = five.0;
        no_flags = not-true (has_flags byte area d) five.1;
      }

  module _ (e : Event) (before : History) (step : IsStep s e before) (fine : is_fine e before ≡ true) where
    pub own_hart : e.entry.hart.0 ≡ 0
    own_hart = eqb-true e.entry.hart.0 0 (and_parts (eqb e.entry.hart.0 0) _ fine).0

    rest : is_entered e before && (is_held before && (is_kept e before && (is_told e before
        && (is_begun before && is_open before)))) ≡ true
    rest = (and_parts (eqb e.entry.hart.0 0) _ fine).1

    entered_is : is_entered e before ≡ true
    entered_is = (and_parts (is_entered e before) _ rest).0

    held_is : is_held before ≡ true
    held_is = (and_parts (is_held before) _ (and_parts (is_entered e before) _ rest).1).0

    more : is_kept e before && (is_told e before && (is_begun before && is_open before)) ≡ true
    more = (and_parts (is_held before) _ (and_parts (is_entered e before) _ rest).1).1

    kept_is : is_kept e before ≡ true
    kept_is = (and_parts (is_kept e before) _ more).0

    told_is : is_told e before ≡ true
    told_is = (and_parts (is_told e before) _ (and_parts (is_kept e before) _ more).1).0

    last : is_begun before && is_open before ≡ true
    last = (and_parts (is_told e before) _ (and_parts (is_kept e before) _ more).1).1

    -- where the thread runs on hart 0 it does on the event's, and on no other
    pub there : runs_there before ≡ true → running s 0 before ≡ Some t
    there runs = just_is (running s 0 before) t runs

    pub on_own : runs_there before ≡ true → running s e.entry.hart.0 before ≡ Some t
    on_own runs = ap (λ h. running s h before) own_hart ∙ there runs

    pub only_hart : runs_there before ≡ true → (h : ℕ) → running s h before ≡ Some t → 0 ≡ h
    only_hart runs h at_h = one_hart s e before step 0 t (there runs) h at_h

    -- HOW THE BLOCK IS USED

    arrives : in_words (file s t (e ∷ before)).pc ≡ true → Arrives s (placed_of form at area) t e before
    arrives here =
        by_way (either (eqb (file s t (e ∷ before)).pc at) (by_word e before || by_rest e before)
        (follows (in_words (file s t (e ∷ before)).pc) (comes e before) entered_is here))
      where
        no_signal : not (is_kind e.entry.kind kind.Signal) ≡ true → DeliversNone s t e before
        no_signal other signal = absurd (false≢true (sym (ap (λ k. not (is_kind k kind.Signal)) signal) ∙ other))

        by_place : is_live t (kernel s before).threads ≡ true → DeliversNone s t e before
            → (eqb (file s t (e ∷ before)).pc (file s t before).pc ≡ true)
            ⊎ (in_sequence (file s t before).pc ≡ true) → Arrives s (placed_of form at area) t e before
        by_place live none (inl same) =
            stayed live none (eqb-true (file s t (e ∷ before)).pc (file s t before).pc same)
        by_place live none (inr inside) = interrupted live none inside

        by_event : (by_word e before ≡ true) ⊎ (by_staying e before ≡ true)
            → Arrives s (placed_of form at area) t e before
        by_event (inl word) =
            let one = and_parts (runs_there before) _ word in
            let two = and_parts (is_instruction e.entry.kind) (in_words (file s t before).pc) one.1 in
            executed (on_own one.0) (exec_kind e.entry.kind two.0) two.1
        by_event (inr stays) =
            let one = and_parts (not (is_kind e.entry.kind kind.Signal)) _ stays in
            let two = and_parts (is_live t (kernel s before).threads)
            (eqb (file s t (e ∷ before)).pc (file s t before).pc || in_sequence (file s t before).pc) one.1 in
            by_place two.0 (no_signal one.0)
            (either (eqb (file s t (e ∷ before)).pc (file s t before).pc) (in_sequence (file s t before).pc)
            two.1)

        by_return : (by_staying e before ≡ true) ⊎ (has_left (file s t (e ∷ before)) before ≡ true)
            → Arrives s (placed_of form at area) t e before
        by_return (inl stays) = by_event (inr stays)
        by_return (inr left) = came_back (left_so (file s t (e ∷ before)) before left)

        by_way : (eqb (file s t (e ∷ before)).pc at ≡ true) ⊎ (by_word e before || by_rest e before ≡ true)
            → Arrives s (placed_of form at area) t e before
        by_way (inl first) = at_first (eqb-true (file s t (e ∷ before)).pc at first)
        by_way (inr moved) =
            by_place_or (either (by_word e before) (by_rest e before) moved)
          where
            by_place_or : (by_word e before ≡ true) ⊎ (by_rest e before ≡ true) → Arrives s (placed_of form at area) t e before
            by_place_or (inl word) = by_event (inl word)
            by_place_or (inr rest) =
                by_return (either (by_staying e before) (has_left (file s t (e ∷ before)) before) rest)

    -- a thread that begins to run runs nowhere before
    pub not_both : begins_to_run e before ≡ true → (h : ℕ) → running s h before ≡ Some t → ⊥
    not_both begins h runs =
        false≢true (sym (not_ready s e before step h t runs)
        ∙ (and_parts (is_ready t (kernel s before).threads) _ begins).0)

    pub not_named : begins_to_run e before ≡ true → (e.entry.kind ≡ kind.Run → e.entry.tid.0 ≢ t) → ⊥
    not_named begins other =
        let parts = and_parts (is_kind e.entry.kind kind.Run) (eqb e.entry.tid.0 t)
        (and_parts (is_ready t (kernel s before).threads) _ begins).1 in
        other (kind_is e.entry.kind kind.Run parts.0) (eqb-true e.entry.tid.0 t parts.1)

    abbrev Stands : Type 0
    Stands = (on_hart_0 before ≡ true) ⊎ (off_harts e before ≡ true)

    keeps : in_sequence (file s t before).pc ≡ true → Stands × (has_area before ≡ true)
        × (are_usable before (area.at + 8) 8 ≡ true)
        × (are_beside (area.at + 8) 8 e.done.executed ≡ true)
        × (implies (is_instruction e.entry.kind) (is_empty e.done.entered) ≡ true)
    keeps inside =
        let one = and_parts (on_hart_0 before || off_harts e before) _
        (follows (in_sequence (file s t before).pc) (goes_on e before) kept_is inside) in
        let two = and_parts (has_area before) _ one.1 in
        let three = and_parts (are_usable before (area.at + 8) 8) _ two.1 in
        let four = and_parts (are_beside (area.at + 8) 8 e.done.executed) _ three.1 in
        (either (on_hart_0 before) (off_harts e before) one.0, two.0, three.0, four.0, four.1)

    described_on : Stands → (h : ℕ) → running s h before ≡ Some t
        → IsDescribed (view (here_in_history s before h)) (placed_of form at area)
    described_on (inl on) h runs =
        let parts = and_parts (runs_there before) _ on in
        subst (λ n. IsDescribed (view (here_in_history s before n)) (placed_of form at area))
        (only_hart parts.0 h runs) (described (view (here_in_history s before 0)) parts.1)
    described_on (inr off) h runs = absurd (not_both (and_parts (begins_to_run e before) _ off).0 h runs)

    described_off : Stands → ((h : ℕ) → running s h before ≢ Some t) → (h : ℕ)
        → IsDescribed (memory (here_in_history s before h)) (placed_of form at area)
    described_off (inl on) never h = absurd (never 0 (there (and_parts (runs_there before) _ on).0))
    described_off (inr off) never h =
        described (memory (here_in_history s before 0)) (and_parts (begins_to_run e before) _ off).1

    no_other : Stands → running s e.entry.hart.0 before ≢ Some t → (e.entry.kind ≡ kind.Run → e.entry.tid.0 ≢ t)
        → ⊥
    no_other (inl on) elsewhere begins = elsewhere (on_own (and_parts (runs_there before) _ on).0)
    no_other (inr off) elsewhere begins = not_named (and_parts (begins_to_run e before) _ off).0 begins

    used : IsUsed s (placed_of form at area) t e before
    used = record {
      enters = arrives;
      registers = λ h runs inside.
          eqb-true (register (file s t before).file p.area) area.at
          (follows (in_words (file s t before).pc)
          (eqb (register (file s t before).file p.area) area.at) held_is inside);
      area = λ inside.
          let k = keeps inside in
          record {
            registered = area_is (area_of t (kernel s before).areas) k.1;
            usable = record {
              read = reads_are before (area.at + 8) 8 k.2;
              write = writes_are before (area.at + 8) 8 k.2;
            };
            on_hart = described_on k.0;
            off_hart = described_off k.0;
          };
      pointer = λ inside.
          let k = keeps inside in
          record {
            others = λ elsewhere begins. absurd (no_other k.0 elsewhere begins);
            own = λ runs is.
                leaves_all (among (area.at + 8) 8) e.done.entered
                (follows (is_instruction e.entry.kind) (is_empty e.done.entered) k.4 (ap is_instruction is));
            stores = λ runs a c has. overlay_beside (area.at + 8) 8 e.done.executed k.3 a c has;
          };
    }

    -- THE PROCESSOR'S WORDS

    registered_is : area_of t (kernel s before).areas ≡ Some area → has_area before ≡ true
    registered_is is =
        ap (λ (o : Option Area). option_map_or is_area o false) is
        ∙ and_from (eqb area.at area.at) (eqb area.sig area.sig) (eqb_same area.at) (eqb_same area.sig)

    -- a stranger's event isn't one of the thread
    pub not_own : (from n : ℕ) → strange_beside from n e before ≡ true → running s e.entry.hart.0 before ≡ Some t → ⊥
    not_own from n strange runs =
        let one = and_parts (is_stranger e before) (writes_beside from n e.done.entered) strange in
        let two = and_parts (not (is_just (running s e.entry.hart.0 before) t)) _ one.0 in
        false≢true (sym (ap (λ (o : Option ℕ). not (is_just o t)) runs ∙ ap not (eqb_same t)) ∙ two.0)

    pub strange_leaves : (from n : ℕ) → strange_beside from n e before ≡ true → Leaves (among from n) e.done.entered
    strange_leaves from n strange =
        writes_leave from n e.done.entered (and_parts (is_stranger e before) (writes_beside from n e.done.entered) strange).1

    abbrev Tells : Type 0
    Tells = (runs_there before && (is_kind e.entry.kind kind.Drain || writes_beside area.at 8 e.done.entered) ≡ true)
        ⊎ (begins_to_run e before ≡ true)

    abbrev Told : Type 0
    Told = (own_leaves e before ≡ true) ⊎ (strange_beside area.at 8 e before ≡ true)

    told : has_area before ≡ true → Told
    told had =
        either (own_leaves e before) (strange_beside area.at 8 e before)
        (follows (has_area before) (leaves_words e before) told_is had)

    tells : own_leaves e before ≡ true → (are_beside area.at 8 e.done.executed ≡ true) × Tells
    tells own =
        let one = and_parts (are_beside area.at 8 e.done.executed) _ own in (
          one.0,
          either (runs_there before && (is_kind e.entry.kind kind.Drain || writes_beside area.at 8 e.done.entered))
              (begins_to_run e before) one.1,
        )

    no_stranger : Tells → running s e.entry.hart.0 before ≢ Some t
        → (e.entry.kind ≡ kind.Run → e.entry.tid.0 ≢ t) → ⊥
    no_stranger (inl on) elsewhere begins = elsewhere (on_own (and_parts (runs_there before) _ on).0)
    no_stranger (inr off) elsewhere begins = not_named off begins

    enters_none : e.entry.kind ≢ kind.Drain → is_kind e.entry.kind kind.Drain || writes_beside area.at 8 e.done.entered ≡ true
        → Leaves (among area.at 8) e.done.entered
    enters_none other is =
        by_kind (either (is_kind e.entry.kind kind.Drain) (writes_beside area.at 8 e.done.entered) is)
      where
        by_kind : (is_kind e.entry.kind kind.Drain ≡ true) ⊎ (writes_beside area.at 8 e.done.entered ≡ true)
            → Leaves (among area.at 8) e.done.entered
        by_kind (inl drains) = absurd (other (kind_is e.entry.kind kind.Drain drains))
        by_kind (inr beside) = writes_leave area.at 8 e.done.entered beside

    words_left : Tells → running s e.entry.hart.0 before ≡ Some t → e.entry.kind ≢ kind.Drain
        → Leaves (among area.at 8) e.done.entered
    words_left (inl on) runs other = enters_none other (and_parts (runs_there before) _ on).1
    words_left (inr off) runs other = absurd (not_both off e.entry.hart.0 runs)

    processor_kept : LeavesProcessor s t area e before
    processor_kept = record {
      others = λ had elsewhere begins. by_stranger elsewhere begins (told (registered_is had));
      own = λ runs had has other. by_thread runs other (told (registered_is had));
      stores = λ runs had a c inside. by_stores runs a c inside (told (registered_is had));
    }
      where
        by_stranger : running s e.entry.hart.0 before ≢ Some t → (e.entry.kind ≡ kind.Run → e.entry.tid.0 ≢ t) → Told
            → Leaves (among area.at 8) e.done.entered
        by_stranger elsewhere begins (inl own) = absurd (no_stranger (tells own).1 elsewhere begins)
        by_stranger elsewhere begins (inr strange) = strange_leaves area.at 8 strange

        by_thread : running s e.entry.hart.0 before ≡ Some t → e.entry.kind ≢ kind.Drain → Told
            → Leaves (among area.at 8) e.done.entered
        by_thread runs other (inl own) = words_left (tells own).1 runs other
        by_thread runs other (inr strange) = absurd (not_own area.at 8 strange runs)

        by_stores : running s e.entry.hart.0 before ≡ Some t → (a c : ℕ) → among area.at 8 a ≡ true → Told
            → overlay e.done.executed a c ≡ c
        by_stores runs a c inside (inl own) = overlay_beside area.at 8 e.done.executed (tells own).0 a c inside
        by_stores runs a c inside (inr strange) = absurd (not_own area.at 8 strange runs)

    -- THE DATA

    fair : (begun : History) → is_fair (tested.spans s t begun) before ≡ true
        → IsFair s (block_of s form at area 0 t begun) 0 t e before
    fair begun is =
        let ranges = tested.spans s t begun in
        let one = and_parts (runs_there before) _ is in
        let two = and_parts (has_area before) _ one.1 in
        let three = and_parts (are_usable before area.at 32) _ two.1 in
        let four = and_parts (all_usable before ranges) _ three.1 in
        let view_here = view (here_in_history s before 0) in
        record {
          place = record {
            usable = record {
              read = λ a has.
                  in_either (reads before a) (among area.at 32 a) (is_among ranges a) (tested.covers s area t begun a has)
                  (reads_are before area.at 32 three.0 a) (λ there. (all_are before ranges four.0 a there).0);
              write = λ a has.
                  in_either (writes before a) (among area.at 32 a) (is_among ranges a) (tested.covers s area t begun a has)
                  (writes_are before area.at 32 three.0 a) (λ there. (all_are before ranges four.0 a there).1);
            };
            registered = area_is (area_of t (kernel s before).areas) two.0;
            described = range_is (sequence_of (descriptor_at view_here p.table)) four.1;
          };
          spared = record {
            pointer = λ other. absurd (other own_hart);
            words = λ other inside. absurd (other own_hart);
          };
        }

    -- where a sequence begins
    begun_is : (file s t before).pc ≡ at + 4 * form.first → (is_fair (tested.spans s t before) before ≡ true)
        × (tested.is_apart s area t before ≡ true)
    begun_is here =
        let test = follows (eqb (file s t before).pc (at + 4 * form.first)) (starts before)
        (and_parts (is_begun before) (is_open before) last).0
        (ap (λ n. eqb n (at + 4 * form.first)) here ∙ eqb_same (at + 4 * form.first)) in
        and_parts (is_fair (tested.spans s t before) before) (tested.is_apart s area t before) test

    -- and as long as it is open
    own_is : (q : Sequence) → IsAtStart s (at + 4 * form.first) 0 t q.begun → is_own q ≡ true
    own_is q start =
        and_from (runs_there q.begun) (eqb (file s t q.begun).pc (at + 4 * form.first))
        (ap (λ (o : Option ℕ). is_just o t) start.runs ∙ eqb_same t)
        (ap (λ n. eqb n (at + 4 * form.first)) start.pc ∙ eqb_same (at + 4 * form.first))

    open_is : (q : Sequence) → sequence_on s 0 before ≡ Some q → IsAtStart s (at + 4 * form.first) 0 t q.begun
        → is_fair (tested.spans s t q.begun) before ≡ true
    open_is q is start =
        follows (is_own q) (is_fair (tested.spans s t q.begun) before)
        (sym (ap (λ (o : Option Sequence). option_map_or (λ (r : Sequence). is_fair_since r before) o true) is)
        ∙ (and_parts (is_begun before) (is_open before) last).1) (own_is q start)

    abbrev Fair : ℕ → History → Type 0
    Fair h begun = IsFair s (block_of s form at area h t begun) h t e before

    fair_first : (h : ℕ) (begun : History) → IsAtStart s (at + 4 * form.first) h t begun → before ≡ begun → Fair h begun
    fair_first h begun start here =
        let there_now : IsAtStart s (at + 4 * form.first) h t before =
        subst (λ (x : History). IsAtStart s (at + 4 * form.first) h t x) (sym here) start in
        let test = (begun_is there_now.pc).0 in
        let runs = (and_parts (runs_there before) _ test).0 in
        subst (λ (x : History). Fair h x) here
        (subst (λ n. Fair n before) (only_hart runs h there_now.runs) (fair before test))

    fair_later : (begun : History) (q : Sequence) → IsAtStart s (at + 4 * form.first) 0 t begun
        → sequence_on s 0 before ≡ Some q → q.begun ≡ begun → Fair 0 begun
    fair_later begun q start is from =
        subst (λ (x : History). Fair 0 x) from
        (fair q.begun
        (open_is q is (subst (λ (x : History). IsAtStart s (at + 4 * form.first) 0 t x) (sym from) start)))

    block_used : ((h : ℕ) (q : Sequence) → sequence_on s h before ≡ Some q → 0 ≡ h) → IsBlockUsed s form at area t e before
    block_used sole = record {
      fair = λ h begun start opened.
          ⊎_elim (λ (here : before ≡ begun). fair_first h begun start here)
          (λ (that : (q : Sequence) × (sequence_on s h before ≡ Some q) × (q.begun ≡ begun)).
          subst (λ n. Fair n begun) (sole h that.0 that.1)
          (fair_later begun that.0
          (subst (λ n. IsAtStart s (at + 4 * form.first) n t begun) (sym (sole h that.0 that.1)) start)
          (ap (λ n. sequence_on s n before) (sole h that.0 that.1) ∙ that.1) that.2))
          opened;
      begins = λ h start.
          let test = begun_is start.pc in
          let runs = (and_parts (runs_there before) _ test.0).0 in
          subst (λ n. form.Apart s area n t before) (only_hart runs h start.runs) (tested.apart s area t before test.1);
    }

  -- ALL EVENTS

  -- no sequence is open on another hart
  sole : (before : History) → are_fine before ≡ true → (h : ℕ) (q : Sequence) → sequence_on s h before ≡ Some q
      → 0 ≡ h
  sole [] fine h q is = absurd cc
  sole (e ∷ before) fine h q is =
      by_hart (sole before (and_parts (are_fine before) _ fine).0 h q) (eqb e.entry.hart.0 h) refl
    where
      by_hart : (sequence_on s h before ≡ Some q → 0 ≡ h) → (b : Bool) → eqb e.entry.hart.0 h ≡ b → 0 ≡ h
      by_hart earlier true own =
          sym (eqb-true e.entry.hart.0 0
          (and_parts (eqb e.entry.hart.0 0) _ (and_parts (are_fine before) _ fine).1).0)
          ∙ eqb-true e.entry.hart.0 h own
      by_hart earlier false apart =
          earlier
          (sym (still_open s h e before apart) ∙ is)

  pub all_used : (history : History) → IsRunHistory s history → are_fine history ≡ true
      → AreBlockUsed s form at area t history × ProcessorKept s t area history
      × AreUsed s (placed_of form at area) t history
  all_used [] run fine = (
    tt,
    tt,
    λ inside.
        eqb-true s.program.entry at (follows (in_words s.program.entry) (eqb s.program.entry at) fine inside),
  )
  all_used (e ∷ before) run fine =
      let parts = and_parts (are_fine before) (is_fine e before) fine in
      let earlier = all_used before run.0 parts.0 in
      let step = step_of s e before run in (
        (earlier.0, block_used e before step parts.1 (sole before parts.0)),
        (earlier.1, processor_kept e before step parts.1),
        (earlier.2, used e before step parts.1),
      )

  pub all_can_begin : (history : History) → IsRunHistory s history → always_begins_freely history ≡ true
      → CanAlwaysBegin s (placed_of form at area) t history
  all_can_begin [] run fine = tt
  all_can_begin (e ∷ before) run fine =
      let parts = and_parts (always_begins_freely before) (begins_freely before) fine in
      (all_can_begin before run.0 parts.0, can_begin parts.1)
    where
      can_begin : begins_freely before ≡ true → (h : ℕ) → running s h before ≡ Some t
          → is_before (placed_of form at area) (file s t before).pc ≡ true → CanBegin s (placed_of form at area) h t before
      can_begin test h runs here =
          let one = and_parts (runs_there before) _
          (follows (is_before (placed_of form at area) (file s t before).pc) _ test here) in
          let two = and_parts (has_area before) (are_usable before area.at 32) one.1 in
          subst (λ n. CanBegin s (placed_of form at area) n t before)
          (one_hart s e before (step_of s e before run) 0 t (just_is (running s 0 before) t one.0) h runs)
          (record {
            registered = area_is (area_of t (kernel s before).areas) two.0;
            usable = record {
              read = reads_are before area.at 32 two.1;
              write = writes_are before area.at 32 two.1;
            };
          })
