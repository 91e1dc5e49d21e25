-- The blocks of each guest stand in its code.
use Rattle.std.proofs.Common.{◌≡◌, ◌≢◌, ℕ, suc, ◌+◌, ◌*◌, ◌<◌, ◌≤◌, List, [], ◌∷◌, ◌++◌, length, replicate, slice_get}
use Rattle.std.proofs.Common.{zero, ◌^◌, eqb, Bool, true, false, cond, nat_lt, subst, slice_set, refl, sym, ap, ◌∙◌, arith, Option, Some, None, take, drop, length-append}
use Rattle.elf_load.specs.declared.image.ImagePage.{ImagePage}
use Rattle.rv_asm.specs.Assembly.{AreAssembled, Assembly, empty}
use Rattle.rv_asm.specs.declared.item.Item.{Item}
use Rattle.rv_asm.specs.declared.item.Item.TheVariants as item
use Rattle.rv_inst.specs.declared.instruction.Inst.{Inst}
use Rattle.alone_laws.specs.Spans.{code_of}
use Rattle.block_model.specs.Instruction.{fetched, instruction_of}
use Rattle.percpu_lib.specs.Adds.{add_lines}
use Rattle.percpu_lib.specs.Allocs.{alloc_lines}
use Rattle.percpu_lib.specs.Frees.{free_lines}
use Rattle.percpu_lib.specs.Lines.{AreEmitted, IsEmitted, instructions, is_free, with_item, with_label}
use Rattle.std.specs.List.{list_all}
use Rattle.std.proofs.lemmas.Bool.{and_parts, eqb-false, ltb-true}
use Rattle.percpu_lib.specs.Pops.{pop_lines}
use Rattle.percpu_lib.specs.Pushes.{push_lines}
use Rattle.percpu_lib.specs.Rings.{ring_get_lines, ring_put_lines}
use Rattle.percpu_lib.specs.declared.lines.Line.{Line}
use Rattle.percpu_lib.specs.declared.lines.Line.TheVariants as line
use Rattle.percpu_lib.specs.declared.slots.Slots.{Slots}
use Rattle.percpu_lib.proofs.HeldWords.{labelled_items}
use Rattle.percpu_lib.specs.Words.{AreHeld}
use Rattle.urcu_lib.specs.Blocks.{lock_block, sync_block, unlock_block}
use Rattle.urcu_lib.specs.Registers.{AreReadRegs, AreSyncRegs, IsKept, IsRegister}
use Rattle.urcu_lib.specs.declared.regs.ReadRegs.{ReadRegs}
use Rattle.urcu_lib.specs.declared.regs.SyncRegs.{SyncRegs}
use Rattle.guest_programs.specs.declared.registers.TheConstants.{GP, SCRATCH, SLOT, SLOTS}
use Rattle.guest_names.specs.declared.names.Name.{Name}
use Rattle.guest_names.specs.declared.names.Name.TheVariants.{Counter, List as Lists, Pool, Dekker, Signals, Migrate, Ring, Urcu}
use Rattle.guest_programs.specs.Blocks.{ImageHoldsBlock, block_alone, bound_by, descriptor_of, start_word}
use Rattle.guest_programs.specs.Programs.{data_words}
use Rattle.guest_programs.specs.Guests.{HoldsBlocks}
use Rattle.guest_programs.specs.Steps.{guest_lines, slots_of}
use Rattle.guest_programs.specs.declared.layout.TheConstants.{CODE, FIRST_TABLE, SECOND_TABLE}
use Rattle.guest_programs.specs.declared.labels.TheConstants.{LABELS}
use Rattle.guest_programs.proofs.Emitted.{slots_are}
use Rattle.guest_programs.proofs.Held.{IsWordAt, labels_bound, within, word_at_line}

-- the labels of a guest, and its instructions
abbrev pub guest_labels : Name → List (Option ℕ)
guest_labels name = bound_by (replicate LABELS None) 0 (guest_lines name)

abbrev pub guest_instructions : Name → List (Option Inst)
guest_instructions name = instructions (guest_labels name) 0 (guest_lines name)

-- instructions stand from 0x10000 on
abbrev pub Stand : List ImagePage → List (Option Inst) → Type 0
Stand pages held = (k : ℕ) (i : Inst) → slice_get held k ≡ Some (Some i) → code_of pages (0x10000 + 4 * k) ≡ Some i

-- words of the data are read from 0x20000 on
abbrev pub Read : List ImagePage → List ℕ → Type 0
Read pages words = (m w : ℕ) → slice_get words m ≡ Some w → w < 2 ^ 64 → start_word pages (0x20000 + 8 * m) ≡ Some w

-- the assembler of a guest, without its items
abbrev pub model : Name → Assembly
model name = record { at = CODE; items = []; labels = guest_labels name }

all_low : (xs : List ℕ) (k w : ℕ) → list_all (λ x. nat_lt x (2 ^ 64)) xs ≡ true → slice_get xs k ≡ Some w → w < 2 ^ 64
all_low [] k w all at = absurd cc
all_low (x ∷ xs) zero w all at =
    let same : x ≡ w = cc in
    let P : ℕ → Type 0 = λ y. y < 2 ^ 64 in
    subst P same (ltb-true x (2 ^ 64) (and_parts (nat_lt x (2 ^ 64)) _ all).0)
all_low (x ∷ xs) (suc k) w all at = all_low xs k w (and_parts (nat_lt x (2 ^ 64)) _ all).1 at

-- instructions from word n on
held_at : (n count : ℕ) (block : List (Option Inst)) (pages : List ImagePage) (held : List (Option Inst)) → Stand pages held
    → block ≡ take count (drop n held) → AreHeld (code_of pages) (0x10000 + 4 * n) block
held_at n count block pages held stand is = record {
  holds = λ k i at.
      let place : 0x10000 + 4 * n + 4 * k ≡ 0x10000 + 4 * (n + k) = omega arith in
      ap (code_of pages) place
      ∙ stand (n + k) i (within held n count k (Some i) (ap (λ xs. slice_get xs k) (sym is) ∙ at));
}

-- a block from word n on, whose descriptor stands from a word of the data on
holds_block : (block : Slots → ℕ → List Line) (table n count first : ℕ) (pages : List ImagePage)
    (held : List (Option Inst)) (words : List ℕ)
    → table < 0x7FFFF800 → table ≢ 0 → n < 1024 → table ≡ 0x20000 + 8 * first → Stand pages held → Read pages words
    → block_alone (block (slots_of table) 0) ≡ take count (drop n held)
    → descriptor_of (block (slots_of table) 0) (0x10000 + 4 * n) ≡ take 4 (drop first words)
    → list_all (λ x. nat_lt x (2 ^ 64)) (descriptor_of (block (slots_of table) 0) (0x10000 + 4 * n)) ≡ true
    → ImageHoldsBlock block pages
holds_block block table n count first pages held words low some few placed stand read is described small = record {
  slots = slots_of table;
  at = 0x10000 + 4 * n;
  are_slots = slots_are table;
  some_table = some;
  low_table = low;
  aligned = omega arith;
  low = omega arith;
  stands = held_at n count (block_alone (block (slots_of table) 0)) pages held stand is;
  describes = λ k w at.
      let place : table + 8 * k ≡ 0x20000 + 8 * (first + k) = omega arith in
      ap (start_word pages) place
      ∙ read (first + k) w (within words first 4 k w (ap (λ xs. slice_get xs k) (sym described) ∙ at))
      (all_low (descriptor_of (block (slots_of table) 0) (0x10000 + 4 * n)) k w small at);
}

-- the registers of the blocks of user-space RCU
abbrev pub reading : ReadRegs
reading = record { gp = GP; slot = SLOT; scratch = SCRATCH }

abbrev pub waiting : SyncRegs
waiting = record { gp = GP; slots = SLOTS }

is_register : (r : ℕ) → eqb r 0 ≡ false → r < 32 → IsRegister r
is_register r some low = record { some = eqb-false r 0 some; low = low }

is_kept : (r : ℕ) → eqb r 5 ≡ false → eqb r 6 ≡ false → eqb r 7 ≡ false → eqb r 10 ≡ false → eqb r 11 ≡ false → eqb r 12 ≡ false
    → eqb r 17 ≡ false → IsKept r
is_kept r a b c d e f g = record {
  not_5 = eqb-false r 5 a;
  not_6 = eqb-false r 6 b;
  not_7 = eqb-false r 7 c;
  not_10 = eqb-false r 10 d;
  not_11 = eqb-false r 11 e;
  not_12 = eqb-false r 12 f;
  not_17 = eqb-false r 17 g;
}

pub are_reading : AreReadRegs reading
are_reading = record {
  gp = is_register GP refl (omega arith);
  slot = is_register SLOT refl (omega arith);
  scratch = is_register SCRATCH refl (omega arith);
  gp_slot = eqb-false GP SLOT refl;
  gp_scratch = eqb-false GP SCRATCH refl;
  slot_scratch = eqb-false SLOT SCRATCH refl;
}

pub are_waiting : AreSyncRegs waiting
are_waiting = record {
  gp = is_register GP refl (omega arith);
  slots = is_register SLOTS refl (omega arith);
  gp_slots = eqb-false GP SLOTS refl;
  gp_kept = is_kept GP refl refl refl refl refl refl refl;
  slots_kept = is_kept SLOTS refl refl refl refl refl refl refl;
}

pub holds : (name : Name) (n : ℕ) (pages : List ImagePage) → Stand pages (guest_instructions name)
    → Read pages (data_words (model name) n) → HoldsBlocks name pages
holds Counter n pages stand read =
    holds_block add_lines FIRST_TABLE 91 14 4 pages (guest_instructions Counter) (data_words (model Counter) n)
    (omega arith) (λ e. omega arith) (omega arith) (omega arith) stand read refl refl refl
holds Lists n pages stand read = (
  holds_block push_lines FIRST_TABLE 121 14 4 pages (guest_instructions Lists) (data_words (model Lists) n)
      (omega arith) (λ e. omega arith) (omega arith) (omega arith) stand read refl refl refl,
  holds_block pop_lines SECOND_TABLE 92 15 8 pages (guest_instructions Lists) (data_words (model Lists) n)
      (omega arith) (λ e. omega arith) (omega arith) (omega arith) stand read refl refl refl,
)
holds Pool n pages stand read = (
  holds_block alloc_lines FIRST_TABLE 107 19 4 pages (guest_instructions Pool) (data_words (model Pool) n)
      (omega arith) (λ e. omega arith) (omega arith) (omega arith) stand read refl refl refl,
  holds_block free_lines SECOND_TABLE 127 22 8 pages (guest_instructions Pool) (data_words (model Pool) n)
      (omega arith) (λ e. omega arith) (omega arith) (omega arith) stand read refl refl refl,
)
holds Dekker n pages stand read = tt
holds Signals n pages stand read =
    holds_block add_lines FIRST_TABLE 107 14 4 pages (guest_instructions Signals) (data_words (model Signals) n)
    (omega arith) (λ e. omega arith) (omega arith) (omega arith) stand read refl refl refl
holds Migrate n pages stand read =
    holds_block add_lines FIRST_TABLE 92 14 4 pages (guest_instructions Migrate) (data_words (model Migrate) n)
    (omega arith) (λ e. omega arith) (omega arith) (omega arith) stand read refl refl refl
holds Ring n pages stand read = (
  holds_block (λ p base. ring_put_lines p base 4) FIRST_TABLE 114 46 4 pages (guest_instructions Ring)
      (data_words (model Ring) n) (omega arith) (λ e. omega arith) (omega arith) (omega arith) stand read refl refl
      refl,
  holds_block (λ p base. ring_get_lines p base 4) SECOND_TABLE 167 46 8 pages (guest_instructions Ring)
      (data_words (model Ring) n) (omega arith) (λ e. omega arith) (omega arith) (omega arith) stand read refl refl
      refl,
)
holds Urcu n pages stand read = record {
  read = reading;
  sync = waiting;
  readers = 3;
  some = omega arith;
  few = omega arith;
  are_read = are_reading;
  are_sync = are_waiting;
  lock_at = 0x10000 + 4 * 133;
  unlock_at = 0x10000 + 4 * 137;
  sync_at = 0x10000 + 4 * 103;
  locks = held_at 133 2 (lock_block reading) pages (guest_instructions Urcu) stand refl;
  unlocks = held_at 137 1 (unlock_block reading) pages (guest_instructions Urcu) stand refl;
  syncs = held_at 103 17 (sync_block waiting 3) pages (guest_instructions Urcu) stand refl;
}

-- the first address stays
labelled_at : (a : Assembly) (l : ℕ) (b : Bool)
    → (cond b (record a { labels = slice_set a.labels l (Some (length a.items)) }) a).at ≡ a.at
labelled_at a l true = refl
labelled_at a l false = refl

emitted_at : (xs : List Line) (a b : Assembly) → IsEmitted xs a b → b.at ≡ a.at
emitted_at [] a b is = ap (λ (x : Assembly). x.at) is
emitted_at (line.Label l ∷ xs) a b is =
    emitted_at xs (with_label a l) b is ∙ labelled_at a l (is_free (slice_get a.labels l))
emitted_at (line.Plain i ∷ xs) a b is = emitted_at xs (with_item a (item.Word is.0)) b is.2
emitted_at (line.Branch i l ∷ xs) a b is = emitted_at xs (with_item a (item.Aimed i l)) b is
emitted_at (line.Data w ∷ xs) a b is = emitted_at xs (with_item a (item.Word w)) b is

-- the words of the data of a guest
pub words_are : (name : Name) (asm : Assembly) (n : ℕ) → AreEmitted (guest_lines name) (empty CODE LABELS) asm
    → data_words asm n ≡ data_words (model name) n
words_are name asm n emitted =
    ap (λ (ls : List (Option ℕ)). data_words (record { at = asm.at; items = []; labels = ls }) n)
    (labels_bound (guest_lines name) (empty CODE LABELS) asm emitted.are)
    ∙ ap (λ (a : ℕ). data_words (record { at = a; items = []; labels = guest_labels name }) n)
    (emitted_at (guest_lines name) (empty CODE LABELS) asm emitted.are)

-- finished code stands so where its words are fetched
pub code_stands : (name : Name) (asm : Assembly) (bytes : List ℕ) (pages : List ImagePage)
    → AreEmitted (guest_lines name) (empty CODE LABELS) asm → (code : AreAssembled asm.labels asm.items bytes)
    → ((k w : ℕ) → slice_get code.words k ≡ Some w → fetched pages (0x10000 + 4 * k) ≡ Some w)
    → Stand pages (guest_instructions name)
code_stands name asm bytes pages emitted code fetch k i at =
    let labels_are : asm.labels ≡ guest_labels name = labels_bound (guest_lines name) (empty CODE LABELS) asm emitted.are in
    let held : slice_get (instructions asm.labels 0 (guest_lines name)) k ≡ Some (Some i) =
    ap (λ (ls : List (Option ℕ)). slice_get (instructions ls 0 (guest_lines name)) k) labels_are ∙ at in
    let word : IsWordAt code.words k i = word_at_line (guest_lines name) (empty CODE LABELS) asm bytes k i refl emitted.are code held in
    ap instruction_of (fetch k word.word word.there) ∙ word.is

-- there are no more words than lines
one_more : (a : Assembly) (x : Item) (n m : ℕ) → m ≤ length (a.items ++ x ∷ []) + n → m ≤ length a.items + suc n
one_more a x n m is =
    let longer : length (a.items ++ x ∷ []) ≡ length a.items + 1 = length-append a.items (x ∷ []) ∙ refl in
    omega arith

items_few : (xs : List Line) (a b : Assembly) → IsEmitted xs a b → length b.items ≤ length a.items + length xs
items_few [] a b is =
    let same = ap (λ (x : Assembly). length x.items) is in
    omega arith
items_few (line.Label n ∷ xs) a b is =
    let rest = items_few xs (with_label a n) b is in
    let same : length (with_label a n).items ≡ length a.items = ap (λ (ys : List Item). length ys) (labelled_items a n) in
    omega arith
items_few (line.Plain i ∷ xs) a b is =
    one_more a (item.Word is.0) (length xs) (length b.items) (items_few xs (with_item a (item.Word is.0)) b is.2)
items_few (line.Branch i n ∷ xs) a b is =
    one_more a (item.Aimed i n) (length xs) (length b.items) (items_few xs (with_item a (item.Aimed i n)) b is)
items_few (line.Data w ∷ xs) a b is =
    one_more a (item.Word w) (length xs) (length b.items) (items_few xs (with_item a (item.Word w)) b is)

few_lines : (name : Name) → length (guest_lines name) ≤ 1024
few_lines Counter = omega arith
few_lines Lists = omega arith
few_lines Pool = omega arith
few_lines Dekker = omega arith
few_lines Signals = omega arith
few_lines Migrate = omega arith
few_lines Ring = omega arith
few_lines Urcu = omega arith

pub few_words : (name : Name) (asm : Assembly) → AreEmitted (guest_lines name) (empty CODE LABELS) asm
    → length asm.items ≤ 1024
few_words name asm emitted =
    let few = items_few (guest_lines name) (empty CODE LABELS) asm emitted.are in
    let lines = few_lines name in
    omega arith
