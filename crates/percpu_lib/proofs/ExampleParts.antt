-- What worked logs have in common: lines and entries of hart 0, words that stand in a program, and a block
-- that is used as it should be where tests find so.
use Rattle.std.proofs.Common.{◌≡◌, ◌≢◌, ℕ, suc, zero, ◌+◌, ◌*◌, ◌-◌, ◌%◌, ◌^◌, ◌<◌, ◌≤◌, List, [], ◌∷◌, refl}
use Rattle.std.proofs.Common.{sym, ap, ◌∙◌, subst, arith, Bool, true, false, not, ◌&&◌, ◌||◌, ◌⊎◌, inl, inr}
use Rattle.std.proofs.Common.{eqb, leb, ltb, Option, Some, None, slice_get, ◌++◌, take, drop, replicate, unwrap_or}
use Rattle.std.specs.Option.{option_map_or}
use Rattle.std.specs.Prelude.{Contains}
use Rattle.std.proofs.lemmas.Bool.{and_parts, eqb-false, eqb-true, false≢true, le-ltb, leb-true, ltb-true}
use Rattle.std.proofs.lemmas.Bool.{not-true}
use Rattle.std.proofs.lemmas.List.{take-append-drop}
use Rattle.mach_types.specs.Kernel.Areas.{is_inside}
use Rattle.mach_types.specs.Registers.{register}
use Rattle.mach_types.specs.declared.events.Choice.{Choice}
use Rattle.mach_types.specs.declared.events.Choice.TheVariants as asked
use Rattle.mach_types.specs.declared.events.Entry.{Entry}
use Rattle.mach_types.specs.declared.events.Kind.{Kind}
use Rattle.mach_types.specs.declared.events.Kind.TheVariants as kinds
use Rattle.mach_types.specs.declared.sequences.Area.{Area}
use Rattle.elf_load.specs.declared.image.ImagePage.{ImagePage}
use Rattle.rv_inst.specs.declared.instruction.Inst.{Inst}
use Rattle.block_model.specs.Acts.{Sequence, sequence_on}
use Rattle.block_model.specs.Deciding.{history}
use Rattle.block_model.specs.History.{History, file}
use Rattle.block_model.specs.Replay.{Ask}
use Rattle.block_model.specs.Run.{IsBlockRun, IsRunHistory}
use Rattle.block_model.specs.Setting.{Setting}
use Rattle.block_model.proofs.Laws.{run_before}
use Rattle.alone.specs.Temps.{is_scratch}
use Rattle.alone_laws.specs.Entering.{IsIn}
use Rattle.alone_laws.specs.Pointers.{LiesBeside}
use Rattle.alone_laws.specs.Retries.{Retries}
use Rattle.alone_laws.specs.Spans.{code_of}
use Rattle.alone_laws.specs.Uses.{CanAlwaysBegin, Placed}
use Rattle.percpu_lib.specs.Forms.{Form, HoldsBlock, SharesAreaWith, committed, placed_of, range_of}
use Rattle.percpu_lib.specs.Used.{IsWellUsed}
use Rattle.percpu_lib.specs.Words.{AreHeld, AreSlots}
use Rattle.percpu_lib.specs.declared.slots.Slots.{Slots}
use Rattle.percpu_lib.proofs.RetryParts.{Again, is_retried, retried_so}
use Rattle.percpu_lib.proofs.ShareTests.{all_shares, shares_so}
use Rattle.percpu_lib.proofs.UseTests.{IsTested, all_can_begin, all_used, always_begins_freely, are_fine}
use Rattle.percpu_lib.proofs.UseTests.{either}

-- a line of a script, and an entry of a log
abbrev pub line : Choice → Ask
line choice = record { hart = record { 0 = 0 }; choice = choice; check = None }

abbrev pub entry : Kind → ℕ → ℕ → Entry
entry k t pc = record { hart = record { 0 = 0 }; kind = k; tid = record { 0 = t }; pc = pc }

-- so many lines that ask for an instruction
abbrev pub execs : ℕ → List Ask
execs n = replicate n (line asked.Exec)

-- a thread runs, executes so many instructions, whose stores then enter memory, is preempted, runs again and
-- executes so many more
abbrev pub cut_after : ℕ → ℕ → ℕ → List Ask
cut_after n stores rest =
    line (asked.Run (record { 0 = 1 }))
    ∷ (execs n
    ++ (replicate stores (line asked.Drain)
    ++ line asked.Preempt
    ∷ line (asked.Run (record { 0 = 1 }))
    ∷ execs rest))

-- so many instructions of a thread, one word behind the other, from an address on; and of thread 1
abbrev pub walk_of : ℕ → ℕ → ℕ → List Entry
walk_of t pc zero = []
walk_of t pc (suc n) = entry kinds.Exec t pc ∷ walk_of t (pc + 4) n

abbrev pub walk : ℕ → ℕ → List Entry
walk = walk_of 1

-- the entries of such lines up to where it runs again, from an address on
abbrev pub cut_log : ℕ → ℕ → ℕ → List Entry
cut_log from n stores =
    entry kinds.Run 1 from ∷ walk from n ++ (replicate stores (entry kinds.Drain 1 (from + 4 * n))
    ++ entry kinds.Preempt 1 (from + 4 * n) ∷ entry kinds.Run 1 (from + 4 * n) ∷ [])

-- a thread runs and executes so many instructions, and the entries of that
abbrev pub straight_lines : ℕ → List Ask
straight_lines n = line (asked.Run (record { 0 = 1 })) ∷ execs n

abbrev pub straight_log : ℕ → ℕ → List Entry
straight_log from n = entry kinds.Run 1 from ∷ walk from n

-- the area that the programs register, and the registers of a block of theirs, by that of the value and the
-- address of its descriptor
abbrev pub own_area : Area
own_area = record { at = 0x20000; sig = 0xF1401073 }

abbrev pub slots_with : ℕ → ℕ → Slots
slots_with value table = record { area = 8; cells = 9; value = value; table = table }

-- a page of data
abbrev pub data_at : ℕ → List ℕ → ImagePage
data_at number bytes = record { number = number; perm = 6; bytes = bytes }

-- a program for one hart, with these bytes of code, so many bytes behind 0x10000, these pages of data, and
-- this end
abbrev pub setting_of : ℕ → List ℕ → List ImagePage → ℕ → Setting
setting_of start code others end = record {
  program = record {
    pages = record { number = 0x10; perm = 5; bytes = replicate start 0 ++ code } ∷ others;
    entry = 0x10000 + start;
    phdr = 0x10040;
    phnum = 2;
    break_at = end;
  };
  limits = record { harts = 1; frames = 128; steps = 200 };
}

-- a sequence of thread 1, by how many entries of a log stand before its first instruction and before its last
abbrev pub sequence_of : Setting → List Entry → ℕ → ℕ → Sequence
sequence_of s log n m =
    let begun = history s (take n log) in
    let last = history s (take m log) in
    record { hart = 0; thread = 1; begun = begun; last_instruction = last; reached = history s log }

-- the words of a block stand there
abbrev pub AreThere : (ℕ → Option Inst) → ℕ → List (Option Inst) → Type 0
AreThere reads from [] = Unit {0}
AreThere reads from (o ∷ rest) = (reads from ≡ o) × AreThere reads (from + 4) rest

pub word_is : (reads : ℕ → Option Inst) (block : List (Option Inst)) (from : ℕ) → AreThere reads from block
    → (k : ℕ) (i : Inst) → slice_get block k ≡ Some (Some i) → reads (from + 4 * k) ≡ Some i
word_is reads [] from there k i is = absurd cc
word_is reads (o ∷ rest) from there zero i is =
    let same : from ≡ from + 4 * zero = omega arith in
    subst (λ n. reads n ≡ Some i) same (there.0 ∙ ap (λ (x : Option (Option Inst)). unwrap_or x None) is)
word_is reads (o ∷ rest) from there (suc k) i is =
    let same : (from + 4) + 4 * k ≡ from + 4 * suc k = omega arith in
    subst (λ n. reads n ≡ Some i) same (word_is reads rest (from + 4) there.1 k i is)

pub words_held : (s : Setting) (at : ℕ) (block : List (Option Inst))
    → AreThere (code_of s.program.pages) at block
    → AreHeld (code_of s.program.pages) at block
words_held s at block there = record { holds = word_is (code_of s.program.pages) block at there }

-- three registers that a block can work with
abbrev is_slot : ℕ → Bool
is_slot r = not (is_scratch r) && (not (eqb r 0) && ltb r 32)

abbrev pub are_slots : Slots → Bool
are_slots p =
    is_slot p.area && (is_slot p.cells && (is_slot p.value
    && (not (eqb p.area p.cells) && (not (eqb p.area p.value) && not (eqb p.cells p.value)))))

record IsSlot (r : ℕ) : Type 0 where
  kept : is_scratch r ≡ false
  some : r ≢ 0
  low : r < 32

slot_found : (r : ℕ) → is_slot r ≡ true → IsSlot r
slot_found r is =
    let one = and_parts (not (is_scratch r)) _ is in
    let two = and_parts (not (eqb r 0)) (ltb r 32) one.1 in
    record {
      kept = not-true (is_scratch r) one.0;
      some = eqb-false r 0 (not-true (eqb r 0) two.0);
      low = ltb-true r 32 two.1;
    }

differ : (a b : ℕ) → not (eqb a b) ≡ true → a ≢ b
differ a b is = eqb-false a b (not-true (eqb a b) is)

slots_found : (p : Slots) → are_slots p ≡ true → AreSlots p
slots_found p is =
    let one = and_parts (is_slot p.area) _ is in
    let two = and_parts (is_slot p.cells) _ one.1 in
    let three = and_parts (is_slot p.value) _ two.1 in
    let four = and_parts (not (eqb p.area p.cells)) _ three.1 in
    let five = and_parts (not (eqb p.area p.value)) _ four.1 in
    record {
      area = (slot_found p.area one.0).kept;
      cells = (slot_found p.cells two.0).kept;
      value = (slot_found p.value three.0).kept;
      some_area = (slot_found p.area one.0).some;
      some_cells = (slot_found p.cells two.0).some;
      some_value = (slot_found p.value three.0).some;
      low_area = (slot_found p.area one.0).low;
      low_cells = (slot_found p.cells two.0).low;
      low_value = (slot_found p.value three.0).low;
      area_cells = differ p.area p.cells four.0;
      area_value = differ p.area p.value five.0;
      cells_value = differ p.cells p.value five.1;
    }

-- its registers are such, and its addresses are low
abbrev pub is_low : Setting → Form → ℕ → Area → Bool
is_low s form at area =
    are_slots form.slots
    && (not (eqb form.slots.table 0) && (ltb form.slots.table 0x7FFFF800
    && (ltb at (2 ^ 37) && (leb (area.at + 32) (2 ^ 38) && leb s.limits.harts 8))))

pub holds_so : (s : Setting) (form : Form) (tested : IsTested form) (at : ℕ) (area : Area) (t : ℕ)
    (history : History)
    → IsRunHistory s history → are_fine s form tested at area t history ≡ true → is_low s form at area ≡ true
    → AreThere (code_of s.program.pages) at form.words → HoldsBlock s history form at area t
holds_so s form tested at area t history run fine low there =
    let used = all_used s form tested at area t history run fine in
    let one = and_parts (are_slots form.slots) _ low in
    let two = and_parts (not (eqb form.slots.table 0)) _ one.1 in
    let three = and_parts (ltb form.slots.table 0x7FFFF800) _ two.1 in
    let four = and_parts (ltb at (2 ^ 37)) _ three.1 in
    let five = and_parts (leb (area.at + 32) (2 ^ 38)) (leb s.limits.harts 8) four.1 in
    record {
      stands = words_held s at form.words there;
      slots = slots_found form.slots one.0;
      some_table = differ form.slots.table 0 two.0;
      low_table = ltb-true form.slots.table 0x7FFFF800 three.0;
      low = ltb-true at (2 ^ 37) four.0;
      low_area = leb-true (area.at + 32) (2 ^ 38) five.0;
      used = used.0;
      processor = used.1;
      few = leb-true s.limits.harts 8 five.1;
      uses = used.2;
    }

-- ONE SEQUENCE

-- a block lies beside another by where both stand
abbrev pub stands_apart : Placed → Placed → Bool
stands_apart b x =
    ltb x.table (2 ^ 64)
    && (ltb b.at (2 ^ 37) && (ltb x.range.start (2 ^ 37) && (ltb x.range.length (2 ^ 10)
    && (leb b.at b.range.start && (leb b.range.start (b.at + 1024)
    && (leb b.range.start x.range.start || leb (x.range.start + x.range.length) b.at))))))

lies_so : (b x : Placed) → stands_apart b x ≡ true → LiesBeside b x
lies_so b x is =
    let one = and_parts (ltb x.table (2 ^ 64)) _ is in
    let two = and_parts (ltb b.at (2 ^ 37)) _ one.1 in
    let three = and_parts (ltb x.range.start (2 ^ 37)) _ two.1 in
    let four = and_parts (ltb x.range.length (2 ^ 10)) _ three.1 in
    let five = and_parts (leb b.at b.range.start) _ four.1 in
    let six = and_parts (leb b.range.start (b.at + 1024)) _ five.1 in
    record {
      low_table = ltb-true x.table (2 ^ 64) one.0;
      apart = λ pc here.
          outside pc (ltb-true b.at (2 ^ 37) two.0) (ltb-true x.range.start (2 ^ 37) three.0)
          (ltb-true x.range.length (2 ^ 10) four.0) (leb-true b.at b.range.start five.0)
          (leb-true b.range.start (b.at + 1024) six.0)
          (either (leb b.range.start x.range.start) (leb (x.range.start + x.range.length) b.at) six.1)
          (ltb-true ((pc + (2 ^ 64 - b.at)) % 2 ^ 64) ((b.range.start + (2 ^ 64 - b.at)) % 2 ^ 64) here);
    }
  where
    outside : (pc : ℕ) → b.at < 2 ^ 37 → x.range.start < 2 ^ 37 → x.range.length < 2 ^ 10 → b.at
        ≤ b.range.start
        → b.range.start ≤ b.at + 1024
        → (leb b.range.start x.range.start ≡ true) ⊎ (leb (x.range.start + x.range.length) b.at ≡ true)
        → (pc + (2 ^ 64 - b.at)) % 2 ^ 64 < (b.range.start + (2 ^ 64 - b.at)) % 2 ^ 64
        → is_inside x.range pc ≡ false
    outside pc low low_start short forth near (inl behind) here =
        let past = leb-true b.range.start x.range.start behind in
        le-ltb ((pc + (2 ^ 64 - x.range.start)) % 2 ^ 64) x.range.length (omega arith)
    outside pc low low_start short forth near (inr before) here =
        let past = leb-true (x.range.start + x.range.length) b.at before in
        le-ltb ((pc + (2 ^ 64 - x.range.start)) % 2 ^ 64) x.range.length (omega arith)

abbrev pub stand_apart : Placed → List Placed → Bool
stand_apart b [] = true
stand_apart b (x ∷ rest) = stands_apart b x && stand_apart b rest

each_beside : (b : Placed) (others : List Placed) → stand_apart b others ≡ true → (other : Placed)
    → Contains others other → LiesBeside b other
each_beside b [] is other (k, lt, at) = absurd (omega arith)
each_beside b (x ∷ rest) is other (zero, lt, at) =
    subst (LiesBeside b) at (lies_so b x (and_parts (stands_apart b x) (stand_apart b rest) is).0)
each_beside b (x ∷ rest) is other (suc k, lt, at) =
    each_beside b rest (and_parts (stands_apart b x) (stand_apart b rest) is).1 other (k, omega arith, at)

-- a block as the thread of a log uses it: its form and what is tested of that, where it stands, its area and the
-- thread
pub record Use : Type 1 where
  pub form : Form
  pub tested : IsTested form
  pub at : ℕ
  pub area : Area
  pub thread : ℕ

-- by thread 1, with the area that the programs register
abbrev pub use_of : (form : Slots → Form) → ((p : Slots) → IsTested (form p)) → Slots → ℕ → Use
use_of form tested p at = record { form = form p; tested = tested p; at = at; area = own_area; thread = 1 }

abbrev pub place_of : Use → Placed
place_of u = placed_of u.form u.at u.area

-- what is found of a log at once: the thread uses the block well, beside others, and its last sequence on
-- hart 0 has come to the post-commit address, and passes a test
abbrev pub commits_so : Setting → Use → (Sequence → Bool) → Sequence → Bool
commits_so s u fits q =
    eqb q.thread u.thread
    && (is_inside (range_of u.form u.at) (file s u.thread q.begun).pc
    && (eqb (file s u.thread q.reached).pc (u.at + 4 * committed u.form) && fits q))

abbrev pub is_good : Setting → Use → List Placed → (Sequence → Bool) → History → Bool
is_good s u others fits before =
    are_fine s u.form u.tested u.at u.area u.thread before
    && (always_begins_freely s u.form u.tested u.at u.area u.thread before
    && (shares_so s u.form u.tested u.at u.area u.thread others before
    && option_map_or (commits_so s u fits) (sequence_on s 0 before) false))

-- the first entries of a log are such
pub record IsGood (s : Setting) (log : List Entry) (n : ℕ) (u : Use) (others : List Placed) (fits : Sequence → Bool)
    : Type 0 where
  pub sequence : Sequence
  pub used : IsWellUsed s (take n log) u.form u.at u.area others sequence
  pub passes : fits sequence ≡ true

pub record IsUsedSo (s : Setting) (log : List Entry) (u : Use) (others : List Placed) : Type 0 where
  pub run : IsBlockRun s log
  pub holds : HoldsBlock s (history s log) u.form u.at u.area u.thread
  pub begins : CanAlwaysBegin s (place_of u) u.thread (history s log)
  pub shares : SharesAreaWith s (history s log) (place_of u) u.thread others

-- and so does the thread where it begins anew
pub record IsUsedAgain (s : Setting) (log : List Entry) (u : Use) (others : List Placed) (a : Again) : Type 0 where
  pub used : IsUsedSo s log u others
  pub retried : Retries s (place_of u) u.thread a.first_time a.anew

-- the first entries of a run are one
run_to : (s : Setting) (log : List Entry) (n : ℕ) → IsBlockRun s log → IsBlockRun s (take n log)
run_to s log n run =
    run_before s (take n log) (drop n log)
    (subst (IsBlockRun s) (sym (take-append-drop n log)) run)

module _ (s : Setting) (whole : List Entry) (is_run : IsBlockRun s whole) (n : ℕ) (u : Use)
    (others : List Placed) (fits : Sequence → Bool)
    (good : is_good s u others fits (history s (take n whole)) ≡ true) (low : is_low s u.form u.at u.area ≡ true)
    (there : AreThere (code_of s.program.pages) u.at u.form.words)
    (apart : stand_apart (place_of u) others ≡ true)
  where
    open u use {form, tested, at, area, thread as t}

    abbrev log : List Entry
    log = take n whole

    run : IsBlockRun s log
    run = run_to s whole n is_run

    abbrev past : History
    past = history s log

    one : (are_fine s form tested at area t past ≡ true)
        × (always_begins_freely s form tested at area t past
        && (shares_so s form tested at area t others past
        && option_map_or (commits_so s u fits) (sequence_on s 0 past) false) ≡ true)
    one = and_parts (are_fine s form tested at area t past) _ good

    two : (always_begins_freely s form tested at area t past ≡ true)
        × (shares_so s form tested at area t others past
        && option_map_or (commits_so s u fits) (sequence_on s 0 past) false ≡ true)
    two = and_parts (always_begins_freely s form tested at area t past) _ one.1

    three : (shares_so s form tested at area t others past ≡ true)
        × (option_map_or (commits_so s u fits) (sequence_on s 0 past) false ≡ true)
    three = and_parts (shares_so s form tested at area t others past) _ two.1

    -- what holds of the thread, whichever its last sequence is
    pub used_so : IsUsedSo s log u others
    used_so = record {
      run = run;
      holds = holds_so s form tested at area t past run.allowed one.0 low there;
      begins = all_can_begin s form tested at area t past run.allowed two.0;
      shares = all_shares s form tested at area t others past run.allowed one.0 three.0
          (each_beside (placed_of form at area) others apart);
    }

    pub used_again_so : (a : Again) → ((a.first_time ++ a.walked) ++ a.gap) ++ a.back ≡ a.anew
        → is_retried s (place_of u) t a.first_time a.walked a.gap a.back ≡ true → IsUsedAgain s log u others a
    used_again_so a parts is = record {
      used = used_so;
      retried = subst (Retries s (place_of u) t a.first_time) parts
          (retried_so s (place_of u) t a.first_time a.walked a.gap a.back is);
    }

    found : (o : Option Sequence) → sequence_on s 0 past ≡ o
        → option_map_or (commits_so s u fits) o false ≡ true
        → IsGood s whole n u others fits
    found None is test = absurd (false≢true test)
    found (Some q) is test =
        let first = and_parts (eqb q.thread t) _ test in
        let second = and_parts (is_inside (range_of form at) (file s t q.begun).pc) _ first.1 in
        let third = and_parts (eqb (file s t q.reached).pc (at + 4 * committed form)) (fits q) second.1 in
        let same : t ≡ q.thread = sym (eqb-true q.thread t first.0) in
        record {
          sequence = q;
          used = record {
            run = run;
            holds = subst (λ n. HoldsBlock s past form at area n) same used_so.holds;
            begins = subst (λ n. CanAlwaysBegin s (placed_of form at area) n past) same used_so.begins;
            shares = subst (λ n. SharesAreaWith s past (placed_of form at area) n others) same used_so.shares;
            is = is;
            inside = subst (λ n. IsIn s (range_of form at) n q.begun) same second.0;
            commits = subst (λ n. (file s n q.reached).pc ≡ at + 4 * committed form) same
                (eqb-true (file s t q.reached).pc (at + 4 * committed form) third.0);
          };
          passes = third.1;
        }

    pub found_good : IsGood s whole n u others fits
    found_good = found (sequence_on s 0 past) refl three.1

-- a last sequence on hart 0 that passes a test
abbrev pub is_found : Setting → List Entry → (Sequence → Bool) → Bool
is_found s log fits = option_map_or fits (sequence_on s 0 (history s log)) false

pub record IsFound (s : Setting) (log : List Entry) (fits : Sequence → Bool) : Type 0 where
  pub sequence : Sequence
  pub is : sequence_on s 0 (history s log) ≡ Some sequence
  pub passes : fits sequence ≡ true

pub sequence_found : (s : Setting) (log : List Entry) (fits : Sequence → Bool) → is_found s log fits ≡ true
    → IsFound s log fits
sequence_found s log fits there = by_what (sequence_on s 0 (history s log)) refl there
  where
    by_what : (o : Option Sequence) → sequence_on s 0 (history s log) ≡ o → option_map_or fits o false ≡ true
        → IsFound s log fits
    by_what None is test = absurd (false≢true test)
    by_what (Some q) is test = record { sequence = q; is = is; passes = test }

-- a use of which a fact is known, as the laws ask for one
abbrev pub Shows : (Slots → Form) → (Setting → Slots → Sequence → Type 0) → Type 0
Shows form Fact = (s : Setting) × (log : List Entry) × (p : Slots) × (at : ℕ) × (area : Area) × (others : List Placed)
    × (q : Sequence) × IsWellUsed s log (form p) at area others q × Fact s p q

pub is_shown : (form : Slots → Form) (tested : (p : Slots) → IsTested (form p))
    (Fact : Setting → Slots → Sequence → Type 0) (s : Setting) (log : List Entry) (n : ℕ) (p : Slots) (at : ℕ)
    (others : List Placed) (fits : Sequence → Bool) → IsGood s log n (use_of form tested p at) others fits
    → ((q : Sequence) → fits q ≡ true → Fact s p q) → Shows form Fact
is_shown form tested Fact s log n p at others fits good so =
    (s, take n log, p, at, own_area, others, good.sequence, good.used, so good.sequence good.passes)

-- one whose value is a number then
abbrev pub value_of_use : Setting → Slots → Sequence → ℕ
value_of_use s p q = register (file s q.thread q.reached).file p.value

pub value_shown : (form : Slots → Form) (tested : (p : Slots) → IsTested (form p)) (s : Setting) (log : List Entry)
    (n : ℕ) (p : Slots) (at : ℕ) (others : List Placed) (value : ℕ)
    → IsGood s log n (use_of form tested p at) others (λ q. eqb (value_of_use s p q) value)
    → Shows form (λ s p q. value_of_use s p q ≡ value)
value_shown form tested s log n p at others value good =
    is_shown form tested (λ s p q. value_of_use s p q ≡ value) s log n p at others (λ q. eqb (value_of_use s p q) value)
    good (λ q is. eqb-true (value_of_use s p q) value is)
