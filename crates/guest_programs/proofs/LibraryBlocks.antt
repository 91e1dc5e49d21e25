-- The blocks that an image holds are those of the laws.
use Rattle.std.proofs.Common.{◌≡◌, ◌≢◌, ℕ, zero, suc, ◌+◌, ◌*◌, ◌-◌, ◌<◌, ◌^◌, List, [], refl, sym, ap, ◌∙◌, subst, arith, Bool, true, false, cond, eqb, Option, Some, None}
use Rattle.std.proofs.lemmas.Bool.{eqb-true}
use Rattle.mach_types.specs.declared.limits.Limits.{Limits}
use Rattle.mach_types.specs.declared.sequences.Area.{Area}
use Rattle.elf_load.specs.Images.{IsImage}
use Rattle.elf_load.specs.Start.{Program}
use Rattle.elf_load.specs.declared.image.Image.{Image}
use Rattle.elf_load.specs.declared.image.ImagePage.{ImagePage}
use Rattle.rv_inst.specs.declared.instruction.Inst.{Inst}
use Rattle.alone_laws.specs.Spans.{code_of}
use Rattle.block_model.specs.History.{History}
use Rattle.block_model.specs.Setting.{Setting}
use Rattle.percpu_lib.specs.Forms.{Form, HoldsBlock, range_of}
use Rattle.percpu_lib.specs.Kinds.{Kind, adds, allocs, form_of, frees, lines_of, pops, pushes}
use Rattle.percpu_lib.specs.RingKinds.{RingKind, gets, puts, ring_form_of, ring_lines_of}
use Rattle.percpu_lib.specs.Words.{AreHeld, AreSlots}
use Rattle.percpu_lib.specs.declared.lines.Line.{Line}
use Rattle.percpu_lib.specs.declared.slots.Slots.{Slots}
use Rattle.urcu_lib.specs.Blocks.{lock_block, sync_block, unlock_block}
use Rattle.urcu_lib.specs.Registers.{AreReadRegs, AreSyncRegs}
use Rattle.urcu_lib.specs.declared.regs.ReadRegs.{ReadRegs}
use Rattle.urcu_lib.specs.declared.regs.SyncRegs.{SyncRegs}
use Rattle.urcu_lib.proofs.LowCode.{AreLow, code_low}
use Rattle.guest_names.specs.declared.names.Name.{Name}
use Rattle.guest_names.specs.declared.names.Name.TheVariants.{Counter, List as Lists, Pool, Dekker, Signals, Migrate, Ring, Urcu as Rcu}
use Rattle.guest_programs.specs.Blocks.{HoldsRcu, ImageHoldsBlock, block_alone, label_of, start_word}
use Rattle.guest_programs.specs.Guests.{HoldsBlocks, IsGuestFile}
use Rattle.guest_programs.specs.LibraryBlocks.{AreOfLibrary, IsBlockInUse, IsOfForm, IsRcu}
use Rattle.guest_programs.specs.Programs.{data_bytes, data_pages}
use Rattle.guest_programs.proofs.Started.{starts}

-- BLOCKS

-- the block of some lines is that of a form: its words, and where its labels stand
record IsBlockOf (form : Form) (lines : List Line) (at : ℕ) : Type 0 where
  pub words : block_alone lines ≡ form.words
  pub start : label_of lines at 1 ≡ (range_of form at).start
  pub length : label_of lines at 2 - label_of lines at 1 ≡ (range_of form at).length
  pub abort : label_of lines at 3 ≡ (range_of form at).abort

module _ (form : Slots → Form) (lines : Slots → ℕ → List Line) (pages : List ImagePage)
    (b : ImageHoldsBlock lines pages) (same : (form b.slots).slots ≡ b.slots)
    (is : IsBlockOf (form b.slots) (lines b.slots 0) b.at) where
  words_stand : AreHeld (code_of pages) b.at (form b.slots).words
  words_stand = subst (λ (block : List (Option Inst)). AreHeld (code_of pages) b.at block) is.words b.stands

  so_held : (s : Setting) (history : History) (area : Area) (t : ℕ) → s.program.pages ≡ pages
      → IsBlockInUse s history (form b.slots) b.at area t → HoldsBlock s history (form b.slots) b.at area t
  so_held s history area t program used_so = record {
    stands = subst (λ (held : List ImagePage). AreHeld (code_of held) b.at (form b.slots).words) (sym program) words_stand;
    slots = subst AreSlots (sym same) b.are_slots;
    some_table = subst (λ (p : Slots). p.table ≢ 0) (sym same) b.some_table;
    low_table = subst (λ (p : Slots). p.table < 0x7FFFF800) (sym same) b.low_table;
    low = b.low;
    low_area = used_so.low_area;
    used = used_so.used;
    processor = used_so.processor;
    few = used_so.few;
    uses = used_so.uses;
  }

  of_form : IsOfForm form lines pages b
  of_form = record {
    stands = words_stand;
    described = record {
      zeros =
          let here : b.slots.table ≡ b.slots.table + 8 * 0 = omega arith in
          ap (start_word pages) here ∙ b.describes 0 0 refl;
      start = b.describes 1 (label_of (lines b.slots 0) b.at 1) refl ∙ ap Some is.start;
      length =
          b.describes 2 (label_of (lines b.slots 0) b.at 2 - label_of (lines b.slots 0) b.at 1) refl
          ∙ ap Some is.length;
      abort = b.describes 3 (label_of (lines b.slots 0) b.at 3) refl ∙ ap Some is.abort;
    };
    holds = so_held;
  }

kind_is : (k : Kind) (p : Slots) (at : ℕ) → IsBlockOf (form_of k p) (lines_of k p 0) at
kind_is adds p at = record { words = refl; start = refl; length = omega arith; abort = refl }
kind_is pushes p at = record { words = refl; start = refl; length = omega arith; abort = refl }
kind_is pops p at = record { words = refl; start = refl; length = omega arith; abort = refl }
kind_is allocs p at = record { words = refl; start = refl; length = omega arith; abort = refl }
kind_is frees p at = record { words = refl; start = refl; length = omega arith; abort = refl }

kind_slots : (k : Kind) (p : Slots) → (form_of k p).slots ≡ p
kind_slots adds p = refl
kind_slots pushes p = refl
kind_slots pops p = refl
kind_slots allocs p = refl
kind_slots frees p = refl

pub block_of_kind : (k : Kind) (pages : List ImagePage) (b : ImageHoldsBlock (lines_of k) pages)
    → IsOfForm (form_of k) (lines_of k) pages b
block_of_kind k pages b = of_form (form_of k) (lines_of k) pages b (kind_slots k b.slots) (kind_is k b.slots b.at)

-- of four words, as the guest has them
abbrev four_lines : RingKind → Slots → ℕ → List Line
four_lines k = ring_lines_of k 4

ring_is : (k : RingKind) (p : Slots) (at : ℕ) → IsBlockOf (ring_form_of k 4 p) (four_lines k p 0) at
ring_is puts p at = record { words = refl; start = refl; length = omega arith; abort = refl }
ring_is gets p at = record { words = refl; start = refl; length = omega arith; abort = refl }

ring_slots : (k : RingKind) (p : Slots) → (ring_form_of k 4 p).slots ≡ p
ring_slots puts p = refl
ring_slots gets p = refl

pub ring_of_kind : (k : RingKind) (pages : List ImagePage) (b : ImageHoldsBlock (four_lines k) pages)
    → IsOfForm (ring_form_of k 4) (four_lines k) pages b
ring_of_kind k pages b =
    of_form (ring_form_of k 4) (four_lines k) pages b (ring_slots k b.slots) (ring_is k b.slots b.at)

-- USER-SPACE RCU

-- what a table has that holds one thing at one address
only_there : {X : Type 0} (P : ℕ → X → Type 0) (there at : ℕ) (x y : X) → P there x
    → cond (eqb at there) (Some x) None ≡ Some y → P at y
only_there P there at x y holds is = by_place (eqb at there) refl is
  where
    by_place : (here : Bool) → eqb at there ≡ here → cond here (Some x) None ≡ Some y → P at y
    by_place true same found =
        let thing : x ≡ y = cc in
        subst (P at) thing (subst (λ (n : ℕ). P n x) (sym (eqb-true at there same)) holds)
    by_place false other found = absurd cc

pub rcu_blocks : (pages : List ImagePage) → AreLow pages → (b : HoldsRcu pages) → IsRcu pages b
rcu_blocks pages low b counter slots reader words =
    let code = code_of pages in
    record {
      locks = λ at r is. only_there (λ n (x : ReadRegs). AreHeld code n (lock_block x)) b.lock_at at b.read r b.locks is;
      unlocks = λ at r is. only_there (λ n (x : ReadRegs). AreHeld code n (unlock_block x)) b.unlock_at at b.read r b.unlocks is;
      syncs = λ at r is. only_there (λ n (x : SyncRegs). AreHeld code n (sync_block x b.readers)) b.sync_at at b.sync r b.syncs is;
      low = code_low pages low;
      lock_regs = λ at r is. only_there (λ n (x : ReadRegs). AreReadRegs x) b.lock_at at b.read r b.are_read is;
      unlock_regs = λ at r is. only_there (λ n (x : ReadRegs). AreReadRegs x) b.unlock_at at b.read r b.are_read is;
      sync_regs = λ at r is. only_there (λ n (x : SyncRegs). AreSyncRegs x) b.sync_at at b.sync r b.are_sync is;
      one = λ at r is. b.some;
      few = λ at r is. b.few;
      counted = λ at r is. omega arith;
      low_slots = words.low_slots;
      low_counter = words.low_counter;
      apart = words.apart;
    }

-- MADE FILES

low_data : (count number : ℕ) (bytes : List ℕ) → number + count < 2 ^ 40 → AreLow (data_pages number bytes count)
low_data zero number bytes few = tt
low_data (suc count) number bytes few = (omega arith, low_data count (number + 1) [] (omega arith))

made_low : (name : Name) (n : ℕ) (file : List ℕ) → IsGuestFile name n file → (image : Image) → IsImage file image
    → AreLow image.pages.items
made_low name n file made image is =
    let limits : Limits = record { harts = 1; frames = 4096; steps = 1 } in
    let exact = made.exact in
    let same = starts name n file exact image is limits in
    subst AreLow (sym (ap (λ (p : Program). p.pages) same))
    (omega arith, low_data 48 0x20 (data_bytes exact.asm n) (omega arith))

of_guest : (name : Name) (pages : List ImagePage) → AreLow pages → (b : HoldsBlocks name pages)
    → AreOfLibrary name pages b
of_guest Counter pages low b = block_of_kind adds pages b
of_guest Lists pages low b = (block_of_kind pushes pages b.0, block_of_kind pops pages b.1)
of_guest Pool pages low b = (block_of_kind allocs pages b.0, block_of_kind frees pages b.1)
of_guest Dekker pages low b = tt
of_guest Signals pages low b = block_of_kind adds pages b
of_guest Migrate pages low b = block_of_kind adds pages b
of_guest Ring pages low b = (ring_of_kind puts pages b.0, ring_of_kind gets pages b.1)
of_guest Rcu pages low b = rcu_blocks pages low b

pub made_blocks : (name : Name) (n : ℕ) (file : List ℕ) → (made : IsGuestFile name n file) → (image : Image)
    → (is : IsImage file image) → AreOfLibrary name image.pages.items (made.holds image is)
made_blocks name n file made image is =
    of_guest name image.pages.items (made_low name n file made image is) (made.holds image is)
