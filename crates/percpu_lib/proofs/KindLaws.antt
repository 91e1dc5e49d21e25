-- The courses of all blocks, when they are done, and on what their retries work.
use Rattle.std.proofs.Common.{◌≡◌, ℕ, zero, suc, ◌+◌, ◌*◌, ◌<◌, ◌≤◌, ◌%◌, ◌^◌, ◌⊎◌, List, ◌++◌, refl, ap}
use Rattle.std.proofs.Common.{arith, subst, true, Some, pos}
use Rattle.std.proofs.lemmas.Bool.{false≢true}
use Rattle.mach_types.specs.Registers.{register}
use Rattle.mach_types.specs.declared.events.Entry.{Entry}
use Rattle.mach_types.specs.declared.sequences.Area.{Area}
use Rattle.block_model.specs.Deciding.{history}
use Rattle.block_model.specs.History.{file, running}
use Rattle.block_model.specs.Run.{IsBlockRun}
use Rattle.block_model.specs.Setting.{Setting}
use Rattle.elf_load.specs.declared.image.ImagePage.{ImagePage}
use Rattle.alone_laws.specs.Pointers.{LiesBeside}
use Rattle.alone_laws.specs.Retries.{Retries}
use Rattle.alone_laws.specs.Spans.{code_of}
use Rattle.alone_laws.specs.Undisturbed.{Brings, IsUndisturbed, executed_on}
use Rattle.alone_laws.specs.Uses.{AlwaysOutside, CanAlwaysBegin, Placed}
use Rattle.percpu_lib.specs.Beside.{IsOfLibrary}
use Rattle.percpu_lib.specs.Forms.{HoldsBlock, IsCommitted, SharesAreaWith, committed, placed_of}
use Rattle.percpu_lib.specs.Frees.{free_form}
use Rattle.percpu_lib.specs.Kinds.{Kind, adds, allocs, form_of, frees, pops, pushes, takes_in}
use Rattle.percpu_lib.specs.Pushes.{push_form}
use Rattle.percpu_lib.specs.Uses.{add_form}
use Rattle.percpu_lib.specs.Words.{AreHeld}
use Rattle.percpu_lib.specs.declared.slots.Slots.{Slots}
use Rattle.percpu_lib.proofs.AddLaw.{add_course}
use Rattle.percpu_lib.proofs.AllocLaw.{alloc_course}
use Rattle.percpu_lib.proofs.BesideLaw.{beside}
use Rattle.percpu_lib.proofs.BlockCourse.{AsksFirst, IsCopy, comes_to_commit}
use Rattle.percpu_lib.proofs.BlockRetries.{value_stays}
use Rattle.percpu_lib.proofs.Courses.{HasCourse}
use Rattle.percpu_lib.proofs.FreeLaw.{free_course}
use Rattle.percpu_lib.proofs.FreeRetries.{freed_bits_stay, freed_value_stays}
use Rattle.percpu_lib.proofs.PopLaw.{pop_course}
use Rattle.percpu_lib.proofs.PushLaw.{push_course}
use Rattle.percpu_lib.proofs.ShareLaw.{outside_before}

pub course_of_kind : (k : Kind) (p : Slots) → HasCourse (form_of k p)
course_of_kind adds p = add_course p
course_of_kind pushes p = push_course p
course_of_kind pops p = pop_course p
course_of_kind allocs p = alloc_course p
course_of_kind frees p = free_course p

-- so many words copy before the area is asked for the processor
abbrev pub lead_of : Kind → ℕ
lead_of frees = 1
lead_of other = 0

free_copies : (p : Slots) (k : ℕ) → k < 1 → IsCopy (free_form p) k
free_copies p zero lt = record {
  rd = 28;
  rs = p.value;
  imm = pos 0;
  there = refl;
  scratch = refl;
  some = refl;
  low = omega arith;
}
free_copies p (suc k) lt = absurd (omega arith)

pub asks_first : (k : Kind) (p : Slots) → AsksFirst (form_of k p) (lead_of k)
asks_first adds p = record { all = refl; copies = λ n lt. absurd (omega arith); lw = refl; lui = refl; addi = refl; store = refl }
asks_first pushes p = record { all = refl; copies = λ n lt. absurd (omega arith); lw = refl; lui = refl; addi = refl; store = refl }
asks_first pops p = record { all = refl; copies = λ n lt. absurd (omega arith); lw = refl; lui = refl; addi = refl; store = refl }
asks_first allocs p = record { all = refl; copies = λ n lt. absurd (omega arith); lw = refl; lui = refl; addi = refl; store = refl }
asks_first frees p = record { all = refl; copies = free_copies p; lw = refl; lui = refl; addi = refl; store = refl }

-- so many words stand before the post-commit address, and one more
abbrev before_last : Kind → ℕ
before_last adds = 10
before_last pushes = 10
before_last pops = 11
before_last allocs = 15
before_last frees = 17

last_is : (k : Kind) (p : Slots) → suc (before_last k) ≡ committed (form_of k p)
last_is adds p = refl
last_is pushes p = refl
last_is pops p = refl
last_is allocs p = refl
last_is frees p = refl

pub few_words : (k : Kind) (p : Slots) → committed (form_of k p) ≤ 32
few_words adds p = omega arith
few_words pushes p = omega arith
few_words pops p = omega arith
few_words allocs p = omega arith
few_words frees p = omega arith

pub comes_to_end : (k : Kind) (s : Setting) (p : Slots) (at : ℕ) (area : Area) (h t : ℕ)
    (log rest : List Entry)
    → IsBlockRun s (log ++ rest) → HoldsBlock s (history s (log ++ rest)) (form_of k p) at area t
    → CanAlwaysBegin s (placed_of (form_of k p) at area) t (history s (log ++ rest))
    → AlwaysOutside s (placed_of (form_of k p) at area) t (history s (log ++ rest))
    → running s h (history s log) ≡ Some t → (file s t (history s log)).pc ≡ at → IsUndisturbed h rest
    → committed (form_of k p) ≤ executed_on h rest
    → Brings s h (committed (form_of k p)) (IsCommitted s (form_of k p) at h t) log rest
comes_to_end k s p at area h t log rest run held begins outside runs pc calm =
    subst (λ n. n ≤ executed_on h rest → Brings s h n (IsCommitted s (form_of k p) at h t) log rest)
    (last_is k p)
    (λ many. comes_to_commit s (form_of k p) at area h t (course_of_kind k p) (lead_of k) (asks_first k p)
    (before_last k) (last_is k p) log rest run held begins outside runs pc calm many)

-- and where only blocks and the kernel write the pointer of the area
pub comes_where_shared : (k : Kind) (p : Slots) (s : Setting) (log rest : List Entry) (at : ℕ) (area : Area)
    (h t : ℕ)
    (others : List Placed) → IsBlockRun s (log ++ rest)
    → HoldsBlock s (history s (log ++ rest)) (form_of k p) at area t
    → CanAlwaysBegin s (placed_of (form_of k p) at area) t (history s (log ++ rest))
    → SharesAreaWith s (history s (log ++ rest)) (placed_of (form_of k p) at area) t others
    → running s h (history s log) ≡ Some t → (file s t (history s log)).pc ≡ at → IsUndisturbed h rest
    → committed (form_of k p) ≤ executed_on h rest
    → Brings s h (committed (form_of k p)) (IsCommitted s (form_of k p) at h t) log rest
comes_where_shared k p s log rest at area h t others run held can shares =
    comes_to_end k s p at area h t log rest run held can
    (outside_before s (form_of k p) at area t (course_of_kind k p).formed (history s (log ++ rest)) held
    others
    run.allowed shares can)

-- where the thread is at the retry label or at the start, the value is what it was where the retries began
pub value_comes_in : (k : Kind) (s : Setting) (first log later : List Entry) (p : Slots) (at : ℕ)
    (area : Area) (t : ℕ)
    → takes_in k ≡ true → IsBlockRun s (log ++ later)
    → HoldsBlock s (history s (log ++ later)) (form_of k p) at area t
    → Retries s (placed_of (form_of k p) at area) t first log
    → (k ≡ frees → register (file s t (history s first)).file p.value < 2 ^ 64)
    → ((file s t (history s log)).pc ≡ at) ⊎ ((file s t (history s log)).pc ≡ at + 4 * (form_of k p).first)
    → register (file s t (history s log)).file p.value ≡ register (file s t (history s first)).file p.value
value_comes_in adds s first log later p at area t takes run held retries small there =
    value_stays s (add_form p) at area t (add_course p) held.slots.value first log later run held retries
value_comes_in pushes s first log later p at area t takes run held retries small there =
    value_stays s (push_form p) at area t (push_course p) held.slots.value first log later run held retries
value_comes_in pops s first log later p at area t takes run held retries small there =
    absurd (false≢true takes)
value_comes_in allocs s first log later p at area t takes run held retries small there =
    absurd (false≢true takes)
value_comes_in frees s first log later p at area t takes run held retries small there =
    freed_value_stays s p at area t first log later run held retries there (small refl)

-- and so are its 64 bits
pub bits_come_in : (k : Kind) (s : Setting) (first log later : List Entry) (p : Slots) (at : ℕ) (area : Area)
    (t : ℕ)
    → takes_in k ≡ true → IsBlockRun s (log ++ later)
    → HoldsBlock s (history s (log ++ later)) (form_of k p) at area t
    → Retries s (placed_of (form_of k p) at area) t first log
    → ((file s t (history s log)).pc ≡ at) ⊎ ((file s t (history s log)).pc ≡ at + 4 * (form_of k p).first)
    → register (file s t (history s log)).file p.value % 2 ^ 64
    ≡ register (file s t (history s first)).file p.value % 2 ^ 64
bits_come_in adds s first log later p at area t takes run held retries there =
    ap (λ n. n % 2 ^ 64)
    (value_stays s (add_form p) at area t (add_course p) held.slots.value first log later run held retries)
bits_come_in pushes s first log later p at area t takes run held retries there =
    ap (λ n. n % 2 ^ 64)
    (value_stays s (push_form p) at area t (push_course p) held.slots.value first log later run held retries)
bits_come_in pops s first log later p at area t takes run held retries there = absurd (false≢true takes)
bits_come_in allocs s first log later p at area t takes run held retries there = absurd (false≢true takes)
bits_come_in frees s first log later p at area t takes run held retries there =
    freed_bits_stay s p at area t first log later run held retries there

-- no sequence of a block of the library has a word of another before its sequence
few_copies : (k : Kind) → lead_of k ≤ 1
few_copies adds = omega arith
few_copies pushes = omega arith
few_copies pops = omega arith
few_copies allocs = omega arith
few_copies frees = omega arith

pub lies_beside : (k : Kind) (pages : List ImagePage) (p : Slots) (at : ℕ) (area : Area) (other : Placed)
    → AreHeld (code_of pages) at (form_of k p).words → at < 2 ^ 37 → IsOfLibrary (code_of pages) other
    → LiesBeside (placed_of (form_of k p) at area) other
lies_beside k pages p at area other held low its =
    beside pages (form_of k p) (lead_of k) (asks_first k p) (few_copies k) at area other held low its
