-- The courses of ring blocks, and when they are done.
use Rattle.std.proofs.Common.{◌≡◌, ℕ, zero, suc, ◌+◌, ◌*◌, ◌<◌, ◌≤◌, ◌^◌, List, ◌++◌, refl, arith, subst, Some, pos}
use Rattle.mach_types.specs.declared.events.Entry.{Entry}
use Rattle.mach_types.specs.declared.sequences.Area.{Area}
use Rattle.block_model.specs.Deciding.{history}
use Rattle.block_model.specs.History.{file, running}
use Rattle.block_model.specs.Run.{IsBlockRun}
use Rattle.block_model.specs.Setting.{Setting}
use Rattle.elf_load.specs.declared.image.ImagePage.{ImagePage}
use Rattle.alone_laws.specs.Pointers.{LiesBeside}
use Rattle.alone_laws.specs.Spans.{code_of}
use Rattle.alone_laws.specs.Undisturbed.{Brings, IsUndisturbed, executed_on}
use Rattle.alone_laws.specs.Uses.{AlwaysOutside, CanAlwaysBegin, Placed}
use Rattle.percpu_lib.specs.Beside.{IsOfLibrary}
use Rattle.percpu_lib.specs.Forms.{HoldsBlock, IsCommitted, committed, placed_of}
use Rattle.percpu_lib.specs.RingKinds.{RingKind, gets, puts, ring_form_of}
use Rattle.percpu_lib.specs.Words.{AreHeld}
use Rattle.percpu_lib.specs.declared.slots.Slots.{Slots}
use Rattle.percpu_lib.proofs.BesideLaw.{beside}
use Rattle.percpu_lib.proofs.BlockCode.{IsFormed}
use Rattle.percpu_lib.proofs.BlockCourse.{AsksFirst, IsCopy, comes_to_commit}
use Rattle.percpu_lib.proofs.Courses.{HasCourse}
use Rattle.percpu_lib.proofs.RingFormed.{get_formed, put_formed}
use Rattle.percpu_lib.proofs.RingGetLaw.{get_course}
use Rattle.percpu_lib.proofs.RingLaw.{place_by}
use Rattle.percpu_lib.proofs.RingPutLaw.{put_course}

-- THE WORDS BEFORE THE SEQUENCE

first_copies : (k : RingKind) (count : ℕ) (p : Slots) (n : ℕ) → n < 1 → IsCopy (ring_form_of k count p) n
first_copies puts count p zero lt =
    record { rd = 28; rs = p.value; imm = pos 0; there = refl; scratch = refl; some = refl; low = omega arith }
first_copies gets count p zero lt =
    record { rd = 28; rs = p.value; imm = pos 0; there = refl; scratch = refl; some = refl; low = omega arith }
first_copies k count p (suc n) lt = absurd (omega arith)

pub ring_asks : (k : RingKind) (count : ℕ) (p : Slots) → AsksFirst (ring_form_of k count p) 1
ring_asks puts count p =
    record { all = refl; copies = first_copies puts count p; lw = refl; lui = refl; addi = refl; store = refl }
ring_asks gets count p =
    record { all = refl; copies = first_copies gets count p; lw = refl; lui = refl; addi = refl; store = refl }

-- no sequence of a block of the library has a word of a ring block before its sequence
pub ring_lies_beside : (k : RingKind) (count : ℕ) (pages : List ImagePage) (p : Slots) (at : ℕ) (area : Area)
    (other : Placed) → AreHeld (code_of pages) at (ring_form_of k count p).words → at < 2 ^ 37
    → IsOfLibrary (code_of pages) other → LiesBeside (placed_of (ring_form_of k count p) at area) other
ring_lies_beside k count pages p at area other held low its =
    beside pages (ring_form_of k count p) 1 (ring_asks k count p) (omega arith) at area other held low its

-- THE COURSES

pub ring_formed : (k : RingKind) (count : ℕ) → count ≤ 4 → (p : Slots) → IsFormed (ring_form_of k count p)
ring_formed puts count few p = put_formed count few p
ring_formed gets count few p = get_formed count few p

module _ (count : ℕ) (some : 1 ≤ count) (few : count ≤ 4) (p : Slots) where
  pub ring_course : (k : RingKind) → HasCourse (ring_form_of k count p)
  ring_course puts = record {
    formed = put_formed count few p;
    course = λ s at area h t begun held slots place.
        put_course (place_by puts s count some few p at area h t begun held slots place);
  }
  ring_course gets = record {
    formed = get_formed count few p;
    course = λ s at area h t begun held slots place.
        get_course (place_by gets s count some few p at area h t begun held slots place);
  }

  -- WHEN THEY ARE DONE

  last_is : (k : RingKind) → suc (17 + 6 * count) ≡ committed (ring_form_of k count p)
  last_is puts = omega arith
  last_is gets = omega arith

  pub ring_comes_to_end : (k : RingKind) (s : Setting) (at : ℕ) (area : Area) (h t : ℕ) (log rest : List Entry)
      → IsBlockRun s (log ++ rest) → HoldsBlock s (history s (log ++ rest)) (ring_form_of k count p) at area t
      → CanAlwaysBegin s (placed_of (ring_form_of k count p) at area) t (history s (log ++ rest))
      → AlwaysOutside s (placed_of (ring_form_of k count p) at area) t (history s (log ++ rest))
      → running s h (history s log) ≡ Some t → (file s t (history s log)).pc ≡ at → IsUndisturbed h rest
      → committed (ring_form_of k count p) ≤ executed_on h rest
      → Brings s h (committed (ring_form_of k count p)) (IsCommitted s (ring_form_of k count p) at h t) log rest
  ring_comes_to_end k s at area h t log rest run held begins outside runs pc calm =
      subst (λ n. n ≤ executed_on h rest → Brings s h n (IsCommitted s (ring_form_of k count p) at h t) log rest)
      (last_is k)
      (λ many. comes_to_commit s (ring_form_of k count p) at area h t (ring_course k) 1 (ring_asks k count p)
      (17 + 6 * count) (last_is k) log rest run held begins outside runs pc calm many)

pub few_words : (k : RingKind) (count : ℕ) (p : Slots) → count ≤ 4 → committed (ring_form_of k count p) ≤ 64
few_words puts count p few = omega arith
few_words gets count p few = omega arith
