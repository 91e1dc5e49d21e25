-- Worked examples, proved by computation: interruptions of a thread inside and outside its sequence, rseq(2) and its refusals, and
-- a call inside a sequence.
use Rattle.block_model.proofs.Common.{◌≡◌, ℕ, Bool, false, List, [], ◌∷◌, ◌++◌, replicate, map, refl, Option, Some, None, Area, Done, EFAULT, EINVAL, EPERM, End, Here, IsWholeHistory, Killed, SIGSEGV, Saved, Setting, Stored, Write, are_readable, called_here, done_run, here_in_history, interruption_here, negative, next_id, no_registers, number_at, register, sequence_on, with_register}
use Rattle.mach_types.specs.declared.errors.TheConstants.{EBUSY}
use Rattle.mach_types.specs.declared.sequences.BadWhy.TheVariants as bad
use Rattle.mach_types.specs.declared.sequences.Outcome.TheVariants as comes_to
use Rattle.mach_types.specs.Kernel.Areas.{word_stored}
use Rattle.block_model.specs.Calls.Sequences.{rseq}
use Rattle.block_model.specs.Ids.{is_running}

-- the first bytes of a page of data at 0x20000: an area, which names the descriptor behind it, at 0x20020. Its sequence begins at
-- 0x100B0, has 16 bytes, and its abort handler at 0x20044 stands behind the signature 0xF1401073
abbrev page_of_data : List ℕ
page_of_data =
    0 ∷ 0 ∷ 0 ∷ 0 ∷ 0 ∷ 0 ∷ 0 ∷ 0 ∷ 0x20 ∷ 0 ∷ 2 ∷ 0 ∷ 0 ∷ 0 ∷ 0 ∷ 0 ∷
    0 ∷ 0 ∷ 0 ∷ 0 ∷ 0 ∷ 0 ∷ 0 ∷ 0 ∷ 0 ∷ 0 ∷ 0 ∷ 0 ∷ 0 ∷ 0 ∷ 0 ∷ 0 ∷
    0 ∷ 0 ∷ 0 ∷ 0 ∷ 0 ∷ 0 ∷ 0 ∷ 0 ∷ 0xB0 ∷ 0 ∷ 1 ∷ 0 ∷ 0 ∷ 0 ∷ 0 ∷ 0 ∷
    16 ∷ 0 ∷ 0 ∷ 0 ∷ 0 ∷ 0 ∷ 0 ∷ 0 ∷ 0x44 ∷ 0 ∷ 2 ∷ 0 ∷ 0 ∷ 0 ∷ 0 ∷ 0 ∷
    0x73 ∷ 0x10 ∷ 0x40 ∷ 0xF1 ∷ []

-- a program with a page of code, that page of data, which may be written, and a page that can only be read, at 0x21000
abbrev pub program : Setting
program = record {
  program = record {
    pages = record { number = 0x10; perm = 5; bytes = replicate 0xB0 0 } ∷ record { number = 0x20; perm = 6; bytes = page_of_data } ∷ record { number = 0x21; perm = 4; bytes = [] } ∷ [];
    entry = 0x100B0;
    phdr = 0x10040;
    phnum = 3;
    break_at = 0x22000;
  };
  limits = record { harts = 2; frames = 128; steps = 200000 };
}

-- thread 1 at a pc at the start, with an area there, and hart 1 is asked
abbrev with_area_at : ℕ → ℕ → ℕ → Here
with_area_at at sig pc =
    let here = here_in_history program [] 1 in
    record here {
      file = λ t. record { file = no_registers; pc = pc };
      kernel = record here.kernel { areas = (1, record { at = at; sig = sig }) ∷ [] };
    }

abbrev stands_at : ℕ → Here
stands_at pc = with_area_at 0x20000 0xF1401073 pc

-- INTERRUPTIONS

-- the address behind the last instruction is outside; another signature, and no area
interruptions :
    (map (λ pc. interruption_here (stands_at pc) 1) (0x100B0 ∷ 0x100BC ∷ []) ≡ comes_to.Aborted 0x20044 ∷ comes_to.Aborted 0x20044 ∷ [])  -- inside
    × (map (λ pc. interruption_here (stands_at pc) 1) (0x100AC ∷ 0x100C0 ∷ []) ≡ comes_to.Cleared ∷ comes_to.Cleared ∷ [])  -- outside
    × (interruption_here (with_area_at 0x20000 0xF1401072 0x100B0) 1 ≡ comes_to.Killed bad.Signature)  -- badly signed
    × (interruption_here (stands_at 0x100B0) 2 ≡ comes_to.Nothing)  -- without area
unfolding are_readable number_at
interruptions = (refl, refl, refl, refl)

-- the pointer becomes 0, and then the words are those of hart 1, where no other thread runs
abbrev words : List Write
words = word_stored 0x20000 1 ∷ word_stored 0x20004 1 ∷ word_stored 0x20014 0 ∷ word_stored 0x20018 0 ∷ []

abbrev cleared : List Write
cleared = Stored (record { at = 0x20008; size = 8; value = 0 }) ∷ []

abbrev pub pcs : List (ℕ × Saved) → List (ℕ × ℕ)
pcs files = map (λ pair. (pair.0, pair.1.pc)) files

begun_in_sequence :
    ((done_run (stands_at 0x100B0) 1).entered ≡ cleared ++ words)  -- begins inside
    × (pcs (done_run (stands_at 0x100B0) 1).files ≡ (1, 0x20044) ∷ [])  -- goes to its handler
unfolding are_readable number_at
begun_in_sequence = (refl, refl)

-- its registers stay: a0 of each thread is its number
abbrev numbered_at : ℕ → Here
numbered_at pc = record (stands_at pc) { file = λ t. record { file = with_register no_registers 10 t; pc = pc } }

files_of_begun :
    ((done_run (numbered_at 0x100B0) 1).files ≡ (1, record { file = with_register no_registers 10 1; pc = 0x20044 }) ∷ [])  -- keeps its registers
    × (pcs (done_run (stands_at 0x100C0) 1).files ≡ [])  -- stays where it was
unfolding are_readable number_at
files_of_begun = (refl, refl)

-- a thread that is killed doesn't begin to run, and nothing is written
abbrev result : Done → Bool × List Write × Option End
result d = (is_running 1 d.kernel.threads, d.entered, d.ended)

-- the same where its words can't be written
killed_when_begun :
    (result (done_run (with_area_at 0x20000 0xF1401072 0x100B0) 1) ≡ (false, [], Some (Killed SIGSEGV)))  -- killed by its signature
    × (result (done_run (with_area_at 0x21000 0xF1401073 0x100B0) 1) ≡ (false, [], Some (Killed SIGSEGV)))  -- killed by its page
unfolding are_readable number_at
killed_when_begun = (refl, refl)

-- IDS

-- the next id is the least that isn't held
next_ids : map next_id ([] ∷ ((1, 0) ∷ []) ∷ ((3, 1) ∷ []) ∷ ((1, 0) ∷ (2, 2) ∷ (3, 1) ∷ []) ∷ []) ≡ 0 ∷ 1 ∷ 0 ∷ 3 ∷ []
next_ids = refl

-- CALLS

-- rseq(area, 32, flags, sig) of thread 1, which has this area or none
abbrev asks : List (ℕ × Area) → ℕ → ℕ → ℕ → ℕ → Here
asks areas at len flags sig =
    let here = here_in_history program [] 1 in
    record here {
      file = λ t. record {
        file = with_register (with_register (with_register (with_register (with_register no_registers 17 293) 10 at) 11 len) 12 flags) 13 sig;
        pc = 0x10080;
      };
      kernel = record here.kernel { areas = areas };
    }

abbrev answer_in : List (ℕ × Saved) → ℕ
answer_in [] = 0
answer_in (pair ∷ pairs) = register pair.1.file 10

abbrev answer : Here → ℕ
answer here = answer_in (rseq here 1).files

abbrev held : List (ℕ × Area)
held = (1, record { at = 0x20000; sig = 7 }) ∷ []

-- each refusal: flags, length, pointer 0, a pointer that isn't aligned, and one past the end of addresses; of a thread that has an
-- area: another area, another signature, and the same again; an area whose words can't be written: the process is killed, and no
-- area is registered; unregistration, and each of its refusals: none registered, other flags, another area, another signature
registration_calls :
    ((rseq (asks [] 0x20000 32 0 7) 1).kernel.areas ≡ held)  -- registers an area
    × ((rseq (asks [] 0x20000 32 0 7) 1).entered ≡ words)  -- writes its words
    × (map answer (asks [] 0x20000 32 2 7 ∷ asks [] 0x20000 33 0 7 ∷ asks [] 0 32 0 7 ∷ asks [] 0x20010 32 0 7 ∷ asks [] 0x4000000000 32 0 7 ∷ [])
    ≡ negative EINVAL.0 ∷ negative EINVAL.0 ∷ negative EINVAL.0 ∷ negative EINVAL.0 ∷ negative EFAULT.0 ∷ [])  -- refused first
    × (map answer (asks held 0x20020 32 0 7 ∷ asks held 0x20000 32 0 8 ∷ asks held 0x20000 32 0 7 ∷ [])
    ≡ negative EINVAL.0 ∷ negative EPERM.0 ∷ negative EBUSY.0 ∷ [])  -- refused again
    × ((rseq (asks [] 0x21000 32 0 7) 1).ended ≡ Some (Killed SIGSEGV))  -- killed by registration
    × ((rseq (asks [] 0x21000 32 0 7) 1).kernel.areas ≡ [])  -- registers none then
    × ((rseq (asks held 0x20000 32 1 7) 1).kernel.areas ≡ [])  -- unregisters it
    × ((rseq (asks held 0x20000 32 1 7) 1).entered
    ≡ word_stored 0x20000 0 ∷ word_stored 0x20004 0xFFFFFFFF ∷ word_stored 0x20014 0 ∷ word_stored 0x20018 0 ∷ [])  -- writes no processor
    × (map answer (asks [] 0x20000 32 1 7 ∷ asks held 0x20000 32 3 7 ∷ asks held 0x20020 32 1 7 ∷ asks held 0x20000 32 1 8 ∷ [])
    ≡ negative EINVAL.0 ∷ negative EINVAL.0 ∷ negative EINVAL.0 ∷ negative EPERM.0 ∷ [])  -- refused unregistration
registration_calls = (refl, refl, refl, refl, refl, refl, refl, refl, refl)

-- a call inside a sequence kills the process, and one outside doesn't
calls_by_place :
    ((called_here (stands_at 0x100B4) 1).ended ≡ Some (Killed SIGSEGV))  -- call inside
    × ((called_here (stands_at 0x100C0) 1).ended ≡ None)  -- call outside
unfolding are_readable number_at
calls_by_place = (refl, refl)

-- no sequence at the start
none_at_start : sequence_on program 0 [] ≡ None
none_at_start = refl

abbrev WholeAtStart : Type 0
WholeAtStart = IsWholeHistory program []
