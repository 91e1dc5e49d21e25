-- Worked examples, proved by computation: calls that map, remove, protect and drop pages, and what holds them up; and random bytes.
use Rattle.block_model.proofs.Common.{◌≡◌, ℕ, ◌-◌, ◌^◌, List, [], ◌∷◌, map, replicate, refl, true, false, cond, eqb, Option, Some, None, Here, Neighbour, Others, Saved, Why, Zeroed, called, count_pages, here_in_history, is_held, is_storable, lowest_hole, memory, no_registers, others_gate, paged, permission_at, reached, register, with_register}
use Rattle.mach_types.specs.Kernel.Barriers.{none_registered}
use Rattle.mach_types.specs.Kernel.PageCalls.{break_moved}
use Rattle.mach_types.specs.Kernel.Pages.{each_page, first_page}
use Rattle.rv_inst.specs.declared.effects.Effect.TheVariants as effect
use Rattle.block_model.specs.Calls.Answers.{byte_written, double_written}
use Rattle.block_model.proofs.ExamplePrograms.{code_and_data, within_frames}

-- a call of thread 1 at the start, with a number and arguments
abbrev calls : ℕ → ℕ → ℕ → ℕ → ℕ → Here
calls number a0 a1 a2 a3 = record (here_in_history (within_frames 128 (code_and_data [])) [] 0) {
  file = λ t. record {
    file = with_register (with_register (with_register (with_register (with_register no_registers 17 number) 10 a0) 11 a1) 12 a2) 13 a3;
    pc = 0x10080;
  };
}

abbrev answer_in : List (ℕ × Saved) → ℕ
answer_in [] = 0
answer_in (p ∷ ps) = register p.1.file 10

abbrev answer : Here → ℕ
answer here = answer_in (called here 1).files

abbrev error : ℕ → ℕ
error errno = 2 ^ 64 - errno

-- mmap: MAP_PRIVATE and MAP_ANONYMOUS must be given, and MAP_NORESERVE, MAP_POPULATE and MAP_STACK may be; the address is ignored;
-- a bad flag comes before pages that could be executed, and those before a want of frames; the pages that are mapped are written as
-- one run of zeros
mmap_calls :
    (answer (calls 222 0x5000 4096 3 0x22) ≡ 0x2000000000)  -- mmap answers
    × (answer (calls 222 0 4096 3 0x2C022) ≡ 0x2000000000)  -- mmap ignores flags
    × (answer (calls 222 0 4096 3 0x21) ≡ error 22)  -- mmap knows no shared
    × (answer (calls 222 0 4096 3 0x32) ≡ error 22)  -- mmap knows no fixed
    × (answer (calls 222 0 4096 4 0) ≡ error 22)  -- mmap flags first
    × (answer (calls 222 0 0x40000000 3 0) ≡ error 22)  -- mmap flags before frames
    × (answer (calls 222 0 0x40000000 4 0x22) ≡ error 13)  -- mmap no code
    × (answer (calls 222 0 0x3E000 3 0x22) ≡ error 12)  -- mmap lacks frames
    × ((called (calls 222 0 4097 3 0x22) 1).entered ≡ Zeroed 0x2000000000 0x2000 ∷ [])  -- mmap writes zeros
unfolding lowest_hole first_page each_page count_pages
mmap_calls = (refl, refl, refl, refl, refl, refl, refl, refl, refl)

-- brk always answers the break: a growth by a byte maps a page of zeros; nothing is below the program's own break
brk_answers :
    (answer (calls 214 0x21001 0 0 0) ≡ 0x21001)  -- brk grows
    × ((called (calls 214 0x21001 0 0 0) 1).entered ≡ Zeroed 0x21000 0x1000 ∷ [])  -- brk writes zeros
    × (answer (calls 214 0 0 0 0) ≡ 0x21000)  -- brk stays
    × ((called (calls 214 0 0 0 0) 1).entered ≡ [])  -- brk writes nothing
    × (answer (calls 214 0x5E001 0 0 0) ≡ 0x21000)  -- brk lacks frames
unfolding lowest_hole first_page each_page count_pages
brk_answers = (refl, refl, refl, refl, refl)

-- munmap and mprotect: the page of code stays; a page that isn't mapped may be removed, and can't be protected
munmap_and_mprotect :
    (answer (calls 215 0x20000 4096 0 0) ≡ 0)  -- munmap answers
    × (answer (calls 215 0x10000 4096 0 0) ≡ error 13)  -- munmap no code
    × (answer (calls 215 0x30000 4096 0 0) ≡ 0)  -- munmap of a hole
    × ((called (calls 215 0x20000 1 0 0) 1).kernel.pages.free ≡ 62)  -- munmap frees
    × (answer (calls 226 0x20000 4096 1 0) ≡ 0)  -- mprotect answers
    × (permission_at (called (calls 226 0x20000 4096 1 0) 1).kernel.pages 0x20FFF ≡ Some 4)  -- mprotect lets read
    × (answer (calls 226 0x30000 4096 1 0) ≡ error 12)  -- mprotect of a hole
    × (answer (calls 226 0x10000 4096 1 0) ≡ error 13)  -- mprotect no code
    × (answer (calls 226 0x30000 0 99 0) ≡ 0)  -- mprotect of nothing
unfolding lowest_hole first_page each_page count_pages
munmap_and_mprotect = (refl, refl, refl, refl, refl, refl, refl, refl, refl)

-- where a store of 8 bytes to 0x20FF8 waits on hart 1, hart 0 may not remove or protect its page
abbrev beside_store : Here → Here
beside_store here = record here { waiting = λ k. cond (eqb k 1) (record { at = 0x20FF8; size = 8; value = 7 } ∷ []) [] }

abbrev held : Here → Option Why
held here = others_gate (is_held (beside_store here) 1) (Some effect.Call)

-- a call that is refused takes no page, nor does one of other pages or that maps pages
held_up_calls :
    (held (calls 215 0x20000 4096 0 0) ≡ Some Others)  -- munmap is held
    × (held (calls 226 0x20000 4096 3 0) ≡ Some Others)  -- mprotect is held
    × (held (calls 226 0x20000 8192 1 0) ≡ None)  -- refused is not held
    × (held (calls 215 0x21000 4096 0 0) ≡ None)  -- other page is not held
    × (held (calls 222 0 4096 3 0x22) ≡ None)  -- mmap is not held
    × (held (calls 214 0x22000 0 0 0) ≡ None)  -- brk that grows is not held
unfolding lowest_hole first_page each_page count_pages
held_up_calls = (refl, refl, refl, refl, refl, refl)

-- the break stands two pages above the lowest, and a store of 8 bytes to 0x21FF8 waits on hart 1
abbrev grown : Here → Here
grown here = record here {
  kernel = paged (break_moved 0x21000 0x23000 here.kernel.pages) here.kernel;
  waiting = λ k. cond (eqb k 1) (record { at = 0x21FF8; size = 8; value = 7 } ∷ []) [];
}

abbrev held_grown : Here → Option Why
held_grown here = others_gate (is_held (grown here) 1) (Some effect.Call)

-- a break that falls below the page is held up; one that stays on it isn't, nor is one that would lie below the lowest
brk_held_up :
    (held_grown (calls 214 0x21000 0 0 0) ≡ Some Others)  -- brk that falls is held
    × (held_grown (calls 214 0x21008 0 0 0) ≡ None)  -- brk within the page is not held
    × (held_grown (calls 214 0x20000 0 0 0) ≡ None)  -- refused brk is not held
unfolding lowest_hole first_page each_page count_pages
brk_held_up = (refl, refl, refl)

-- BESIDE ANOTHER PROCESS

-- with another process on the machine, the bytes of whose segment are 7; and a store of 8 bytes to the segment waits on hart 1
abbrev neighbour : Neighbour
neighbour = record { shared = λ a. 7; registered = none_registered; running = 2 }

abbrev shares : Here → Here
shares here = record here {
  waiting = λ k. cond (eqb k 1) (record { at = 0x3FFFF8FFF8; size = 8; value = 9 } ∷ []) [];
  beside = Some neighbour;
}

-- instructions reach each byte of the segment and no other one past the pages; a call finds no page there
abbrev at_edges : (ℕ → Option ℕ) → List (Option ℕ)
at_edges byte = map byte (0x3FFFF7FFFF ∷ 0x3FFFF80000 ∷ 0x3FFFF8FFFF ∷ 0x3FFFF90000 ∷ [])

the_segment :
    (at_edges (reached (shares (calls 64 0 0 0 0))) ≡ None ∷ Some 7 ∷ Some 7 ∷ None ∷ [])  -- is read
    × (map (is_storable (shares (calls 64 0 0 0 0))) (0x3FFFF7FFFF ∷ 0x3FFFF80000 ∷ 0x3FFFF8FFFF ∷ 0x3FFFF90000 ∷ []) ≡ false ∷ true ∷ true ∷ false ∷ [])  -- is written
    × (at_edges (memory (shares (calls 64 0 0 0 0))) ≡ replicate 4 None)  -- has no page
    × (answer (shares (calls 64 1 0x3FFFF80000 8 0)) ≡ error 14)  -- write(2) of it
the_segment = (refl, refl, refl, refl)

-- munmap of where it lies removes nothing, so that no store there holds it up; one of a page is held up as ever
munmap_of_segment :
    (others_gate (is_held (shares (calls 215 0x3FFFF80000 0x10000 0 0)) 1) (Some effect.Call) ≡ None)  -- not held
    × (answer (shares (calls 215 0x3FFFF80000 0x10000 0 0)) ≡ 0)  -- answers
    × (others_gate (is_held (record (beside_store (calls 215 0x20000 4096 0 0)) { beside = Some neighbour }) 1) (Some effect.Call) ≡ Some Others)  -- page held
unfolding lowest_hole first_page each_page count_pages
munmap_of_segment = (refl, refl, refl)

-- rseq(2) isn't there
no_areas : answer (shares (calls 293 0x20000 32 0 0x53053053)) ≡ error 38
no_areas = refl

-- madvise, where the break stands two pages above the lowest: advice that isn't there comes first, then an address within a page and
-- pages past the last address; no bytes are no error; then pages that aren't there, and the program's own, which advice alone may
-- name; of a page of the heap one byte is named, and it is dropped whole
abbrev advise : ℕ → ℕ → ℕ → Here
advise p len advice = grown (calls 233 p len advice 0)

madvise_answers :
    (answer (advise 0x21001 4096 5) ≡ error 22)  -- no such advice
    × (answer (advise 0x21001 0 4) ≡ error 22)  -- within a page
    × (answer (advise 0xFFFFFFFFFFFFF000 1 3) ≡ error 22)  -- past the last address
    × (answer (advise 0xFFFFFFFFFFFFF000 0 4) ≡ 0)  -- of nothing
    × (answer (advise 0x23000 1 3) ≡ error 12)  -- of a hole
    × (answer (advise 0x20000 1 4) ≡ error 22)  -- drops no page of the program
    × (answer (advise 0x20000 1 3) ≡ 0)  -- advises one
    × (answer (advise 0x22000 1 4) ≡ 0)  -- drops
    × ((called (advise 0x22000 1 4) 1).entered ≡ Zeroed 0x22000 0x1000 ∷ [])  -- writes zeros
    × ((called (advise 0x22000 1 8) 1).entered ≡ [])  -- frees none
    × (others_gate (is_held (advise 0x21000 1 4) 1) (Some effect.Call) ≡ Some Others)  -- is held up by a store
    × (others_gate (is_held (advise 0x21000 1 8) 1) (Some effect.Call) ≡ None)  -- but not other advice
unfolding lowest_hole first_page each_page count_pages
madvise_answers = (refl, refl, refl, refl, refl, refl, refl, refl, refl, refl, refl, refl)

-- getrandom: the words are those of SplitMix64 from 0 on; of 11 bytes the last three are the lowest of the second word; what is
-- refused leaves the generator
getrandom_answers :
    ((called (calls 278 0x20000 11 0 0) 1).entered
    ≡ double_written 0x20000 0xE220A8397B1DCDAF ∷ byte_written 0x20008 0xF4 ∷ byte_written 0x20009 0x65 ∷ byte_written 0x2000A 0xB9 ∷ [])  -- writes
    × (answer (calls 278 0x20000 11 0 0) ≡ 11)  -- answers
    × ((called (calls 278 0x20000 11 0 0) 1).kernel.random ≡ 0x3C6EF372FE94F82A)  -- goes on
    × (answer (calls 278 0x20000 1 6 0) ≡ error 22)  -- two flags
    × (answer (calls 278 0x10000 8 1 0) ≡ error 14)  -- can't be written
    × ((called (calls 278 0x10000 8 1 0) 1).kernel.random ≡ 0)  -- stays
    × (answer (calls 278 0x20000 5000 4 0) ≡ 256)  -- gives less
getrandom_answers = (refl, refl, refl, refl, refl, refl, refl)
