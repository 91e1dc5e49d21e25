-- A program whose pages have low numbers has its instructions at low addresses.
use Rattle.std.proofs.Common.{◌≡◌, ℕ, ◌+◌, ◌/◌, ◌%◌, ◌<◌, ◌≤◌, ◌^◌, List, [], ◌∷◌, arith, refl}
use Rattle.std.proofs.Common.{Bool, true, false, cond, eqb, ltb, leb, map, ◌&&◌, Option, Some, None}
use Rattle.std.proofs.lemmas.Bool.{and_parts, false≢true, ltb-true}
use Rattle.std.specs.List.{AllByRecursion}
use Rattle.mach_types.specs.Bytes.{joined, word_at}
use Rattle.mach_types.specs.Kernel.Pages.{PageRun, can_execute, is_in, permission_of}
use Rattle.elf_load.specs.Start.{code_byte, code_word, image_run, loaded_byte, start_runs}
use Rattle.elf_load.specs.declared.image.ImagePage.{ImagePage}
use Rattle.block_model.specs.Instruction.{instruction_of}
use Rattle.rv_inst.specs.declared.instruction.Inst.{Inst}
use Rattle.alone_laws.specs.Spans.{code_of}

-- pages below 2^40
abbrev pub AreLow : List ImagePage → Type 0
AreLow pages = AllByRecursion (λ (p : ImagePage). p.number < 2 ^ 40) pages

low_runs : (pages : List ImagePage) → AreLow pages
    → AllByRecursion (λ (r : PageRun). r.first + r.count ≤ 2 ^ 40) (map image_run pages)
low_runs [] low = tt
low_runs (p ∷ pages) low = (let one = low.0 in omega arith, low_runs pages low.1)

executed_low : (runs : List PageRun) (n : ℕ)
    → AllByRecursion (λ (r : PageRun). r.first + r.count ≤ 2 ^ 40) runs
    → can_execute (permission_of runs n) ≡ true → n < 2 ^ 40
executed_low [] n low is = absurd (false≢true is)
executed_low (r ∷ rs) n low is = by_run (executed_low rs n low.1) (is_in r n) refl is
  where
    by_run : (can_execute (permission_of rs n) ≡ true → n < 2 ^ 40) → (b : Bool) → is_in r n ≡ b
        → can_execute (cond b r.permission (permission_of rs n)) ≡ true → n < 2 ^ 40
    by_run rest true within lets =
        let end = ltb-true n (r.first + r.count)
        (and_parts (leb r.first n) (ltb n (r.first + r.count)) within).1 in
        let most = low.0 in
        omega arith
    by_run rest false beside lets = rest lets

no_word : (rest : Option ℕ) (i : Inst) → instruction_of (joined None rest) ≡ Some i → ⊥
no_word rest i is = cc

none_fetched : (i : Inst) → instruction_of None ≡ Some i → ⊥
none_fetched i is = cc

pub code_low : (pages : List ImagePage) → AreLow pages → (a : ℕ) (i : Inst) → code_of pages a ≡ Some i
    → a + 4 < 2 ^ 64
code_low pages low a i is = by_place (eqb (a % 4) 0) is
  where
    low_page : can_execute (permission_of (start_runs pages) (a / 4096)) ≡ true → a + 4 < 2 ^ 64
    low_page lets =
        let few = executed_low (start_runs pages) (a / 4096) (omega arith, (omega arith, low_runs pages low))
        lets in
        omega arith

    by_byte : (b : Bool) → can_execute (permission_of (start_runs pages) (a / 4096)) ≡ b
        → instruction_of (joined (cond b (Some (loaded_byte pages a)) None) (word_at (code_byte pages) (a + 1) 3))
        ≡ Some i → a + 4 < 2 ^ 64
    by_byte true lets held = low_page lets
    by_byte false none held = absurd (no_word (word_at (code_byte pages) (a + 1) 3) i held)

    by_place : (b : Bool) → instruction_of (cond b (code_word pages a) None) ≡ Some i → a + 4 < 2 ^ 64
    by_place true held = by_byte (can_execute (permission_of (start_runs pages) (a / 4096))) refl held
    by_place false held = absurd (none_fetched i held)

-- found by computation
abbrev pub are_low : List ImagePage → Bool
are_low [] = true
are_low (p ∷ pages) = ltb p.number (2 ^ 40) && are_low pages

pub low_is : (pages : List ImagePage) → are_low pages ≡ true → AreLow pages
low_is [] is = tt
low_is (p ∷ pages) is =
    let parts = and_parts (ltb p.number (2 ^ 40)) (are_low pages) is in
    (ltb-true p.number (2 ^ 40) parts.0, low_is pages parts.1)
