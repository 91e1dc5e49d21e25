-- A handler that returns goes on where it was interrupted.
use Rattle.std.proofs.Common.{◌≡◌, ℕ, ◌+◌, ◌<◌, ◌≤◌, Bool, true, false, cond, eqb, List, [], ◌∷◌, ◌++◌, length, take, drop, get_or, set, replicate, Option, Some, None, option_map, zero, suc, refl, sym, ap, ◌∙◌, subst, arith, length-append}
use Rattle.std.specs.List.{AllByRecursion}
use Rattle.std.specs.Option.{IsSome}
use Rattle.std.proofs.Math.Seq.{get_or-append_seam}
use Rattle.std.proofs.lemmas.List.{get_or-set_other, get_or-set_same, length-set, take_all, take-append-le}
use Rattle.mach_types.specs.Bytes.{written}
use Rattle.mach_types.specs.Kernel.SignalFrames.{after_frame, context_words, first_address, frame_at, frame_read, frame_words, frame_writes, handler_file, info_words, register_words, restored, restored_mask, return_address, returns_with_info, second_address, stack_pointer, wants_info, without_info, words_at, words_stored}
use Rattle.mach_types.specs.Kernel.Signals.{maskable}
use Rattle.mach_types.specs.declared.signal_words.Action.{Action}
use Rattle.mach_types.specs.declared.signal_words.Fault.{Fault}
use Rattle.mach_types.specs.declared.threads.Saved.{Saved}
use Rattle.signals.proofs.Ends.{frame_read_is_info, frame_read_is_words}
use Rattle.signals.proofs.ReadBack.{read_back}
use Rattle.signals.specs.Frames.{CanReadFrame, IsFile, IsTold, IsWord}

-- x1 to x31
registers : (x : List ℕ) → length x ≡ 32 → take 31 (drop 1 x) ≡ drop 1 x
registers [] e = refl
registers (y ∷ ys) e = take_all 31 ys (omega arith)

registers_length : (x : List ℕ) → length x ≡ 32 → length (take 31 (drop 1 x)) ≡ 31
registers_length [] e = absurd (omega arith)
registers_length (y ∷ ys) e = ap length (registers (y ∷ ys) e) ∙ omega arith

frame_length : (saved : Saved) (mask : ℕ) → IsFile saved → length (frame_words saved mask) ≡ 34
frame_length saved mask file =
    let known = registers_length saved.file.x file.registers in
    let both = length-append (take 31 (drop 1 saved.file.x)) (mask ∷ 0 ∷ []) in
    omega arith

-- each word of a frame is one
and_these : (ws us : List ℕ) → AllByRecursion IsWord ws → AllByRecursion IsWord us → AllByRecursion IsWord (ws ++ us)
and_these [] us each others = others
and_these (w ∷ ws) us each others = (each.0, and_these ws us each.1 others)

registers_fit : (x : List ℕ) → length x ≡ 32 → AllByRecursion IsWord x → AllByRecursion IsWord (take 31 (drop 1 x))
registers_fit [] e each = tt
registers_fit (y ∷ ys) e each = subst (λ (ws : List ℕ). AllByRecursion IsWord ws) (sym (registers (y ∷ ys) e)) each.1

frame_fits : (saved : Saved) (mask : ℕ) → IsFile saved → IsWord mask → AllByRecursion IsWord (frame_words saved mask)
frame_fits saved mask file small = (file.pc, and_these (take 31 (drop 1 saved.file.x)) (mask ∷ 0 ∷ []) (registers_fit saved.file.x file.registers file.words) (small, (omega arith, tt)))

-- WITH SA_SIGINFO

zeros_fit : (n : ℕ) → AllByRecursion IsWord (replicate n 0)
zeros_fit zero = tt
zeros_fit (suc n) = (omega arith, zeros_fit n)

info_fits : (s : ℕ) (fault : Option Fault) → IsTold s fault → AllByRecursion IsWord (info_words s fault)
info_fits s None told = (told, (omega arith, (omega arith, zeros_fit 13)))
info_fits s (Some f) told = (told.0, (told.1.0, (told.1.1, zeros_fit 13)))

-- the words of a ucontext before the registers
context_start : ℕ → List ℕ
context_start mask = 0 ∷ 0 ∷ 0 ∷ 2 ∷ 0 ∷ mask ∷ replicate 16 0

start_fits : (mask : ℕ) → IsWord mask → AllByRecursion IsWord (context_start mask)
unfolding context_start
start_fits mask small = (omega arith, (omega arith, (omega arith, (omega arith, (omega arith, (small, zeros_fit 16))))))

context_is : (saved : Saved) (mask : ℕ) → context_words saved mask ≡ context_start mask ++ (register_words saved ++ replicate 66 0)
unfolding context_start
context_is saved mask = refl

context_fits : (saved : Saved) (mask : ℕ) → IsFile saved → IsWord mask → AllByRecursion IsWord (context_words saved mask)
context_fits saved mask file small =
    subst (λ (ws : List ℕ). AllByRecursion IsWord ws) (sym (context_is saved mask))
    (and_these (context_start mask) (register_words saved ++ replicate 66 0) (start_fits mask small)
    (and_these (register_words saved) (replicate 66 0) (file.pc, registers_fit saved.file.x file.registers file.words) (zeros_fit 66)))

-- the words of a siginfo_t, and those of a ucontext before the registers
info_length : (s : ℕ) (fault : Option Fault) → length (info_words s fault) ≡ 16
info_length s None = refl
info_length s (Some f) = refl

context_length : (saved : Saved) (mask : ℕ) → IsFile saved → length (context_words saved mask) ≡ 120
context_length saved mask file =
    let known = registers_length saved.file.x file.registers in
    let nothing : List ℕ = replicate 66 0 in
    let zeros : length nothing ≡ 66 = refl in
    let both = length-append (take 31 (drop 1 saved.file.x)) nothing in
    omega (arith, known, zeros, both)

-- what they say
same_words : (s : ℕ) (fault : Option Fault) (saved : Saved) (mask : ℕ) → IsFile saved → without_info (info_words s fault ++ context_words saved mask) ≡ frame_words saved mask
same_words s fault saved mask file =
    let regs = take 31 (drop 1 saved.file.x) in
    let long = registers_length saved.file.x file.registers in
    let front : take 31 (regs ++ replicate 66 0) ≡ regs = take-append-le 31 regs (replicate 66 0) (omega arith) ∙ take_all 31 regs (omega arith) in
    told fault ∙ ap (λ (ws : List ℕ). saved.pc ∷ ws ++ (mask ∷ 0 ∷ [])) front
  where
    told : (o : Option Fault) → without_info (info_words s o ++ context_words saved mask) ≡ saved.pc ∷ take 31 (take 31 (drop 1 saved.file.x) ++ replicate 66 0) ++ (mask ∷ 0 ∷ [])
    told None = refl
    told (Some f) = refl

-- THE STACK POINTER

-- the handler's stack pointer is its frame
handler_stack : (s : ℕ) (a : Action) (saved : Saved) → IsFile saved → stack_pointer (handler_file s a saved) ≡ frame_at a (stack_pointer saved)
handler_stack s a saved file =
    let at = frame_at a (stack_pointer saved) in
    let one = first_address a at in
    let two = second_address a at in
    let x = saved.file.x in
    let arguments : List ℕ = set (set (set x 10 s) 11 one) 12 two in
    let long : length arguments ≡ 32 = length-set (set (set x 10 s) 11 one) 12 two ∙ length-set (set x 10 s) 11 one ∙ length-set x 10 s ∙ file.registers in
    get_or-set_other (set arguments 2 at) 1 2 _ 0 (omega arith) ∙ get_or-set_same arguments 2 at 0 (omega arith)

-- THE FRAME

-- the call at the address to which a handler returns is of its form
pub form_of_call : (a : Action) (returning : Saved) → returning.pc ≡ return_address a + 4 → returns_with_info returning ≡ wants_info a
form_of_call a returning at =
    ap (λ pc. eqb pc 0x3fffff000c) at
    ∙ elim (wants_info a) as (λ b. eqb (cond b 0x3fffff0008 0x3fffff0000 + 4) 0x3fffff000c ≡ b) [ true ↦ refl | false ↦ refl ]

-- memory after a frame was written, by its form
abbrev after_words : (ℕ → Option ℕ) → ℕ → List ℕ → ℕ → Option ℕ
after_words byte at ws b = option_map (written (words_stored at ws) b) (byte b)

read_by_form : (byte : ℕ → Option ℕ) (s mask at : ℕ) (fault : Option Fault) (saved returning : Saved) (form : Bool) → IsFile saved → IsWord mask
    → (form ≡ true → IsTold s fault) → returns_with_info returning ≡ form → stack_pointer returning ≡ at
    → ((b : ℕ) → at ≤ b → b < at + cond form 1088 272 → IsSome (byte b))
    → frame_read (after_words byte at (cond form (info_words s fault ++ context_words saved mask) (frame_words saved mask))) returning ≡ Some (frame_words saved mask)
read_by_form byte s mask at fault saved returning false file small told is stack there =
    let long = frame_length saved mask file in
    let after = after_words byte at (frame_words saved mask) in
    frame_read_is_words after returning is ∙ ap (λ (sp : ℕ). words_at after sp 34) stack ∙ ap (words_at after at) (sym long)
    ∙ read_back byte at (frame_words saved mask) (frame_fits saved mask file small) (λ b from below. there b from (omega arith))
read_by_form byte s mask at fault saved returning true file small told is stack there =
    let words = info_words s fault ++ context_words saved mask in
    let long : length words ≡ 136 = omega (arith, length-append (info_words s fault) (context_words saved mask), info_length s fault, context_length saved mask file) in
    let fit = and_these (info_words s fault) (context_words saved mask) (info_fits s fault (told refl)) (context_fits saved mask file small) in
    let after = after_words byte at words in
    frame_read_is_info after returning is ∙ ap (λ (sp : ℕ). option_map without_info (words_at after sp 136)) stack
    ∙ ap (λ n. option_map without_info (words_at after at n)) (sym long)
    ∙ ap (option_map without_info) (read_back byte at words fit (λ b from below. there b from (omega arith)))
    ∙ ap Some (same_words s fault saved mask file)

pub frame_is_read : (byte : ℕ → Option ℕ) (s mask : ℕ) (a : Action) (fault : Option Fault) (saved returning : Saved) → IsFile saved → IsWord mask
    → (wants_info a ≡ true → IsTold s fault) → returns_with_info returning ≡ wants_info a
    → stack_pointer returning ≡ stack_pointer (handler_file s a saved) → CanReadFrame byte a saved
    → frame_read (after_frame true (frame_writes s a fault saved mask) byte) returning ≡ Some (frame_words saved mask)
frame_is_read byte s mask a fault saved returning file small told is stack there =
    read_by_form byte s mask (frame_at a (stack_pointer saved)) fault saved returning (wants_info a) file small told is (stack ∙ handler_stack s a saved file) there

-- a frame has the thread's file and mask
same_registers : (x : List ℕ) (mask : ℕ) → length x ≡ 32 → get_or x 0 0 ≡ 0 → 0 ∷ take 31 (take 31 (drop 1 x) ++ (mask ∷ 0 ∷ [])) ≡ x
same_registers [] mask e z = absurd (omega arith)
same_registers (y ∷ ys) mask e z =
    let known = registers (y ∷ ys) e in
    let long : length ys ≡ 31 = omega arith in
    let front : take 31 (ys ++ (mask ∷ 0 ∷ [])) ≡ take 31 ys = take-append-le 31 ys (mask ∷ 0 ∷ []) (omega arith) in
    ap (λ ws. 0 ∷ take 31 (ws ++ (mask ∷ 0 ∷ []))) known ∙ ap (λ ws. 0 ∷ ws) (front ∙ known) ∙ ap (λ w. w ∷ ys) (sym z)

pub file_is_restored : (mask : ℕ) (saved : Saved) → IsFile saved → restored (frame_words saved mask) ≡ saved
file_is_restored mask saved file =
    let again : List ℕ → Saved = λ x. record { file = record { x = x }; pc = saved.pc } in
    ap again (same_registers saved.file.x mask file.registers file.zero_register)

pub mask_is_restored : (mask : ℕ) (saved : Saved) → IsFile saved → restored_mask (frame_words saved mask) ≡ maskable mask
mask_is_restored mask saved file =
    let known = registers_length saved.file.x file.registers in
    let front = take 31 (drop 1 saved.file.x) in
    ap maskable (ap (λ n. get_or (front ++ (mask ∷ 0 ∷ [])) n 0) (sym known) ∙ get_or-append_seam front mask (0 ∷ []) 0)
