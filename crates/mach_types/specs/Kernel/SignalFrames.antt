-- What happens when a handler is entered, and when it returns (sigaction(2), sigreturn(2)). A frame has one of two forms, by the
-- flag SA_SIGINFO of the action. Without it size, layout, a1 and a2 are own: 34 words of 8 bytes, which are the pc, x1 to x31, the
-- old mask, and 0. With it they are those of Linux for RISC-V (asm-generic/siginfo.h, asm/ucontext.h, asm/sigcontext.h): 136 words,
-- which are a siginfo_t of 128 bytes and a struct ucontext of 960. That the bytes which Linux leaves as they were are 0 is own.
use Rattle.std.specs.Prelude.{ℕ, ◌+◌, ◌-◌, ◌%◌, ◌^◌, ◌==◌, Bool, not, zero, suc, List, [], ◌∷◌, ◌++◌, take, drop, replicate, if◌then◌else◌, Option, Some, None, slice_index, bit_and}
use Rattle.std.specs.Option.{option_map}
use Rattle.mach_types.specs.Bytes.{each_byte, word_at, written}
use Rattle.mach_types.specs.Registers.{register, with_register}
use Rattle.mach_types.specs.Kernel.Signals.{Signalling, action_of, joined, mask_of, maskable, only, set_action, with_mask}
use Rattle.mach_types.specs.declared.address_space.TheConstants.{HANDLER_RETURN, INFO_HANDLER_RETURN, INFO_RETURN_CALL}
use Rattle.mach_types.specs.declared.signal_words.Action.{Action}
use Rattle.mach_types.specs.declared.signal_words.Fault.{Fault}
use Rattle.mach_types.specs.declared.signals.TheConstants.{INFO_FRAME_SIZE, SA_NODEFER, SA_RESETHAND, SA_SIGINFO, SIGINFO_SIZE, SIGNAL_FRAME_SIZE, SIG_DFL, SI_TKILL, SS_DISABLE}
use Rattle.mach_types.specs.declared.threads.Saved.{Saved}
use Rattle.mach_types.specs.declared.user_memory.Write.{Write}
use Rattle.mach_types.specs.declared.user_memory.Write.TheVariants.{Stored}

-- WHERE

abbrev pub has_flag : ℕ → ℕ → Bool
has_flag flags flag = not (bit_and flags flag == 0)

-- whether a handler is given a siginfo_t and a struct ucontext
abbrev pub wants_info : Action → Bool
wants_info a = has_flag a.flags SA_SIGINFO

-- the bytes of the frame of an action's handler
abbrev pub frame_size : Action → ℕ
frame_size a = if wants_info a then INFO_FRAME_SIZE else SIGNAL_FRAME_SIZE

-- an address below a stack pointer, a multiple of 16 (RISC-V psABI: the stack pointer is aligned to 16), modulo 2^64
abbrev pub rounded_down : ℕ → ℕ
rounded_down a = a - a % 16

abbrev pub frame_at : Action → ℕ → ℕ
frame_at a sp = rounded_down ((sp + (2 ^ 64 - frame_size a)) % 2 ^ 64)

-- the stack pointer is x2 (RISC-V psABI)
abbrev pub stack_pointer : Saved → ℕ
stack_pointer saved = register saved.file 2

-- WHAT

-- the pc and x1 to x31, as struct user_regs_struct has them
abbrev pub register_words : Saved → List ℕ
register_words saved = saved.pc ∷ take 31 (drop 1 saved.file.x)

-- the words of a frame without SA_SIGINFO
abbrev pub frame_words : Saved → ℕ → List ℕ
frame_words saved mask = saved.pc ∷ take 31 (drop 1 saved.file.x) ++ (mask ∷ 0 ∷ [])

-- a siginfo_t of signal s: si_signo with si_errno 0; si_code; and si_addr of a fault, or si_pid 1 and si_uid 0 of a signal that was
-- posted (getpid(2) is 1, getuid(2) is 0)
abbrev pub info_words : ℕ → Option Fault → List ℕ
info_words s None = s ∷ SI_TKILL ∷ 1 ∷ replicate 13 0
info_words s (Some f) = s ∷ f.code ∷ f.address ∷ replicate 13 0

-- a struct ucontext: uc_flags, uc_link, uc_stack (there is no other stack), uc_sigmask with its unused bytes, and uc_mcontext: the
-- registers, and the state of the floating-point unit, which the machine doesn't have
abbrev pub context_words : Saved → ℕ → List ℕ
context_words saved mask = 0 ∷ 0 ∷ 0 ∷ SS_DISABLE ∷ 0 ∷ mask ∷ replicate 16 0 ++ register_words saved ++ replicate 66 0

-- the words of the frame of an action's handler, to which signal s comes, of a fault or of none
abbrev pub words_of_frame : ℕ → Action → Option Fault → Saved → ℕ → List ℕ
words_of_frame s a fault saved mask =
    if wants_info a then info_words s fault ++ context_words saved mask else frame_words saved mask

-- words written from an address on, one behind the other
abbrev pub words_stored : ℕ → List ℕ → List Write
words_stored at [] = []
words_stored at (w ∷ ws) = Stored (record { at = at; size = 8; value = w }) ∷ words_stored (at + 8) ws

-- the writes of a frame
abbrev pub frame_writes : ℕ → Action → Option Fault → Saved → ℕ → List Write
frame_writes s a fault saved mask = words_stored (frame_at a (stack_pointer saved)) (words_of_frame s a fault saved mask)

-- whether a frame can be written, by a test of a byte
unfoldable pub can_write_frame : (ℕ → Bool) → Action → Saved → Bool
can_write_frame can_write a saved = each_byte can_write (frame_at a (stack_pointer saved)) (frame_size a)

-- the byte at an address after a frame was written, or couldn't be
abbrev pub after_frame : Bool → List Write → (ℕ → Option ℕ) → ℕ → Option ℕ
after_frame made ws byte a = if made then option_map (written ws a) (byte a) else byte a

-- A HANDLER IS ENTERED

-- a1 and a2 of the handler of an action with its frame here: with SA_SIGINFO the addresses of the siginfo_t, which is first in the
-- frame, and of the struct ucontext; else 0 and that of the frame
abbrev pub first_address : Action → ℕ → ℕ
first_address a at = if wants_info a then at else 0

abbrev pub second_address : Action → ℕ → ℕ
second_address a at = if wants_info a then (at + SIGINFO_SIZE) % 2 ^ 64 else at

-- where it returns to
abbrev pub return_address : Action → ℕ
return_address a = if wants_info a then INFO_HANDLER_RETURN else HANDLER_RETURN

-- the file with which the handler of signal s starts: a0 is the signal, a1 and a2 these addresses, sp the frame, and ra where it
-- returns to
abbrev pub handler_file : ℕ → Action → Saved → Saved
handler_file s a saved =
    let at = frame_at a (stack_pointer saved) in
    let arguments = with_register (with_register (with_register saved.file 10 s) 11 (first_address a at)) 12 (second_address a at) in
    record { file = with_register (with_register arguments 2 at) 1 (return_address a); pc = a.at }

-- the mask while the handler runs: the action's signals are masked too, and the signal itself unless SA_NODEFER is set
abbrev pub handler_mask : ℕ → Action → ℕ → ℕ
handler_mask s a mask = maskable (joined (joined mask a.mask) (if has_flag a.flags SA_NODEFER then 0 else only s))

-- the action once its handler was entered: with SA_RESETHAND the default, flags and mask as they were
abbrev pub entered_action : Action → Action
entered_action a = if has_flag a.flags SA_RESETHAND then record a { at = SIG_DFL } else a

-- the handler of signal s is entered by thread t. What is pending stays: a signal that is delivered, or that the default
-- which SA_RESETHAND brings back ignores, is dropped apart
abbrev pub entered : ℕ → ℕ → Signalling → Signalling
entered t s g =
    let a = action_of s g in
    set_action s (entered_action a) (with_mask t (handler_mask s a (mask_of t g)) g)

-- A HANDLER RETURNS

-- one word before others; none where one of them is missing
abbrev pub word_before : Option ℕ → Option (List ℕ) → Option (List ℕ)
word_before (Some w) (Some ws) = Some (w ∷ ws)
word_before (Some w) None = None
word_before None ws = None

-- so many words from an address on; none where a byte of them can't be read
abbrev pub words_at : (ℕ → Option ℕ) → ℕ → ℕ → Option (List ℕ)
words_at byte at zero = Some []
words_at byte at (suc n) = word_before (word_at byte at 8) (words_at byte (at + 8) n)

-- whether a thread that makes the call returns from a handler with SA_SIGINFO: by where the call stands (own). A handler returns to
-- one of two addresses, by its action, and a call stands behind each; one that a program makes elsewhere is of a frame without it.
-- Linux has one form alone. What is at the stack pointer can't say which it is: a program may write to each byte of both
abbrev pub returns_with_info : Saved → Bool
returns_with_info saved = saved.pc == INFO_RETURN_CALL

-- the words of a frame without SA_SIGINFO that says what these words of one with it say
abbrev pub without_info : List ℕ → List ℕ
without_info words = take 32 (drop 38 words) ++ (slice_index words 21 ∷ 0 ∷ [])

-- the words of the frame at the stack pointer; none where a byte of a frame of its form can't be read
unfoldable pub frame_read : (ℕ → Option ℕ) → Saved → Option (List ℕ)
frame_read byte saved =
    if returns_with_info saved
    then option_map without_info (words_at byte (stack_pointer saved) 136)
    else words_at byte (stack_pointer saved) 34

-- the file in a frame's words, and the mask
abbrev pub restored : List ℕ → Saved
restored words = record { file = record { x = 0 ∷ take 31 (drop 1 words) }; pc = slice_index words 0 }

abbrev pub restored_mask : List ℕ → ℕ
restored_mask words = maskable (slice_index words 32)

-- sigreturn(2): a thread goes on with a frame's file and mask; where there is no frame, nothing changes
abbrev pub saved_after_return : Option (List ℕ) → Saved → Saved
saved_after_return None saved = saved
saved_after_return (Some words) saved = restored words

abbrev pub returned : ℕ → Option (List ℕ) → Signalling → Signalling
returned t None g = g
returned t (Some words) g = with_mask t (restored_mask words) g
