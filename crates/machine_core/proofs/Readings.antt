-- What is read of a machine is what is read by looking back over its log.
use Rattle.machine_core.proofs.Common.{◌≡◌, ℕ, ◌<◌, length, sym, ap, ◌∙◌, arith, get_or, Option, Some, same_Some, slice_get, slice_get-get_or, word_at, HartState, Inside, IsMachine, credit_of, hart_at, hart_in, seen, setting_of, byte_in, can_write_in, credit_at, Here, is_writable, memory, waiting_here, History, events, here_in_history, ran, history, over_at, Plain, plain_over, plain_seen, same_here, same_state, seen_byte, view, console, file, kernel, bytes_held, writable_held}
use Rattle.sys_calls.specs.Made.{AreSaved}

-- the history of a machine's log, and what a rule may read there
abbrev pub history_of : Inside → History
history_of m = history (setting_of m) m.log.items

abbrev pub here_read : Inside → ℕ → Here
here_read m h = here_in_history (setting_of m) (history_of m) h

-- a hart of the machine, in the list, and read from it
abbrev pub hart_seen : Inside → ℕ → HartState
hart_seen m h = hart_in (here_read m h) (ran h (history_of m)) (events h (history_of m)) (credit_at (setting_of m) m.seed h (history_of m))

pub hart_listed : (m : Inside) (h : ℕ) → IsMachine m → h < m.limits.harts → slice_get m.parts.harts.items h ≡ Some (hart_seen m h)
hart_listed m h machine lt =
    machine.tied.harts h lt ∙ ap (λ (p : Plain). Some (hart_at (setting_of m) p h (credit_of m.parts.harts.items h))) (same_state (seen m) machine.run)
    ∙ ap (λ n. Some (hart_in (here_read m h) (ran h (history_of m)) (events h (history_of m)) n)) (machine.credits h lt)

pub hart_read : (m : Inside) (h : ℕ) (x : HartState) → IsMachine m → h < m.limits.harts → x ≡ get_or m.parts.harts.items h x → x ≡ hart_seen m h
hart_read m h x machine lt value =
    let in_list : h < length m.parts.harts.items = omega (arith, machine.tied.all_harts, lt) in
    same_Some x (hart_seen m h) (sym (slice_get-get_or m.parts.harts.items h x in_list ∙ ap Some (sym value)) ∙ hart_listed m h machine lt)

-- the bytes that were written to the console
pub console_read : (m : Inside) → IsMachine m → m.parts.kernel.console ≡ console (setting_of m) (history_of m)
console_read m machine = machine.tied.tables.console ∙ ap (λ (p : Plain). p.kernel.console) (same_state (seen m) machine.run)

-- the kernel's record, and the file of each thread that doesn't run
pub kernel_read : (m : Inside) → IsMachine m → (plain_seen (seen m)).kernel ≡ kernel (setting_of m) (history_of m)
kernel_read m machine = ap (λ (p : Plain). p.kernel) (same_state (seen m) machine.run)

pub saved_read : (m : Inside) → IsMachine m → AreSaved (λ t. file (setting_of m) t (history_of m)) m.parts.kernel.threads
saved_read m machine u x at = machine.tied.saved u x at ∙ ap (λ (p : Plain). p.file u) (same_state (seen m) machine.run)

-- how the run has ended
pub over_read : (m : Inside) → IsMachine m → m.parts.ended ≡ over_at (setting_of m) (history_of m)
over_read m machine = machine.tied.ended ∙ ap plain_over (same_state (seen m) machine.run)

-- memory's bytes
pub bytes_read : (m : Inside) (h : ℕ) → IsMachine m → byte_in m.parts.pages ≡ memory (here_read m h)
bytes_read m h machine =
    bytes_held (plain_seen (seen m)).kernel m.break_at (plain_seen (seen m)).byte m.parts.pages machine.tied.pages ∙ ap memory (same_here (seen m) h machine.run)

-- a word behind the waiting stores of a hart is that of its view
pub word_read : (m : Inside) (h : ℕ) (x : HartState) (n k credit at size : ℕ) → IsMachine m → x ≡ hart_in (here_read m h) n k credit → word_at (seen_byte x.buffer (byte_in m.parts.pages)) at size ≡ word_at (view (here_read m h)) at size
word_read m h x n k credit at size machine is =
    ap (λ (y : HartState). word_at (seen_byte y.buffer (byte_in m.parts.pages)) at size) is
    ∙ ap (λ (b : ℕ → Option ℕ). word_at (seen_byte (waiting_here (here_read m h)) b) at size) (bytes_read m h machine)

-- which bytes can be written
pub writable_read : (m : Inside) (h : ℕ) → IsMachine m → can_write_in m.parts.pages ≡ is_writable (here_read m h)
writable_read m h machine =
    writable_held (plain_seen (seen m)).kernel m.break_at (plain_seen (seen m)).byte m.parts.pages machine.tied.pages machine.tied.readable ∙ ap is_writable (same_here (seen m) h machine.run)

-- the ready threads
pub scheduling_read : (m : Inside) (h : ℕ) → IsMachine m → m.parts.kernel.ready ≡ (here_read m h).kernel.scheduling
scheduling_read m h machine = machine.tied.tables.scheduling ∙ ap (λ (here : Here). here.kernel.scheduling) (same_here (seen m) h machine.run)
