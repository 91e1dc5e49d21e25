-- The bytes are one span.
use Rattle.sys_calls.proofs.Common.{◌≡◌, ℕ, ◌-◌, ◌≤◌, ◌<◌, Bool, true, false, List, [], ◌∷◌, ◌++◌, length, take, Option, is_some, sym, ap, ◌∙◌, arith, append-nil, Ok, Err, EFAULT, ENOSPC, CONSOLE_ROOM, Here, IsRead, Map, Saved, are_readable, argument, byte_in, each_byte, memory, register, Span, all_readable, bytes_from, bytes_of, is_elsewhere, room, total, cond-false, write}
use Rattle.std.proofs.Math.Bool.{and-true}
use Rattle.sys_calls.proofs.GuestMemory.{argument_is, readable_at}
use Rattle.sys_calls.proofs.CallAnswers.{answered_printed, answered_said}
use Rattle.sys_calls.proofs.ConsoleWrites.{spans_full, spans_unreadable, spans_wrote}
use Rattle.sys_calls.proofs.writing.write.Goals as goal

abbrev one : Here → ℕ → List Span
one h t = record { at = argument h t 1; len = argument h t 2 } ∷ []

-- the one span: some bytes, and whether they can be read
some_bytes : (h : Here) (t n : ℕ) → n ≡ argument h t 2 → (n ≡ 0 → ⊥) → total (one h t) ≡ 0 → ⊥
some_bytes h t n is ne none = ne (omega arith)

readable_one : (h : Here) (t at n : ℕ) (m : Map) (b r : Bool) (saved : Saved) → IsRead h m t saved → at ≡ register saved.file 11 → n ≡ register saved.file 12
    → r ≡ each_byte (λ a. is_some (byte_in m a)) at n → r ≡ b → all_readable h (one h t) ≡ b
readable_one h t at n m b r saved read at-is n-is e d =
    and-true (are_readable h (argument h t 1) (argument h t 2))
    ∙ sym (readable_at h m t saved read at (argument h t 1) n (argument h t 2) (at-is ∙ argument_is h t saved read.file 1) (n-is ∙ argument_is h t saved read.file 2)) ∙ sym e ∙ d

pub returns-then-not-readable-clause-answered : goal.returns-then-not-readable-clause-answered
returns-then-not-readable-clause-answered c = λ h t told read.
    let len : c.argument-2.result ≡ argument h t 2 = c.argument-2.ensures ∙ argument_is h t c.args.saved.now read.file 2 in
    let here : is_elsewhere h t ≡ false = sym (c.is_elsewhere.ensures h t read.file) ∙ c.if-is_elsewhere.false in
    let cannot = readable_one h t c.argument.result c.argument-2.result c.args.pages.now false c.readable.result c.args.saved.now read c.argument.ensures c.argument-2.ensures c.readable.ensures c.if-not-readable.true in
    answered_said h t c.args.kernel.now c.args.pages.now (Err EFAULT) (write h t) told
    (cond-false (is_elsewhere h t) _ _ here ∙ spans_unreadable h t (one h t) (some_bytes h t c.argument-2.result len c.if-span-eq0.false) cannot)

pub returns-then-room-eq0-clause-answered : goal.returns-then-room-eq0-clause-answered
returns-then-room-eq0-clause-answered c = λ h t told read.
    let len : c.argument-2.result ≡ argument h t 2 = c.argument-2.ensures ∙ argument_is h t c.args.saved.now read.file 2 in
    let here : is_elsewhere h t ≡ false = sym (c.is_elsewhere.ensures h t read.file) ∙ c.if-is_elsewhere.false in
    let can = readable_one h t c.argument.result c.argument-2.result c.args.pages.now true c.readable.result c.args.saved.now read c.argument.ensures c.argument-2.ensures c.readable.ensures c.if-not-readable.false in
    let held = ap (λ (bs : List ℕ). length bs) told.console in
    let full : CONSOLE_ROOM ≤ length h.kernel.console = omega (arith, held) in
    answered_said h t c.args.kernel.now c.args.pages.now (Err ENOSPC) (write h t) told
    (cond-false (is_elsewhere h t) _ _ here ∙ spans_full h t (one h t) (some_bytes h t c.argument-2.result len c.if-span-eq0.false) can full)

pub returns-clause-answered : goal.returns-clause-answered
returns-clause-answered c = λ h t told read.
    let k = c.args.kernel.now in
    let at : c.argument.result ≡ argument h t 1 = c.argument.ensures ∙ argument_is h t c.args.saved.now read.file 1 in
    let len : c.argument-2.result ≡ argument h t 2 = c.argument-2.ensures ∙ argument_is h t c.args.saved.now read.file 2 in
    let here : is_elsewhere h t ≡ false = sym (c.is_elsewhere.ensures h t read.file) ∙ c.if-is_elsewhere.false in
    let can = readable_one h t c.argument.result c.argument-2.result c.args.pages.now true c.readable.result c.args.saved.now read c.argument.ensures c.argument-2.ensures c.readable.ensures c.if-not-readable.false in
    let held = ap (λ (bs : List ℕ). length bs) told.console in
    let free : length h.kernel.console < CONSOLE_ROOM = let ne = c.if-room-eq0.false in omega (arith, held, ne) in
    let bytes : List ℕ = take (room h) (bytes_of (memory h) (one h t)) in
    let same : take (CONSOLE_ROOM - length k.console) (bytes_from (byte_in c.args.pages.now) c.argument.result c.argument-2.result) ≡ bytes =
    ap (λ (n : ℕ). take (CONSOLE_ROOM - n) (bytes_from (byte_in c.args.pages.now) c.argument.result c.argument-2.result)) held
    ∙ ap (take (room h)) (ap (λ (byte : ℕ → Option ℕ). bytes_from byte c.argument.result c.argument-2.result) read.bytes ∙ ap (λ (a : ℕ). bytes_from (memory h) a c.argument-2.result) at
    ∙ ap (bytes_from (memory h) (argument h t 1)) len ∙ sym (append-nil (bytes_from (memory h) (argument h t 1) (argument h t 2)))) in
    answered_printed h t k c.append_some.new.console c.args.pages.now (Ok c.append_some.result) bytes (write h t) told
    (c.append_some.ensures.console ∙ ap (λ (bs : List ℕ). k.console ++ bs) same) (c.append_some.ensures.count ∙ ap (λ (bs : List ℕ). length bs) same)
    (cond-false (is_elsewhere h t) _ _ here ∙ spans_wrote h t (one h t) (some_bytes h t c.argument-2.result len c.if-span-eq0.false) can free)
