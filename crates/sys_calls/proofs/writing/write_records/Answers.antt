-- The bytes are those of the spans that the records name.
use Rattle.sys_calls.proofs.Common.{◌≡◌, ℕ, ◌+◌, ◌-◌, ◌<◌, ◌^◌, true, false, leb, List, ◌++◌, length, take, sym, ap, ◌∙◌, arith, length-append, Ok, lt-leb, CONSOLE_ROOM, memory, Span, all_readable, bytes_of, room, spans_at, total, write_joined, cond-false}
use Rattle.sys_calls.proofs.CallAnswers.{answered_printed}
use Rattle.sys_calls.proofs.ConsoleWrites.{spans_wrote}
use Rattle.sys_calls.proofs.writing.write_records.Goals as goal

pub returns-clause-answered : goal.returns-clause-answered
returns-clause-answered c = λ h t told same.
    let k = c.args.kernel.now in
    let spans : List Span = spans_at h c.args.records.at c.args.records.count in
    let len : c.in-Some.length ≡ total spans = c.in-Some.ensures.some h same in
    let few : leb (2 ^ 31) (total spans) ≡ false = lt-leb (2 ^ 31) (total spans) (omega (arith, len, c.in-Some.ensures.small)) in
    let can : all_readable h spans ≡ true = sym (c.are_readable.ensures h same) ∙ c.if-not-are_readable.false in
    let held = ap (λ (bs : List ℕ). length bs) told.console in
    let free : length h.kernel.console < CONSOLE_ROOM = let ne = c.if-room-eq0.false in omega (arith, held, ne) in
    let bytes : List ℕ = take (room h) (bytes_of (memory h) spans) in
    let now : c.append_some.new.console ≡ k.console ++ bytes =
    c.append_some.ensures.console h same ∙ ap (λ (n : ℕ). k.console ++ take (CONSOLE_ROOM - n) (bytes_of (memory h) spans)) held in
    let size : length c.append_some.new.console ≡ length k.console + length bytes = ap length now ∙ length-append k.console bytes in
    let count : c.append_some.result ≡ length bytes = let sum = c.append_some.ensures.count in omega (arith, size, sum) in
    answered_printed h t k c.append_some.new.console c.args.pages.now (Ok c.append_some.result) bytes (write_joined h t spans) told now count
    (cond-false (leb (2 ^ 31) (total spans)) _ _ few ∙ spans_wrote h t spans (λ none. c.if-length-eq0.false (len ∙ none)) can free)
