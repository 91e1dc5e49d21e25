-- The first bytes that fit.
use Rattle.sys_calls.proofs.Common.{◌≡◌, ℕ, ◌+◌, ◌-◌, min, List, length, take, ◌++◌, sym, ap, ◌∙◌, arith, CONSOLE_ROOM, Map, byte_in, bytes_from}
use Rattle.sys_calls.proofs.Spans.{length-bytes_from, take-bytes_from}
use Rattle.sys_calls.proofs.writing.append_some.Goals as goal

first : (m : Map) (at len held room count : ℕ) → room + held ≡ CONSOLE_ROOM → count ≡ min len room → bytes_from (byte_in m) at count ≡ take (CONSOLE_ROOM - held) (bytes_from (byte_in m) at len)
first m at len held room count all is =
    let r : room ≡ CONSOLE_ROOM - held = omega arith in
    ap (bytes_from (byte_in m) at) is ∙ sym (take-bytes_from (byte_in m) at len room) ∙ ap (λ (n : ℕ). take n (bytes_from (byte_in m) at len)) r

pub returns-clause-console : goal.returns-clause-console
returns-clause-console c =
    c.append.ensures ∙ ap (λ (bs : List ℕ). c.args.console.now ++ bs) (first c.args.pages.now c.args.span.at c.args.span.len (length c.args.console.now) c.room.result c.min-count.result c.room.ensures c.min-count.ensures)

pub returns-clause-count : goal.returns-clause-count
returns-clause-count c =
    sym (length-bytes_from (byte_in c.args.pages.now) c.args.span.at c.min-count.result)
    ∙ ap length (first c.args.pages.now c.args.span.at c.args.span.len (length c.args.console.now) c.room.result c.min-count.result c.room.ensures c.min-count.ensures)
