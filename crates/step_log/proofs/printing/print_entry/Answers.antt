use Rattle.std.proofs.Common.{ℕ, ap, length, arith, length-append}
use Rattle.step_log.proofs.Printed.{length-kind_word-le, length-decimal_32, length-hex_text}
use Rattle.step_log.proofs.printing.print_entry.Goals as goal

pub push_decimal-requires : goal.push_decimal-requires
push_decimal-requires c =
    let empty = ap length c.requires.empty in
    let word = ap length c.kind_word.ensures in
    let text = ap length c.push_text.ensures in
    omega (arith, length-append {A = ℕ}, length-kind_word-le c.args.entry.now.kind, length-decimal_32 c.args.entry.now.tid.0 (omega arith))

pub push-requires-4 : goal.push-requires-4
push-requires-4 c =
    let empty = ap length c.requires.empty in
    let word = ap length c.kind_word.ensures in
    let text = ap length c.push_text.ensures in
    let number = ap length c.push_decimal.ensures in
    omega (arith, length-append {A = ℕ}, length-kind_word-le c.args.entry.now.kind, length-decimal_32 c.args.entry.now.tid.0 (omega arith))

pub push_text-requires-2 : goal.push_text-requires-2
push_text-requires-2 c =
    let empty = ap length c.requires.empty in
    let word = ap length c.kind_word.ensures in
    let text = ap length c.push_text.ensures in
    let number = ap length c.push_decimal.ensures in
    let hex = ap length c.hex_digits.ensures in
    omega (arith, length-append {A = ℕ}, length-hex_text, length-kind_word-le c.args.entry.now.kind, length-decimal_32 c.args.entry.now.tid.0 (omega arith))

pub push-requires-5 : goal.push-requires-5
push-requires-5 c =
    let empty = ap length c.requires.empty in
    let word = ap length c.kind_word.ensures in
    let text = ap length c.push_text.ensures in
    let number = ap length c.push_decimal.ensures in
    let hex = ap length c.hex_digits.ensures in
    let digits = ap length c.push_text-2.ensures in
    omega (arith, length-append {A = ℕ}, length-hex_text, length-kind_word-le c.args.entry.now.kind, length-decimal_32 c.args.entry.now.tid.0 (omega arith))

pub returns-clause-length : goal.returns-clause-length
returns-clause-length c =
    let empty = ap length c.requires.empty in
    let word = ap length c.kind_word.ensures in
    let text = ap length c.push_text.ensures in
    let number = ap length c.push_decimal.ensures in
    let hex = ap length c.hex_digits.ensures in
    let digits = ap length c.push_text-2.ensures in
    omega (arith, length-append {A = ℕ}, length-hex_text, length-kind_word-le c.args.entry.now.kind, length-decimal_32 c.args.entry.now.tid.0 (omega arith))
