use Rattle.std.proofs.Common.{ℕ, List, get_or, sym, ap, ◌∙◌, arith}
use Rattle.step_log.proofs.HexDigits.{pair_first}
use Rattle.step_log.proofs.Printed.{hex_text-none}
use Rattle.step_log.proofs.printing.hex_digits.Goals as goal

pub returns : goal.returns
returns c =
    let n = c.args.number in
    let byte = λ (place : ℕ). ap (λ (bytes : List ℕ). get_or bytes place 0) c.to_be_bytes.ensures in
    pair_first 14 n _ _ _ c.hex_pair.ensures (byte 0) (pair_first 12 n _ _ _ c.hex_pair-2.ensures (byte 1)
    (pair_first 10 n _ _ _ c.hex_pair-3.ensures (byte 2) (pair_first 8 n _ _ _ c.hex_pair-4.ensures (byte 3)
    (pair_first 6 n _ _ _ c.hex_pair-5.ensures (byte 4) (pair_first 4 n _ _ _ c.hex_pair-6.ensures (byte 5)
    (pair_first 2 n _ _ _ c.hex_pair-7.ensures (byte 6)
    (pair_first 0 n _ _ _ c.hex_pair-8.ensures (omega (arith, byte 7)) (sym (hex_text-none n)))))))))
