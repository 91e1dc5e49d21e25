use Rattle.std.proofs.Common.{◌≡◌, ℕ, List, [], ◌∷◌, sym, ◌∙◌, ap, refl, arith}
use Rattle.step_log.proofs.HexDigits.{PAIRS_at, hex_text-two}
use Rattle.step_log.proofs.printing.hex_pair.Goals as goal

pub returns : goal.returns
returns c =
    let two = PAIRS_at c.args.byte (omega arith) in
    let text = hex_text-two c.args.byte (omega arith) in
    rw (two.0, two.1, text) refl
