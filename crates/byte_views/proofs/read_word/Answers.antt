use Rattle.std.proofs.Common.{◌≡◌, ◌+◌, ◌≤◌, length, arith}
use Rattle.byte_views.proofs.Bytes.{word_at-part, word_at-lt}
use Rattle.byte_views.specs.Words.{word_at}
use Rattle.byte_views.proofs.read_word.Goals as goal

pub returns-clause-word : goal.returns-clause-word
returns-clause-word c =
    let within : c.args.at + c.args.size ≤ length c.args.bytes.now = c.is_within.ensures.0 c.if-not-is_within.false in
    (within, word_at-part _ _ _ _ within c.number_of.ensures)

pub returns-clause-small : goal.returns-clause-small
returns-clause-small c =
    let within : c.args.at + c.args.size ≤ length c.args.bytes.now = c.is_within.ensures.0 c.if-not-is_within.false in
    let word : c.number_of.result ≡ word_at c.args.bytes.now c.args.at c.args.size = word_at-part _ _ _ _ within c.number_of.ensures in
    rw word (word_at-lt c.args.bytes.now c.args.at c.args.size (λ i. omega (arith, c.type_inv.bytes i)))
