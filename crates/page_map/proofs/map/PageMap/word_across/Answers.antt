-- A number whose bytes are read one by one.
use Rattle.std.proofs.Common.{◌<◌, ◌∙◌, sym, arith, length}
use Rattle.std.proofs.Math.ListN.{length-set}
use Rattle.page_map.specs.Map.{byte_if}
use Rattle.page_map.proofs.Accesses.{access_size, word_missing}
use Rattle.page_map.proofs.Readings.{byte_more, read_across}
use Rattle.page_map.proofs.map.PageMap.word_across.Goals as goal

pub returns-in_err-bytes-clause-word : goal.returns-in_err-bytes-clause-word
returns-in_err-bytes-clause-word c =
    let missing = c.in_err-bytes.ensures in
    c.from_residual.ensures ∙ sym (word_missing (byte_if c.args.bit c.args.self.now) c.args.at c.args.size c.loop-k.k c.loop-k-test.true (sym missing))

pub loop-k-preserved : goal.loop-k-preserved
loop-k-preserved c =
    let next = c.in_ok-bytes.ensures in
    let size = access_size c.args.size c.requires in
    let within : c.loop-k.k < length c.loop-k.bytes = omega (arith, c.loop-k.invariant.long, size.1) in
    record {
      long = length-set c.loop-k.bytes c.loop-k.k c.in_ok-bytes.field-0 ∙ c.loop-k.invariant.long;
      bytes = byte_more (byte_if c.args.bit c.args.self.now) c.args.at c.loop-k.k c.loop-k.bytes c.in_ok-bytes.field-0 within c.loop-k.invariant.bytes next;
    }

pub returns-clause-word : goal.returns-clause-word
returns-clause-word c =
    let size = access_size c.args.size c.requires in
    read_across (byte_if c.args.bit c.args.self.now) c.args.at c.args.size c.loop-k.bytes c.read_word.result (λ j lt. c.loop-k.invariant.bytes j (omega arith)) (omega arith) c.read_word.ensures.word
