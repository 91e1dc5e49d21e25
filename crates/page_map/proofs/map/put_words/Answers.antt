use Rattle.std.proofs.Common.{◌≡◌, ◌+◌, ◌*◌, ◌<◌, ◌∙◌, ℕ, List, true, get_or, length, take, ap, arith}
use Rattle.std.proofs.lemmas.List.{length-take-le}
use Rattle.byte_views.specs.Words.{with_word}
use Rattle.page_map.proofs.Starts.{on-true}
use Rattle.page_map.proofs.WordWrites.{length-with_words, with_words-next}
use Rattle.page_map.proofs.map.put_words.Goals as goal

pub loop-k-preserved : goal.loop-k-preserved
loop-k-preserved c =
    let bytes = c.args.bytes.now in
    let words = c.args.words.now in
    let k = c.loop-k.k in
    let lt : k < length words = c.loop-k-test.true in
    let long : length (take k words) ≡ k = length-take-le k words (omega arith) in
    let size : length c.loop-k.bytes ≡ length bytes = ap length c.loop-k.invariant ∙ length-with_words (take k words) bytes c.args.at (omega arith) in
    let done : c.write_word.result ≡ true = c.write_word.ensures.fits.1 (omega arith) in
    on-true c.write_word.result (c.write_word.new.bytes ≡ with_word c.loop-k.bytes (c.args.at + 8 * k) 8 (get_or words k 0)) done c.write_word.ensures.written
    ∙ ap (λ (bs : List ℕ). with_word bs (c.args.at + 8 * k) 8 (get_or words k 0)) c.loop-k.invariant
    ∙ with_words-next bytes c.args.at k words lt
