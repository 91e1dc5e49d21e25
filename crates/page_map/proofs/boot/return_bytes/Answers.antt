use Rattle.std.proofs.Common.{◌≡◌, true, length, ap, ◌∙◌, arith}
use Rattle.frame_pool.proofs.Laws.{length-fresh}
use Rattle.page_map.proofs.Starts.{made-length, return-at}
use Rattle.page_map.proofs.boot.return_bytes.Goals as goal

pub returns-clause-bytes : goal.returns-clause-bytes
returns-clause-bytes c =
    let long : length c.zeros-bytes.result ≡ 4096 = ap length c.zeros-bytes.ensures ∙ length-fresh in
    let first : c.write_word.result ≡ true = c.write_word.ensures.fits.1 (omega arith) in
    let long' : length c.write_word.new.bytes ≡ 4096 = made-length c.zeros-bytes.result c.write_word.new.bytes 0x0000007308B00893 c.write_word.result first c.write_word.ensures.written long in
    let second : c.write_word-2.result ≡ true = c.write_word-2.ensures.fits.1 (omega arith) in
    return-at c.zeros-bytes.result c.write_word.new.bytes c.write_word-2.new.bytes c.write_word.result c.write_word-2.result c.zeros-bytes.ensures long long'
    first c.write_word.ensures.written second c.write_word-2.ensures.written
