use Rattle.std.proofs.Common.{◌≡◌, ◌<◌, ◌*◌, ℕ, Some, length, slice_index, rules, arith}
use Rattle.byte_views.specs.Words.{word_at as number_at}
use Rattle.page_map.proofs.Laws.{some_where}
use Rattle.place_keys.proofs.MemoryWords.{read_small}
use Rattle.place_keys.proofs.pages.word_of.Goals as goal

pub returns : goal.returns
returns c =
    let bytes = c.args.bytes.now in
    let k = c.args.index in
    let size : length bytes ≡ 64 = c.requires.size in
    let lt : k < 8 = c.requires.index in
    let small : (i : ℕ) → slice_index bytes i < 256 = search rules in
    let is : Some c.in-Some.word ≡ Some (number_at bytes (8 * k) 8) = some_where (Some c.in-Some.word) _ _ c.in-Some.ensures.word (omega arith) in
    read_small bytes k c.in-Some.word small cc
