use Rattle.std.proofs.Common.{◌≡◌, ◌<◌, ◌∙◌, ap, sym, length, slice_get, Some, arith}
use Rattle.std.proofs.lemmas.Option.{slice_get-get_or}
use Rattle.place_keys.specs.HartWords.{hart_words}
use Rattle.place_keys.proofs.Codes.{written_more}
use Rattle.place_keys.proofs.harts.write_harts.Goals as goal

pub loop-hart-preserved : goal.loop-hart-preserved
loop-hart-preserved c =
    let xs = c.args.harts.now in
    let i = c.loop-hart.hart-index in
    let x = c.hart-item.result in
    let lt : i < length xs = omega arith in
    let at : slice_get xs i ≡ Some x = slice_get-get_or xs i x lt ∙ ap Some (sym c.hart-item.is) in
    written_more hart_words xs i x c.write_word.new.words.items c.loop-hart.words.items c.write_hart.new.words.items at c.loop-hart.invariant c.in_ok-write_hart.ensures
