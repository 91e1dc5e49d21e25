use Rattle.std.proofs.Common.{◌++◌, ◌∙◌, ap}
use Rattle.place_keys.specs.HartWords.{store_words, tid_word}
use Rattle.place_keys.specs.Differences.{sparse_words}
use Rattle.place_keys.specs.Words.{of_bool, of_list, of_option, word}
use Rattle.place_keys.proofs.Codes.{nine, then_ok}
use Rattle.place_keys.proofs.harts.write_hart.Goals as goal

pub returns : goal.returns
returns c =
    let x = c.args.hart.now in
    then_ok _ _ _ (λ last. nine c.args.words.now.items c.write_word-3.new.words.items (sparse_words x.file.x) (word x.pc) (of_list store_words x.buffer) (of_option tid_word x.running)
    (word x.requests) (of_bool x.restart) (of_option word x.waits) (of_option word x.reserved) (word x.cid)
    c.write_sparse.new.words.items c.write_word.new.words.items c.write_stores.new.words.items c.write_thread.new.words.items c.write_word-2.new.words.items c.write_bool.new.words.items
    c.write_set.new.words.items c.write_option.new.words.items
    c.in_ok-write_sparse.ensures c.in_ok-write_word.ensures c.in_ok-write_stores.ensures c.in_ok-write_thread.ensures
    (c.in_ok-write_word-2.ensures ∙ ap (λ n. c.write_thread.new.words.items ++ word n) c.from.ensures)
    c.in_ok-write_bool.ensures c.in_ok-write_set.ensures c.in_ok-write_option.ensures
    (last ∙ ap (λ n. c.write_option.new.words.items ++ word n) c.from-2.ensures)) c.write_word-3.ensures
