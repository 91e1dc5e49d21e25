use Rattle.std.proofs.Common.{◌++◌, ◌∙◌, ap}
use Rattle.page_map.specs.Map.{break_in, free_in}
use Rattle.place_keys.specs.PageWords.{memory_words, permissions_words}
use Rattle.place_keys.specs.Words.{word}
use Rattle.place_keys.proofs.Codes.{four, then_ok}
use Rattle.place_keys.proofs.pages.write_pages.Goals as goal

pub returns : goal.returns
returns c =
    let m = c.args.pages.now in
    then_ok c.write_word-2.result _ _ (λ last. four c.args.words.now.items c.write_word-2.new.words.items (permissions_words c.args.start.now m) (memory_words c.args.start.now m)
    (word (free_in m)) (word (break_in m)) c.write_permissions.new.words.items c.write_memory.new.words.items c.write_word.new.words.items
    c.in_ok-write_permissions.ensures c.in_ok-write_memory.ensures
    (c.in_ok-write_word.ensures ∙ ap (λ n. c.write_memory.new.words.items ++ word n) (c.from.ensures ∙ c.free.ensures))
    (last ∙ ap (λ n. c.write_word.new.words.items ++ word n) c.break_at.ensures)) c.write_word-2.ensures
