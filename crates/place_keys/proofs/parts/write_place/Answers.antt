use Rattle.std.proofs.Common.{◌++◌, ◌∙◌, ap}
use Rattle.place_keys.specs.HartWords.{hart_words}
use Rattle.place_keys.specs.PageWords.{pages_words}
use Rattle.place_keys.specs.PartWords.{kernel_words}
use Rattle.place_keys.specs.TableWords.{end_words}
use Rattle.place_keys.specs.Words.{of_list, of_option}
use Rattle.place_keys.proofs.Codes.{four, then_ok}
use Rattle.place_keys.proofs.parts.write_place.Goals as goal

pub returns : goal.returns
returns c =
    let m = c.args.parts.now in
    then_ok c.write_ended.result _ _ (λ last. four c.args.words.now.items c.write_ended.new.words.items (of_list hart_words m.harts.items) (pages_words c.args.start.now m.pages)
    (kernel_words m.kernel) (of_option end_words m.ended) c.write_harts.new.words.items c.write_pages.new.words.items c.write_kernel.new.words.items
    (c.in_ok-write_harts.ensures ∙ ap (λ hs. c.args.words.now.items ++ of_list hart_words hs) c.deref.ensures.value) c.in_ok-write_pages.ensures c.in_ok-write_kernel.ensures last) c.write_ended.ensures
