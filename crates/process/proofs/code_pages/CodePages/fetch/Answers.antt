-- A word of a page of the image.
use Rattle.process.proofs.Common.{sym, ap, ◌∙◌, ◌/◌, ◌%◌, word_of_page}
use Rattle.process.proofs.Fetches.{not_stack, word_of_image}
use Rattle.process.proofs.code_pages.CodePages.fetch.Goals as goal

pub returns-else-number-eq-RETURN_PAGE : goal.returns-else-number-eq-RETURN_PAGE
returns-else-number-eq-RETURN_PAGE c =
    c.executable_word.ensures ∙ ap (λ o. word_of_page o (c.args.at % 4096)) c.page.ensures
    ∙ sym (word_of_image c.args.self.now c.args.at c.requires (not_stack (c.args.at / 4096) c.contains.result c.contains.ensures.value c.if-contains.false) c.if-number-eq-RETURN_PAGE.false)
