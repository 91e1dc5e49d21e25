use Rattle.process.proofs.Common.{[], ◌∷◌, ap, ◌∙◌, Stored, held_in, IsWritten, after_write}
use Rattle.process.proofs.parts.Parts.enter.Goals as goal

pub returns-clause-pages : goal.returns-clause-pages
returns-clause-pages c =
    let is : IsWritten (Stored c.args.store ∷ []) c.args.self.now.pages c.set.new.self = record {
      permissions = c.set.ensures.pages;
      held = λ a. c.set.ensures.held a ∙ ap (λ made. after_write made c.args.store (held_in c.args.self.now.pages) a) (c.set.ensures.answer ∙ c.requires.writable);
      free = c.set.ensures.free;
      break_at = c.set.ensures.break_at;
      break_start = c.set.ensures.break_start;
    } in
    rw c.lose.ensures.pages is
