use Rattle.process.proofs.Common.{◌≡◌, ap, ◌∙◌, code_of}
use Rattle.process.proofs.Codes.{code_rises}
use Rattle.process.proofs.code_pages.CodePages.executable.Goals as goal

pub numbered-requires : goal.numbered-requires
numbered-requires c =
    let is : c.in_ok-executable_pages.field-0.items ≡ code_of c.self.inside.pages.items = c.in_ok-executable_pages.ensures ∙ ap code_of c.deref.ensures.value in
    rw is (code_rises c.self.inside.pages.items c.self.invariant.1)
