use Rattle.process.proofs.Common.{◌≡◌, take, code_of}
use Rattle.process.proofs.code_pages.executable_pages.Given as goal

-- those of the pages before are copied
abbrev pub invariant-loop-page : goal.invariant-loop-page
invariant-loop-page l = l.copies.items ≡ code_of (take l.page-index l.pages)
