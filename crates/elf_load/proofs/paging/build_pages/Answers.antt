use Rattle.std.proofs.Common.{◌+◌, sym, ap, subst, ℕ}
use Rattle.elf_load.proofs.Building.{IsBuilt, built-none, built-next, built-pages}
use Rattle.elf_load.proofs.paging.build_pages.Goals as goal

pub loop-header-init : goal.loop-header-init
loop-header-init c = built-none _ _ _ c.in_ok-pages.ensures.items

pub loop-header-preserved : goal.loop-header-preserved
loop-header-preserved c =
    subst (λ (n : ℕ). IsBuilt c.args.file.now c.args.headers.now n c.push_segment.new.pages.items) (ap (λ (n : ℕ). n + 1) (sym c.last_page-from.ensures.page))
    (built-next _ _ _ _ _ _ c.requires.table c.requires.apart c.loop-header.invariant c.in-Some.ensures.next c.in_ok-push_segment.ensures)

pub returns : goal.returns
returns c = built-pages _ _ _ _ c.requires.table c.loop-header.invariant c.in_default.ensures.last
