use Rattle.std.proofs.Common.{◌∙◌, ◌<◌, List, ap, arith, subst, sym}
use Rattle.std.specs.Prelude.{All}
use Rattle.mach_types.specs.Kernel.Pages.{pages_of}
use Rattle.std.specs.Option.{option_map}
use Rattle.elf_load.specs.declared.image.ImagePage.{ImagePage}
use Rattle.page_map.specs.Map.{break_in, break_start_in, page_in}
use Rattle.page_map.specs.Starting.{image_page, mapped_page}
use Rattle.page_map.proofs.Starts.{below-end, none-below, not-return, stack-from, start-page}
use Rattle.page_map.proofs.map.PageMap.lay_out.Goals as goal

pub add-requires-clause-unmapped : goal.add-requires-clause-unmapped
add-requires-clause-unmapped c =
    c.add_image.ensures.pages 0x3FFFFF0 ∙ ap (λ (ps : List ImagePage). image_page ps 0x3FFFFF0) c.deref.ensures.value
    ∙ ap (option_map mapped_page) (none-below c.args.image.now.pages.items 0x3FFFFF0 c.requires.image.below (omega arith))

pub add_stack-requires-clause-unmapped : goal.add_stack-requires-clause-unmapped
add_stack-requires-clause-unmapped c n stack =
    let from = stack-from n stack in
    c.add.ensures.pages n ∙ (rw (not-return n stack)
    (c.add_image.ensures.pages n ∙ ap (λ (ps : List ImagePage). image_page ps n) c.deref.ensures.value
    ∙ ap (option_map mapped_page) (none-below c.args.image.now.pages.items n c.requires.image.below (omega arith))))

pub returns-clause-pages : goal.returns-clause-pages
returns-clause-pages c n =
    let pages = c.args.image.now.pages.items in
    start-page pages n (page_in c.add_image.new.self n) (page_in c.add.new.self n) (page_in c.add_stack.new.self n) c.return_bytes.result
    (c.add_image.ensures.pages n ∙ ap (λ (ps : List ImagePage). image_page ps n) c.deref.ensures.value) (c.add_image.ensures.small n)
    (c.add.ensures.pages n) (c.add_stack.ensures.pages n) c.return_bytes.ensures.bytes c.add.ensures.small

pub add_image-requires-clause-below_break : goal.add_image-requires-clause-below_break
add_image-requires-clause-below_break c =
    let image = c.requires.image in
    subst (λ (ps : List ImagePage). All (λ (p : ImagePage). p.number < pages_of (break_in c.args.self.now)) ps) (sym c.deref.ensures.value)
    (below-end c.args.image.now.pages.items (break_in c.args.self.now) image.rising (c.requires.break_at ∙ image.break_at))

pub add_image-requires-clause-below_start : goal.add_image-requires-clause-below_start
add_image-requires-clause-below_start c =
    let image = c.requires.image in
    subst (λ (ps : List ImagePage). All (λ (p : ImagePage). p.number < pages_of (break_start_in c.args.self.now)) ps) (sym c.deref.ensures.value)
    (below-end c.args.image.now.pages.items (break_start_in c.args.self.now) image.rising (c.requires.break_start ∙ image.break_at))
