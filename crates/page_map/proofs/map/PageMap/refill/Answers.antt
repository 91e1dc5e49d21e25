use Rattle.std.proofs.Common.{◌≡◌, ℕ, ◌<◌, ◌∙◌, List, Option, Some, cond, length, nat_eq, slice_get, slice_index, ap, subst, sym, arith}
use Rattle.std.specs.Prelude.{IfSome}
use Rattle.std.specs.Option.{option_or}
use Rattle.elf_load.specs.declared.image.ImagePage.{ImagePage}
use Rattle.page_map.specs.Map.{Page, page_in, permission_in}
use Rattle.page_map.specs.Starting.{StandsWith, image_page}
use Rattle.page_map.specs.declared.mapped_page.MappedPage.{MappedPage}
use Rattle.page_map.proofs.Standing.{refilled}
use Rattle.page_map.proofs.map.PageMap.refill.Goals as goal

pub fill_image-requires-clause-stand : goal.fill_image-requires-clause-stand
fill_image-requires-clause-stand c i p at =
    subst (λ (ms : List MappedPage). StandsWith ms i p.number p.perm) (sym c.zero_pages.ensures.mapped)
    (c.requires.laid.image i p (ap (λ (ps : List ImagePage). slice_get ps i) (sym c.deref.ensures.value) ∙ at))

pub fill_at-requires-clause-place : goal.fill_at-requires-clause-place
fill_at-requires-clause-place c =
    let same : length c.fill_image.new.self.mapped ≡ length c.args.self.now.mapped =
    ap (λ (ms : List MappedPage). length ms) (c.fill_image.ensures.mapped ∙ c.zero_pages.ensures.mapped) in
    omega (arith, c.len.ensures, c.args.image.now.pages.ok.0, c.requires.laid.count)

pub returns-clause-pages : goal.returns-clause-pages
returns-clause-pages c n =
    let pages = c.args.image.now.pages.items in
    let start = c.args.self.now in
    let bytes = c.return_bytes.result in
    let at = subst (λ (ms : List MappedPage). StandsWith ms c.len.result 0x3FFFFF0 5) (sym (c.fill_image.ensures.mapped ∙ c.zero_pages.ensures.mapped))
    (subst (λ (i : ℕ). StandsWith start.mapped i 0x3FFFFF0 5) (sym (c.len.ensures ∙ c.args.image.now.pages.ok.0)) c.requires.laid.return) in
    let small = subst (λ (ps : List ImagePage). IfSome (image_page ps n) (λ (p : Page). (k : ℕ) → slice_index p.bytes k < 256)) c.deref.ensures.value
    (c.fill_image.ensures.small n) in
    refilled pages n (permission_in start n) bytes (page_in c.fill_at.new.self n) (c.has_start.ensures pages c.requires.laid n) c.requires.image.below
    (c.fill_at.ensures.pages n 0x3FFFFF0 5 at
    ∙ ap (λ (o : Option Page). let q : Option Page = cond (nat_eq n 0x3FFFFF0) (Some (record { permission = 5; bytes = bytes })) o in q)
    (c.fill_image.ensures.pages n ∙ ap (λ (ps : List ImagePage). option_or (image_page ps n) (page_in c.zero_pages.new.self n)) c.deref.ensures.value
    ∙ ap (option_or (image_page pages n)) (c.zero_pages.ensures.pages n)))
    small c.return_bytes.ensures.bytes c.fill_at.ensures.small

pub returns-clause-free : goal.returns-clause-free
returns-clause-free c =
    omega (arith, c.fill_at.ensures.free, c.fill_image.ensures.free, c.zero_pages.ensures.free, c.requires.laid.count)
