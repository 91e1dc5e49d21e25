use Rattle.std.proofs.Common.{◌∙◌, ◌<◌, ◌+◌, List, [], Option, Some, cond, get_or, length, nat_eq, take, ap, subst, sym}
use Rattle.std.specs.Option.{option_or}
use Rattle.std.proofs.lemmas.Option.{slice_get-get_or, slice_get_within}
use Rattle.elf_load.specs.declared.image.ImagePage.{ImagePage}
use Rattle.page_map.specs.Map.{Page, page_in}
use Rattle.page_map.specs.Starting.{StandsWith, image_page}
use Rattle.page_map.specs.declared.mapped_page.MappedPage.{MappedPage}
use Rattle.page_map.proofs.Standing.{written-over}
use Rattle.page_map.proofs.Starts.{get_or-default, image_page-next, small-next}
use Rattle.page_map.proofs.map.PageMap.fill_image.Goals as goal

pub fill_at-requires-clause-place : goal.fill_at-requires-clause-place
fill_at-requires-clause-place c =
    let pages = c.args.pages.now in
    let i = c.loop-place.place in
    let page : ImagePage = get_or pages i (record { number = 0; perm = 0; bytes = [] }) in
    let at = c.requires.stand i page (slice_get-get_or pages i (record { number = 0; perm = 0; bytes = [] }) c.loop-place-test.true) in
    let within : i < length c.args.self.now.mapped = slice_get_within c.args.self.now.mapped i at.page at.there in
    subst (λ (ms : List MappedPage). i < length ms) (sym c.loop-place.invariant.mapped) within

pub loop-place-preserved : goal.loop-place-preserved
loop-place-preserved c =
    let pages = c.args.pages.now in
    let i = c.loop-place.place in
    let lt = c.loop-place-test.true in
    let page : ImagePage = get_or pages i (record { number = 0; perm = 0; bytes = [] }) in
    let was = c.loop-place.invariant in
    let filled = c.fill_at.ensures in
    let stands = subst (λ (ms : List MappedPage). StandsWith ms i page.number page.perm) (sym was.mapped)
    (c.requires.stand i page (slice_get-get_or pages i (record { number = 0; perm = 0; bytes = [] }) lt)) in
    let next = image_page-next pages i page c.requires.rising (get_or-default pages i (record { number = 0; perm = 0; bytes = [] }) lt) lt in
    record {
      pages = λ n.
          filled.pages n page.number page.perm stands
          ∙ ap (λ (o : Option Page). let q : Option Page = cond (nat_eq n page.number) (Some (record { permission = page.perm; bytes = page.bytes })) o in q) (was.pages n)
          ∙ written-over (nat_eq n page.number) (record { permission = page.perm; bytes = page.bytes }) (image_page (take i pages) n) (page_in c.args.self.now n)
          ∙ ap (λ (o : Option Page). option_or o (page_in c.args.self.now n)) (next n);
      small = λ n. small-next (image_page (take i pages) n) (image_page (take (i + 1) pages) n) (nat_eq n page.number) page.perm page.bytes (sym (next n)) (was.small n) filled.small;
      mapped = filled.mapped ∙ was.mapped;
      free = filled.free ∙ was.free;
      break_at = filled.break_at ∙ was.break_at;
      break_start = filled.break_start ∙ was.break_start;
    }
