-- The page with a number, found by its place among the numbers.
use Rattle.process.proofs.Common.{◌≡◌, sym, ap, ◌∙◌, arith, Some, None, nat_eq, position, length-map, ImagePage}
use Rattle.process.proofs.Lookups.{page_of-none, page_of-rising, numbers, some_stands, none_stands}
use Rattle.process.proofs.code_pages.CodePages.page.Goals as goal

pub returns-in-Some : goal.returns-in-Some
returns-in-Some c =
    let pages = c.self.inside.pages.items in
    let same : c.deref.result.now ≡ numbers pages = c.deref.ensures.value ∙ c.self.invariant.0 in
    let found : position (λ m. nat_eq m c.args.number) (numbers pages) ≡ Some c.in-Some.index = ap (λ xs. position (λ m. nat_eq m c.args.number) xs) (sym same) ∙ sym c.place_of.ensures ∙ c.in-Some.is in
    let at = some_stands (numbers pages) c.args.number c.in-Some.index found in
    rw (← c.self.view_is) (sym (page_of-rising pages c.args.number c.in-Some.index c.index.result.now c.self.invariant.1 (omega (arith, at.0, length-map pages (λ (p : ImagePage). p.number))) at.0 c.index.ensures at.1))

pub returns-in-None : goal.returns-in-None
returns-in-None c =
    let pages = c.self.inside.pages.items in
    let same : c.deref.result.now ≡ numbers pages = c.deref.ensures.value ∙ c.self.invariant.0 in
    let none : position (λ m. nat_eq m c.args.number) (numbers pages) ≡ None = ap (λ xs. position (λ m. nat_eq m c.args.number) xs) (sym same) ∙ sym c.place_of.ensures ∙ c.in-None.is in
    rw (← c.self.view_is) (sym (page_of-none pages c.args.number (none_stands (numbers pages) c.args.number none)))
