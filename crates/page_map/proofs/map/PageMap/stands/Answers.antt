use Rattle.std.proofs.Common.{◌≡◌, ℕ, ◌+◌, ◌-◌, ◌<◌, ◌∙◌, List, Some, length, slice_get, ap, subst, arith}
use Rattle.std.proofs.lemmas.Bool.{OnTrue_from}
use Rattle.elf_load.specs.declared.image.ImagePage.{ImagePage}
use Rattle.page_map.specs.Starting.{StandsWith}
use Rattle.page_map.proofs.Starts.{on-true}
use Rattle.page_map.proofs.map.PageMap.stands.Goals as goal

pub returns-clause-pages : goal.returns-clause-pages
returns-clause-pages c = OnTrue_from c.stack_stands.result _ (λ yes.
    let pages = c.args.image.now.pages.items in
    let mapped = c.args.self.now.mapped in
    let count = c.count-mapped.result in
    let size : length mapped ≡ length pages + 65 = omega (arith, c.count-mapped.ensures, c.len.ensures, c.args.image.now.pages.ok.0) in
    let place : c.count-mapped.result - 65 ≡ length pages = omega (arith, c.count-mapped.ensures, c.len.ensures, c.args.image.now.pages.ok.0) in
    record {
      count = omega arith;
      image = λ i p at.
          on-true c.image_stands.result ((i : ℕ) (p : ImagePage) → slice_get c.deref.result.now i ≡ Some p → StandsWith mapped i p.number p.perm)
          c.if-not-image_stands.false c.image_stands.ensures i p (ap (λ (ps : List ImagePage). slice_get ps i) c.deref.ensures.value ∙ at);
      return =
          subst (λ (i : ℕ). StandsWith mapped i 0x3FFFFF0 5) place
          (on-true c.has_at.result (StandsWith mapped (count - 65) 0x3FFFFF0 5) c.if-not-has_at.false c.has_at.ensures);
      stack = λ k few.
          subst (λ (j : ℕ). StandsWith mapped (j - 1 - k) (0x3FFFF00 + k) 6) c.count-mapped.ensures
          (on-true c.stack_stands.result ((k : ℕ) → k < 64 → StandsWith mapped (count - 1 - k) (0x3FFFF00 + k) 6) yes c.stack_stands.ensures k few);
    })

pub returns-clause-break_at : goal.returns-clause-break_at
returns-clause-break_at c = OnTrue_from c.stack_stands.result _ (λ yes. cc)

pub returns-clause-break_start : goal.returns-clause-break_start
returns-clause-break_start c = OnTrue_from c.stack_stands.result _ (λ yes. cc)
