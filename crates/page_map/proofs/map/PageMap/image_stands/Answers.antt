use Rattle.std.proofs.Common.{◌≡◌, ℕ, ◌<◌, ◌∙◌, [], inl, inr, length, get_or, slice_get, ap, subst, sym, arith}
use Rattle.std.proofs.lemmas.Bool.{cases_eq}
use Rattle.std.proofs.lemmas.Option.{get_or_from_slice_get, slice_get_within}
use Rattle.elf_load.specs.declared.image.ImagePage.{ImagePage}
use Rattle.page_map.specs.Starting.{StandsWith}
use Rattle.page_map.proofs.Starts.{on-true}
use Rattle.page_map.proofs.map.PageMap.image_stands.Goals as goal

pub loop-place-init : goal.loop-place-init
loop-place-init c i p before at = absurd (omega arith)

pub loop-place-preserved : goal.loop-place-preserved
loop-place-preserved c i p before at =
    let place = c.loop-place.place in
    let pages = c.args.pages.now in
    let mapped = c.args.self.now.mapped in
    let given : ImagePage = record { number = 0; perm = 0; bytes = [] } in
    elim (cases_eq i place) [
      | inl same ↦
          let page : get_or pages place given ≡ p = get_or_from_slice_get pages place p given (ap (slice_get pages) (sym same) ∙ at) in
          let there = on-true c.has_at.result (StandsWith mapped place (get_or pages place given).number (get_or pages place given).perm)
          c.if-not-has_at.false c.has_at.ensures in
          subst (λ (j : ℕ). StandsWith mapped j p.number p.perm) (sym same)
          (subst (λ (q : ImagePage). StandsWith mapped place q.number q.perm) page there)
      | inr two ↦ c.loop-place.invariant i p (omega arith) at
    ]

pub returns : goal.returns
returns c i p at =
    let within : i < length c.args.pages.now = slice_get_within c.args.pages.now i p at in
    c.loop-place.invariant i p (omega arith) at
