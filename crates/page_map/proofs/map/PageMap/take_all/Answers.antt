use Rattle.std.proofs.Common.{◌≡◌, ◌≤◌, ◌<◌, ◌∙◌, ℕ, List, Some, get_or, length, slice_get, ap, refl, subst, sym, arith, ◌⊎◌, None}
use Rattle.std.proofs.lemmas.Option.{slice_get-get_or}
use Rattle.page_map.specs.Map.{page_in}
use Rattle.page_map.specs.Starting.{StandsWith}
use Rattle.page_map.specs.declared.mapped_page.MappedPage.{MappedPage}
use Rattle.page_map.proofs.TakenPages.{alike-there, all-taken, stands-at, taken-next}
use Rattle.page_map.proofs.map.PageMap.take_all.Goals as goal

-- how many pages there are, while they are taken over
same_count : (mapped now : List MappedPage) → now ≡ mapped → length now ≡ length mapped
same_count mapped now is = ap (λ (ms : List MappedPage). length ms) is

pub loop-place-init : goal.loop-place-init
loop-place-init c = record {
  mapped = refl;
  taken = λ i n permission before at. absurd (omega arith);
  free = refl;
  break_at = refl;
  break_start = refl;
}

pub take_at-requires-clause-place : goal.take_at-requires-clause-place
take_at-requires-clause-place c =
    let same = same_count c.args.self.now.mapped c.loop-place.self.mapped c.loop-place.invariant.mapped in omega (arith, c.count-place-end.ensures)

pub take_at-requires-clause-other : goal.take_at-requires-clause-other
take_at-requires-clause-other c = omega (arith, c.count-place-end.ensures, c.requires.count)

pub loop-place-preserved : goal.loop-place-preserved
loop-place-preserved c =
    let mapped = c.args.self.now.mapped in
    let others = c.args.other.now.mapped in
    let i = c.loop-place.place in
    let was = c.loop-place.invariant in
    let within : i < length mapped = omega (arith, c.count-place-end.ensures) in
    let given : MappedPage = record { number = 0; frame = 0; permission = 0 } in
    let p : MappedPage = get_or mapped i given in
    let at = stands-at mapped i p (slice_get-get_or mapped i given within) in
    let here = subst (λ (ms : List MappedPage). StandsWith ms i p.number p.permission) (sym was.mapped) at in
    let there = alike-there mapped others c.requires i p.number p.permission at in
    record {
      mapped = c.take_at.ensures.mapped ∙ was.mapped;
      taken =
          taken-next mapped (page_in c.loop-place.self) (page_in c.take_at.new.self) (page_in c.args.other.now) i p.number p.permission at
          (λ n. c.take_at.ensures.pages n p.number p.permission here there) was.taken;
      free = c.take_at.ensures.free ∙ was.free;
      break_at = c.take_at.ensures.break_at ∙ was.break_at;
      break_start = c.take_at.ensures.break_start ∙ was.break_start;
    }

pub returns-clause-pages : goal.returns-clause-pages
returns-clause-pages c =
    let was = c.loop-place.invariant in
    all-taken c.args.self.now.mapped c.args.other.now.mapped (page_in c.loop-place.self) (page_in c.args.other.now) c.loop-place.place c.requires
    (omega (arith, c.count-place-end.ensures))
    (subst (λ (ms : List MappedPage). (n : ℕ) → (page_in c.loop-place.self n ≡ None) ⊎ ((i : ℕ) × (permission : ℕ) × StandsWith ms i n permission)) was.mapped c.has_places.ensures.placed)
    c.has_places-2.ensures.placed was.taken
