use Rattle.std.proofs.Common.{◌≡◌, ◌+◌, ◌++◌, ◌∷◌, [], ℕ, length, length-append, sym, ap, ◌∙◌, arith, subst}
use Rattle.std.proofs.lemmas.List.{map-append}
use Rattle.frame_pool.proofs.Laws.{AreHeld-last, free_count-giving}
use Rattle.frame_pool.specs.Held.{AreHeld}
use Rattle.frame_pool.specs.Pool.{IsTaken, free_count}
use Rattle.page_map.specs.Mapping.{frames_of}
use Rattle.page_map.specs.declared.mapped_page.MappedPage.{MappedPage}
use Rattle.page_map.proofs.map.give_back.Goals as goal

pub give-requires : goal.give-requires
give-requires c =
    let held : AreHeld c.loop-page.pool (frames_of c.pop.new.self.items ++ c.in-Some.page.frame ∷ []) =
    subst (AreHeld c.loop-page.pool) (ap frames_of c.in-Some.ensures.items ∙ map-append (λ (p : MappedPage). p.frame) c.pop.new.self.items (c.in-Some.page ∷ [])) c.loop-page.invariant.held in
    subst (λ (n : ℕ). IsTaken c.loop-page.pool n) (sym c.into_frame.ensures) (AreHeld-last c.loop-page.pool (frames_of c.pop.new.self.items) c.in-Some.page.frame held).0

pub loop-page-preserved : goal.loop-page-preserved
loop-page-preserved c =
    let held : AreHeld c.loop-page.pool (frames_of c.pop.new.self.items ++ c.in-Some.page.frame ∷ []) =
    subst (AreHeld c.loop-page.pool) (ap frames_of c.in-Some.ensures.items ∙ map-append (λ (p : MappedPage). p.frame) c.pop.new.self.items (c.in-Some.page ∷ [])) c.loop-page.invariant.held in
    let last = AreHeld-last c.loop-page.pool (frames_of c.pop.new.self.items) c.in-Some.page.frame held in
    let one : length c.loop-page.mapped.items ≡ length c.pop.new.self.items + 1 =
    ap length c.in-Some.ensures.items ∙ length-append c.pop.new.self.items (c.in-Some.page ∷ []) in
    let more : free_count c.give.new.self ≡ free_count c.loop-page.pool + 1 =
    rw (c.give.ensures, c.into_frame.ensures) (free_count-giving c.loop-page.pool c.in-Some.page.frame last.0) in
    record {
      held = rw (c.give.ensures, c.into_frame.ensures) last.1;
      capacity = c.pop.ensures.capacity ∙ c.loop-page.invariant.capacity;
      free = omega (arith, one, more, c.loop-page.invariant.free);
    }
