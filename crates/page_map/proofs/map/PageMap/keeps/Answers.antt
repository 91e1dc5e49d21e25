use Rattle.std.proofs.Common.{◌≡◌, ◌≤◌, ◌<◌, subst, ℕ, true, false, None}
use Rattle.std.specs.Vec.{vec_capacity}
use Rattle.mach_types.specs.Kernel.Pages.{can_execute, can_read, can_write, pages_of}
use Rattle.page_map.specs.Map.{Map, page_in, permission_in}
use Rattle.page_map.specs.Mapping.{IsGap}
use Rattle.page_map.proofs.Keeping.{break-kept, data-kept, gap-kept, writable-kept}
use Rattle.page_map.proofs.Maps.{shown}
use Rattle.page_map.proofs.map.PageMap.keeps.Goals as goal

pub returns-clause-writable : goal.returns-clause-writable
returns-clause-writable c =
    subst (λ (m : Map). (n : ℕ) → can_write (permission_in m n) ≡ true → (can_read (permission_in m n) ≡ true) × (can_execute (permission_in m n) ≡ false)) c.self.view_is
    (writable-kept (shown c.self.inside) (vec_capacity c.self.inside.mapped) c.self.invariant)

pub returns-clause-gap : goal.returns-clause-gap
returns-clause-gap c =
    subst (λ (m : Map). (n : ℕ) → IsGap n → permission_in m n ≡ None) c.self.view_is
    (gap-kept (shown c.self.inside) (vec_capacity c.self.inside.mapped) c.self.invariant)

pub returns-clause-past_break : goal.returns-clause-past_break
returns-clause-past_break c =
    subst (λ (m : Map). (n : ℕ) → pages_of m.break_at ≤ n → n < 33554432 → page_in m n ≡ None) c.self.view_is
    (break-kept (shown c.self.inside) (vec_capacity c.self.inside.mapped) c.self.invariant)

pub returns-clause-data : goal.returns-clause-data
returns-clause-data c =
    subst (λ (m : Map). (n : ℕ) → pages_of m.break_start ≤ n → n < 33554432 → can_execute (permission_in m n) ≡ false) c.self.view_is
    (data-kept (shown c.self.inside) (vec_capacity c.self.inside.mapped) c.self.invariant)

pub returns-clause-break_from : goal.returns-clause-break_from
returns-clause-break_from c = subst (λ (m : Map). m.break_start ≤ m.break_at) c.self.view_is (let kept = c.self.invariant in kept.break_from)

pub returns-clause-break_to : goal.returns-clause-break_to
returns-clause-break_to c = subst (λ (m : Map). m.break_at ≤ 137438953472) c.self.view_is (let kept = c.self.invariant in kept.break_to)
