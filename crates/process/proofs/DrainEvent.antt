-- The store that enters memory.
use Rattle.process.proofs.Common.{◌≡◌, ℕ, List, [], ◌∷◌, ap, ◌∙◌, subst, sym, true, Option, None, get_or, slice_get, IfSome, HartState, IsPlace, Parts, Stand, Store, can_write_in, each_byte, here_at, is_writable, Pages, can_write, permission_at, Neighbour, AllByRecursion, MayDrain}
use Rattle.block_model.specs.Standing.{MayEnter}
use Rattle.process.proofs.Places.{hart_is, writable_at}

-- where the process is alone, each store that waits lies on its pages
oldest_may : (p : Pages) (ws : List Store) → AllByRecursion (MayEnter None p) ws → IfSome (slice_get ws 0) (λ w. each_byte (λ a. can_write (permission_at p a)) w.at w.size ≡ true)
oldest_may p [] all = tt
oldest_may p (w ∷ ws) all = all.0

pub may_drain : (v : Stand) (m : Parts) (h : ℕ) → IsPlace v m h → v.beside ≡ None → MayDrain m h
may_drain v m h place alone = record {
  stand = v;
  place = place;
  paged = oldest_may v.plain.kernel.pages (v.plain.waiting h)
      (subst (λ (o : Option Neighbour). AllByRecursion (MayEnter o v.plain.kernel.pages) (v.plain.waiting h)) alone ((place.stands.good h place.lt).within h));
}

-- its bytes can be written
pub can_enter : (v : Stand) (m : Parts) (h : ℕ) (x : HartState) (o : Option Store) → IsPlace v m h
    → IfSome (slice_get (v.plain.waiting h) 0) (λ w. each_byte (is_writable (here_at v h)) w.at w.size ≡ true)
    → x ≡ get_or m.harts.items h x → o ≡ slice_get x.buffer 0
    → IfSome o (λ w. each_byte (can_write_in m.pages) w.at w.size ≡ true)
can_enter v m h x o place paged value is =
    let first : o ≡ slice_get (v.plain.waiting h) 0 = is ∙ ap (λ (y : HartState). slice_get y.buffer 0) (hart_is v m h x place value) in
    subst (λ (p : Option Store). IfSome p (λ w. each_byte (can_write_in m.pages) w.at w.size ≡ true)) (sym first)
    (rw (writable_at v m h place) paged)
