use Rattle.std.proofs.Common.{◌≡◌, ◌≤◌, ◌∙◌, Bool, false, ℕ, List, length, replicate, ap, sym, subst, arith}
use Rattle.std.specs.Vec.{vec_len}
use Rattle.std.proofs.lemmas.List.{length-replicate}
use Rattle.frame_pool.specs.Layout.{AreStored, IsLaidOut, bytes_shown, pool_of}
use Rattle.frame_pool.specs.Pool.{fresh, zeroed}
use Rattle.frame_pool.proofs.Shown.{length-shown, shown-none, stored-none}
use Rattle.frame_pool.proofs.Zeroing.{pool_of-zeroed}
use Rattle.frame_pool.proofs.pool.FramePool.zero_taken.Goals as goal
use Rattle.frame_pool.proofs.pool.FramePool.zero_taken.Goals.{After-fill}

none : (c : After-fill) → c.fill.new.self.items ≡ replicate (vec_len c.self.inside.written) false
none c = c.fill.ensures.items (λ y is. is)

-- no frame is written
zeros : (c : After-fill) → bytes_shown c.fill.new.self.items c.self.inside.region.items ≡ replicate (length c.self.inside.taken.items) fresh
zeros c =
    let p = c.self.inside in
    let count : vec_len p.written ≡ length p.taken.items =
    p.written.ok.0 ∙ sym (length-shown p.written.items p.region.items) ∙ c.self.invariant.0.marks in
    ap (λ (written : List Bool). bytes_shown written p.region.items) (none c)
    ∙ shown-none (vec_len p.written) p.region.items ∙ ap (λ (k : ℕ). replicate k fresh) count

pub invariant_of-self : goal.invariant_of-self
invariant_of-self c =
    let p = c.self.inside in
    let was = c.self.invariant.0 in (
      subst (λ (region : List (List ℕ)). IsLaidOut p.frames region p.taken.items p.free.items) (sym (zeros c)) (record {
        marks = length-replicate (length p.taken.items) fresh;
        within = omega (arith, was.marks, was.within, length-replicate (length p.taken.items) fresh);
        numbers = was.numbers;
        stack = was.stack;
      }),
      record {
        bytes = c.self.invariant.1.bytes;
        written = let room = c.self.invariant.1.written in omega (arith, c.fill.ensures.capacity);
        marks = c.self.invariant.1.marks;
        stack = c.self.invariant.1.stack;
      },
      subst (λ (written : List Bool). AreStored written p.region.items) (sym (none c)) (stored-none (vec_len p.written) p.region.items),
    )

pub returns : goal.returns
returns c =
    let p = c.self.inside in
    ap (pool_of p.frames p.taken.items) (zeros c)
    ∙ pool_of-zeroed p.frames p.taken.items (bytes_shown p.written.items p.region.items) c.self.invariant.0.marks
    ∙ ap zeroed c.self.view_is
