-- What holds at a place: the state of its hart, counts that fit their words, and what an event that isn't a call leaves as it is.
use Rattle.process.proofs.Common.{◌≡◌, ℕ, ◌+◌, ◌<◌, ◌^◌, length, refl, sym, ap, ◌∙◌, arith, Bool, true, false, cond, eqb, eq-eqb, List, Option, Some, None, get_or, slice_get, option_map, option_or, Choice, End, Hart, HartState, Here, IsPlace, IsTables, Parts, Running, Stand, Write, byte_in, can_write_in, credit_of, done_of, final, hart_at, here_at, here_in_plain, is_stuck, is_writable, lost_unless, memory, refusal_of, runs, state_of, thread, Tid, Neighbour, or_in_segment, is_storable, reached, IsFit, running_is, HasHart, with_segment, stand_fit}
use Rattle.mach_types.specs.declared.limits.End.TheVariants as over
use Rattle.block_model.specs.Record.{Kernel}
use Rattle.process.proofs.HartStates.{hart_tied}
use Rattle.process.proofs.Memory.{bytes_held, writable_held}

-- the hart of a place is in the list
pub in_list : (v : Stand) (m : Parts) (h : ℕ) → IsPlace v m h → h < length m.harts.items
in_list v m h place = let lt = place.lt in let all = place.tied.all_harts in omega arith

-- and it is the plain machine's
pub hart_is : (v : Stand) (m : Parts) (h : ℕ) (x : HartState) → IsPlace v m h → x ≡ get_or m.harts.items h x → x ≡ hart_at v.setting v.plain h (credit_of m.harts.items h)
hart_is v m h x place value = hart_tied v.setting v.plain m h x place.tied place.lt value

-- a further instruction can be counted
pub ran_fits : (v : Stand) (m : Parts) (h : ℕ) (x : HartState) → IsPlace v m h → x ≡ get_or m.harts.items h x → x.ran + 1 < 2 ^ 32
ran_fits v m h x place value =
    let few = place.stands.ran h in let same : x.ran ≡ v.plain.ran h = ap (λ (y : HartState). y.ran) (hart_is v m h x place value) in
    let room = place.room in let steps = place.limits.most_steps in omega arith

-- its hart is one of the list also once the others lost what was written
pub still_there : (v : Stand) (m : Parts) (h : ℕ) (ws : List Write) (ys : List HartState) → IsPlace v m h
    → ((k : ℕ) → slice_get ys k ≡ option_map (lost_unless (eqb k h) ws) (slice_get m.harts.items k)) → HasHart ys h
still_there v m h ws ys place lost =
    (hart_at v.setting v.plain h (credit_of m.harts.items h), lost h ∙ rw (eq-eqb h h refl, place.tied.harts h place.lt) refl)

-- the tables of a place
pub tables_at : (v : Stand) (m : Parts) (h : ℕ) → IsPlace v m h → IsTables v.setting.limits.harts v.plain.kernel.threads v.plain.kernel.scheduling
tables_at v m h place = place.stands.sound.tables

pub fit_at : (v : Stand) (m : Parts) (h : ℕ) (c : Choice) → IsPlace v m h → refusal_of c (here_at v h) ≡ None → IsFit (here_at v h) (done_of c (here_at v h))
fit_at v m h c place free = stand_fit v h c place.stands place.lt free

-- the run goes on where the process goes on and is not stuck
pub goes_on : (v : Stand) (m : Parts) (h : ℕ) (k : Kernel) → IsPlace v m h → is_stuck k.threads ≡ false → m.ended ≡ final None k
goes_on v m h k place free = (place.tied.ended ∙ place.goes) ∙ rw free refl

-- it went on so far
pub was_not_stuck : (v : Stand) (m : Parts) (h : ℕ) → IsPlace v m h → is_stuck v.plain.kernel.threads ≡ false
was_not_stuck v m h place = go v.plain.ended (is_stuck v.plain.kernel.threads) place.goes
  where
    go : (o : Option End) (b : Bool) → option_or o (cond b (Some over.Stuck) None) ≡ None → b ≡ false
    go None false is = refl
    go None true is = cc
    go (Some e) b is = cc

-- what the page map shows of memory there
pub bytes_at : (v : Stand) (m : Parts) (h : ℕ) → IsPlace v m h → byte_in m.pages ≡ memory (here_at v h)
bytes_at v m h place = bytes_held v.plain.kernel v.setting.program.break_at v.plain.byte m.pages place.tied.pages

pub writable_at : (v : Stand) (m : Parts) (h : ℕ) → IsPlace v m h → can_write_in m.pages ≡ is_writable (here_at v h)
writable_at v m h place = writable_held v.plain.kernel v.setting.program.break_at v.plain.byte m.pages place.tied.pages place.tied.readable

-- where the process is alone, that is all that its instructions reach
pub alone_here : (v : Stand) (h : ℕ) → v.beside ≡ None → here_at v h ≡ here_in_plain v.setting v.plain h
alone_here v h alone = ap (λ (o : Option Neighbour). let here : Here = record (here_in_plain v.setting v.plain h) { beside = o } in here) alone

pub reached_at : (v : Stand) (m : Parts) (h : ℕ) → IsPlace v m h → v.beside ≡ None → byte_in m.pages ≡ reached (here_at v h)
reached_at v m h place alone = bytes_at v m h place ∙ ap (λ (o : Option Neighbour). with_segment o (memory (here_at v h))) (sym alone)

pub storable_at : (v : Stand) (m : Parts) (h : ℕ) → IsPlace v m h → v.beside ≡ None → can_write_in m.pages ≡ is_storable (here_at v h)
storable_at v m h place alone = writable_at v m h place ∙ ap (λ (o : Option Neighbour). or_in_segment o (is_writable (here_at v h))) (sym alone)

-- the thread on the hart of a place runs there
pub runs_there : (v : Stand) (m : Parts) (h : Hart) (t : ℕ) → IsPlace v m h.0 → runs (here_at v h.0) ≡ Some t → state_of t m.kernel.threads.threads ≡ Some (Running h)
runs_there v m h t place at = ap (state_of t) place.tied.tables.threads ∙ running_is v.setting.limits.harts h.0 t v.plain.kernel.threads v.plain.kernel.scheduling (tables_at v m h.0 place) at

-- a thread that a hart keeps is the one that runs there
pub thread_is : (o : Option ℕ) (t : Tid) → Some t ≡ option_map thread o → o ≡ Some t.0
thread_is None t is = cc
thread_is (Some u) t is = let same : t ≡ thread u = cc in ap Some (sym (ap (λ (z : Tid). z.0) same))
