-- What an event makes of where a process stands: one of its own, and one of another process beside it.
use Rattle.block_model.proofs.Common.{◌≡◌, ◌≢◌, ℕ, ◌+◌, ◌≤◌, ◌<◌, Bool, true, false, cond, eqb, Option, List, [], ◌∷◌, suc, None, refl, ap, ◌∙◌, arith, AllByRecursion, Choice, Done, IsLeastFree, MayEnter, Neighbour, Pages, Store, Write, can_write, done_of, each_byte, held_ids, is_taken, next_id, or_in_segment, permission_at, refusal_of, refusal_run}
use Rattle.block_model.specs.Standing.{IsStanding}
use Rattle.block_model.specs.Stands.{Stand, aside, here_at, stand_after}
use Rattle.block_model.proofs.Barriers.Events.{waited_before}
use Rattle.block_model.proofs.Ids as ids
use Rattle.block_model.proofs.IdsOnHarts as on_harts
use Rattle.block_model.proofs.IdsOnHarts.{is_held_below}
use Rattle.block_model.proofs.Invariants.Events.{run_ready}
use Rattle.block_model.proofs.PlaceInvariant.{IsFit, busy_next, empty_next, few_next, idle_next, within_next}
use Rattle.block_model.proofs.Runs.{good_of}

-- what an allowed event does there is fit
pub stand_fit : (v : Stand) (h : ℕ) (c : Choice) → IsStanding v → h < v.setting.limits.harts → refusal_of c (here_at v h) ≡ None
    → IsFit (here_at v h) (done_of c (here_at v h))
stand_fit v h c stands lt free = good_of c (here_at v h) (stands.good h lt) free

-- where a thread may begin to run, the next id is the least that no thread holds and below the number of
-- harts, so not all are held
pub record HasFreeId (harts : ℕ) (ids : List (ℕ × ℕ)) : Type 0 where
  pub least : IsLeastFree ids (next_id ids)
  pub below : next_id ids < harts
  pub some : held_ids ids ≢ 255

pub stand_free_id : (v : Stand) (h t : ℕ) → IsStanding v → v.setting.limits.harts ≤ 8 → h < v.setting.limits.harts → refusal_run (here_at v h) t ≡ None
    → HasFreeId v.setting.limits.harts v.plain.kernel.ids
stand_free_id v h t stands few lt free =
    let k = v.plain.kernel in
    let idle = (run_ready (here_at v h) t free).0 in
    let fewer = ids.fewer_than_harts v.setting.limits.harts h t k.threads k.scheduling k.ids stands.sound.tables (stands.held.ids few) idle lt in
    let low = ids.next_low k.ids (omega arith) in
    let least = ids.next_is k.ids (omega arith) in
    record { least = least; below = omega arith; some = on_harts.not_full k.ids (next_id k.ids) (omega arith) least.free }

-- an id is taken where a thread on one of the machine's harts holds it, looked for hart by hart
pub stand_taken : (v : Stand) (n : ℕ) → IsStanding v → v.setting.limits.harts ≤ 8
    → is_taken v.plain.kernel.ids n ≡ is_held_below v.plain.kernel.threads v.plain.kernel.ids n v.setting.limits.harts
stand_taken v n stands few =
    let k = v.plain.kernel in
    on_harts.taken_on_harts v.setting.limits.harts k.threads k.scheduling k.ids stands.sound.tables (stands.held.ids few) n

-- the segment is there as before
abbrev pub SameSegment : Option Neighbour → Option Neighbour → Type 0
SameSegment old new = (can : ℕ → Bool) → or_in_segment new can ≡ or_in_segment old can

may_stay : (old new : Option Neighbour) (p : Pages) (ws : List Store) → SameSegment old new → AllByRecursion (MayEnter old p) ws → AllByRecursion (MayEnter new p) ws
may_stay old new p [] same may = tt
may_stay old new p (w ∷ ws) same may =
    (ap (λ (can : ℕ → Bool). each_byte can w.at w.size) (same (λ a. can_write (permission_at p a))) ∙ may.0, may_stay old new p ws same may.1)

module _ (v : Stand) (h : ℕ) (d : Done) (beside : Option Neighbour) (same : SameSegment v.beside beside) (lt : h < v.setting.limits.harts)
    (stands : IsStanding v) (fit : IsFit (here_at v h) d) where
  ran_after : (k : ℕ) (own : Bool) → cond own (cond d.started 0 (v.plain.ran k) + d.instructions) (v.plain.ran k) ≤ suc v.plain.made
  ran_after k true = either d.started
    where
      either : (c : Bool) → cond c 0 (v.plain.ran k) + d.instructions ≤ suc v.plain.made
      either true = let one = fit.one in omega arith
      either false = let one = fit.one in let was = stands.ran k in omega arith
  ran_after k false = let was = stands.ran k in omega arith

  events_after : (k : ℕ) (own : Bool) → cond own (v.plain.events k + 1) (v.plain.events k) ≤ suc v.plain.made
  events_after k true = let was = stands.events k in omega arith
  events_after k false = let was = stands.events k in omega arith

  -- an allowed event keeps it, whatever enters memory
  pub stand_next : (writes : List Write) → IsStanding (stand_after v h (record d { entered = writes }) beside)
  stand_next writes =
      let here = here_at v h in
      record {
        good = λ k low.
            let was = stands.good k low in
            record {
              lt = low;
              within = λ j. may_stay v.beside beside d.kernel.pages _ same (within_next here d v.plain.awaits refl fit j (eqb h j));
              few = few_next here d v.plain.awaits refl fit k (eqb h k) refl was.few;
              idle = λ j none. idle_next here d v.plain.awaits refl fit j (eqb h j) refl (was.idle j) none;
              busy = λ left waits. busy_next here d v.plain.awaits refl fit k left (eqb h k) refl was.busy waits;
              empty = λ left waits. empty_next here d v.plain.awaits refl fit k left (eqb h k) refl was.empty waits;
              kernel = fit.kernel;
            };
        sound = fit.kernel;
        held = fit.held stands.held;
        events = λ k. events_after k (eqb h k);
        ran = λ k. ran_after k (eqb h k);
        given = let was = stands.given in let now = fit.given in omega arith;
      }

-- and so does one of another process
pub stand_aside : (v : Stand) (h : ℕ) (d : Done) (writes : List Write) (beside : Option Neighbour) → SameSegment v.beside beside → IsStanding v
    → IsStanding (record { setting = v.setting; plain = aside h d writes v.plain; beside = beside })
stand_aside v h d writes beside same stands = record {
  good = λ k low.
      let was = stands.good k low in
      record {
        lt = low;
        within = λ j. may_stay v.beside beside v.plain.kernel.pages (v.plain.waiting j) same (was.within j);
        few = was.few;
        idle = was.idle;
        busy = λ left waits. let before = waited_before h left (v.plain.awaits k) d.took waits in was.busy before.0 before.1;
        empty = λ left waits. let before = waited_before h left (v.plain.awaits k) d.took waits in was.empty before.0 before.1;
        kernel = was.kernel;
      };
  sound = stands.sound;
  held = stands.held;
  events = λ k. let was = stands.events k in omega arith;
  ran = λ k. let was = stands.ran k in omega arith;
  given = let was = stands.given in omega arith;
}
