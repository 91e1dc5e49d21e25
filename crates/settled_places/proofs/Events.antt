-- An event at a place that is the same as one at which its choice is carried.
use Rattle.std.proofs.Common.{◌≡◌, ℕ, ◌<◌, ◌≤◌, ◌+◌, None, refl, sym, ◌∙◌, subst, arith}
use Rattle.mach_types.specs.Kernel.Threads.{Threads}
use Rattle.mach_types.specs.declared.events.Choice.{Choice}
use Rattle.block_model.specs.Deciding.{entry_in}
use Rattle.block_model.specs.Events.{done_of, refusal_of}
use Rattle.block_model.specs.Plain.{Plain, here_in_plain}
use Rattle.block_model.specs.Setting.{Setting}
use Rattle.block_model.specs.Standing.{IsStanding}
use Rattle.block_model.proofs.Laws.{IsGood, good_here, good_next, good_of, stand_fit, stand_next}
use Rattle.process.specs.Refinement.{answered}
use Rattle.local_steps.specs.Runs.{MayCome, next_of}
use Rattle.same_places.specs.Places.{IsCarried, IsSamePlace, alone, rested}
use Rattle.same_places.proofs.Laws.{free_answer, recounted, same_applied, same_recounted}

-- ONE EVENT

-- a place that stands, with room for one more event
pub record HasRoom (s : Setting) (p : Plain) : Type 0 where
  pub stands : IsStanding (alone s p)
  pub room : p.made < s.limits.steps

-- a machine that stands
pub record IsWell (s : Setting) (m : Plain) : Type 0 where
  pub good : IsGood s m
  pub stands : IsStanding (alone s m)

pub stands_on : (s : Setting) (p : Plain) (a : ℕ × Choice) → IsStanding (alone s p) → MayCome s p a → IsStanding (alone s (next_of s p a))
stands_on s p a stands may =
    let d = done_of a.1 (here_in_plain s p a.0) in
    stand_next (alone s p) a.0 d None (λ can. refl) may.lt stands (stand_fit (alone s p) a.0 a.1 stands may.lt may.free) d.entered

pub well_on : (s : Setting) (m : Plain) (a : ℕ × Choice) → IsWell s m → MayCome s m a → IsWell s (next_of s m a)
well_on s m a well may =
    let here = here_in_plain s m a.0 in
    record {
      good = good_next s m a.0 (done_of a.1 here) well.good (good_of a.1 here (good_here s m a.0 may.lt well.good) may.free);
      stands = stands_on s m a well.stands may;
    }

module _ (s : Setting) (high : s.limits.steps ≤ 1000000) (p q : Plain) (a : ℕ × Choice) (place : HasRoom s p) (well : IsWell s q) (same : IsSamePlace s p q)
    (carried : IsCarried s p a.0 a.1) where
  stands_counted : IsStanding (alone s (recounted (rested p) q))
  stands_counted =
      let given = place.stands.given in
      record {
        good = well.stands.good;
        sound = well.stands.sound;
        held = well.stands.held;
        events = λ h. omega arith;
        ran = λ h. omega arith;
        given = subst (λ (ts : Threads). ts.given ≤ p.made + 1) (sym same.tables.threads) given;
      }

  alike : answered (entry_in a.1 (here_in_plain s q a.0)) (refusal_of a.1 (here_in_plain s q a.0)) ≡ answered (entry_in a.1 (here_in_plain s p a.0)) (refusal_of a.1 (here_in_plain s p a.0))
  alike = carried.answer s.limits.steps (recounted (rested p) q) stands_counted place.room high (same_recounted s p q (rested p) same)

  -- it may come at both or at neither
  pub may_back : MayCome s q a → MayCome s p a
  may_back may = record {
    goes = sym same.over ∙ may.goes;
    lt = may.lt;
    free = free_answer (entry_in a.1 (here_in_plain s q a.0)) (entry_in a.1 (here_in_plain s p a.0)) (refusal_of a.1 (here_in_plain s q a.0)) (refusal_of a.1 (here_in_plain s p a.0)) alike may.free;
  }

  pub may_too : MayCome s p a → MayCome s q a
  may_too may = record {
    goes = same.over ∙ may.goes;
    lt = may.lt;
    free = free_answer (entry_in a.1 (here_in_plain s p a.0)) (entry_in a.1 (here_in_plain s q a.0)) (refusal_of a.1 (here_in_plain s p a.0)) (refusal_of a.1 (here_in_plain s q a.0)) (sym alike) may.free;
  }

  -- and leads both to the same place
  pub next_same : MayCome s p a → IsSamePlace s (next_of s p a) (next_of s q a)
  next_same may =
      same_applied s (next_of s p a) q (rested p) a.0 (done_of a.1 (here_in_plain s q a.0))
      (carried.after s.limits.steps (recounted (rested p) q) stands_counted place.room high (same_recounted s p q (rested p) same) may.free)
