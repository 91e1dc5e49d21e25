-- Threads without an area may rest, where no signal that is delivered to one of them has a handler.
use Rattle.local_steps.proofs.Common.{Bool, ◌≡◌, ◌≢◌, ℕ, refl, ap, ◌∙◌, Some, None, Choice, Done, Here, IsGoodHere, Kind, Plain, Saved, Setting, area_here, area_of, here_in_plain, runs}
use Rattle.mach_types.specs.Events.{kind_of}
use Rattle.mach_types.specs.declared.events.Choice.TheVariants as asked
use Rattle.mach_types.specs.declared.events.Kind.TheVariants as kind
use Rattle.mach_types.specs.declared.sequences.Outcome.TheVariants as comes_to
use Rattle.local_steps.proofs.Notions.{IsOutside}
use Rattle.local_steps.specs.Resting.{IsOther}
use Rattle.local_steps.specs.Runs.{MayCome, next_of}
use Rattle.block_model.proofs.EventEffects.{Calls, EventDeed, deed_chosen}
use Rattle.local_steps.proofs.Ahead.{IsBehind}
use Rattle.block_model.proofs.Laws.{aside_called, good_here}

-- an event that is no instruction of thread t leaves its area
area_still : (here : Here) (t : ℕ) {tid : ℕ} {k : Kind} {d : Done} → IsGoodHere here → EventDeed here tid k d → (k ≡ kind.Exec → runs here ≢ Some t)
    → area_of t d.kernel.areas ≡ area_of t here.kernel.areas
area_still here t good (Calls u e next calls outside) other =
    (aside_called here u good next.at).beside.areas t (λ same. other refl (next.at ∙ ap Some same))
area_still here t good deed other = refl

executes : (c : Choice) → kind_of c ≡ kind.Exec → c ≡ asked.Exec
executes asked.Exec is = refl
executes c is = absurd cc

pub area_stays : (s : Setting) (private : ℕ → ℕ → Bool) (t : ℕ) (g : Saved) (m : Plain) (a : ℕ × Choice) → IsBehind s private t g m → MayCome s m a → IsOther a.1 (here_in_plain s m a.0) t
    → area_of t (next_of s m a).kernel.areas ≡ area_of t m.kernel.areas
area_stays s private t g m a behind may other =
    let here = here_in_plain s m a.0 in
    area_still here t (good_here s m a.0 may.lt behind.good) (deed_chosen here a.1) (λ is. other (executes a.1 is))

-- an interruption of a thread without an area comes to nothing
pub outside : (here : Here) (t : ℕ) (g : Saved) → area_here here t ≡ None → IsOutside here t g
outside here t g none = record {
  same = rw none refl;
  kept = λ at is. let bad : comes_to.Nothing ≡ comes_to.Aborted at = rw none at is in cc;
}
