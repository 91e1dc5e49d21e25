-- What each event of a process does, whatever stands there: which takes requests of barriers and which may begin one; that one that ends
-- its process executes and drains nothing; and that a fault writes nothing.
use Rattle.mach_types.specs.declared.events.Choice.TheVariants as asked
use Rattle.mach_types.specs.declared.events.Kind.TheVariants as kind
use Rattle.mach_types.specs.declared.events.Why.TheVariants.{NoRequest}
use Rattle.block_model.specs.Events.Preempt.{unless_waiting}
use Rattle.block_model.proofs.EventEffects.{Calls, Drains, EventDeed, Executes, Restarts, Takes, deed_chosen}
use Rattle.shared_procs.proofs.Common.{◌≡◌, ◌≢◌, ℕ, List, [], ◌∷◌, Bool, true, false, cond, eqb, Option, None, Some, refl, by_fault, Choice, cond_both, Done, done_of, done_take_by, End, false≢true, has_handler, Here, is_take, Kind, kind_of, refusal_of, runs, Store, waiting_here}

pub record DoesSo (c : Choice) (d : Done) : Type 0 where
  pub took_is : d.took ≡ is_take c
  pub none_begun : c ≢ asked.Exec → d.barrier ≡ None
  pub quietly : (e : End) → d.ended ≡ Some e → (d.executed ≡ []) × (d.drained ≡ 0)

module _ (here : Here) where
  begins_none : {tid : ℕ} {k : Kind} {d : Done} → EventDeed here tid k d → k ≢ kind.Exec → d.barrier ≡ None
  begins_none (Calls t e next calls outside) other = absurd (other refl)
  begins_none deed other = refl

  ends_quietly : {tid : ℕ} {k : Kind} {d : Done} → EventDeed here tid k d → (e : End) → d.ended ≡ Some e → (d.executed ≡ []) × (d.drained ≡ 0)
  ends_quietly (Executes t e next) end is = cc
  ends_quietly (Drains w ws waits) end is = cc
  ends_quietly deed end is = (refl, refl)

  takes_none : {tid : ℕ} {k : Kind} {d : Done} → EventDeed here tid k d → k ≢ kind.Take → d.took ≡ false
  takes_none Takes other = absurd (other refl)
  takes_none (Restarts t at) other = absurd (other refl)
  takes_none deed other = refl

  takes : (restart : Bool) (r : Option ℕ) → (done_take_by here restart r).took ≡ true
  takes false r = refl
  takes true None = refl
  takes true (Some t) = refl

  takes_so : (c : Choice) → (done_of c here).took ≡ is_take c
  takes_so asked.Take = takes here.restart (runs here)
  takes_so c = takes_none (deed_chosen here c) (λ is. cc)

  not_exec : (c : Choice) → c ≢ asked.Exec → kind_of c ≢ kind.Exec
  not_exec asked.Exec other is = other refl
  not_exec c other is = cc

  pub does_so : (c : Choice) → DoesSo c (done_of c here)
  does_so c = record {
    took_is = takes_so c;
    none_begun = λ other. begins_none (deed_chosen here c) (not_exec c other);
    quietly = ends_quietly (deed_chosen here c);
  }

  -- a take, where it may come, takes them where no store of its hart waits
  none_waits : (none : Bool) (ws : List Store) → cond none (Some NoRequest) (unless_waiting ws) ≡ None → ws ≡ []
  none_waits true ws free = cc
  none_waits false [] free = refl
  none_waits false (w ∷ ws) free = cc

  pub takes_where_none_waits : (c : Choice) → refusal_of c here ≡ None → is_take c ≡ true → waiting_here here ≡ []
  takes_where_none_waits asked.Take free took = none_waits (eqb here.requests 0) (waiting_here here) free
  takes_where_none_waits c free took = absurd (false≢true took)

-- a fault writes nothing
pub record IsQuiet (d : Done) : Type 0 where
  pub untaken : d.took ≡ false
  pub none_begun : d.barrier ≡ None
  pub none_written : d.entered ≡ []

pub fault_by : (here : Here) (t signal : ℕ) → IsQuiet (by_fault here t signal)
fault_by here t signal =
    cond_both (has_handler here t signal) _ _ IsQuiet (λ _. record { untaken = refl; none_begun = refl; none_written = refl })
    (λ _. record { untaken = refl; none_begun = refl; none_written = refl })
