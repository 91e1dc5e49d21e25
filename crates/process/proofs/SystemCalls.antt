-- A call of the thread on a hart.
use Rattle.process.proofs.Common.{◌≡◌, ◌≢◌, ℕ, ◌+◌, ◌-◌, ◌<◌, ◌^◌, append-nil, length, inl, inr, refl, subst, sym, ap, ◌∙◌, arith, Bool, true, false, cond, ◌||◌, ◌⊎◌, Option, Some, None, get_or, option_map, option_or, false≢true, End, Hart, HartState, IsPlace, Next, Parts, Plain, Saved, Setting, Stand, Threads, asked_by, by_call, credit_of, done_of, file_among, file_on, hart_at, hart_in, harts_that, here_at, here_in_plain, id_on, is_busy, is_stuck, running_on, no_registers, Entry, barrier_of, gives_up, called, CallDone, running_harts, final, number_of, Barrier, runs, id_of, without_id, is_about, restarts_at, with_hart, is_inside_here, IsTables, areas_by_number, entry_from, IsOwnStep, IsPlanned, AreSignalsOfLive, IsAt, IsOwnCall, process_end, AreOfLive, hart_after_call, waits_after, IsInside}
use Rattle.mach_types.specs.declared.events.Choice.TheVariants as asked
use Rattle.mach_types.specs.declared.events.Kind.TheVariants as kind
use Rattle.mach_types.specs.declared.limits.End.TheVariants as over
use Rattle.rv_inst.specs.declared.effects.Effect.TheVariants as effect
use Rattle.sys_calls.specs.declared.calling.CallEnd.{CallEnd}
use Rattle.sys_calls.specs.declared.calling.CallEnd.TheVariants as ends
use Rattle.process.proofs.Membarriers.{running_here}
use Rattle.process.proofs.Entries.{entry_here}
use Rattle.process.proofs.ExecEvent.{done_call}
use Rattle.process.proofs.ConcurrencyIds.{id_without_other, others_apart}
use Rattle.process.proofs.HartStates.{own_after}
use Rattle.process.proofs.Places.{hart_is, tables_at}

-- a hart after a call that leaves its barriers so, with its counts
abbrev after_call : Bool → Option ℕ → Saved → HartState → HartState
after_call b waits saved x =
    let z : HartState = cond b (record x { file = no_registers; pc = 0; running = None; reserved = None; cid = 0 }) (record x { file = saved.file; pc = saved.pc; waits = waits; reserved = None }) in
    record z { ran = z.ran + 1; events = z.events + 1 }

-- the counts alone
abbrev pub executed : HartState → HartState
executed x = record x { ran = x.ran + 1; events = x.events + 1 }

-- who gives up a hart began no barrier
no_barrier : (end : CallEnd) → gives_up end ≡ true → barrier_of end ≡ None
no_barrier (ends.Barrier targets restart) gives = cc
no_barrier end gives = refl

abbrev targets_of : Option Barrier → Option ℕ → Option ℕ
targets_of barrier waits = option_or (option_map (λ (b : Barrier). b.targets) barrier) waits

-- the hart of the thread after its call
pub call_own : (credit : ℕ) (s : Setting) (p : Plain) (h t : ℕ) (end : CallEnd) (saved : Saved) (c : CallDone) (x y : HartState) → x ≡ hart_at s p h credit → runs (here_in_plain s p h) ≡ Some t →
    running_on h c.kernel.threads ≡ cond (gives_up end) None (Some t) → c.kernel.ids ≡ cond (gives_up end) (without_id t p.kernel.ids) p.kernel.ids → saved ≡ file_among c.files t (p.file t) → barrier_of end ≡ c.barrier →
    y ≡ executed (hart_after_call end saved x) → asked_by h h c.barrier y ≡ own_after s p h (by_call (here_in_plain s p h) c) credit
call_own credit s p h t end saved c x y at its hart ids own told is =
    ap (asked_by h h c.barrier) (is ∙ ap (λ z. executed (hart_after_call end saved z)) at ∙ ap (λ o. after_call (gives_up end) (targets_of o (p.awaits h)) saved (hart_at s p h credit)) told)
    ∙ rw append-nil (go (gives_up end) (λ gives. sym told ∙ no_barrier end gives) hart ids)
  where
    go : (b : Bool) → (b ≡ true → c.barrier ≡ None) → running_on h c.kernel.threads ≡ cond b None (Some t) → c.kernel.ids ≡ cond b (without_id t p.kernel.ids) p.kernel.ids
        → asked_by h h c.barrier (after_call b (targets_of c.barrier (p.awaits h)) saved (hart_at s p h credit)) ≡ hart_in (record (here_in_plain s p h) {
          file = λ u. file_among c.files u (p.file u);
          reserved = None;
          requests = cond (is_about h c.barrier) (with_hart h (p.requests h)) (p.requests h);
          restart = restarts_at h c.barrier || p.restart h;
          awaits = targets_of c.barrier (p.awaits h);
          kernel = c.kernel;
        }) (p.ran h + 1) (p.events h + 1) credit
    go true none e same = let began : c.barrier ≡ None = none refl in rw (e, began) refl
    go false none e same = rw (e, its, own, same) refl

-- how the run has ended
pub ended_after : (end : CallEnd) (c : CallDone) (o : Option End) (b : Bool) → process_end end ≡ c.ended → b ≡ is_stuck c.kernel.threads → o ≡ option_or (process_end end) (cond b (Some over.Stuck) None) → o ≡ final c.ended c.kernel
ended_after end c o b process stuck is = is ∙ rw (process, stuck) refl

-- what a call finds
pub record IsCalling (v : Stand) (m : Parts) (h : Hart) (running harts : ℕ) (x : HartState) (e : Entry) : Type 0 where
  pub own : x ≡ hart_at v.setting v.plain h.0 (credit_of m.harts.items h.0)
  pub runs : runs (here_at v h.0) ≡ Some e.tid.0
  pub at : IsAt (here_at v h.0) m.kernel m.pages h running harts e.tid (record { file = x.file; pc = x.pc }) x.cid
  pub done : done_of asked.Exec (here_at v h.0) ≡ by_call (here_at v h.0) (called (here_at v h.0) e.tid.0)

abbrev pub call_next : Next
call_next = record { effect = Some effect.Call; fault = None }

-- it reads nothing of another process
own_call : (v : Stand) (h t : ℕ) → is_inside_here (here_at v h) t ≡ false → IsOwnStep v h t call_next → IsOwnCall (here_at v h) t
own_call v h t outside (inl alone) = inl alone
own_call v h t outside (inr own) = by (own effect.Call refl refl).1
  where
    by : (is_inside_here (here_at v h) t ≡ true) ⊎ IsOwnCall (here_at v h) t → IsOwnCall (here_at v h) t
    by (inl inside) = absurd (false≢true (sym outside ∙ inside))
    by (inr is) = is

pub calling : (v : Stand) (m : Parts) (h : Hart) (running harts : ℕ) (x : HartState) (e : Entry) → IsPlace v m h.0 → IsPlanned v h.0 call_next → IsInside false m h.0
    → running ≡ harts_that (is_busy m.harts.items) 8 → harts ≡ length m.harts.items → x ≡ get_or m.harts.items h.0 x → e ≡ entry_from h kind.Exec x.running x.pc → IsCalling v m h running harts x e
calling v m h running harts x e place plan outside set all value is =
    let own = hart_is v m h.0 x place value in
    let named : e.tid.0 ≡ number_of (runs (here_at v h.0)) = ap (λ (z : Entry). z.tid.0) (is ∙ entry_here v m h kind.Exec x place value) in
    let its : plan.thread ≡ e.tid.0 = sym (named ∙ ap number_of plan.at) in
    let at : runs (here_at v h.0) ≡ Some e.tid.0 = plan.at ∙ ap Some its in
    record {
      own = own;
      runs = at;
      at = record {
        hart = refl;
        count = sym (all ∙ place.tied.all_harts);
        tables = place.tied.tables;
        running = sym (set ∙ running_here v m h.0 place);
        id = sym (ap (λ (y : HartState). y.cid) own ∙ ap (id_on (here_at v h.0)) at);
        pages = place.tied.pages;
        file = ap (λ (y : HartState). record { file = y.file; pc = y.pc }) own ∙ ap (file_on (here_at v h.0)) at;
        own = subst (IsOwnCall (here_at v h.0)) its (own_call v h.0 plan.thread (outside v plan.thread place plan.at) plan.own);
        kept = place.tied.saved;
      };
      done = done_call (here_at v h.0) plan.thread plan.at (sym plan.fault) (sym plan.effect) (outside v plan.thread place plan.at) ∙ ap (λ t. by_call (here_at v h.0) (called (here_at v h.0) t)) its;
    }

-- a further number can be given
pub numbers_left : (v : Stand) (m : Parts) (h : ℕ) → IsPlace v m h → m.kernel.threads.threads.given < 2 ^ 31 - 1
numbers_left v m h place =
    let few = place.stands.given in let same = ap (λ (ts : Threads). ts.given) place.tied.tables.threads in
    let room = place.room in let steps = place.limits.most_steps in omega arith

-- the set of the harts that run threads
pub running_found : (v : Stand) (m : Parts) (h running harts : ℕ) → IsPlace v m h → running ≡ harts_that (is_busy m.harts.items) 8 → harts ≡ length m.harts.items
    → running_harts m.kernel.threads.threads harts ≡ running
running_found v m h running harts place set all = rw (all, place.tied.all_harts, place.tied.tables.threads) (sym (set ∙ running_here v m h place))

-- the tables that it finds
pub tables_found : (v : Stand) (m : Parts) (h harts : ℕ) → IsPlace v m h → harts ≡ length m.harts.items → IsTables harts m.kernel.threads.threads m.kernel.ready
tables_found v m h harts place all = rw (all, place.tied.all_harts, place.tied.tables.threads, place.tied.tables.scheduling) (tables_at v m h place)

-- it counts nothing by itself
pub same_ran : (end : CallEnd) (saved : Saved) (x : HartState) → (hart_after_call end saved x).ran ≡ x.ran
same_ran end saved x = go (gives_up end)
  where
    go : (b : Bool) → (cond b (record x { file = no_registers; pc = 0; running = None; reserved = None; cid = 0 }) (record x { file = saved.file; pc = saved.pc; waits = waits_after end x.waits; reserved = None })).ran ≡ x.ran
    go true = refl
    go false = refl

-- the signals that it finds
pub signals_found : (v : Stand) (m : Parts) (h : ℕ) → IsPlace v m h → AreSignalsOfLive m.kernel.threads.threads m.kernel.signals
signals_found v m h place = rw (place.tied.tables.threads, place.tied.tables.signals) place.stands.held.signals

-- the areas that it finds
pub areas_found : (v : Stand) (m : Parts) (h : ℕ) → IsPlace v m h → AreOfLive m.kernel.threads.threads (areas_by_number m.kernel.areas.items)
areas_found v m h place = rw (place.tied.tables.threads, place.tied.tables.areas) place.stands.held.areas

-- the ids of other threads stay
pub ids_kept : (harts h t : ℕ) (b : Bool) (p : Plain) (c : CallDone) → IsTables harts p.kernel.threads p.kernel.scheduling → running_on h p.kernel.threads ≡ Some t
    → c.kernel.ids ≡ cond b (without_id t p.kernel.ids) p.kernel.ids
    → (k u : ℕ) → k ≢ h → running_on k p.kernel.threads ≡ Some u → id_of u c.kernel.ids ≡ id_of u p.kernel.ids
ids_kept harts h t true p c tables at is k u ne there =
    ap (id_of u) is ∙ id_without_other t u p.kernel.ids (others_apart harts h k t u p.kernel.threads p.kernel.scheduling tables at there ne)
ids_kept harts h t false p c tables at is k u ne there = ap (id_of u) is
