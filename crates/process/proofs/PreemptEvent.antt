-- The thread that leaves a hart.
use Rattle.process.proofs.Common.{live_in, ◌≡◌, sym, ap, ◌∙◌, true, false, eqb, Some, None, get_or, list_any, option_map_or, Scheduling, is_live, is_ready_state, state_of, Entry, Hart, HartState, IsPlace, Parts, Running, Stand, credit_of, entry_from, file_on, hart_at, here_at, refusal_of, runs, number_of, ready_listed, running_is, is_of}
use Rattle.mach_types.specs.declared.events.Choice.TheVariants as asked
use Rattle.mach_types.specs.declared.events.Kind.TheVariants as kind
use Rattle.process.proofs.Entries.{entry_here, leaver}
use Rattle.process.proofs.Places.{hart_is, tables_at}

-- the entry names the thread that runs on the hart, which is live and held, and isn't in the ready list; its file is the hart's
pub record IsLeaving (v : Stand) (m : Parts) (h : Hart) (x : HartState) (e : Entry) : Type 0 where
  pub own : x ≡ hart_at v.setting v.plain h.0 (credit_of m.harts.items h.0)
  pub at : runs (here_at v h.0) ≡ Some e.tid.0
  pub runs : state_of e.tid.0 m.kernel.threads.threads ≡ Some (Running h)
  pub live : is_live e.tid.0 v.plain.kernel.threads ≡ true
  pub held : list_any (is_of e.tid.0) m.kernel.ready.affinities ≡ true
  pub not_ready : list_any (λ u. eqb u e.tid.0) m.kernel.ready.order ≡ false
  pub file : record { file = x.file; pc = x.pc } ≡ v.plain.file e.tid.0

pub leaving : (v : Stand) (m : Parts) (h : Hart) (x : HartState) (e : Entry) → IsPlace v m h.0 → refusal_of asked.Preempt (here_at v h.0) ≡ None → x ≡ get_or m.harts.items h.0 x → e ≡ entry_from h kind.Preempt x.running x.pc → IsLeaving v m h x e
leaving v m h x e place free value is =
    let own = hart_is v m h.0 x place value in
    let some = leaver (here_at v h.0) free in
    let named : e.tid.0 ≡ number_of (runs (here_at v h.0)) = ap (λ (z : Entry). z.tid.0) (is ∙ entry_here v m h kind.Preempt x place value) in
    let its : e.tid.0 ≡ some.0 = named ∙ ap number_of some.1 in
    let at : runs (here_at v h.0) ≡ Some e.tid.0 = some.1 ∙ ap Some (sym its) in
    let harts = v.setting.limits.harts in
    let ts = v.plain.kernel.threads in
    let sc = v.plain.kernel.scheduling in
    let tables = tables_at v m h.0 place in
    let state = running_is harts h.0 e.tid.0 ts sc tables at in
    let live = live_in e.tid.0 ts (Running h) state in
    record {
      own = own;
      at = at;
      runs = ap (state_of e.tid.0) place.tied.tables.threads ∙ state;
      live = live;
      held = ap (λ (s : Scheduling). list_any (is_of e.tid.0) s.affinities) place.tied.tables.scheduling ∙ (tables.held e.tid.0 ∙ live);
      not_ready = ap (λ (s : Scheduling). list_any (λ u. eqb u e.tid.0) s.order) place.tied.tables.scheduling ∙ (ready_listed harts e.tid.0 ts sc tables ∙ ap (λ o. option_map_or is_ready_state o false) state);
      file = ap (λ (y : HartState). record { file = y.file; pc = y.pc }) own ∙ ap (file_on (here_at v h.0)) at;
    }
