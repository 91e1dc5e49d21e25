use Rattle.std.proofs.Common.{◌≡◌, Option, true, false, ap, ◌∙◌, subst, sym}
use Rattle.std.specs.Option.{option_map_or}
use Rattle.std.proofs.lemmas.Bool.{OnTrue_at}
use Rattle.mach_types.specs.Kernel.Scheduling.{without_ready}
use Rattle.mach_types.specs.Kernel.Threads.{is_ready, is_ready_state, Threads}
use Rattle.mach_types.specs.declared.threads.ThreadState.{ThreadState}
use Rattle.mach_types.specs.declared.threads.ThreadState.TheVariants.{Running}
use Rattle.block_model.proofs.Laws.{ready_listed, tables_ran, areas_changed, signals_stay}
use Rattle.sys_calls.specs.Registered.{areas_by_number}
use Rattle.block_model.specs.Tables.{AreOfLive, AreSignalsOfLive}
use Rattle.kernel_tests.proofs.calls.bench.Bench.begin.Goals as goal

pub invariant_of-self : goal.invariant_of-self
invariant_of-self g c =
    let ts = c.args.self.now.kernel.threads.threads in
    let sc = c.args.self.now.kernel.ready in
    let tables = c.args.self.now.tables in
    let ready : is_ready c.args.tid ts ≡ true = ap (λ (o : Option ThreadState). option_map_or is_ready_state o false) c.expect_ready.ensures in
    let taken : c.take-was_ready.new.self ≡ without_ready c.args.tid sc =
    OnTrue_at (c.take-was_ready.ensures.ready ∙ (ready_listed 2 c.args.tid ts sc tables ∙ ready)) c.take-was_ready.ensures.taken in
    let st : ThreadState = Running (record { 0 = c.args.hart }) in
    let areas = subst (λ (x : Threads). AreOfLive x (areas_by_number c.args.self.now.kernel.areas.items)) (sym c.run-saved.ensures.threads)
    (areas_changed c.args.tid st ts (areas_by_number c.args.self.now.kernel.areas.items) c.args.self.now.areas) in
    let signals = subst (λ (x : Threads). AreSignalsOfLive x c.args.self.now.kernel.signals) (sym c.run-saved.ensures.threads)
    (signals_stay c.args.tid st ts c.args.self.now.kernel.signals c.args.self.now.signals) in
    record { areas = areas; signals = signals; tables = rw (c.run-saved.ensures.threads, taken) (tables_ran 2 c.args.hart c.args.tid ts sc tables ready c.expect_idle.ensures c.requires) }
