use Rattle.mach_types.specs.declared.events.Choice.TheVariants as asked
use Rattle.process.proofs.Common.{◌≡◌, ap, ◌∙◌, subst, None, HasHart, IsPlace, Stand, done_run, lowest_cid, refusal_of, without_ready, Kernel, Table, here_at, next_id, state_of, IsReadied}
use Rattle.process.proofs.Places.{still_there}
use Rattle.scheduler.specs.Holding.{is_ready}
use Rattle.process.proofs.ConcurrencyIds.{held_here}
use Rattle.process.proofs.RunEvent.{begun_killed, begun_running, listed, readied, runs_then, some_free}
use Rattle.process.proofs.parts.Parts.begun.Goals.{After-readied}
use Rattle.process.proofs.parts.Parts.begun.Goals as goal

pub next_id-id-requires : goal.next_id-id-requires
next_id-id-requires c = some_free c.requires.stand c.args.self.now c.args.hart c.args.tid c.requires.place c.requires.free

-- the thread is ready, and its hart is in the list still
is_readied : (c : After-readied) (v : Stand) → IsPlace v c.args.self.now c.args.hart.0 → refusal_of (asked.Run c.args.tid) (here_at v c.args.hart.0) ≡ None
    → IsReadied (here_at v c.args.hart.0) c.args.tid.0 c.readied.result c.readied.new.saved c.args.self.now c.readied.new.self
is_readied c v place free =
    readied v c.args.self.now c.args.hart c.args.tid place free _ c.area_of-area.result c.next_id-id.result c.run-saved.result c.readied.new.saved c.readied.result c.readied.new.self
    c.area_of-area.ensures c.next_id-id.ensures c.run-saved.ensures.answer (c.readied.ensures.readied (here_at v c.args.hart.0) c.args.tid.0)

still_listed : (c : After-readied) → HasHart c.readied.new.self.harts.items c.args.hart.0
still_listed c =
    let v = c.requires.stand in
    still_there v c.args.self.now c.args.hart.0 (done_run (here_at v c.args.hart.0) c.args.tid.0).entered c.readied.new.self.harts.items c.requires.place (is_readied c v c.requires.place c.requires.free).harts

pub take_up-requires-clause-listed : goal.take_up-requires-clause-listed
take_up-requires-clause-listed c = still_listed (goal.at.take_up-requires-clause-listed c).After-readied

pub kill-requires-clause-listed : goal.kill-requires-clause-listed
kill-requires-clause-listed c = still_listed (goal.at.kill-requires-clause-listed c).After-readied

pub take_up-requires-clause-ready : goal.take_up-requires-clause-ready
take_up-requires-clause-ready c =
    ap (λ (k : Kernel). is_ready c.args.tid.0 k.ready) c.readied.ensures.kernel ∙ listed c.requires.stand c.args.self.now c.args.hart c.args.tid c.requires.place c.requires.free

pub kill-requires-clause-runs : goal.kill-requires-clause-runs
kill-requires-clause-runs c =
    let t = c.args.tid in (
      c.args.hart,
      ap (λ (k : Kernel). state_of t.0 k.threads.threads) c.readied.ensures.kernel ∙ ap (state_of t.0) c.run-saved.ensures.threads
          ∙ runs_then c.requires.stand c.args.self.now c.args.hart t c.requires.place c.requires.free,
    )

pub returns-then-readied : goal.returns-then-readied
returns-then-readied c v place free =
    let m = c.args.self.now in
    let h = c.args.hart in
    let t = c.args.tid in
    let m1 = c.readied.new.self in
    let m2 = c.take_up.new.self in
    let is = subst (λ b. IsReadied (here_at v h.0) t.0 b c.readied.new.saved m m1) c.if-readied.true (is_readied (goal.at.returns-then-readied c).After-readied v place free) in
    let its : c.next_id-id.result ≡ next_id v.plain.kernel.ids = c.next_id-id.ensures ∙ ap lowest_cid (held_here v m h.0 place) in
    begun_running v m h t place free m1 m2 c.readied.new.saved c.next_id-id.result c.run-saved.new.self m2.kernel.ready is its c.take_up.ensures.harts c.take_up.ensures.pages
    (c.take_up.ensures.others ∙ ap (λ (k : Kernel). record k { ready = m2.kernel.ready }) c.readied.ensures.kernel)
    c.run-saved.ensures.threads c.run-saved.ensures.saved c.run-saved.ensures.table
    (c.take_up.ensures.ready ∙ ap (λ (k : Kernel). without_ready t.0 k.ready) c.readied.ensures.kernel)
    (c.take_up.ensures.ended ∙ c.readied.ensures.ended)

pub returns-else-readied : goal.returns-else-readied
returns-else-readied c v place free =
    let m = c.args.self.now in
    let m1 = c.readied.new.self in
    let is = subst (λ b. IsReadied (here_at v c.args.hart.0) c.args.tid.0 b c.readied.new.saved m m1) c.if-readied.false (is_readied (goal.at.returns-else-readied c).After-readied v place free) in
    let threads : m1.kernel.threads ≡ c.run-saved.new.self = ap (λ (k : Kernel). k.threads) c.readied.ensures.kernel in
    begun_killed v m c.args.hart c.args.tid place free m1 c.kill.new.self c.readied.new.saved m1.kernel.threads is c.kill.ensures.harts c.kill.ensures.pages
    (ap (λ (x : Table). x.threads) threads ∙ c.run-saved.ensures.threads) (ap (λ (x : Table). x.saved) threads ∙ c.run-saved.ensures.saved)
    c.kill.ensures.threads c.kill.ensures.saved c.kill.ensures.table
    (c.kill.ensures.others ∙ ap (λ (k : Kernel). record k { threads = c.kill.new.self.kernel.threads }) c.readied.ensures.kernel)
    c.kill.ensures.ended
