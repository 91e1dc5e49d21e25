use Rattle.std.proofs.Common.{◌≡◌, sym, ◌∙◌}
use Rattle.block_model.specs.Plain.{here_in_plain}
use Rattle.page_map.specs.Map.{byte_in, can_write_in}
use Rattle.process.proofs.Laws.{bytes_held, hart_tied, writable_held}
use Rattle.prompt_runs.specs.Owed.{traps_by}
use Rattle.owed_signals.proofs.TrapReadings.{busy_traps, idle_traps_not}
use Rattle.owed_signals.proofs.trapping.traps.Goals as goal

pub returns-then-is_idle : goal.returns-then-is_idle
returns-then-is_idle c = λ s p tied lt code.
    let h = c.args.hart.0 in
    let x = c.index-state.result.now in
    let own = hart_tied s p c.args.parts.now h x tied lt c.index-state.ensures in
    idle_traps_not (here_in_plain s p h) x _ _ _ own (sym c.if-is_idle.true ∙ c.is_idle.ensures)

pub returns : goal.returns
returns c = λ s p tied lt code.
    let h = c.args.hart.0 in
    let m = c.args.parts.now in
    let x = c.index-state.result.now in
    let own = hart_tied s p m h x tied lt c.index-state.ensures in
    c.traps_by.ensures ∙ (λ i. traps_by (c.next_of.ensures.effect i) (c.next_of.ensures.fault i))
    ∙ busy_traps (here_in_plain s p h) x _ _ _ c.args.code.now (byte_in m.pages) (can_write_in m.pages) own code (bytes_held p.kernel s.program.break_at p.byte m.pages tied.pages)
    (writable_held p.kernel s.program.break_at p.byte m.pages tied.pages tied.readable) (sym c.if-is_idle.false ∙ c.is_idle.ensures)
