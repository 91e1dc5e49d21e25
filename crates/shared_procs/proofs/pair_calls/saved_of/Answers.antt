use Rattle.shared_procs.proofs.Common.{ap, ◌∙◌, file_on, hart_is, HartState, here_at, Saved}
use Rattle.shared_procs.proofs.pair_calls.saved_of.Goals as goal

pub returns : goal.returns
returns c v t place at =
    ap (λ (y : HartState). let f : Saved = record { file = y.file; pc = y.pc } in f)
    (hart_is v c.args.mine.now c.args.hart.0 c.index-state.result.now place c.index-state.ensures)
    ∙ ap (file_on (here_at v c.args.hart.0)) at
