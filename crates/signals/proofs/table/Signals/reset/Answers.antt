use Rattle.std.proofs.Common.{List, [], ◌∷◌, ◌++◌, ap, ◌∙◌, false, refl, replicate}
use Rattle.mach_types.specs.Kernel.Signals.{start_signalling}
use Rattle.mach_types.specs.declared.signal_words.Action.{Action}
use Rattle.mach_types.specs.declared.signal_words.ThreadSignals.{ThreadSignals}
use Rattle.signals.proofs.Kept.{same_lists}
use Rattle.signals.proofs.StaysWhole.{start_signalling-holds}
use Rattle.signals.proofs.table.Signals.reset.Goals as goal

pub invariant_of-self : goal.invariant_of-self
invariant_of-self c =
    let threads = c.push.ensures.items ∙ ap (λ (ths : List ThreadSignals). ths ++ c.new_entry.result ∷ []) c.clear.ensures
    ∙ ap (λ (th : ThreadSignals). th ∷ []) c.new_entry.ensures in
    same_lists false _ start_signalling.actions _ start_signalling.threads (ap (λ (a : Action). replicate 31 a) c.default-self-inside.ensures) threads
    (record { signalling = start_signalling-holds; quiet = λ none. (refl, tt) })
