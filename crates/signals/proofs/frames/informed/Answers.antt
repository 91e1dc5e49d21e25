use Rattle.std.proofs.Common.{Some, option_map, ap, sym, ◌∙◌}
use Rattle.mach_types.specs.Kernel.SignalFrames.{without_info}
use Rattle.signals.proofs.frames.informed.Goals as goal

pub returns-in_default : goal.returns-in_default
returns-in_default g c = ap (option_map without_info) (sym c.in_default.is ∙ c.info_words_at.ensures)

pub returns : goal.returns
returns g c = ap Some c.without_info.ensures ∙ ap (option_map without_info) (sym c.in-Some.is ∙ c.info_words_at.ensures)
