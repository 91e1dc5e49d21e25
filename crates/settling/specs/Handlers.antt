-- No signal has a handler (own).
use Rattle.std.specs.Prelude.{Bool, not}
use Rattle.std.specs.List.{list_all}
use Rattle.mach_types.specs.Kernel.Signals.{Signalling, is_handler}

abbrev pub has_no_handler : Signalling → Bool
has_no_handler g = list_all (λ a. not (is_handler a)) g.actions
