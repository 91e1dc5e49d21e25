-- Whether some run executes instructions without end (own): of the runs that are spoken of.
use Rattle.std.specs.Prelude.{Bool, true, false}
use Rattle.block_model.specs.Setting.{Setting}
use Rattle.search_reductions.specs.declared.signals.Signals.{Signals}
use Rattle.settled_places.specs.Endings.{HasLongWork, IsWorkBounded}

-- there are runs that execute as many instructions as you like, or no run executes more than some number
abbrev pub IsEndless : Setting → Signals → Bool → Type 0
IsEndless s signals true = HasLongWork s signals
IsEndless s signals false = IsWorkBounded s signals
