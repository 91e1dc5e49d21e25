-- A hart without its counts: of the events that it made, and of the instructions that it executed since a
-- thread began to run there (own).
use Rattle.hart_state.specs.declared.hart.HartState.{HartState}

abbrev pub rested_hart : HartState → HartState
rested_hart x = record x { ran = 0; events = 0 }
