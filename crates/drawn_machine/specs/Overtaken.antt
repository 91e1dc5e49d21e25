-- Which stores loads overtake (own): while a plain store waits, its hart executes a load, which so comes before it in memory (RISC-V
-- Unprivileged ISA, "Ztso": it is the one order that isn't kept). Stores are told apart by the pcs of their instructions.
use Rattle.std.specs.Prelude.{ℕ, ◌&&◌, Bool, false, not, List, [], ◌∷◌, length, map, nat_lt, if◌then◌else◌}
use Rattle.std.specs.Option.{option_map_or}
use Rattle.mach_types.specs.Events.{is_instruction}
use Rattle.mach_types.specs.declared.events.Kind.{Kind}
use Rattle.rv_inst.specs.Class.{asks}
use Rattle.rv_inst.specs.declared.class.Access.{Access}
use Rattle.rv_inst.specs.declared.effects.Effect.{Effect}
use Rattle.block_model.specs.Deciding.{history}
use Rattle.block_model.specs.History.{History, here_in_history, waiting}
use Rattle.block_model.specs.Setting.{Seen, Setting}
use Rattle.block_model.specs.Sights.{effect_here}
use Rattle.drawn_machine.specs.declared.hart_clock.Mark.{Mark}
use Rattle.drawn_machine.specs.declared.store_pcs.StorePcs.{StorePcs}
use Rattle.drawn_machine.specs.PcSets.{with_pc, with_pcs}
use Rattle.drawn_machine.specs.Waits.{clock}

-- whether an instruction with this effect only reads memory
abbrev pub loads : Effect → Bool
loads e = option_map_or (λ (a : Access). not a.is_write) (asks e).access false

-- whether an event of hart h at this place is a load that the hart executes while stores of it wait
abbrev pub overtakes : Setting → History → ℕ → Kind → Bool
overtakes s before h k =
    is_instruction k && nat_lt 0 (length (waiting h before))
    && option_map_or loads (effect_here (here_in_history s before h)) false

-- the pcs of waiting stores
abbrev pub pcs_of : List Mark → List ℕ
pcs_of marks = map (λ (mark : Mark). mark.pc) marks

-- the stores that were executed, and those that were overtaken, after an event: it may execute the store at a pc, and it may overtake
-- those at others
abbrev pub stores_with : Bool → ℕ → Bool → List ℕ → StorePcs → StorePcs
stores_with executes pc overtaking others stores = record {
  executed = if executes then with_pc pc stores.executed else stores.executed;
  overtaken = if overtaking then with_pcs others stores.overtaken else stores.overtaken;
}

abbrev pub no_stores : StorePcs
no_stores = record { executed = []; overtaken = [] }

-- those of a run: a store that still waits is executed
abbrev pub stores_of : Setting → History → StorePcs
stores_of s [] = no_stores
stores_of s (e ∷ before) =
    let h = e.entry.hart.0 in
    stores_with (nat_lt 0 (length e.done.executed)) e.entry.pc (overtakes s before h e.entry.kind) (pcs_of (clock h before).marks)
    (stores_of s before)

-- of the log of a machine
abbrev pub stores_in : Seen → StorePcs
stores_in m = stores_of m.setting (history m.setting m.log)

-- of two runs or more: those of the one, with those of the others
abbrev pub stores_and : StorePcs → StorePcs → StorePcs
stores_and more stores = record {
  executed = with_pcs more.executed stores.executed;
  overtaken = with_pcs more.overtaken stores.overtaken;
}
