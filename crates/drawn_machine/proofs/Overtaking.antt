-- Which stores loads overtake, as a run goes on.
use Rattle.std.proofs.Common.{◌≡◌, ℕ, ◌+◌, ◌-◌, ◌<◌, ◌≤◌, ◌&&◌, Bool, true, false, ltb, List, [], ◌∷◌, ◌++◌, length, get_or, Option, Some, None, inl, inr, is_none, refl, sym, ap, ap₂, ◌∙◌, subst, arith}
use Rattle.std.specs.Option.{option_map, option_map_or}
use Rattle.std.proofs.lemmas.Bool.{cases_lt, false≢true, le-ltb, lt-ltb}
use Rattle.mach_types.proofs.Laws.{kind_back}
use Rattle.mach_types.specs.Events.{choice_of, is_instruction, kind_of, nature_of}
use Rattle.mach_types.specs.declared.events.Entry.{Entry}
use Rattle.mach_types.specs.declared.events.Hart.{Hart}
use Rattle.mach_types.specs.declared.events.Kind.{Kind}
use Rattle.mach_types.specs.declared.events.Maker.{Maker}
use Rattle.mach_types.specs.declared.events.Maker.TheVariants.{Thread, Buffer, Kernel}
use Rattle.mach_types.specs.declared.threads.Saved.{Saved}
use Rattle.rv_inst.specs.Class.{sets_register}
use Rattle.rv_inst.specs.Local.{is_register_only}
use Rattle.rv_inst.specs.Meaning.{meaning}
use Rattle.rv_inst.specs.declared.effects.Effect.{Effect}
use Rattle.rv_inst.specs.declared.effects.Effect.TheVariants as effect
use Rattle.rv_inst.specs.declared.instruction.Inst.{Inst}
use Rattle.rv_inst.proofs.Laws.{local-rows}
use Rattle.drawings.specs.declared.drawing.DrawnEvent.{DrawnEvent}
use Rattle.block_model.specs.Deciding.{event, history}
use Rattle.block_model.specs.Events.Exec.{refusal_exec}
use Rattle.block_model.specs.Here.{Done, Here, is_storable, reached, runs}
use Rattle.block_model.specs.History.{Event, History, here_in_history, waiting}
use Rattle.block_model.specs.Instruction.{fault_by, fetched, instruction_of}
use Rattle.block_model.specs.Run.{IsBlockRun}
use Rattle.block_model.specs.Setting.{Seen, Setting}
use Rattle.block_model.specs.Sights.{effect_here, effect_on, is_local_on}
use Rattle.block_model.proofs.Laws.{history-append, history-nil}
use Rattle.machine_core.specs.Free.{goes_freely}
use Rattle.drawn_machine.specs.Overtaken.{loads, no_stores, overtakes, pcs_of, stores_in, stores_of, stores_with}
use Rattle.drawn_machine.specs.Waits.{Clock, clock, first_clock}
use Rattle.drawn_machine.specs.declared.store_pcs.StorePcs.{StorePcs}
use Rattle.drawn_machine.proofs.Inside.{of_the_machine}
use Rattle.drawn_machine.proofs.Waiting.{IsMadeBy, IsNextOf, IsOfKind, IsTracked, hart_of_next, its_clock, its_kind, its_stores, runs_on}

-- NO INSTRUCTION THAT SETS A REGISTER ALONE LOADS

sets-loads : (e : Effect) → sets_register e ≡ true → loads e ≡ false
sets-loads (effect.Next rd value pc) is = refl
sets-loads e is = absurd (false≢true is)

row_loads : (byte : ℕ → Option ℕ) (writable : ℕ → Bool) (word : Option ℕ) (f : Saved) (o : Option Inst)
    → (option_map_or is_register_only o false && is_none (fault_by byte writable f.pc word (option_map (λ i. meaning i f.file f.pc) o))) ≡ true
    → option_map_or loads (option_map (λ i. meaning i f.file f.pc) o) false ≡ false
row_loads byte writable word f None is = refl
row_loads byte writable word f (Some i) is = sets-loads (meaning i f.file f.pc) (sym (local-rows i f.file f.pc byte writable) ∙ is)

local_loads : (here : Here) (o : Option ℕ) → is_local_on here o ≡ true → option_map_or loads (effect_on here o) false ≡ false
local_loads here None is = refl
local_loads here (Some t) is =
    row_loads (reached here) (is_storable here) (fetched here.setting.program.pages (here.file t).pc) (here.file t)
    (instruction_of (fetched here.setting.program.pages (here.file t).pc)) is

second : (a b : Bool) → (a && b) ≡ true → b ≡ true
second a b is = grind arith

not_both : (a b : Bool) → b ≡ false → (a && b) ≡ false
not_both a b is = grind arith

pub free_overtakes : (s : Setting) (before : History) (h : ℕ) (k : Kind) → goes_freely (here_in_history s before h) ≡ true
    → overtakes s before h k ≡ false
free_overtakes s before h k free =
    let here = here_in_history s before h in
    not_both (is_instruction k && ltb 0 (length (waiting h before))) (option_map_or loads (effect_here here) false)
    (local_loads here (runs here) (second (is_none (refusal_exec here)) (is_local_on here (runs here)) free))

-- what is seen of the event that was drawn is seen of its entry
pub overtakes_as_entry : (s : Setting) (before : History) (x : Entry) (e : DrawnEvent) (b : Bool) → x.hart ≡ e.hart → choice_of x ≡ e.choice
    → b ≡ overtakes s before e.hart.0 (kind_of e.choice) → b ≡ overtakes s before x.hart.0 x.kind
overtakes_as_entry s before x e b hart choice is =
    let kind : x.kind ≡ kind_of e.choice = sym (kind_back x.kind x.tid) ∙ ap kind_of choice in
    is ∙ sym (ap₂ (λ (h : Hart) (k : Kind). overtakes s before h.0 k) hart kind)

-- A RUN AS IT GOES ON

pub none_stored : (now : Seen) → now.log ≡ [] → no_stores ≡ stores_in now
none_stored now empty =
    sym (ap (stores_of now.setting) (ap (λ (log : List Entry). history now.setting log) empty ∙ history-nil now.setting))

-- a store more waits where one was executed
tests_agree : (marks waits n : ℕ) → (0 < n → marks < waits) → (n ≤ 0 → waits ≤ marks) → ltb marks waits ≡ ltb 0 n
tests_agree marks waits n some none = elim (cases_lt 0 n) [
  | inl is ↦ lt-ltb marks waits (some is) ∙ sym (lt-ltb 0 n is)
  | inr is ↦ le-ltb marks waits (none is) ∙ sym (le-ltb 0 n is)
]

executes_as : (m : Maker) (d : Done) (marks waits : ℕ) → IsMadeBy m d → waits ≡ marks + length d.executed - d.drained
    → ltb marks waits ≡ ltb 0 (length d.executed)
executes_as Thread d marks waits did is =
    let drained = did.drained in
    tests_agree marks waits (length d.executed) (λ some. omega (arith, is, drained, some)) (λ none. omega (arith, is, drained, none))
executes_as Buffer d marks waits did is =
    let drained = did.drained in
    let executed = did.executed in
    tests_agree marks waits (length d.executed) (λ some. omega (arith, executed, some)) (λ none. omega (arith, is, drained, none))
executes_as Kernel d marks waits did is =
    let executed = did.executed in
    let drained = did.drained in
    tests_agree marks waits (length d.executed) (λ some. omega (arith, executed, some)) (λ none. omega (arith, is, drained, none))

same_stores : (a b c d : Bool) (pc : ℕ) (x y : Clock) (ps qs : StorePcs) → a ≡ b → c ≡ d → x ≡ y → ps ≡ qs
    → stores_with a pc c (pcs_of x.marks) ps ≡ stores_with b pc d (pcs_of y.marks) qs
same_stores a b c d pc x y ps qs one two three four =
    ap₂ (λ (a c : Bool). stores_with a pc c (pcs_of x.marks) ps) one two
    ∙ ap₂ (λ (x : Clock) (ps : StorePcs). stores_with b pc d (pcs_of x.marks) ps) three four

pub stores_more : (now next : Seen) (x : Entry) (cs : List Clock) (ns : List ℕ) (waits : ℕ) (ps qs : StorePcs) (b : Bool)
    → IsNextOf now next x → IsTracked now cs ns → waits ≡ length (waiting x.hart.0 (history next.setting next.log))
    → ps ≡ stores_in now → b ≡ overtakes now.setting (history now.setting now.log) x.hart.0 x.kind
    → qs ≡ stores_with (ltb (length (get_or cs x.hart.0 first_clock).marks) waits) x.pc b (pcs_of (get_or cs x.hart.0 first_clock).marks) ps
    → qs ≡ stores_in next
stores_more now next x cs ns waits ps qs b is tracked count so_far seen counted =
    let run = runs_on now next x is in
    let here : x.hart.0 < length cs = omega (arith, hart_of_next now next x is, tracked.harts) in
    let its : waits ≡ length (waiting x.hart.0 (history now.setting (now.log ++ x ∷ []))) =
    count ∙ ap (λ (v : Seen). length (waiting x.hart.0 (history v.setting v.log))) is.made in
    let before = history now.setting now.log in
    let e : Event = event now.setting before x in
    let c = get_or cs x.hart.0 first_clock in
    let executes : ltb (length c.marks) waits ≡ ltb 0 (length e.done.executed) =
    executes_as (nature_of x.kind).maker e.done (length c.marks) waits (its_kind now x cs ns waits tracked run here its)
    (its_stores now x cs ns waits tracked run here its) in
    let next_stores : stores_with (ltb (length c.marks) waits) x.pc b (pcs_of c.marks) ps ≡ stores_of now.setting (e ∷ before) =
    same_stores (ltb (length c.marks) waits) (ltb 0 (length e.done.executed)) b (overtakes now.setting before x.hart.0 x.kind) x.pc c
    (clock x.hart.0 before) ps (stores_of now.setting before) executes seen (its_clock now x cs ns waits tracked run here its) so_far in
    counted ∙ next_stores ∙ sym (ap (stores_of now.setting) (history-append now.setting now.log x)) ∙ sym (ap stores_in is.made)
