-- A hart that owes its thread a signal means to deliver it, so what is drawn of it next is that signal, once no store of it waits.
use Rattle.std.proofs.Common.{◌≡◌, ◌≢◌, ◌⊎◌, inl, inr, ℕ, ◌<◌, ◌≤◌, ◌&&◌, ◌||◌, Bool, true, false, not, cond, eqb, ltb, List, [], ◌∷◌, length, Option, Some, None, is_none, is_some, refl, sym, ap, ◌∙◌, subst, arith}
use Rattle.std.specs.Option.{option_map, option_map_or}
use Rattle.std.proofs.lemmas.Bool.{and_parts, cases_eq, eqb-true, eqb-false, false≢true}
use Rattle.std.proofs.lemmas.List.{length-replicate}
use Rattle.mach_types.specs.Events.{kind_of, nature_of}
use Rattle.mach_types.specs.declared.events.Choice.{Choice}
use Rattle.mach_types.specs.declared.events.Choice.TheVariants as asked
use Rattle.mach_types.specs.declared.events.Entry.{Entry}
use Rattle.mach_types.specs.declared.events.Maker.{Maker}
use Rattle.mach_types.specs.declared.events.Maker.TheVariants.{Thread, Buffer, Kernel}
use Rattle.mach_types.specs.declared.events.Tid.{Tid}
use Rattle.mach_types.specs.declared.threads.Saved.{Saved}
use Rattle.rv_inst.specs.Class.{is_call, sets_register}
use Rattle.rv_inst.specs.Local.{is_register_only}
use Rattle.rv_inst.specs.Meaning.{meaning}
use Rattle.rv_inst.specs.declared.effects.Effect.{Effect}
use Rattle.rv_inst.specs.declared.effects.Effect.TheVariants as effect
use Rattle.rv_inst.specs.declared.instruction.Inst.{Inst}
use Rattle.rv_inst.proofs.Laws.{local-rows}
use Rattle.chooser.specs.Cases.{emptied_before}
use Rattle.draw_policies.specs.OwnSignals.{IsDeliverable, comes_back, enters_kernel}
use Rattle.draw_policies.specs.declared.aims.Aim.TheVariants as means
use Rattle.drawings.specs.Drawings.{Drawn, aim_behind, aim_of, draw, goes_on, kept_after}
use Rattle.drawings.specs.Scenes.{Scene}
use Rattle.drawings.specs.declared.drawing.Drawing.{Drawing}
use Rattle.drawings.proofs.Laws.{draw-aims, draw-behind, draw-keeps, draw-signal, draw-within}
use Rattle.block_model.specs.Choosing.{has_ended}
use Rattle.block_model.specs.Deciding.{history}
use Rattle.block_model.specs.Events.Exec.{next_effect, next_fault}
use Rattle.block_model.specs.Here.{Here, reached, is_storable, runs}
use Rattle.block_model.specs.History.{Event, History, here_in_history, is_of_hart}
use Rattle.block_model.specs.Instruction.{fault_by, fetched, instruction_of, next_instruction}
use Rattle.block_model.specs.Setting.{Setting}
use Rattle.block_model.specs.Sights.{effect_on, fault_on, is_deliverable_on, is_local_on}
use Rattle.drawn_runs.specs.DrawnRuns.{IsDrawn, IsDrawnHistory, drawing_at, drawn_at, drawn_entry, entry_of, first_drawing, scene_at}
use Rattle.drawn_runs.specs.OwnSignals.{owes}
use Rattle.prompt_runs.specs.Owed.{is_back_by, traps_by}
use Rattle.drawn_runs.specs.declared.manner.Manner.{Manner}
use Rattle.drawn_runs.proofs.Allowed.{drawing_is_for, drawn_place}
use Rattle.drawn_runs.proofs.Logs.{event_of_entry}

-- AN INSTRUCTION THAT TRAPS TOUCHES MORE THAN REGISTERS

call_sets_none : (e : Effect) → is_call e ≡ true → sets_register e ≡ false
call_sets_none (effect.Next rd value pc) is = absurd (false≢true is)
call_sets_none e is = refl

and_none : (a : Bool) (o : Option ℕ) → is_some o ≡ true → (a && is_none o) ≡ false
and_none true (Some n) some = refl
and_none false (Some n) some = refl
and_none a None some = absurd (false≢true some)

-- by its row, where it has one
row_traps : (byte : ℕ → Option ℕ) (writable : ℕ → Bool) (word : Option ℕ) (f : Saved) (o : Option Inst)
    → option_map_or is_call (option_map (λ i. meaning i f.file f.pc) o) false ≡ true
    → (option_map_or is_register_only o false && is_none (fault_by byte writable f.pc word (option_map (λ i. meaning i f.file f.pc) o)))
    ≡ false
row_traps byte writable word f None is = refl
row_traps byte writable word f (Some i) is =
    local-rows i f.file f.pc byte writable ∙ call_sets_none (meaning i f.file f.pc) is

trap_not_local : (here : Here) (o : Option ℕ) → traps_by (effect_on here o) (fault_on here o) ≡ true → is_local_on here o ≡ false
trap_not_local here None is = refl
trap_not_local here (Some t) is = go (is_some (next_fault here t)) refl is
  where
    go : (b : Bool) → is_some (next_fault here t) ≡ b → (b || option_map_or is_call (next_effect here t) false) ≡ true
        → is_local_on here (Some t) ≡ false
    go true faults is =
        and_none (option_map_or is_register_only (next_instruction here.setting.program.pages (here.file t)) false)
        (next_fault here t) faults
    go false faults is =
        let f = here.file t in
        let word = fetched here.setting.program.pages f.pc in
        row_traps (reached here) (is_storable here) word f (instruction_of word) is

-- so no hart goes on by its credit to one
off_third : (a b c d e : Bool) → c ≡ false → (a && b && c && d && e) ≡ false
off_third a b c d e is = grind arith

trap_draws : (s : Setting) (before : History) (d : Drawing) → (scene_at s before).traps d.last.0 ≡ true
    → goes_on (scene_at s before) d ≡ false
trap_draws s before d traps =
    let scene = scene_at s before in
    let here = here_in_history s before d.last.0 in
    off_third (ltb 0 d.credit) (scene.sight d.last.0).exec_enabled (scene.sight d.last.0).«local» (not (scene.is_inside d.last.0))
    (is_none (aim_behind scene d)) (trap_not_local here (runs here) traps)

-- THERE IS AN AIM FOR EACH HART

aims_either : (b : Bool) (x y : Drawing) → length x.aims ≡ 8 → length y.aims ≡ 8 → length (cond b x y).aims ≡ 8
aims_either true x y p q = p
aims_either false x y p q = q

aims_kept : (scene : Scene) (d : Drawing) (o : Option Drawn) → draw scene d ≡ o → length d.aims ≡ 8
    → length (kept_after o d).aims ≡ 8
aims_kept scene d None e eight = eight
aims_kept scene d (Some x) e eight = draw-aims scene d x e ∙ eight

eight_aims : (s : Setting) (m : Manner) (before : History) → length (drawing_at s m before).aims ≡ 8
eight_aims s m [] = refl
eight_aims s m (e ∷ before) =
    let scene = scene_at s before in
    let d = drawing_at s m before in
    aims_either (ltb (length before) m.scripted) (first_drawing s m) (kept_after (draw scene d) d) refl
    (aims_kept scene d (draw scene d) refl (eight_aims s m before))

-- WHAT A HART OWES

-- behind an event that was drawn
abbrev next_drawing : Setting → Manner → History → Drawing
next_drawing s m before = kept_after (draw (scene_at s before) (drawing_at s m before)) (drawing_at s m before)

behind_drawn : (s : Setting) (m : Manner) (e : Event) (before : History) → ltb (length before) m.scripted ≡ false
    → drawing_at s m (e ∷ before) ≡ next_drawing s m before
behind_drawn s m e before past = ap (λ (b : Bool). cond b (first_drawing s m) (next_drawing s m before)) past

-- by the event's maker: its hart means it
by_maker : (maker : Maker) (traps was : Bool) → is_back_by maker traps was ≡ true
    → (enters_kernel traps maker ≡ true) ⊎ ((maker ≡ Buffer) × (was ≡ true))
by_maker Thread traps was is = inl is
by_maker Buffer traps was is = inr (refl, is)
by_maker Kernel traps was is = inl refl

drain_is : (c : Choice) → (nature_of (kind_of c)).maker ≡ Buffer → c ≡ asked.Drain
drain_is asked.Drain is = refl
drain_is c is = absurd cc

not_on : (b : Bool) → not b ≡ true → b ≡ false
not_on true is = absurd (false≢true is)
not_on false is = refl

-- where a hart owes a signal, one can be delivered
pub owed_can : (s : Setting) (m : Manner) (h : ℕ) (before : History) → owes s m h before ≡ true
    → ((scene_at s before).sight h).deliverable ≡ true
owed_can s m h [] is = absurd (false≢true is)
owed_can s m h (e ∷ before) is =
    let can = ((scene_at s (e ∷ before)).sight h).deliverable in
    (and_parts (not (ltb (length before) m.scripted)) can
    (and_parts (not (ltb (length before) m.scripted) && can)
    (cond (is_of_hart h e) (is_back_by (nature_of e.entry.kind).maker ((scene_at s before).traps h) (owes s m h before)) (owes s m h before))
    is).0).1

module _ (s : Setting) (m : Manner) (h : ℕ) (some : 0 < s.limits.harts) (few : s.limits.harts ≤ 8) (below : h < s.limits.harts) where
  -- behind an event that was drawn of that hart, or of another
  own_next : (before : History) (x : Drawn) → draw (scene_at s before) (drawing_at s m before) ≡ Some x → x.hart ≡ h
      → is_back_by (nature_of (kind_of x.choice)).maker ((scene_at s before).traps h) (owes s m h before) ≡ true
      → (owes s m h before ≡ true → aim_of (drawing_at s m before) h ≡ Some means.Signal) → aim_of x.after h ≡ Some means.Signal
  own_next before x e same back so_far =
      let scene = scene_at s before in
      let d = drawing_at s m before in
      let eight = eight_aims s m before in
      let within : h < length d.aims = omega (arith, below, few, eight) in
      let also : x.hart < length d.aims = omega (arith, below, few, eight, same) in
      elim (by_maker (nature_of (kind_of x.choice)).maker (scene.traps h) (owes s m h before) back) [
        | inl enters ↦
            subst (λ (k : ℕ). aim_of x.after k ≡ Some means.Signal) same
            (draw-behind scene d x also (trap_draws s before d)
            (subst (λ (k : ℕ). comes_back (scene.traps k) x.choice ≡ true) (sym same) enters) e)
        | inr drains ↦
            draw-keeps scene d x h within also (so_far drains.1) (owed_can s m h before drains.1) (λ it. drain_is x.choice drains.0) e
      ]

  other_next : (before : History) (x : Drawn) → draw (scene_at s before) (drawing_at s m before) ≡ Some x → x.hart ≢ h
      → owes s m h before ≡ true
      → (owes s m h before ≡ true → aim_of (drawing_at s m before) h ≡ Some means.Signal) → aim_of x.after h ≡ Some means.Signal
  other_next before x e other owed so_far =
      let scene = scene_at s before in
      let d = drawing_at s m before in
      let eight = eight_aims s m before in
      let within : h < length d.aims = omega (arith, below, few, eight) in
      let hart = draw-within scene d x (drawing_is_for s m before some few) e in
      let also : x.hart < length d.aims = omega (arith, hart, few, eight) in
      draw-keeps scene d x h within also (so_far owed) (owed_can s m h before owed) (λ it. absurd (other it)) e

  drawn_next : (before : History) (x : Drawn) (b : Bool) → eqb x.hart h ≡ b
      → draw (scene_at s before) (drawing_at s m before) ≡ Some x
      → cond b (is_back_by (nature_of (kind_of x.choice)).maker ((scene_at s before).traps h) (owes s m h before)) (owes s m h before)
      ≡ true
      → (owes s m h before ≡ true → aim_of (drawing_at s m before) h ≡ Some means.Signal) → aim_of x.after h ≡ Some means.Signal
  drawn_next before x true own e back so_far = own_next before x e (eqb-true x.hart h own) back so_far
  drawn_next before x false apart e back so_far = other_next before x e (eqb-false x.hart h apart) back so_far

  entry_next : (e : Event) (before : History) → IsDrawnHistory s m (e ∷ before) → owes s m h (e ∷ before) ≡ true
      → (owes s m h before ≡ true → aim_of (drawing_at s m before) h ≡ Some means.Signal)
      → aim_of (drawing_at s m (e ∷ before)) h ≡ Some means.Signal
  entry_next e before drawn is so_far =
      let scene = scene_at s before in
      let d = drawing_at s m before in
      let can = ((scene_at s (e ∷ before)).sight h).deliverable in
      let traps = scene.traps h in
      let was = owes s m h before in
      let parts = and_parts (not (ltb (length before) m.scripted) && can)
      (cond (is_of_hart h e) (is_back_by (nature_of e.entry.kind).maker traps was) was) is in
      let past = not_on (ltb (length before) m.scripted) (and_parts (not (ltb (length before) m.scripted)) can parts.0).0 in
      let event = event_of_entry s m before e.entry (drawn.1 past) in
      let x = event.0 in
      let place = (drawn_place s m before x event.1).1 in
      let back : cond (eqb x.hart h) (is_back_by (nature_of (kind_of x.choice)).maker traps was) was ≡ true =
      subst (λ (entry : Entry). cond (eqb entry.hart.0 h) (is_back_by (nature_of entry.kind).maker traps was) was ≡ true) (sym event.2)
      parts.1 in
      ap (λ (d : Drawing). aim_of d h) (behind_drawn s m e before past ∙ ap (λ (o : Option Drawn). kept_after o d) place)
      ∙ drawn_next before x (eqb x.hart h) refl place back so_far

  owed_aim : (before : History) → IsDrawnHistory s m before → owes s m h before ≡ true
      → aim_of (drawing_at s m before) h ≡ Some means.Signal
  owed_aim [] drawn is = absurd (false≢true is)
  owed_aim (e ∷ before) drawn is = entry_next e before drawn is (λ owed. owed_aim before drawn.0 owed)

-- SO IT DELIVERS IT NEXT

runs_there : (here : Here) (o : Option ℕ) → is_deliverable_on here o ≡ true → is_none o ≡ false
runs_there here None can = absurd (false≢true can)
runs_there here (Some t) can = refl

pub own-signal : (s : Setting) (m : Manner) (log : List Entry) (x : Drawn) → 0 < s.limits.harts → s.limits.harts ≤ 8
    → IsDrawn s m log → drawn_at s m (history s log) ≡ Some x → owes s m x.hart (history s log) ≡ true
    → ((scene_at s (history s log)).sight x.hart).in_barrier ≡ false
    → x.choice ≡ emptied_before ((scene_at s (history s log)).sight x.hart) asked.Signal
own-signal s m log x some few drawn at owed apart =
    let before = history s log in
    let scene = scene_at s before in
    let d = drawing_at s m before in
    let place = (drawn_place s m before x at).1 in
    let below = draw-within scene d x (drawing_is_for s m before some few) place in
    let can = owed_can s m x.hart before owed in
    let here = here_in_history s before x.hart in
    draw-signal scene d x (owed_aim s m x.hart some few below before drawn owed)
    (record { some = can; runs = runs_there here (runs here) can; apart = apart }) place
