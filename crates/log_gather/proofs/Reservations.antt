-- What a plain event makes of the reservations of the harts.
use Rattle.std.proofs.Common.{◌≡◌, ℕ, List, [], ◌∷◌, refl, sym, ap, ◌∙◌, Bool, true, false, cond, eqb, Option, Some, None, unwrap_or}
use Rattle.std.proofs.Math.Path.{fun_ext}
use Rattle.std.specs.Option.{option_and_then}
use Rattle.std.proofs.lemmas.Bool.{eqb-true, false≢true}
use Rattle.mach_types.specs.Events.{choice_of}
use Rattle.mach_types.specs.declared.events.Choice.{Choice}
use Rattle.mach_types.specs.declared.events.Choice.TheVariants as asked
use Rattle.mach_types.specs.declared.events.Entry.{Entry}
use Rattle.mach_types.specs.declared.registers.Regs.{Regs}
use Rattle.mach_types.specs.declared.user_memory.Store.{Store}
use Rattle.mach_types.specs.declared.user_memory.Write.{Write}
use Rattle.mach_types.specs.declared.user_memory.Write.TheVariants.{Stored, Zeroed}
use Rattle.rv_inst.specs.Execution.{Outcome, is_reserved, outcome}
use Rattle.rv_inst.specs.declared.effects.Effect.{Effect}
use Rattle.rv_inst.specs.declared.effects.Effect.TheVariants as effect
use Rattle.block_model.specs.Events.{done_of}
use Rattle.block_model.specs.Events.Exec.{next_effect}
use Rattle.rv_inst.specs.Accesses.{reserved_by}
use Rattle.block_model.specs.Footprints.{bytes_of_all}
use Rattle.block_model.specs.Here.{Done, Here, runs, view_of_all, waiting_here}
use Rattle.block_model.specs.History.{lost_after}
use Rattle.block_model.specs.PlainEvents.{is_plain, reserved_exec, reserved_of}
use Rattle.block_model.specs.Setting.{Setting}
use Rattle.block_model.proofs.Swaps.PlainDone.{plain_done, plain_drain, plain_effect, plain_exec}
use Rattle.block_model.proofs.Swaps.PlainEvents.{done_is_plain}
use Rattle.log_gather.specs.Facts.{Place, facts_at, here_at, next_place}
use Rattle.log_gather.specs.Located.{lost_to_bytes, reserved_next}

lost_bytes : (ws : List Write) (r : Option ℕ) → lost_after ws r ≡ lost_to_bytes (bytes_of_all ws) r
lost_bytes [] r = refl
lost_bytes (Stored w ∷ ws) r = lost_bytes ws _
lost_bytes (Zeroed at n ∷ ws) r = lost_bytes ws _

none_either : (b : Bool) (x y : Outcome) → x.reserved ≡ None → y.reserved ≡ None → (cond b x y).reserved ≡ None
none_either true x y p q = p
none_either false x y p q = q

outcome_reserves : (f : ℕ → Option ℕ) (regs : Regs) (pc : ℕ) (r : Option ℕ) (e : Effect) → (outcome f regs pc r e).reserved ≡ unwrap_or (reserved_by e) r
outcome_reserves f regs pc r (effect.Sc at size value rd) = none_either (is_reserved r at) _ _ refl refl
outcome_reserves f regs pc r e = refl

effect_reserves : (here : Here) (t : ℕ) (o : Option Effect) → (plain_effect here t o).reserved ≡ unwrap_or (option_and_then reserved_by o) here.reserved
effect_reserves here t None = refl
effect_reserves here t (Some e) = outcome_reserves (view_of_all here) (here.file t).file (here.file t).pc here.reserved e

drain_reserves : (r : Option ℕ) (ws : List Store) → (plain_drain r ws).reserved ≡ r
drain_reserves r [] = refl
drain_reserves r (w ∷ ws) = refl

plain_reserves_of : (c : Choice) (here : Here) → is_plain c here ≡ true → (plain_done c here).reserved ≡ unwrap_or (reserved_of c here) here.reserved
plain_reserves_of asked.Exec here plain = go (runs here)
  where
    go : (o : Option ℕ) → (plain_exec here o).reserved ≡ unwrap_or (reserved_exec here o) here.reserved
    go None = refl
    go (Some t) = effect_reserves here t (next_effect here t)
plain_reserves_of asked.Drain here plain = drain_reserves here.reserved (waiting_here here)
plain_reserves_of c here plain = absurd (false≢true plain)

-- the reservations after a plain event, by its facts
pub reserved_is : (s : Setting) (p : Place) (e : Entry) → (facts_at s p e).plain ≡ true → (next_place s p e).machine.reserved ≡ reserved_next (facts_at s p e) p.machine.reserved
reserved_is s p e plain = fun_ext (λ k. by_hart k (eqb e.hart.0 k) refl)
  where
    reserves : (facts_at s p e).reserves ≡ reserved_of (choice_of e) (here_at s p e)
    reserves = ap (λ b. cond b (reserved_of (choice_of e) (here_at s p e)) None) plain

    entered : (facts_at s p e).entered ≡ bytes_of_all (done_of (choice_of e) (here_at s p e)).entered
    entered = ap (λ b. cond b (bytes_of_all (done_of (choice_of e) (here_at s p e)).entered) []) plain

    by_hart : (k : ℕ) (b : Bool) → eqb e.hart.0 k ≡ b
        → cond b (done_of (choice_of e) (here_at s p e)).reserved (lost_after (done_of (choice_of e) (here_at s p e)).entered (p.machine.reserved k))
        ≡ cond b (unwrap_or (facts_at s p e).reserves (p.machine.reserved k)) (lost_to_bytes (facts_at s p e).entered (p.machine.reserved k))
    by_hart k true own =
        ap (λ (d : Done). d.reserved) (done_is_plain (choice_of e) (here_at s p e) plain)
        ∙ plain_reserves_of (choice_of e) (here_at s p e) plain
        ∙ ap (λ o. unwrap_or o (p.machine.reserved e.hart.0)) (sym reserves)
        ∙ ap (λ j. unwrap_or (facts_at s p e).reserves (p.machine.reserved j)) (eqb-true e.hart.0 k own)
    by_hart k false other =
        lost_bytes (done_of (choice_of e) (here_at s p e)).entered (p.machine.reserved k)
        ∙ ap (λ xs. lost_to_bytes xs (p.machine.reserved k)) (sym entered)
