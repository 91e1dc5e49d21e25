-- Signals are kept of the threads on all harts where parts stand at the end of a run.
use Rattle.std.proofs.Common.{◌≡◌, ℕ, ◌≤◌, List, Option, Some, None, slice_get, inl, inr, sym, ◌∙◌, arith}
use Rattle.std.proofs.lemmas.Bool.{cases_lt}
use Rattle.std.proofs.lemmas.Option.{slice_get_past}
use Rattle.mach_types.specs.declared.events.Entry.{Entry}
use Rattle.hart_state.specs.declared.hart.HartState.{HartState}
unfoldable use Rattle.block_model.specs.Plain.{plain_after}
use Rattle.block_model.specs.Run.{IsBlockRun}
use Rattle.block_model.specs.Setting.{Seen, Setting}
use Rattle.block_model.specs.Standing.{IsStanding}
use Rattle.block_model.proofs.Laws.{standing}
use Rattle.process.specs.Delivering.{HasSignals}
use Rattle.process.specs.declared.parts.Parts.{Parts}
use Rattle.process.proofs.Laws.{has_signals}
use Rattle.same_places.specs.Places.{alone, rested}
use Rattle.same_places.specs.Replayed.{StandAfter}

-- a process at the end of a run, with no counts
stands_rested : (s : Setting) (log : List Entry) → IsBlockRun s log → IsStanding (alone s (rested (plain_after s log)))
stands_rested s log run =
    let v : Seen = record { setting = s; seed = 0; log = log } in
    let stands = standing v run in
    record {
      good = stands.good;
      sound = stands.sound;
      held = stands.held;
      events = λ k. omega arith;
      ran = λ k. omega arith;
      given = stands.given;
    }

none_some : (o : Option HartState) (x : HartState) → o ≡ None → o ≡ Some x → ⊥
none_some o x none some = let bad : None ≡ Some x = sym none ∙ some in absurd cc

pub all_held : (s : Setting) (log : List Entry) (m : Parts) → IsBlockRun s log → StandAfter s log m → (h : ℕ) → HasSignals m h
all_held s log m run stands h =
    let all = stands.all_harts in
    elim (cases_lt h s.limits.harts) [
      | inl lt ↦ has_signals (alone s (rested (plain_after s log))) m h (stands_rested s log run) stands lt
      | inr past ↦ λ x t at busy. absurd (none_some (slice_get m.harts.items h) x (slice_get_past m.harts.items h (omega (arith, past))) at)
    ]
