-- What the parts of a process say of what its harts owe is what the plain machine says.
use Rattle.std.proofs.Common.{◌≡◌, ℕ, ◌<◌, ◌≤◌, ◌&&◌, Bool, true, false, cond, eqb, Option, Some, None, is_some, refl, sym, ap, ◌∙◌, arith}
use Rattle.std.specs.Option.{option_map, option_map_or}
use Rattle.std.proofs.lemmas.Bool.{eqb-true, lt-ltb}
use Rattle.mach_types.specs.Events.{maker_of}
use Rattle.mach_types.specs.Kernel.Barriers.{harts_that}
use Rattle.mach_types.specs.Kernel.Scheduling.{has_hart}
use Rattle.mach_types.specs.Kernel.Signals.{next_for}
use Rattle.mach_types.proofs.Laws.{has_hart-harts_that}
use Rattle.mach_types.specs.declared.events.Choice.{Choice}
use Rattle.mach_types.specs.declared.events.Tid.{Tid}
use Rattle.hart_state.specs.declared.hart.HartState.{HartState}
use Rattle.block_model.specs.Here.{Here, runs}
use Rattle.block_model.specs.Plain.{Plain, here_in_plain}
use Rattle.block_model.specs.Setting.{Setting}
use Rattle.block_model.specs.Sights.{is_deliverable_on, thread}
use Rattle.process.specs.Refinement.{IsTied}
use Rattle.process.specs.declared.parts.Parts.{Parts}
use Rattle.prompt_runs.specs.Owed.{can_owe, is_back_by, is_deliverable, machine_after, owed_next, traps}
use Rattle.search_reductions.specs.declared.signals.Signals.{Signals}
use Rattle.search_reductions.specs.declared.signals.Signals.TheVariants.{Any, Prompt}
use Rattle.same_places.specs.Places.{rested}
use Rattle.owed_signals.specs.Owing.{can_owe_in, is_deliverable_in, owes_in}

-- by the thread that runs
of_thread : (here : Here) (o : Option ℕ) → option_map_or (λ (t : Tid). is_some (next_for t.0 here.kernel.signals)) (option_map thread o) false ≡ is_deliverable_on here o
of_thread here None = refl
of_thread here (Some t) = refl

deliverable_is : (s : Setting) (q : Plain) (m : Parts) (k : ℕ) → IsTied s q m → k < s.limits.harts → is_deliverable_in m k ≡ is_deliverable (here_in_plain s q k)
deliverable_is s q m k tied lt =
    let here = here_in_plain s q k in
    ap (λ (o : Option HartState). option_map_or (λ (x : HartState). option_map_or (λ (t : Tid). is_some (next_for t.0 m.kernel.signals)) x.running false) o false) (tied.harts k lt)
    ∙ ap (λ g. option_map_or (λ (t : Tid). is_some (next_for t.0 g)) (option_map thread (runs here)) false) tied.tables.signals
    ∙ of_thread here (runs here)

can_owe_is : (signals : Signals) (s : Setting) (q : Plain) (m : Parts) (k : ℕ) → IsTied s q m → k < s.limits.harts → can_owe_in signals m k ≡ can_owe signals (here_in_plain s q k)
can_owe_is Prompt s q m k tied lt = deliverable_is s q m k tied lt
can_owe_is Any s q m k tied lt = refl

by_own : (c : Choice) (trapped : Bool) (before h : ℕ) (owed : ℕ → Bool) (k : ℕ) (b : Bool) → eqb h k ≡ b → has_hart before h ≡ owed h → has_hart before k ≡ owed k
    → cond b (is_back_by (maker_of c) trapped (has_hart before k)) (has_hart before k) ≡ cond b (is_back_by (maker_of c) trapped (owed h)) (owed k)
by_own c trapped before h owed k true is there here =
    ap (is_back_by (maker_of c) trapped) (ap (has_hart before) (sym (eqb-true h k is)) ∙ there)
by_own c trapped before h owed k false is there here = here

both : (a b : Bool) → b ≡ true → (a && b) ≡ a
both true b is = is
both false b is = refl

pub owed_is : (s : Setting) (signals : Signals) (p : Plain) (m : Parts) (owed : ℕ → Bool) (before h : ℕ) (c : Choice) → s.limits.harts ≤ 8 → h < s.limits.harts
    → ((k : ℕ) → k < s.limits.harts → has_hart before k ≡ owed k) → IsTied s (rested (machine_after s p h c)) m → (k : ℕ) → k < s.limits.harts
    → has_hart (harts_that (owes_in signals m before h c (traps (here_in_plain s p h))) 8) k ≡ owed_next signals s p owed h c k
owed_is s signals p m owed before h c few below same tied k lt =
    let q = rested (machine_after s p h c) in
    let trapped = traps (here_in_plain s p h) in
    let can = can_owe_is signals s q m k tied lt in
    let back = by_own c trapped before h owed k (eqb h k) refl (same h below) (same k lt) in
    has_hart-harts_that (owes_in signals m before h c trapped) 8 k
    ∙ both (owes_in signals m before h c trapped k) _ (lt-ltb k 8 (omega arith))
    ∙ (λ i. can i && back i)
