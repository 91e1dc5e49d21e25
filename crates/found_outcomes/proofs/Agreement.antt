-- What one search found, another that visited all places found too.
use Rattle.std.proofs.Common.{◌≡◌, ℕ, ◌≤◌, List, Option, Some, Contains, sym, ap, ◌∙◌, subst}
use Rattle.std.proofs.lemmas.List.Elements.{All-contains}
use Rattle.mach_types.specs.declared.events.Entry.{Entry}
use Rattle.mach_types.specs.declared.limits.End.{End}
use Rattle.block_model.specs.Deciding.{over_at}
use Rattle.block_model.specs.History.{console}
use Rattle.block_model.specs.Plain.{Plain, plain_over}
use Rattle.block_model.specs.Setting.{Seen, Setting}
use Rattle.block_model.proofs.Laws.{same_state}
unfoldable use Rattle.block_model.specs.Deciding.{history}
unfoldable use Rattle.block_model.specs.Plain.{plain_after}
use Rattle.search_reductions.specs.declared.signals.Signals.{Signals}
use Rattle.found_outcomes.specs.Complete.{IsComplete, IsCompleteWithin, preemptions_of}
use Rattle.found_outcomes.specs.Found.{HasBeenFound, IsShown}
use Rattle.found_outcomes.specs.Search.{IsSearchOf}
use Rattle.found_outcomes.specs.declared.findings.Closing.TheVariants.{Complete, Within}
use Rattle.found_outcomes.specs.declared.findings.Findings.{Findings}
use Rattle.found_outcomes.specs.declared.findings.OutcomeFound.{OutcomeFound}

-- how the run of an outcome ends
ends_so : (s : Setting) (signals : Signals) (o : OutcomeFound) → IsShown s signals o → over_at s (history s o.log.items) ≡ Some o.end
ends_so s signals o shown =
    let v : Seen = record { setting = s; seed = 0; log = o.log.items } in
    sym (ap plain_over (same_state v shown.0.run)) ∙ shown.0.over

prints_so : (s : Setting) (signals : Signals) (o : OutcomeFound) → IsShown s signals o → console s (history s o.log.items) ≡ o.console
prints_so s signals o shown =
    let v : Seen = record { setting = s; seed = 0; log = o.log.items } in
    sym (ap (λ (p : Plain). p.kernel.console) (same_state v shown.0.run)) ∙ shown.0.console_is

-- an outcome that a run comes to is among those of a complete search
shown_found : (s : Setting) (signals : Signals) (os : List OutcomeFound) (o : OutcomeFound) → s.limits.steps ≤ 1000000 → IsShown s signals o → IsComplete s signals os → HasBeenFound os o.end o.console
shown_found s signals os o steps shown all =
    subst (HasBeenFound os o.end) (prints_so s signals o shown) (all.block_runs s.limits.steps o.log.items o.end steps shown.0.run shown.1 (ends_so s signals o shown))

-- and among those of one within so many preemptions, where the run has no more
shown_within : (s : Setting) (signals : Signals) (n : ℕ) (os : List OutcomeFound) (o : OutcomeFound) → s.limits.steps ≤ 1000000 → IsShown s signals o → preemptions_of o.log.items ≤ n → IsCompleteWithin s signals n os
    → HasBeenFound os o.end o.console
shown_within s signals n os o steps shown few all =
    subst (HasBeenFound os o.end) (prints_so s signals o shown) (all.block_runs s.limits.steps o.log.items o.end steps shown.0.run shown.1 few (ends_so s signals o shown))

renamed : (os : List OutcomeFound) (e e' : End) (c c' : List ℕ) → e ≡ e' → c ≡ c' → HasBeenFound os e c → HasBeenFound os e' c'
renamed os e e' c c' ends consoles found = record { outcome = found.outcome; among = found.among; end_is = found.end_is ∙ ends; console_is = found.console_is ∙ consoles }

pub agree : (s : Setting) (signals : Signals) (most others : ℕ) (p q : Option ℕ) (a b : Findings) (end : End) (out : List ℕ) → s.limits.steps ≤ 1000000 → IsSearchOf s signals most p a → IsSearchOf s signals others q b → a.closing ≡ Complete
    → b.closing ≡ Complete → HasBeenFound a.outcomes.items end out → HasBeenFound b.outcomes.items end out
agree s signals most others p q a b end out steps first second whole all found =
    let o = found.outcome in
    let shown : IsShown s signals o = All-contains (IsShown s signals) a.outcomes.items o first.shown found.among in
    renamed b.outcomes.items o.end end o.console out found.end_is found.console_is (shown_found s signals b.outcomes.items o steps shown (second.complete all))

pub agree_within : (s : Setting) (signals : Signals) (most others n : ℕ) (p q : Option ℕ) (a b : Findings) (end : End) (out : List ℕ) → s.limits.steps ≤ 1000000 → IsSearchOf s signals most p a → IsSearchOf s signals others q b
    → a.closing ≡ Within n → b.closing ≡ Within n → HasBeenFound a.outcomes.items end out → HasBeenFound b.outcomes.items end out
agree_within s signals most others n p q a b end out steps first second whole all found =
    let o = found.outcome in
    let shown : IsShown s signals o = All-contains (IsShown s signals) a.outcomes.items o first.shown found.among in
    let logged : Contains first.logs o.log.items = All-contains (λ (x : OutcomeFound). Contains first.logs x.log.items) a.outcomes.items o first.visited.outcomes found.among in
    let few : preemptions_of o.log.items ≤ n = All-contains (λ (log : List Entry). preemptions_of log ≤ n) first.logs o.log.items (first.few n (first.within n whole).0) logged in
    renamed b.outcomes.items o.end end o.console out found.end_is found.console_is (shown_within s signals n b.outcomes.items o steps shown few (second.within n all).2)
