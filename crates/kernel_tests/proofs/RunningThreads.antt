-- Who runs on a hart, told by the states of threads.
use Rattle.std.proofs.Common.{ℕ, ◌+◌, ◌<◌, ◌≡◌, Some, None, sym, ap, ◌∙◌, inl, inr, arith}
use Rattle.std.specs.Option.{option_map}
use Rattle.std.proofs.lemmas.Bool.{cases_lt}
use Rattle.mach_types.proofs.Laws.{not_among}
use Rattle.mach_types.specs.Kernel.Scheduling.{Scheduling}
use Rattle.mach_types.specs.Kernel.Threads.{Thread, Threads, running_on, state_of}
use Rattle.block_model.specs.Tables.{IsTables, on}
use Rattle.block_model.proofs.Laws.{running_idle}

-- a hart is idle where no thread of a given number runs there
pub idle_among : (harts h : ℕ) (ts : Threads) (sc : Scheduling) → IsTables harts ts sc → ((t : ℕ) → t < ts.given + 1 → state_of t ts ≡ Some (on h) → ⊥) → running_on h ts ≡ None
idle_among harts h ts sc tables none =
    running_idle harts h ts sc tables (λ t at. elim (cases_lt t (ts.given + 1)) [
      | inl below ↦ none t below at
      | inr above ↦
          let nobody : state_of t ts ≡ None = ap (option_map (λ (th : Thread). th.state)) (not_among t ts.given (omega arith) ts.live tables.threads.given) in
          let no : Some (on h) ≡ None = sym at ∙ nobody in
          cc
    ])
