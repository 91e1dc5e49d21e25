-- An exploration of a setting comes to one thing.
use Rattle.std.proofs.Common.{◌≡◌, ◌≤◌, ℕ, ◌<◌, zero, suc, false, List, [], sym, ap, ap₂, ◌∙◌, subst, inl, inr, arith}
use Rattle.std.proofs.Math.Nat.{eq-or-lt_of_le}
use Rattle.std.proofs.lemmas.Bool.{cases_order}
use Rattle.mach_types.specs.declared.events.Entry.{Entry}
use Rattle.block_model.specs.Setting.{Setting}
use Rattle.drawn_runs.proofs.Laws.{goes_on_alike}
use Rattle.explored_runs.specs.declared.exploration.Exploration.{Exploration}
use Rattle.explored_runs.specs.declared.made.Made.{Made}
use Rattle.explored_runs.specs.Accounts.{Account, has_enough, told}
use Rattle.explored_runs.specs.Explorations.{manner_at}
use Rattle.explored_runs.specs.Explored.{IsExploredAs, IsToldAfter}
use Rattle.explored_runs.specs.Made.{IsMadeAt, made_by}

-- the run of a place comes to one thing, since it has one log
one_made : (s : Setting) (x : Exploration) (place : ℕ) (m n : Made) → IsMadeAt s x place m → IsMadeAt s x place n → m ≡ n
one_made s x place m n a b =
    let same : a.log ≡ b.log = goes_on_alike s (manner_at s x place) [] a.log b.log (omega arith) a.run b.run in
    a.made ∙ ap (λ (log : List Entry). made_by x.apart (manner_at s x place) s log) same ∙ sym b.made

-- so one thing is told after so many runs
one_told : (s : Setting) (x : Exploration) (runs : ℕ) (a b : Account) → IsToldAfter s x runs a → IsToldAfter s x runs b → a ≡ b
one_told s x zero a b one other = one ∙ sym other
one_told s x (suc place) a b one other =
    let before = one_told s x place one.before other.before one.is_told other.is_told in
    let run = one_made s x place one.run other.run one.made other.made in
    one.counted ∙ ap₂ (λ (c : Account) (m : Made). told c m) before run ∙ sym other.counted

-- where more was told later, as many outcomes as were asked for weren't found yet
pub record WasOpen (s : Setting) (x : Exploration) (runs : ℕ) : Type 0 where
  pub account : Account
  pub is_told : IsToldAfter s x runs account
  pub wanted : has_enough x.until account ≡ false

was_open : (s : Setting) (x : Exploration) (fewer runs : ℕ) (a : Account) → fewer < runs → IsToldAfter s x runs a → WasOpen s x fewer
was_open s x fewer zero a less is_told = absurd (omega arith)
was_open s x fewer (suc place) a less is_told =
    let here : WasOpen s x place = record { account = is_told.before; is_told = is_told.is_told; wanted = is_told.wanted } in
    let at : fewer ≤ place = omega arith in
    elim (eq-or-lt_of_le at) as (λ _. WasOpen s x fewer) [
      | inl same ↦ subst (λ (n : ℕ). WasOpen s x n) (sym same) here
      | inr below ↦ was_open s x fewer place is_told.before below is_told.is_told
    ]

-- an exploration that is over isn't one that goes on
no_less : (s : Setting) (x : Exploration) (a b : Account) → IsExploredAs s x a → IsExploredAs s x b → a.runs < b.runs → ⊥
no_less s x a b one other less =
    let open_then = was_open s x a.runs b.runs b less other.told in
    let same : open_then.account ≡ a = one_told s x a.runs open_then.account a open_then.is_told one.told in
    elim one.over as (λ _. ⊥) [
      | inl all ↦ (let few = other.within in omega arith)
      | inr enough ↦ (let not_yet = open_then.wanted in let now : has_enough x.until open_then.account ≡ has_enough x.until a = ap (λ (c : Account). has_enough x.until c) same in cc)
    ]

pub one_exploration : (s : Setting) (x : Exploration) (a b : Account) → IsExploredAs s x a → IsExploredAs s x b → a ≡ b
one_exploration s x a b one other =
    elim (cases_order a.runs b.runs) as (λ _. a ≡ b) [
      | inl same ↦ one_told s x b.runs a b (subst (λ (n : ℕ). IsToldAfter s x n a) same one.told) other.told
      | inr differ ↦ elim differ as (λ _. a ≡ b) [
        | inl less ↦ absurd (no_less s x a b one other less)
        | inr more ↦ absurd (no_less s x b a other one more)
      ]
    ]
