-- The three words lie below 2^64.
use Rattle.sys_calls.proofs.Common.{ℕ, ◌+◌, ap, ◌∙◌, arith, Action, number_at}
use Rattle.sys_calls.proofs.ActionWords.{readable_action}
use Rattle.sys_calls.proofs.GuestMemory.{number_is}
use Rattle.sys_calls.proofs.signal_calls.action_at.Goals as goal

pub overflow_add-at : goal.overflow_add-at
overflow_add-at c =
    let end = readable_action c.args.pages.now c.args.at c.ranges.at.fits c.requires.readable in
    record { fits = omega (arith, end) }

pub overflow_add-at-2 : goal.overflow_add-at-2
overflow_add-at-2 c =
    let end = readable_action c.args.pages.now c.args.at c.ranges.at.fits c.requires.readable in
    record { fits = omega (arith, end) }

pub returns : goal.returns
returns c = λ h t saved read.
    let at = c.args.at in
    let made : ℕ → ℕ → ℕ → Action = λ x y z. record { at = x; flags = y; mask = z } in
    ap (λ (x : ℕ). made x c.number_at-2.result c.number_at-3.result) (c.number_at.ensures ∙ number_is h c.args.pages.now t saved read at 8)
    ∙ ap (λ (y : ℕ). made (number_at h at 8) y c.number_at-3.result) (c.number_at-2.ensures ∙ number_is h c.args.pages.now t saved read (at + 8) 8)
    ∙ ap (λ (z : ℕ). made (number_at h at 8) (number_at h (at + 8) 8) z) (c.number_at-3.ensures ∙ number_is h c.args.pages.now t saved read (at + 16) 8)
