-- madvise is refused, changes nothing, or drops pages.
use Rattle.sys_calls.proofs.Common.{◌≡◌, ℕ, ◌/◌, ◌&&◌, [], ◌∷◌, List, None, false, not, eqb, refl, sym, ap, subst, ◌∙◌, arith, argument, int_argument, break_start_in, permission_in, run, written, zeros_of, HoldsPages, Write}
use Rattle.mach_types.specs.Kernel.Pages.{is_mapped, is_without_code}
use Rattle.block_model.specs.Calls.Memory.{advice_writes, is_dropping}
use Rattle.sys_calls.proofs.GuestMemory.{argument_is, int_argument_is}
use Rattle.sys_calls.proofs.AdviceCalls.{drops_some, droppable, holds_zeroed, madvise_idle, madvise_made, madvise_refused}
use Rattle.sys_calls.proofs.advice.madvise.Goals as goal

pub drop_pages-requires-clause-end : goal.drop_pages-requires-clause-end
drop_pages-requires-clause-end c =
    let can = droppable (permission_in c.args.pages.now) (break_start_in c.args.pages.now) c.argument-at.result c.argument-len.result c.int_argument-advice.result
    (sym c.advice_refusal.ensures.refusal ∙ c.in_default.is) (sym c.drops.ensures ∙ c.if-not-drops.false) in
    let ends = can.ends in
    omega (arith, c.pages_of.ensures, ends)

pub drop_pages-requires-clause-mapped : goal.drop_pages-requires-clause-mapped
drop_pages-requires-clause-mapped c =
    let can = droppable (permission_in c.args.pages.now) (break_start_in c.args.pages.now) c.argument-at.result c.argument-len.result c.int_argument-advice.result
    (sym c.advice_refusal.ensures.refusal ∙ c.in_default.is) (sym c.drops.ensures ∙ c.if-not-drops.false) in
    ap (is_mapped (permission_in c.args.pages.now) (c.argument-at.result / 4096)) c.pages_of.ensures ∙ can.mapped

pub drop_pages-requires-clause-code : goal.drop_pages-requires-clause-code
drop_pages-requires-clause-code c =
    let can = droppable (permission_in c.args.pages.now) (break_start_in c.args.pages.now) c.argument-at.result c.argument-len.result c.int_argument-advice.result
    (sym c.advice_refusal.ensures.refusal ∙ c.in_default.is) (sym c.drops.ensures ∙ c.if-not-drops.false) in
    ap (is_without_code (permission_in c.args.pages.now) (c.argument-at.result / 4096)) c.pages_of.ensures ∙ can.bare

pub returns-in-Some-clause-remapped : goal.returns-in-Some-clause-remapped
returns-in-Some-clause-remapped c = λ h t has file.
    let at : c.argument-at.result ≡ argument h t 0 = c.argument-at.ensures ∙ argument_is h t c.args.saved.now file 0 in
    let len : c.argument-len.result ≡ argument h t 1 = c.argument-len.ensures ∙ argument_is h t c.args.saved.now file 1 in
    let advice : c.int_argument-advice.result ≡ int_argument h t 2 = c.int_argument-advice.ensures ∙ int_argument_is h t c.args.saved.now file 2 in
    madvise_refused h t c.args.pages.now c.args.pages.now has c.argument-at.result c.argument-len.result c.int_argument-advice.result
    (argument h t 0) (argument h t 1) (int_argument h t 2) at len advice c.args.written.now.items c.in-Some.errno c.requires.fresh
    (sym c.in-Some.is ∙ c.advice_refusal.ensures.refusal) refl

pub returns-then-not-drops-clause-remapped : goal.returns-then-not-drops-clause-remapped
returns-then-not-drops-clause-remapped c = λ h t has file.
    let at : c.argument-at.result ≡ argument h t 0 = c.argument-at.ensures ∙ argument_is h t c.args.saved.now file 0 in
    let len : c.argument-len.result ≡ argument h t 1 = c.argument-len.ensures ∙ argument_is h t c.args.saved.now file 1 in
    let advice : c.int_argument-advice.result ≡ int_argument h t 2 = c.int_argument-advice.ensures ∙ int_argument_is h t c.args.saved.now file 2 in
    madvise_idle h t c.args.pages.now has c.argument-at.result c.argument-len.result c.int_argument-advice.result
    (argument h t 0) (argument h t 1) (int_argument h t 2) at len advice c.args.written.now.items c.requires.fresh
    (sym c.drops.ensures ∙ c.if-not-drops.true) (sym c.in_default.is ∙ c.advice_refusal.ensures.refusal)

pub returns-clause-remapped : goal.returns-clause-remapped
returns-clause-remapped c = λ h t has file.
    let at : c.argument-at.result ≡ argument h t 0 = c.argument-at.ensures ∙ argument_is h t c.args.saved.now file 0 in
    let len : c.argument-len.result ≡ argument h t 1 = c.argument-len.ensures ∙ argument_is h t c.args.saved.now file 1 in
    let advice : c.int_argument-advice.result ≡ int_argument h t 2 = c.int_argument-advice.ensures ∙ int_argument_is h t c.args.saved.now file 2 in
    let done = c.drop_pages.ensures in
    let ws = c.drop_pages.new.written.items in
    let zeros : ws ≡ zeros_of (run (c.argument-at.result / 4096) c.pages_of.result None) ∷ [] = done.told in
    let told : ws ≡ advice_writes c.argument-at.result c.argument-len.result c.int_argument-advice.result =
    zeros ∙ (λ i. zeros_of (run (c.argument-at.result / 4096) (c.pages_of.ensures i) None) ∷ [])
    ∙ drops_some c.argument-at.result c.argument-len.result c.int_argument-advice.result (sym c.drops.ensures ∙ c.if-not-drops.false) in
    madvise_made h t c.args.pages.now c.drop_pages.new.pages has c.argument-at.result c.argument-len.result c.int_argument-advice.result
    (argument h t 0) (argument h t 1) (int_argument h t 2) at len advice ws told (sym c.in_default.is ∙ c.advice_refusal.ensures.refusal)
    (subst (λ (w : List Write). HoldsPages h.kernel.pages h.setting.program.break_at (λ a. written w a (h.byte a)) c.drop_pages.new.pages) (sym zeros)
    (holds_zeroed h c.args.pages.now c.drop_pages.new.pages (run (c.argument-at.result / 4096) c.pages_of.result None) has done.permissions done.held done.free done.break_at done.break_start))
    done.code
