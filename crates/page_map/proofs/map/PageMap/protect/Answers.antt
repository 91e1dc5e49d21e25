use Rattle.std.proofs.Common.{◌≡◌, ◌/◌, ◌∙◌, ℕ, None, Some, ap, arith, sym}
use Rattle.mach_types.specs.Kernel.Pages.{can_execute, run, run_over}
use Rattle.mach_types.specs.Kernel.PageCalls.{mprotect_refusal}
use Rattle.page_map.specs.Map.{permission_in}
use Rattle.page_map.proofs.Runs.{is-mapped, prot-no-code, protected-code, protected-permissions}
use Rattle.page_map.proofs.Unrefused.{protectable}
use Rattle.page_map.proofs.map.PageMap.protect.Goals as goal

pub protect_pages-requires-clause-mapped : goal.protect_pages-requires-clause-mapped
protect_pages-requires-clause-mapped c n from to =
    let free : mprotect_refusal (permission_in c.args.self.now) c.args.at c.args.len c.args.perm ≡ None = sym c.protect_refusal.ensures ∙ c.in_default.is in
    let may = protectable (permission_in c.args.self.now) c.args.at c.args.len c.args.perm n free from (omega (arith, to, c.pages_of-count.ensures)) in
    is-mapped c.args.self.now n may.mapped

pub returns-clause-permissions : goal.returns-clause-permissions
returns-clause-permissions c n =
    let free : mprotect_refusal (permission_in c.args.self.now) c.args.at c.args.len c.args.perm ≡ None = sym c.protect_refusal.ensures ∙ c.in_default.is in
    protected-permissions c.args.self.now c.protect_pages.new.self (c.args.at / 4096) c.pages_of-count.result c.permission_for.result c.protect_pages.ensures.pages
    (λ k from to. is-mapped c.args.self.now k
    (let may = protectable (permission_in c.args.self.now) c.args.at c.args.len c.args.perm k free from (omega (arith, to, c.pages_of-count.ensures)) in may.mapped)) n
    ∙ (λ i. run_over (run (c.args.at / 4096) (c.pages_of-count.ensures i) (Some (c.permission_for.ensures i))) (permission_in c.args.self.now) n)

pub returns-clause-code : goal.returns-clause-code
returns-clause-code c =
    let free : mprotect_refusal (permission_in c.args.self.now) c.args.at c.args.len c.args.perm ≡ None = sym c.protect_refusal.ensures ∙ c.in_default.is in
    protected-code c.args.self.now c.protect_pages.new.self (c.args.at / 4096) c.pages_of-count.result c.permission_for.result c.protect_pages.ensures.pages
    (ap (λ (p : ℕ). can_execute (Some p)) c.permission_for.ensures ∙ prot-no-code c.args.perm)
    (λ n from to. let may = protectable (permission_in c.args.self.now) c.args.at c.args.len c.args.perm n free from (omega (arith, to, c.pages_of-count.ensures)) in may.bare)
