-- A byte that can be read is the one that its page holds, and what can be written can be read.
use Rattle.sys_calls.proofs.Common.{◌/◌, ℕ, cond, Option, None, ap, ◌∙◌, permission_at, held_in, permission_in, can_read, can_write}
use Rattle.sys_calls.proofs.KernelWrites.{both, if_readable}
use Rattle.std.proofs.Math.Path.{fun_ext}
use Rattle.sys_calls.proofs.memory.shows_pages.Goals as goal

pub returns : goal.returns
returns c = λ h t saved has file. record {
  bytes = fun_ext (λ a.
      c.held_bytes_are_seen.ensures.bytes c.args.pages.now a
      ∙ ap (λ (o : Option ℕ). cond (can_read o) (held_in c.args.pages.now a) None) (has.permissions (a / 4096))
      ∙ ap (λ (o : Option ℕ). cond (can_read (permission_at h.kernel.pages a)) o None) (has.held a)
      ∙ if_readable (h.byte a) (permission_at h.kernel.pages a));
  writable = fun_ext (λ a.
      both (can_read (permission_in c.args.pages.now (a / 4096))) (can_write (permission_in c.args.pages.now (a / 4096)))
      (λ e. (c.keeps.ensures.writable (a / 4096) e).0)
      ∙ ap can_write (has.permissions (a / 4096)));
  file = file;
}
