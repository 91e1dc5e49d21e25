use Rattle.std.proofs.Common.{ℕ, ◌+◌, ap, ◌∙◌}
use Rattle.mach_types.specs.Kernel.Areas.{are_readable, pointer_of, flags_of}
use Rattle.mach_types.specs.declared.sequences.TheConstants.{FLAGS, RSEQ_CS}
use Rattle.rseq_area.specs.declared.fields.Request.{Request}
use Rattle.rseq_area.proofs.Readings.{both_hold, first_fails, none_there, number_at-read, readable, rest_fails, some_there, unreadable}
use Rattle.rseq_area.proofs.fields.read_area.Goals as goal

pub returns-in_err-pointer : goal.returns-in_err-pointer
returns-in_err-pointer g c =
    let byte = g.M.UserMem.byte c.args.mem.now in
    let at = c.args.area.now.at in
    let no = first_fails (are_readable byte (at + RSEQ_CS) 8) (are_readable byte (at + FLAGS) 4) (unreadable byte (at + RSEQ_CS) 8 c.in_err-pointer.ensures) in
    c.from_residual.ensures ∙ none_there _ _ no

pub returns-in_err-flags : goal.returns-in_err-flags
returns-in_err-flags g c =
    let byte = g.M.UserMem.byte c.args.mem.now in
    let at = c.args.area.now.at in
    let no = rest_fails (are_readable byte (at + RSEQ_CS) 8) (are_readable byte (at + FLAGS) 4) (unreadable byte (at + FLAGS) 4 c.in_err-flags.ensures) in
    c.from_residual-in_err-flags.ensures ∙ none_there _ _ no

pub returns : goal.returns
returns g c =
    let byte = g.M.UserMem.byte c.args.mem.now in
    let at = c.args.area.now.at in
    let pointer = c.in_ok-pointer.pointer in
    let flags = c.in_ok-flags.flags in
    let yes = both_hold (are_readable byte (at + RSEQ_CS) 8) (are_readable byte (at + FLAGS) 4) (readable byte (at + RSEQ_CS) 8 pointer c.in_ok-pointer.ensures) (readable byte (at + FLAGS) 4 flags c.in_ok-flags.ensures) in
    let request : ℕ → ℕ → Request = λ p f. record { pointer = p; flags = f } in
    some_there _ (request pointer flags) (request (pointer_of byte c.args.area.now) (flags_of byte c.args.area.now)) yes
    (ap (λ (p : ℕ). request p flags) (number_at-read byte (at + RSEQ_CS) 8 pointer c.in_ok-pointer.ensures)
    ∙ ap (request (pointer_of byte c.args.area.now)) (number_at-read byte (at + FLAGS) 4 flags c.in_ok-flags.ensures))
