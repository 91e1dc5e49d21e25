use Rattle.std.proofs.Common.{◌∙◌}
use Rattle.rseq_area.proofs.Readings.{descriptor_read, lacks_abort, lacks_flags, lacks_length, lacks_start, lacks_version, none_there}
use Rattle.rseq_area.proofs.fields.read_descriptor.Goals as goal

pub returns-in_err-version : goal.returns-in_err-version
returns-in_err-version g c =
    c.from_residual.ensures ∙ none_there _ _ (lacks_version (g.M.UserMem.byte c.args.mem.now) c.args.at c.in_err-version.ensures)

pub returns-in_err-flags : goal.returns-in_err-flags
returns-in_err-flags g c =
    c.from_residual-in_err-flags.ensures ∙ none_there _ _ (lacks_flags (g.M.UserMem.byte c.args.mem.now) c.args.at c.in_err-flags.ensures)

pub returns-in_err-start_ip : goal.returns-in_err-start_ip
returns-in_err-start_ip g c =
    c.from_residual-in_err-start_ip.ensures ∙ none_there _ _ (lacks_start (g.M.UserMem.byte c.args.mem.now) c.args.at c.in_err-start_ip.ensures)

pub returns-in_err-post_commit_offset : goal.returns-in_err-post_commit_offset
returns-in_err-post_commit_offset g c =
    c.from_residual-in_err-post_commit_offset.ensures ∙ none_there _ _ (lacks_length (g.M.UserMem.byte c.args.mem.now) c.args.at c.in_err-post_commit_offset.ensures)

pub returns-in_err-abort_ip : goal.returns-in_err-abort_ip
returns-in_err-abort_ip g c =
    c.from_residual-in_err-abort_ip.ensures ∙ none_there _ _ (lacks_abort (g.M.UserMem.byte c.args.mem.now) c.args.at c.in_err-abort_ip.ensures)

pub returns : goal.returns
returns g c =
    descriptor_read (g.M.UserMem.byte c.args.mem.now) c.args.at c.in_ok-version.version c.in_ok-flags.flags c.in_ok-start_ip.start_ip c.in_ok-post_commit_offset.post_commit_offset
    c.in_ok-abort_ip.abort_ip c.in_ok-version.ensures c.in_ok-flags.ensures c.in_ok-start_ip.ensures c.in_ok-post_commit_offset.ensures c.in_ok-abort_ip.ensures
