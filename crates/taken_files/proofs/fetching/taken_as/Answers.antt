use Rattle.std.proofs.Common.{◌≡◌, ◌<◌, ◌≤◌, ℕ, All, subst}
use Rattle.call_reasons.specs.Reasons.{most_program_bytes}
use Rattle.taken_files.proofs.Causes.{passed_up, refused_as, unread_as}
use Rattle.taken_files.proofs.Programs.{program_of}
use Rattle.taken_files.proofs.fetching.taken_as.Goals as goal

-- how many bytes a program may have
short : (size most : ℕ) → most ≡ most_program_bytes → size ≤ most → size ≤ most_program_bytes
short size most is fits = subst (λ (n : ℕ). size ≤ n) is fits

pub returns-in_err-bytes-clause-cause : goal.returns-in_err-bytes-clause-cause
returns-in_err-bytes-clause-cause g c =
    passed_up c.from_residual.result c.in_err-bytes.field-0.0 _ c.from_residual.ensures.1
    (unread_as (g.S.Shelf.file c.args.shelf.now) c.args.name.now c.args.role c.args.limits.now
    (g.S.Shelf.faults c.args.shelf.now) (g.S.Shelf.faults c.read_file.new.shelf)
    (g.S.Shelf.last_trouble c.read_file.new.shelf) c.in_err-bytes.field-0.0
    c.requires c.in_err-bytes.ensures.cause)

pub returns-clause-cause : goal.returns-clause-cause
returns-clause-cause g c =
    refused_as (g.S.Shelf.file c.args.shelf.now) c.args.name.now c.in_ok-bytes.bytes.items
    c.deref-in-Err.result.now c.args.role c.args.limits.now (g.S.Shelf.faults c.args.shelf.now)
    (g.S.Shelf.faults c.read_file.new.shelf) (g.S.Shelf.last_trouble c.read_file.new.shelf) c.refusal.result c.deref-in-Err.ensures.value
    c.in_ok-bytes.ensures.read (short _ _ c.requires c.in_ok-bytes.ensures.fits) c.refusal.ensures

pub returns-in-Ok-clause-taken : goal.returns-in-Ok-clause-taken
returns-in-Ok-clause-taken g c =
    program_of (g.S.Shelf.file c.args.shelf.now) c.args.name.now c.args.limits.now c.in_ok-bytes.bytes.items
    c.deref-2.result.now c.in-Ok.image c.deref-2.ensures.value
    c.in_ok-bytes.ensures.read
    (subst (All (λ b. b < 256)) c.deref.ensures.value c.shows_bytes.ensures) (short _ _ c.requires c.in_ok-bytes.ensures.fits)
    c.in-Ok.ensures.no_fault c.in-Ok.ensures.image
