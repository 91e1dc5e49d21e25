-- What a reader answers at the next line of a script, and an entry that isn't as the line says.
use Rattle.std.proofs.Common.{◌≡◌, ℕ, ◌+◌, Bool, true, false, List, [], ◌∷◌, Option, Some, None, Ok, Err, refl, ap, ◌∙◌}
use Rattle.std.proofs.Common.{if◌then◌else◌}
use Rattle.mach_types.specs.declared.events.Entry.{Entry}
use Rattle.step_log.specs.Reading.{Unread, after_next, answer_at, answer_to}
use Rattle.step_log.specs.Script.{line_meaning}
use Rattle.step_log.specs.declared.fields.Line.{Line}
use Rattle.step_log.specs.declared.reading.BadLine.{BadLine}
use Rattle.call_reasons.specs.declared.reasons.LineFault.{LineFault}
use Rattle.call_reasons.specs.declared.reasons.LineFault.TheVariants.{Differs}

-- the reader's answer at the end, at a line that says something, and at a malformed one
pub record IsNext (u : Unread) (line : Line) : Type 0 where
  pub text : List ℕ
  pub more : List (List ℕ)
  pub left : u.left ≡ text ∷ more
  pub says : line_meaning text ≡ Some line
  pub after : (after_next u).left ≡ more

pub record IsMalformed (u : Unread) : Type 0 where
  pub text : List ℕ
  pub more : List (List ℕ)
  pub left : u.left ≡ text ∷ more
  pub says : line_meaning text ≡ None

pub at_end : (lines : List (List ℕ)) (read : ℕ) → answer_to lines read ≡ Ok None → lines ≡ []
at_end [] read is = refl
at_end (text ∷ more) read is = by_meaning (line_meaning text) is
  where
    by_meaning : (o : Option Line) → answer_at o (read + 1) ≡ Ok None → text ∷ more ≡ []
    by_meaning None is = absurd cc
    by_meaning (Some line) is = absurd cc

by_said : (text : List ℕ) (more : List (List ℕ)) (read : ℕ) (line : Line) (o : Option Line)
    → line_meaning text ≡ o → answer_at o (read + 1) ≡ Ok (Some line)
    → IsNext (record { left = text ∷ more; read = read }) line
by_said text more read line None at is = absurd cc
by_said text more read line (Some other) at is =
    let same : other ≡ line = cc in
    record { text = text; more = more; left = refl; says = at ∙ ap Some same; after = rw at refl }

pub at_line : (lines : List (List ℕ)) (read : ℕ) (line : Line) → answer_to lines read ≡ Ok (Some line)
    → IsNext (record { left = lines; read = read }) line
at_line [] read line is = absurd cc
at_line (text ∷ more) read line is = by_said text more read line (line_meaning text) refl is

by_unsaid : (text : List ℕ) (more : List (List ℕ)) (read : ℕ) (bad : BadLine) (o : Option Line)
    → line_meaning text ≡ o → answer_at o (read + 1) ≡ Err bad
    → IsMalformed (record { left = text ∷ more; read = read })
by_unsaid text more read bad None at is = record { text = text; more = more; left = refl; says = at }
by_unsaid text more read bad (Some line) at is = absurd cc

pub at_bad : (lines : List (List ℕ)) (read : ℕ) (bad : BadLine) → answer_to lines read ≡ Err bad
    → IsMalformed (record { left = lines; read = read })
at_bad [] read bad is = absurd cc
at_bad (text ∷ more) read bad is = by_unsaid text more read bad (line_meaning text) refl is

-- an entry that something is wrong with, as it isn't what the line says, isn't made
pub differs_unmade : (b : Bool) (e : Entry) (fault : LineFault) → (if b then None else Some (Differs e)) ≡ Some fault
    → (if b then Some e else None) ≡ None
differs_unmade true e fault none = absurd cc
differs_unmade false e fault some = refl
