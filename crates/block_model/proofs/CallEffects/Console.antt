-- write(2) and writev(2).
use Rattle.block_model.proofs.Common.{ℕ, List, [], ◌∷◌, arith, length, length-take, take, eqb, CONSOLE_ROOM, Here, argument, leb-false, memory}
use Rattle.block_model.specs.Calls.Console.{Span, bytes_of, room, span_errors, spans_at, total, write, write_errors, write_spans, writev, writev_errors}
use Rattle.block_model.proofs.CallEffects.{CallDeed, Answers, Prints, Says, by_errors, either, small_no_error}

module _ (here : Here) (t number : ℕ) where
  deed_spans : (spans : List Span) → CallDeed here t number (write_spans here t spans)
  deed_spans spans =
      let some = take (room here) (bytes_of (memory here) spans) in
      let few = length-take (room here) (bytes_of (memory here) spans) in
      either (eqb (total spans) 0) (λ _. Says 0) (λ _.
      by_errors (span_errors here spans) _ (λ none.
      let more = leb-false CONSOLE_ROOM (length here.kernel.console) none.1.0 in
      Answers (length some) [] _ (λ _. small_no_error (length some) (omega arith)) tt
      (Prints some (omega arith))))

  pub deed_write : CallDeed here t number (write here t)
  deed_write = by_errors (write_errors here t) _
      (λ _. deed_spans (record { at = argument here t 1; len = argument here t 2 } ∷ []))

  pub deed_writev : CallDeed here t number (writev here t)
  deed_writev = by_errors (writev_errors here t) _
      (λ _. deed_spans (spans_at here (argument here t 1) (argument here t 2)))
