-- One more byte is appended.
use Rattle.sys_calls.proofs.Common.{ℕ, List, [], ◌∷◌, ◌++◌, length, sym, ap, ◌∙◌, arith, length-append, append_assoc, byte_in, bytes_from}
use Rattle.sys_calls.proofs.Spans.{bytes_from-more, length-bytes_from}
use Rattle.sys_calls.proofs.console.Console.append.Goals as goal

pub push-requires : goal.push-requires
push-requires c =
    omega (arith, ap length c.loop-k.invariant, length-append c.args.self.now (bytes_from (byte_in c.args.pages.now) c.args.at c.loop-k.k), length-bytes_from (byte_in c.args.pages.now) c.args.at c.loop-k.k)

pub loop-k-preserved : goal.loop-k-preserved
loop-k-preserved c =
    let so_far : List ℕ = bytes_from (byte_in c.args.pages.now) c.args.at c.loop-k.k in
    c.push.ensures ∙ ap (λ (xs : List ℕ). xs ++ c.byte_after-byte.result ∷ []) c.loop-k.invariant
    ∙ append_assoc c.args.self.now so_far (c.byte_after-byte.result ∷ [])
    ∙ ap (λ (b : ℕ). c.args.self.now ++ (so_far ++ b ∷ [])) c.byte_after-byte.ensures
    ∙ ap (λ (xs : List ℕ). c.args.self.now ++ xs) (sym (bytes_from-more (byte_in c.args.pages.now) c.args.at c.loop-k.k))
