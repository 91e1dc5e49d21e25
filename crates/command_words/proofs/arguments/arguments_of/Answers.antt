-- What the parse found is what the words give, and where it is refused they give nothing.
use Rattle.std.proofs.Common.{◌≡◌, ◌∙◌, inl, inr, ap, sym, subst, refl, true, []}
use Rattle.clap.specs.Kinds.{HasKind, Kinds}
use Rattle.clap.specs.Words.{App, fault_of, found_of, is_simple, is_simple_and_free, kind_of}
use Rattle.clap.specs.Words.{matches_of, rows_of}
use Rattle.clap.specs.declared.error.kind.ErrorKind.TheVariants.{OutOfMemory}
use Rattle.command_words.specs.Grammar.{asked_by}
use Rattle.command_words.specs.Line.{line}
use Rattle.command_words.specs.Words.{texts}
use Rattle.command_words.proofs.ClapReads.{found_asks, none_asks}
use Rattle.command_words.proofs.arguments.arguments_of.Goals as goal

line_is_free : is_simple_and_free line ≡ true
line_is_free = refl

line_is_simple : is_simple line ≡ true
line_is_simple = refl

pub returns-in-Ok : goal.returns-in-Ok
returns-in-Ok c =
    let app = c.in_ok-parser.ensures in
    let none = ap (λ (a : App). fault_of a (texts c.args.words.now)) (sym app)
    ∙ c.in-Ok.ensures.kinds (ap is_simple_and_free app ∙ line_is_free) in
    let rows = (c.in-Ok.ensures.matches (ap is_simple app ∙ line_is_simple)).0
    ∙ ap (λ (a : App). matches_of a (texts c.args.words.now)) app in
    λ word. ap (asked_by word) c.arguments_in.ensures
    ∙ found_asks c.args.words.now (rows_of (found_of c.in-Ok.matches)) none rows word

pub returns : goal.returns
returns c =
    let app = c.in_ok-parser.ensures in
    let error = c.in-Err.error in
    let other : kind_of error ≡ OutOfMemory → ⊥ = λ is.
    let kind : c.kind.result ≡ OutOfMemory = c.kind.ensures ∙ is in
    let same : c.eq.result ≡ true = c.eq.ensures ∙ rw kind refl in
    absurd (cc (same, c.if-eq.false)) in
    none_asks c.args.words.now (λ none.
    let kinds : HasKind [] error = subst (λ (k : Kinds). HasKind k error)
    (ap (λ (a : App). fault_of a (texts c.args.words.now)) app ∙ none)
    (c.in-Err.ensures.kinds (ap is_simple_and_free app ∙ line_is_free)) in
    elim kinds [
      | inl is ↦ absurd (other is)
      | inr among ↦ absurd among
    ])
