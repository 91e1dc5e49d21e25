use Rattle.std.proofs.Common.{◌++◌, ◌∷◌, [], ◌∙◌, ap, sym}
use Rattle.place_keys.proofs.DifferenceCodes.{other_on, same_on}
use Rattle.place_keys.proofs.differences.write_change.Goals as goal

pub returns-then-now-start-clause-written : goal.returns-then-now-start-clause-written
returns-then-now-start-clause-written c = λ f g at_start at_now.
    same_on f g c.args.words.now.items c.args.past c.args.place c.requires.order (at_now ∙ c.if-now-start.true ∙ sym at_start)

pub returns-clause-written : goal.returns-clause-written
returns-clause-written c = λ f g at_start at_now.
    other_on f g c.args.words.now.items c.write_word.new.words.items c.write_word-2.new.words.items c.args.past c.args.place c.requires.order
    (λ same. c.if-now-start.false (sym at_now ∙ same ∙ at_start)) c.in_ok-write_word.ensures
    (c.in_ok-write_word-2.ensures ∙ ap (λ n. c.write_word.new.words.items ++ n ∷ []) (sym at_now))
