use Rattle.std.proofs.Common.{◌∙◌, ℕ, Option, length, subst, sym, String}
use Rattle.std.specs.Prelude.{string_bytes}
use Rattle.std.specs.Option.{IfSome}
use Rattle.std.specs.declared.alloc.Global.{Global}
use Rattle.std.proofs.lemmas.List.{length-map}
use Rattle.command_words.specs.declared.faults.WordsFault.{WordsFault}
use Rattle.command_words.specs.WordFaults.{IsAmong}
use Rattle.command_words.specs.Words.{texts}
use Rattle.command_words.proofs.FaultWords.{fault_among_words}
use Rattle.command_words.proofs.faults.words_fault.Goals as goal

pub returns-clause-among : goal.returns-clause-among
returns-clause-among c =
    let words = c.args.words.now in
    subst (λ (n : ℕ). IfSome c.err.result (IsAmong n)) (length-map words (λ (word : String Global). string_bytes word))
    (subst (λ (o : Option WordsFault). IfSome o (IsAmong (length (texts words))))
    (sym (c.err.ensures.value ∙ c.read_all.ensures)) (fault_among_words (texts words)))
