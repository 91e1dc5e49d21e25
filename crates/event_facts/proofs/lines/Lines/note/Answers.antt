use Rattle.std.proofs.Common.{◌≡◌, ◌∙◌, Global, Vec, ap, rules}
use Rattle.event_facts.specs.Tied.{items_at}
use Rattle.event_facts.specs.declared.lines.Numbered.{Numbered}
use Rattle.event_facts.proofs.KeptLines.{noted_others, noted_own}
use Rattle.event_facts.proofs.lines.Lines.note.Goals as goal

pub returns-in_ok-note_store-clause-own : goal.returns-in_ok-note_store-clause-own
returns-in_ok-note_store-clause-own c =
    let same : c.from.result ≡ c.args.hart.0 = search rules in
    ap (λ (v : Vec (Vec Numbered Global) Global). items_at v.items c.args.hart.0) c.in_ok-note_store.ensures.waiting
    ∙ noted_own c.args.self.now.waiting.items c.from.result c.args.hart.0 c.index_mut-own.result.now c.push_waiting.new.waiting c.drop_waiting.new.waiting _ _ same c.requires.hart
    c.index_mut-own.ensures.value c.in_ok-push_waiting.ensures c.drop_waiting.ensures

pub returns-in_ok-note_store-clause-others : goal.returns-in_ok-note_store-clause-others
returns-in_ok-note_store-clause-others c = λ k other.
    let same : c.from.result ≡ c.args.hart.0 = search rules in
    ap (λ (v : Vec (Vec Numbered Global) Global). items_at v.items k) c.in_ok-note_store.ensures.waiting
    ∙ noted_others c.args.self.now.waiting.items c.from.result c.args.hart.0 c.drop_waiting.new.waiting same k other

pub returns-in_default-clause-own : goal.returns-in_default-clause-own
returns-in_default-clause-own c =
    let same : c.from.result ≡ c.args.hart.0 = search rules in
    noted_own c.args.self.now.waiting.items c.from.result c.args.hart.0 c.index_mut-own.result.now c.push_waiting.new.waiting c.drop_waiting.new.waiting _ _ same c.requires.hart
    c.index_mut-own.ensures.value c.in_ok-push_waiting.ensures c.drop_waiting.ensures

pub returns-in_default-clause-others : goal.returns-in_default-clause-others
returns-in_default-clause-others c =
    let same : c.from.result ≡ c.args.hart.0 = search rules in
    noted_others c.args.self.now.waiting.items c.from.result c.args.hart.0 c.drop_waiting.new.waiting same
