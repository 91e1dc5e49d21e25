use Rattle.process.proofs.Common.{sym, ap, ◌∙◌, eqb, List, slice_get, option_map, after_writes, Words, words_entered, words_on, words_written, Write, byte_in, lost_unless}
use Rattle.process.proofs.Events.{lost_nothing}
use Rattle.process.proofs.Interruptions.{told_all, told_answer, told_none, told_pages, words_visible}
use Rattle.process.proofs.parts.Parts.told.Goals as goal

pub returns-then-not-set_cpu-clause-answer : goal.returns-then-not-set_cpu-clause-answer
returns-then-not-set_cpu-clause-answer c h same =
    sym c.if-not-set_cpu.true ∙ told_answer h c.args.self.now.pages c.args.area c.in-Some.area c.set_cpu.result c.in-Some.is same c.set_cpu.ensures.answer

pub returns-then-not-set_cpu-clause-pages : goal.returns-then-not-set_cpu-clause-pages
returns-then-not-set_cpu-clause-pages c h same =
    let m = c.args.self.now.pages in
    let area = c.in-Some.area in
    told_pages h m c.set_cpu.new.mem c.args.area area _ c.set_cpu.result c.in-Some.is same c.set_cpu.ensures.answer c.set_cpu.ensures.alike
    (λ a. c.set_cpu.ensures.bytes a ∙ ap (λ (w : Words). after_writes (words_entered c.set_cpu.result area w) (byte_in m) a) (λ i. words_on (c.from-cpu.ensures i) (c.from-cid.ensures i)))

pub returns-then-not-set_cpu-clause-harts : goal.returns-then-not-set_cpu-clause-harts
returns-then-not-set_cpu-clause-harts c h k same =
    let m = c.args.self.now.pages in
    lost_nothing (eqb k c.args.hart.0) (slice_get c.args.self.now.harts.items k)
    ∙ ap (λ (ws : List Write). option_map (lost_unless (eqb k c.args.hart.0) ws) (slice_get c.args.self.now.harts.items k))
    (told_none h m c.args.area c.in-Some.area (words_on c.args.hart.0 c.args.id) c.in-Some.is same (sym c.set_cpu.ensures.answer ∙ c.if-not-set_cpu.true))

pub words_written-requires : goal.words_written-requires
words_written-requires c =
    (words_visible c.args.self.now.pages c.in-Some.area (words_on c.args.hart.0 c.args.id) (sym c.set_cpu.ensures.answer ∙ c.if-not-set_cpu.false)).fits

pub returns-clause-answer : goal.returns-clause-answer
returns-clause-answer c h same =
    sym c.if-not-set_cpu.false ∙ told_answer h c.args.self.now.pages c.args.area c.in-Some.area c.set_cpu.result c.in-Some.is same c.set_cpu.ensures.answer

pub returns-clause-pages : goal.returns-clause-pages
returns-clause-pages c h same =
    let m = c.args.self.now.pages in
    let area = c.in-Some.area in
    rw c.lose.ensures.pages (told_pages h m c.set_cpu.new.mem c.args.area area _ c.set_cpu.result c.in-Some.is same c.set_cpu.ensures.answer c.set_cpu.ensures.alike
    (λ a. c.set_cpu.ensures.bytes a ∙ ap (λ (w : Words). after_writes (words_entered c.set_cpu.result area w) (byte_in m) a) (λ i. words_on (c.from-cpu.ensures i) (c.from-cid.ensures i))))

pub returns-clause-harts : goal.returns-clause-harts
returns-clause-harts c h k same =
    let m = c.args.self.now.pages in
    c.lose.ensures.harts k
    ∙ ap (λ (ws : List Write). option_map (lost_unless (eqb k c.args.hart.0) ws) (slice_get c.args.self.now.harts.items k))
    (c.words_written.ensures ∙ ap (words_written c.in-Some.area) (λ i. words_on (c.from-cpu.ensures i) (c.from-cid.ensures i))
    ∙ told_all h m c.args.area c.in-Some.area (words_on c.args.hart.0 c.args.id) c.in-Some.is same (sym c.set_cpu.ensures.answer ∙ c.if-not-set_cpu.false))
