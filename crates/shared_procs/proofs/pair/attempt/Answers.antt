-- What is answered is the entry, or the first condition that fails; and the event is the one that is due.
use Rattle.process.specs.Refinement.{MayMake, answered}
use Rattle.shared_procs.proofs.Common.{◌≡◌, ℕ, Bool, List, Option, None, Ok, sym, ap, ◌∙◌, subst, Choice, entry_as, Half, IsActing, IsAsked, IsPlace, Pair, PairSetting, refusal_as, stand, Why, MayAct}
use Rattle.shared_procs.proofs.Refusals.{IsFreeAs, free_as}
use Rattle.shared_procs.proofs.pair.attempt.Goals as goal

-- where none of its conditions was found to fail, a choice is free
free_asked : {s : PairSetting} {m : Pair} {p : Bool} {h : ℕ} {x : Choice} {mine other : Half} {segment : List ℕ}
    {found : Option Why} → IsAsked s m p h x mine other segment → found ≡ refusal_as s m p h x → found ≡ None
    → IsFreeAs s m p h x
free_asked {s} {m} {p} {h} {x} asks looks none = free_as s m p h x asks.goes (sym looks ∙ none)

pub entry_of-entry-requires : goal.entry_of-entry-requires
entry_of-entry-requires c =
    let its = c.requires in
    let free = free_asked its.asked (c.refusal_beside.ensures.why its.setting its.pair its.process its.asked) c.in_default.is in
    let may : MayMake c.args.mine.now.parts c.args.hart.0 c.args.choice = record {
      stand = stand its.setting its.pair its.process;
      place = (its.asked.acting free.goes).place;
      free = free.free;
    } in
    subst (λ (x : Half). MayMake x.parts c.args.hart.0 c.args.choice) (sym c.refusal_beside.ensures.mine) may

pub make-requires : goal.make-requires
make-requires c =
    let h = c.args.hart.0 in
    let its = c.requires in
    let free = free_asked its.asked (c.refusal_beside.ensures.why its.setting its.pair its.process its.asked) c.in_default.is in
    let may : MayAct h c.args.choice c.args.mine.now c.args.other.now c.args.segment.now = record {
      setting = its.setting;
      pair = its.pair;
      process = its.process;
      acting = its.asked.acting free.goes;
      beside = its.asked.beside;
      free = free.free;
    } in
    subst (λ (x : Half). MayAct h c.args.choice x c.args.other.now c.refusal_beside.new.segment) (sym c.refusal_beside.ensures.mine)
    (subst (λ (xs : List ℕ). MayAct h c.args.choice c.args.mine.now c.args.other.now xs) (sym c.refusal_beside.ensures.segment) may)

pub returns-clause-answer : goal.returns-clause-answer
returns-clause-answer c s m asks =
    let p = c.args.is_second in
    let h = c.args.hart.0 in
    let none : refusal_as s m p h c.args.choice ≡ None = sym (c.refusal_beside.ensures.why s m p asks) ∙ c.in_default.is in
    let free = free_as s m p h c.args.choice asks.goes none in
    let place = subst (λ (x : Half). IsPlace (stand s m p) x.parts h) (sym c.refusal_beside.ensures.mine) (asks.acting free.goes).place in
    ap Ok (c.entry_of-entry.ensures s m place) ∙ ap (λ (o : Option Why). answered (entry_as s m p h c.args.choice) o) (sym none)

pub returns-clause-made : goal.returns-clause-made
returns-clause-made c s m asks =
    let p = c.args.is_second in
    let h = c.args.hart.0 in
    let free = free_asked asks (c.refusal_beside.ensures.why s m p asks) c.in_default.is in
    let acting =
    subst (λ (x : Half). IsActing s m p h x c.refusal_beside.new.segment) (sym c.refusal_beside.ensures.mine)
    (subst (λ (xs : List ℕ). IsActing s m p h c.args.mine.now xs) (sym c.refusal_beside.ensures.segment) (asks.acting free.goes)) in
    c.make.ensures.after s m p acting asks.beside free.free
