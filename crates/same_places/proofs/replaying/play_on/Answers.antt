use Rattle.std.proofs.Common.{◌≡◌, ◌<◌, subst, length, get_or, List, take}
use Rattle.std.proofs.lemmas.Option.{slice_get-get_or}
use Rattle.std.proofs.lemmas.List.{take_all}
use Rattle.block_model.specs.Setting.{setting_of}
use Rattle.mach_types.specs.declared.events.Entry.{Entry}
use Rattle.mach_types.specs.declared.events.Kind.TheVariants.{Exec}
use Rattle.same_places.specs.Replayed.{StandAfter}
use Rattle.same_places.proofs.EntrySteps.{code_next, stand_next_choice}
use Rattle.same_places.proofs.replaying.play_on.Goals as goal

pub loop-index-init : goal.loop-index-init
loop-index-init c = c.requires.stands

-- the entry of an index past the end, which is none of the log
abbrev no_entry : Entry
no_entry = record { hart = record { 0 = 0 }; kind = Exec; tid = record { 0 = 0 }; pc = 0 }

pub make_carried-requires : goal.make_carried-requires
make_carried-requires c =
    let log = c.args.log.now in
    let i = c.loop-index.index in
    let lt : i < length log = c.loop-index-test.true in
    code_next (setting_of c.args.image.now c.args.limits) c.args.code.now log i (get_or log i no_entry) c.loop-index.parts c.requires.limits c.requires.code c.requires.run
    (slice_get-get_or log i no_entry lt) c.loop-index.invariant

pub loop-index-preserved : goal.loop-index-preserved
loop-index-preserved c =
    let log = c.args.log.now in
    let i = c.loop-index.index in
    let lt : i < length log = c.loop-index-test.true in
    stand_next_choice (setting_of c.args.image.now c.args.limits) c.args.code.now log i (get_or log i no_entry) c.choice.result c.loop-index.parts c.make_carried.new.parts c.make_carried.result
    c.choice.ensures c.requires.limits c.requires.code c.requires.run (slice_get-get_or log i no_entry lt) c.loop-index.invariant c.make_carried.ensures.answer c.make_carried.ensures.tied

pub returns : goal.returns
returns c =
    let s = setting_of c.args.image.now c.args.limits in
    let all : take c.loop-index.index c.args.log.now ≡ c.args.log.now = take_all c.loop-index.index c.args.log.now c.loop-index-test.false in
    subst (λ (l : List Entry). StandAfter s l c.loop-index.parts) all c.loop-index.invariant
