use Rattle.std.proofs.Common.{◌≡◌, ◌-◌, ◌++◌, ◌∙◌, arith, length, subst, take, drop}
use borrow.Rule.Slice.PartMut.{put_mid}
use Rattle.log_gather.specs.Marks.{other_marks, own_marks}
use Rattle.log_gather.proofs.PartedMarks.{own_fits, own_room, put_behind}
use Rattle.log_gather.proofs.moving.put_others_first.Goals as goal

pub overflow_sub-others : goal.overflow_sub-others
overflow_sub-others c =
    let own = c.in_ok-own.own in
    let fits = own_fits c.args.hart.0 c.args.span.now c.take_own.new.span own.items c.in_ok-own.ensures c.take_own.auto.span in
    omega (arith, fits, c.len.ensures, own.ok.0)

pub put-requires : goal.put-requires
put-requires c =
    let own = c.in_ok-own.own in
    let new = c.take_own.new.span in
    let many : length own.items ≡ c.len.result = omega (arith, c.len.ensures, own.ok.0) in
    subst (λ n. length (take (length new - (length new - n)) (drop (length new - n) new)) ≡ length c.deref.result.now) many
    (own_room c.args.hart.0 c.args.span.now new own.items c.deref.result.now c.in_ok-own.ensures c.take_own.auto.span c.deref.ensures.value)

pub returns : goal.returns
returns c =
    let own = c.in_ok-own.own in
    let new = c.take_own.new.span in
    let h = c.args.hart.0 in
    let old = c.args.span.now in
    let many : length own.items ≡ c.len.result = omega (arith, c.len.ensures, own.ok.0) in
    subst (λ n. put_mid (length new - n) (length new - (length new - n)) new c.put.new.marks ≡ other_marks h old ++ own_marks h old) many
    (put_behind h old new own.items c.put.new.marks c.in_ok-own.ensures c.take_own.auto.span (c.put.ensures ∙ c.deref.ensures.value))
