use Rattle.std.proofs.Common.{◌≡◌, ◌∙◌, ap, arith, length}
use Rattle.std.specs.Vec.{vec_len}
use Rattle.std.proofs.lemmas.List.{with_items_is}
use Rattle.process.proofs.copying.copy_all.Goals as goal

pub returns : goal.returns
returns c =
    let were = c.args.harts.now in
    let is : c.copy_harts.new.harts ≡ c.args.others.now = c.copy_harts.ensures in
    let long : length c.copy_harts.new.harts ≡ vec_len were = omega (arith, ap length is, were.ok.0) in
    with_items_is were c.copy_harts.new.harts long ∙ is
