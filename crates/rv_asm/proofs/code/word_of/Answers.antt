use Rattle.std.proofs.Common.{◌≡◌, true, sym, ap, ◌∙◌, rules, None, Some}
use Rattle.rv_asm.specs.Assembly.{is_aimable, aimed, distance, index_of, if_too_far}
use Rattle.rv_asm.specs.Fields.{fits_fields}
use Rattle.rv_asm.proofs.Aiming.{fits_fields-aimed, reached, is_even-distance, aimed-same}
use Rattle.rv_asm.proofs.code.word_of.Goals as goal

pub unwrap-requires : goal.unwrap-requires
unwrap-requires c =
    let bound : index_of c.args.labels.now c.in-Aimed.label ≡ Some c.unwrap-to.result = sym c.bound_index.ensures ∙ c.unwrap-to.ensures in
    let near : if_too_far c.in-Aimed.inst c.args.index (index_of c.args.labels.now c.in-Aimed.label) c.in-Aimed.label ≡ None = rw c.in-Aimed.is at c.requires.near in
    let aimable : is_aimable c.in-Aimed.inst ≡ true = rw c.in-Aimed.is at c.requires.aimable in
    let there : c.aim.result ≡ aimed c.in-Aimed.inst (distance c.args.index c.unwrap-to.result) =
    aimed-same c.in-Aimed.inst c.aim.result c.distance_to.result (distance c.args.index c.unwrap-to.result) (search rules) c.distance_to.ensures c.aim.ensures in
    c.encode.ensures.fits ∙ ap fits_fields there
    ∙ fits_fields-aimed c.in-Aimed.inst (distance c.args.index c.unwrap-to.result) aimable
    (reached c.in-Aimed.inst c.args.index c.unwrap-to.result c.in-Aimed.label (index_of c.args.labels.now c.in-Aimed.label) bound near)
    (is_even-distance c.args.index c.unwrap-to.result)
