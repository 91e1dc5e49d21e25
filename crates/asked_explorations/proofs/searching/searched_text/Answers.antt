use Rattle.std.proofs.Common.{◌∙◌}
use Rattle.block_model.specs.Setting.{setting_of}
use Rattle.asked_explorations.proofs.Searches.{found_digits, nearest_digits, output_of_search}
use Rattle.asked_explorations.proofs.searching.searched_text.Goals as goal

pub findings_text-requires-clause-outcomes : goal.findings_text-requires-clause-outcomes
findings_text-requires-clause-outcomes g c =
    let settings = c.args.asked.now.settings in
    found_digits (setting_of c.in_ok-image.image settings.limits) settings.signals c.in_ok-findings.findings.outcomes.items
    c.requires.limits.eight_harts c.in_ok-findings.ensures.search.shown

pub findings_text-requires-clause-nearest : goal.findings_text-requires-clause-nearest
findings_text-requires-clause-nearest g c =
    let settings = c.args.asked.now.settings in
    nearest_digits (setting_of c.in_ok-image.image settings.limits) settings.signals settings.places settings.preemptions c.in_ok-findings.findings
    c.requires.limits.eight_harts c.in_ok-findings.ensures.search

pub returns-clause-output : goal.returns-clause-output
returns-clause-output g c =
    output_of_search c.args.asked.now.settings c.in_ok-findings.findings c.in_ok-image.ensures.taken c.in_ok-findings.ensures
    (c.whole.ensures ∙ c.in_ok-findings_text.ensures)
