use Rattle.std.proofs.Common.{◌∙◌, sym}
use Rattle.cron_quartz.proofs.LetterLemmas.{first_boundary}
use Rattle.cron_quartz.proofs.days.behind_first.Goals as goal

pub range_from-requires : goal.range_from-requires
range_from-requires c =
    λ some. first_boundary c.args.letter c.args.text.now c.utf8.text c.requires.some c.requires.ascii (sym c.begins_with.ensures ∙ c.if-begins_with.true)
