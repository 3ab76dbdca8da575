use Rattle.std.proofs.Common.{◌+◌, refl, ap, ◌∙◌, min}
use Rattle.cron_agenda.specs.Inner.Tree.{word_behind}
use Rattle.cron_agenda.proofs.LeastLemmas.{least_two}
use Rattle.cron_agenda.proofs.earliest.least_of_two.Goals as goal

pub returns : goal.returns
returns c =
    least_two (word_behind c.args.words.now c.args.first c.args.at) c.args.by (c.args.by + 2) c.min.result refl
    (c.min.ensures ∙ ap (λ v. min v c.word_behind-2.result) c.word_behind.ensures ∙ ap (min _) c.word_behind-2.ensures)
