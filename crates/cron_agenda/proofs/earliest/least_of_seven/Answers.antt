use Rattle.std.proofs.Common.{◌≤◌, refl, sym, subst, arith}
use Rattle.cron_agenda.specs.Inner.Tree.{IsLeastOf, word_behind}
use Rattle.cron_agenda.specs.Inner.Words.{none_word}
use Rattle.cron_agenda.proofs.LeastLemmas.{least_both, least_one, least_others}
use Rattle.cron_agenda.proofs.earliest.least_of_seven.Goals as goal

pub returns : goal.returns
returns c =
    let behind = word_behind c.args.words.now c.args.first c.args.at in
    let near : IsLeastOf behind 1 5 c.min-near.result =
    subst (IsLeastOf behind 1 5) (sym c.min-near.ensures)
    (least_both behind 1 3 5 c.least_of_two.result c.least_of_two-2.result (omega arith) (omega arith) c.least_of_two.ensures c.least_of_two-2.ensures) in
    let last : IsLeastOf behind 7 8 c.word_behind.result = subst (IsLeastOf behind 7 8) (sym c.word_behind.ensures) (least_one behind 7 8 refl) in
    let far : IsLeastOf behind 5 8 c.min-far.result =
    subst (IsLeastOf behind 5 8) (sym c.min-far.ensures)
    (least_both behind 5 7 8 c.least_of_two-3.result c.word_behind.result (omega arith) (omega arith) c.least_of_two-3.ensures last) in
    let fits : c.min.result ≤ none_word = (let less = c.min.type_inv in omega arith) in
    least_others c.args.words.now c.args.first c.args.at c.min.result c.requires.row c.requires.low c.requires.high fits
    (subst (IsLeastOf behind 1 8) (sym c.min.ensures)
    (least_both behind 1 5 8 c.min-near.result c.min-far.result (omega arith) (omega arith) near far))
