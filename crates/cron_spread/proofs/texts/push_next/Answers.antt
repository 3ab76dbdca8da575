use Rattle.std.proofs.Common.{rules}
use Rattle.cron_spread.specs.Texts.{rest_of}
use Rattle.cron_spread.proofs.FieldLemmas.{next_made}
use Rattle.cron_spread.proofs.texts.push_next.Goals as goal

pub returns-clause-made : goal.returns-clause-made
returns-clause-made c =
    next_made c.args.name.now c.args.field c.args.text.now c.front.result.now c.behind-words.result.now c.front-2.result.now c.args.made.now.items
    c.extend_from_slice.new.self.items c.push_field.new.made.items c.blanks_len-count.result c.word_len-length.result c.blanks_len-count.ensures.value
    c.front.ensures c.behind-words.ensures c.word_len-length.ensures.value c.front-2.ensures c.in_ok-extend_from_slice.ensures.items
    c.in_ok-push_field.ensures

pub returns-clause-rest : goal.returns-clause-rest
unfolding rest_of
returns-clause-rest c = search rules
