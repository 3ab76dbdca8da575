use Rattle.std.proofs.Common.{◌∙◌, [], ap, get_or}
use Rattle.std.specs.Option.{option_map}
use Rattle.cron_tips.proofs.NearLemmas.{as_many, within}
use Rattle.cron_tips.proofs.calendar_names.Names.near.Goals as goal

pub text_at-requires : goal.text_at-requires
text_at-requires c =
    within _ _ c.in_ok-at.at _ c.in_ok-at.ensures (as_many c.args.self c.args.word.now c.texts.result.now c.names.result.now c.texts.ensures c.names.ensures)

pub returns : goal.returns
returns c =
    (c.in_ok-at.at, rw c.texts.ensures at c.in_ok-at.ensures, c.text_at.ensures ∙ ap (λ ts. option_map (λ i. get_or ts i []) c.in_ok-at.at) c.names.ensures)
