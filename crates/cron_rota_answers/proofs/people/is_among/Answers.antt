use Rattle.std.proofs.Common.{rules, tests, sym, ◌∙◌}
use Rattle.std.specs.Str.{bytes_eq}
use Rattle.std.proofs.lemmas.Iterator.{YieldsList-from_slice}
use Rattle.std.proofs.lemmas.Iterator.Search.{any_from_yields_List}
use Rattle.cron_rota_answers.proofs.NameLemmas.{any_text}
use Rattle.cron_rota_answers.proofs.people.is_among.Goals as goal

pub returns : goal.returns
returns c =
    let found = any_from_yields_List (λ n. bytes_eq c.args.name.now n.now) _ _ c.any.result c.any.ensures.ran (YieldsList-from_slice c.args.names.now cc) (λ x b q k. search (rules, tests)) in
    found ∙ sym (any_text (bytes_eq c.args.name.now) c.args.names.now)
