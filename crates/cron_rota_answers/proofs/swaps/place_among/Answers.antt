use Rattle.std.proofs.Common.{rules, tests, sym, ◌∙◌}
use Rattle.std.specs.Str.{bytes_eq}
use Rattle.std.proofs.lemmas.Iterator.{YieldsList-from_slice}
use Rattle.std.proofs.lemmas.Iterator.Search.{position_from_yields_List}
use Rattle.cron_rota_answers.proofs.NameLemmas.{place_text}
use Rattle.cron_rota_answers.proofs.swaps.place_among.Goals as goal

pub returns : goal.returns
returns c =
    let found = position_from_yields_List (λ n. bytes_eq c.args.name.now n.now) _ _ c.position.result c.position.ensures.ran (YieldsList-from_slice c.args.names.now cc) (λ x b q k. search (rules, tests)) in
    found ∙ sym (place_text (bytes_eq c.args.name.now) c.args.names.now)
